-- The tree of a derivation whose symbols have lines, and that the derivation is that of its tree.
use Rattle.std.proofs.Common.{◌≡◌, ℕ, Bool, List, [], ◌∷◌, ◌++◌, map, drop, refl, ap, ap₂, ◌∙◌}
use Rattle.std.proofs.lemmas.List.{map-append}
use Rattle.mir_text.specs.Grammar as g
use Rattle.mir_text.specs.GrammarTypes.{PathRule, TypeRule}
use Rattle.mir_text.specs.GrammarTerms.{BlockRule, block_put}
use Rattle.mir_text.specs.GrammarItems as m
use Rattle.mir_text.specs.GrammarItems.{AttrRule, ArgRule, arg_put, DeclRule, DeclsRule, decl_put, decls_put, FnRule, ItemRule, item_put, FileRule}
use Rattle.mir_text.specs.Naming.{lets_in, lets_of}
use Rattle.mir_text.specs.PartLines.{LinesFrom, first_line, past, items_lined, lets_lined_in, lets_lined, LinedBlock, blocks_lined, LinedFn, after_front, after_result, fn_lined, LinedItem, other, function, item_lined, file_lined}
use Rattle.mir_text.specs.PartLines.{Lined as LinedRule}
use Rattle.mir_tree.specs.declared.Items.{Items}
use Rattle.mir_tree.specs.declared.Lined.{Lined}
use Rattle.mir_tree.specs.declared.body.BlockText.{BlockText}
use Rattle.mir_tree.specs.declared.item.ArgText.{ArgText}
use Rattle.mir_tree.specs.declared.item.FnText.{FnText}
use Rattle.mir_tree.specs.declared.item.ItemText.{ItemText}
use Rattle.mir_tree.specs.declared.item.ItemText.TheVariants as i
use Rattle.mir_tree.specs.Lists.{listed}
use Rattle.mir_tree.specs.Types.{path_text, type_text}
use Rattle.mir_tree.specs.Bodies.{lined, lined_block}
use Rattle.mir_tree.specs.Rules.{arg_rule, part_arg, lets_rule, block_rule, fn_rule, lined_fn, lined_item, without_scopes, plain_item}
use Rattle.mir_tree.proofs.TypesBack.{path-back}
use Rattle.mir_parse.proofs.Laws.{ends_in_comma}
use Rattle.mir_parse.proofs.TypesRead.{type_rule-back, types_rule-back}
use Rattle.mir_parse.proofs.BlocksRead.{block_text, block-lined, block-back}
use Rattle.mir_items.specs.Decls.{with_line}
use Rattle.mir_items.proofs.AttrsRead.{attr_text, attr_rule-back}
use Rattle.mir_items.proofs.FieldsRead.{fields_rule-back, variants_rule-back}
use Rattle.mir_items.proofs.DeclsRead.{arg_text, lined_text}
use Rattle.mir_items.proofs.OthersRead.{struct_text, enum_text, extern_text}

-- ---- arguments and `let` lines

abbrev pub args_tree : g.Items ArgRule → LinesFrom → Items (Lined ArgText)
args_tree xs lines = record { items = map lined_text (items_lined arg_put xs lines); trailing = ends_in_comma xs }

arg-back : (a : ArgRule) → arg_rule (arg_text a) ≡ a
arg-back a = ap (λ t. (a.0, t)) (type_rule-back a.1)

lined-back : (q : LinedRule ArgRule) → lined arg_rule (lined_text q) ≡ q
lined-back q = ap (λ a. (q.0, a)) (arg-back q.1)

all-lined-back : (qs : List (LinedRule ArgRule)) → map (lined arg_rule) (map lined_text qs) ≡ qs
all-lined-back [] = refl
all-lined-back (q ∷ qs) =
    let join : LinedRule ArgRule → List (LinedRule ArgRule) → List (LinedRule ArgRule) = λ y ys. y ∷ ys in
    ap₂ join (lined-back q) (all-lined-back qs)

abbrev parts_of : List (LinedRule ArgRule) → List ArgRule
parts_of qs = map (λ q. q.1) qs

parts-back : (qs : List (LinedRule ArgRule)) → map part_arg (map lined_text qs) ≡ parts_of qs
parts-back [] = refl
parts-back (q ∷ qs) =
    let join : ArgRule → List ArgRule → List ArgRule = λ y ys. y ∷ ys in
    ap₂ join (arg-back q.1) (parts-back qs)

args-back : (xs : g.Items ArgRule) (lines : LinesFrom) → listed part_arg (map lined_text (items_lined arg_put xs lines)) (ends_in_comma xs) ≡ xs
args-back g.end lines = refl
args-back (g.last a) lines = ap g.last (arg-back a)
args-back (g.more a g.end) lines = ap (λ y. g.more y g.end) (arg-back a)
args-back (g.more a (g.last b)) lines = ap₂ g.more (arg-back a) (args-back (g.last b) (drop 1 (past arg_put a lines)))
args-back (g.more a (g.more b xs)) lines = ap₂ g.more (arg-back a) (args-back (g.more b xs) (drop 1 (past arg_put a lines)))

mutual
  decl-parts : (d : DeclRule) (lines : LinesFrom) → parts_of (lets_lined_in d lines) ≡ lets_in d
  decl-parts (m.«let» mutable x u) lines = refl
  decl-parts (m.debug xs) lines = refl
  decl-parts (m.scope n p ds) lines = decls-parts ds _

  decls-parts : (ds : DeclsRule) (lines : LinesFrom) → parts_of (lets_lined ds lines) ≡ lets_of ds
  decls-parts m.no_decls lines = refl
  decls-parts (m.decls d ds) lines =
      let join : List ArgRule → List ArgRule → List ArgRule = λ xs ys. xs ++ ys in
      map-append (λ q. q.1) (lets_lined_in d lines) (lets_lined ds (past decl_put d lines)) ∙ ap₂ join (decl-parts d lines) (decls-parts ds (past decl_put d lines))

-- ---- blocks

abbrev pub blocks_tree : List BlockRule → LinesFrom → List BlockText
blocks_tree [] lines = []
blocks_tree (b ∷ bs) lines = block_text lines b ∷ blocks_tree bs (past block_put b lines)

blocks-lined : (bs : List BlockRule) (lines : LinesFrom) → map lined_block (blocks_tree bs lines) ≡ blocks_lined bs lines
blocks-lined [] lines = refl
blocks-lined (b ∷ bs) lines =
    let join : LinedBlock → List LinedBlock → List LinedBlock = λ y ys. y ∷ ys in
    ap₂ join (block-lined lines b) (blocks-lined bs (past block_put b lines))

blocks-back : (bs : List BlockRule) (lines : LinesFrom) → map (λ b. block_rule (lined_block b)) (blocks_tree bs lines) ≡ bs
blocks-back [] lines = refl
blocks-back (b ∷ bs) lines =
    let join : BlockRule → List BlockRule → List BlockRule = λ y ys. y ∷ ys in
    ap₂ join (block-back lines b) (blocks-back bs (past block_put b lines))

-- ---- functions

abbrev pub fn_made : FnRule → Items (Lined ArgText) → List (Lined ArgText) → List BlockText → FnText
fn_made f xs ls bs = record {
  inline = attr_text f.attr;
  is_drop = f.is_drop;
  path = path_text f.path;
  args = xs;
  result = type_text f.result;
  lets = ls;
  blocks = bs;
}

abbrev pub fn_tree : FnRule → LinesFrom → FnText
fn_tree f lines =
    fn_made f
    (args_tree f.args (after_front f lines))
    (map lined_text (lets_lined f.locals (after_result f lines)))
    (blocks_tree f.blocks (past decls_put f.locals (after_result f lines)))

abbrev rule_made : AttrRule → Bool → PathRule → g.Items ArgRule → TypeRule → DeclsRule → List BlockRule → FnRule
rule_made attr is p xs u ds bs = record { attr = attr; is_drop = is; path = p; args = xs; result = u; locals = ds; blocks = bs }

fn-back : (f : FnRule) (lines : LinesFrom) → fn_rule (fn_tree f lines) ≡ without_scopes f
fn-back f lines =
    let attr = attr_rule-back f.attr in
    let p = path-back f.path in
    let xs = args-back f.args (after_front f lines) in
    let u = type_rule-back f.result in
    let lets = lets_lined f.locals (after_result f lines) in
    let ds = ap lets_rule (parts-back lets ∙ decls-parts f.locals (after_result f lines)) in
    let bs = blocks-back f.blocks (past decls_put f.locals (after_result f lines)) in
    λ k. rule_made (attr k) f.is_drop (p k) (xs k) (u k) (ds k) (bs k)

abbrev lined_made : ℕ → FnRule → List (LinedRule ArgRule) → List (LinedRule ArgRule) → List LinedBlock → LinedFn
lined_made n f xs ls bs = record { head = n; rule = f; args = xs; lets = ls; blocks = bs }

fn-lined : (f : FnRule) (lines : LinesFrom) → lined_fn (first_line lines) (fn_tree f lines) ≡ record (fn_lined f lines) { rule = without_scopes f }
fn-lined f lines =
    let rule = fn-back f lines in
    let xs = all-lined-back (items_lined arg_put f.args (after_front f lines)) in
    let ls = all-lined-back (lets_lined f.locals (after_result f lines)) in
    let bs = blocks-lined f.blocks (past decls_put f.locals (after_result f lines)) in
    λ k. lined_made (first_line lines) (rule k) (xs k) (ls k) (bs k)

-- ---- items and files

abbrev pub part_tree : ItemRule → LinesFrom → ItemText
part_tree (m.struct p fs) lines = struct_text (p, fs)
part_tree (m.enum p vs) lines = enum_text (p, vs)
part_tree (m.extern p us u) lines = extern_text (p, us, u)
part_tree (m.function f) lines = i.Function (fn_tree f lines)

abbrev pub item_tree : ItemRule → LinesFrom → Lined ItemText
item_tree x lines = with_line (first_line lines) (part_tree x lines)

abbrev pub file_tree : FileRule → LinesFrom → List (Lined ItemText)
file_tree [] lines = []
file_tree (x ∷ xs) lines = item_tree x lines ∷ file_tree xs (past item_put x lines)

pub item-lined : (x : ItemRule) (lines : LinesFrom) → lined_item (item_tree x lines) ≡ plain_item (item_lined x lines)
item-lined (m.struct p fs) lines = ap (other (first_line lines)) (ap₂ m.struct (path-back p) (fields_rule-back fs))
item-lined (m.enum p vs) lines = ap (other (first_line lines)) (ap₂ m.enum (path-back p) (variants_rule-back vs))
item-lined (m.extern p us u) lines =
    let q = path-back p in
    let vs = types_rule-back us in
    let v = type_rule-back u in
    λ k. other (first_line lines) (m.extern (q k) (vs k) (v k))
item-lined (m.function f) lines = ap function (fn-lined f lines)

pub file-lined : (xs : FileRule) (lines : LinesFrom) → map lined_item (file_tree xs lines) ≡ map plain_item (file_lined xs lines)
file-lined [] lines = refl
file-lined (x ∷ xs) lines =
    let join : LinedItem → List LinedItem → List LinedItem = λ y ys. y ∷ ys in
    ap₂ join (item-lined x lines) (file-lined xs (past item_put x lines))
