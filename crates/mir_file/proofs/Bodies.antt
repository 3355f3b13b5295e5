-- Blocks and functions that are read one after another.
use Rattle.std.proofs.Common.{IsTrue, ◌≡◌, ℕ, ◌<◌, List, [], ◌∷◌, ◌++◌, map, length, option_map, Option, Some, None, refl, sym, ap, ap₂, subst, ◌∙◌}
use Rattle.std.proofs.lemmas.List.{length-map}
use Rattle.std.proofs.lemmas.Simd.{map-map}
use Rattle.mir_syntax.specs.declared.types.TyId.{TyId}
use Rattle.mir_syntax.specs.declared.types.Ty.{Ty}
use Rattle.mir_syntax.specs.declared.body.Inline.{Inline}
use Rattle.mir_syntax.specs.declared.body.Inline.TheVariants as inlining
use Rattle.mir_syntax.specs.declared.program.Program.{Program}
use Rattle.mir_syntax.specs.Tree.{Tree, at_id, trees_of, Extends}
use Rattle.mir_syntax.specs.Table.{all_below}
use Rattle.mir_syntax.specs.Crate.{TypedBlock, TypedBody, TypedFunction, def_of, block_of, function_of}
use Rattle.mir_syntax.specs.Ids.{IdsInTable, def_below, block_below, function_below}
use Rattle.mir_syntax.proofs.Trees.{length-trees_of}
use Rattle.mir_syntax.proofs.Growth.{map-same, ids-front, trees_of-extends, block-front, block-more, function-front, function-more, IdsInTable-extends}
use Rattle.mir_text.specs.GrammarItems.{ArgRule, FileRule}
use Rattle.mir_text.specs.Names.{Strings, Names, names_of, def_paths, function_paths_in, outside_paths_in, path_bytes}
use Rattle.mir_text.specs.NamedBodies.{Declared, or_else, block_named}
use Rattle.mir_text.specs.Naming.{declared, locals_from, inline_named, function_named}
use Rattle.mir_text.specs.NameFaults.{Fault, each, labels_of, block_faults, fn_faults, first_fault}
use Rattle.mir_text.specs.PartLines.{LinedBlock}
use Rattle.mir_text.specs.ReadLines.{first_of, block_lines, wrong_in_block}
use Rattle.mir_text.proofs.Numbered.{or_else-none}
use Rattle.mir_tree.specs.declared.body.BlockText.{BlockText}
use Rattle.mir_tree.specs.declared.item.FnText.{FnText}
use Rattle.mir_tree.specs.Bodies.{lined_block}
use Rattle.mir_tree.specs.Types.{path_rule}
use Rattle.mir_tree.specs.Rules.{attr_rule, part_arg, block_rule, fn_rule, lined_fn}
use Rattle.mir_resolve.specs.declared.draft.Draft.{Draft}
use Rattle.mir_resolve.specs.declared.faults.NameFault.{NameFault}
use Rattle.mir_resolve.specs.Types.{Grown}
use Rattle.mir_resolve.specs.Faults.{noted}
use Rattle.mir_resolve.proofs.Growing.{grown_same}
use Rattle.mir_resolve.proofs.Listed.{items_listed}
use Rattle.mir_resolve.proofs.Making.{Keeps}
use Rattle.mir_bodies.specs.Labels.{label_of}
use Rattle.mir_bodies.specs.Scope.{Sense}
use Rattle.mir_bodies.proofs.Blocks.{each_mapped}
use Rattle.mir_file.specs.declared.paths.FilePaths.{FilePaths}
use Rattle.mir_file.specs.Items.{Noticed}
use Rattle.mir_file.specs.Declarations.{head_faults}
use Rattle.mir_file.specs.Functions.{Knows, text_block, text_lines, text_wrong, text_faults}
use Rattle.mir_file.proofs.Steps.{front_keeps, defs_keep, none_left}

pub blocks_keep : Keeps block_of block_below
blocks_keep = record { same = front_keeps block_of block_below block-front; wider = block-more }

pub functions_keep : Keeps function_of function_below
functions_keep = record { same = front_keeps function_of function_below function-front; wider = function-more }

pub nothing_noticed : (d : Draft) → Noticed d d []
unfolding noted
nothing_noticed d = record { grown = grown_same d.program; notes = refl }

-- the names mean the same over a program whose table has grown
pub knows_on : (strings : Strings) (paths : FilePaths) (old new : Program) (names : Names) → Knows strings paths old names → Grown old new → Knows strings paths new names
knows_on strings paths old new names k g = record {
  strings = k.strings;
  paths = k.paths;
  functions = k.functions;
  outsides = k.outsides;
  defs = k.defs ∙ sym (
      ap (map (def_of (trees_of new.types))) g.defs
      ∙ map-same (def_below (length old.types)) (def_of (trees_of new.types)) (def_of (trees_of old.types)) (defs_keep.same old.types new.types g.types) old.defs k.in_table.defs);
  shapes = k.shapes;
  in_table = IdsInTable-extends old new g.types g.defs g.outsides g.functions k.in_table;
}

-- what stands before the functions of a file has its names
pub knows_front : (strings : Strings) (paths : FilePaths) (program : Program) (rules : FileRule)
    → paths.defs ≡ def_paths strings rules → paths.functions ≡ function_paths_in strings rules → paths.outsides ≡ outside_paths_in strings rules
    → map (def_of (trees_of program.types)) program.defs ≡ (names_of strings rules).defs → IdsInTable program → Knows strings paths program (names_of strings rules)
knows_front strings paths program rules d f o is inside = record {
  strings = refl;
  paths = sym d;
  functions = sym f;
  outsides = sym o;
  defs = sym is;
  shapes = refl;
  in_table = inside;
}

-- ids mean the same in a larger table
pub ids_kept : (old new : List Ty) (ids : List TyId) → Extends old new → IsTrue (all_below (length old) ids) → map (at_id (trees_of new)) ids ≡ map (at_id (trees_of old)) ids
ids_kept old new ids e h =
    let front = trees_of-extends old new e in
    let P : ℕ → Type 0 = λ n. IsTrue (all_below n ids) in
    ap (λ trees. map (at_id trees) ids) front.1 ∙ ids-front (trees_of old) front.0 ids (subst P (sym (length-trees_of old)) h)

-- ---- the first line

first-append : (xs ys : List ℕ) → first_of (xs ++ ys) ≡ or_else (first_of xs) (first_of ys)
first-append [] ys = refl
first-append (x ∷ xs) ys = refl

or-assoc : (a b c : Option ℕ) → or_else (or_else a b) c ≡ or_else a (or_else b c)
or-assoc None b c = refl
or-assoc (Some n) b c = refl

-- the lines of one part more
pub first_step : (kept later whole : Option ℕ) (here rest : List ℕ) → later ≡ or_else kept (first_of here) → or_else kept (first_of (here ++ rest)) ≡ whole → or_else later (first_of rest) ≡ whole
first_step kept later whole here rest is h =
    ap (λ o. or_else o (first_of rest)) is ∙ or-assoc kept (first_of here) (first_of rest) ∙ ap (or_else kept) (sym (first-append here rest)) ∙ h

pub first_ended : {Z : Type 0} (of : List Z → List ℕ) (left : List Z) (kept whole : Option ℕ) → length left < 1 → of [] ≡ [] → or_else kept (first_of (of left)) ≡ whole → kept ≡ whole
first_ended of left kept whole short nil h =
    sym (or_else-none kept) ∙ ap (λ l. or_else kept (first_of l)) (sym nil) ∙ ap (λ l. or_else kept (first_of (of l))) (sym (none_left left short)) ∙ h

-- ---- a function

abbrev pub sense_with : Names → Declared → List BlockText → Sense
sense_with names locals texts = record { names = names; locals = locals; labels = map label_of texts }

inline-same : (i : Inline) → i ≡ inline_named (attr_rule i)
inline-same inlining.Plain = refl
inline-same inlining.Hint = refl
inline-same inlining.Always = refl
inline-same inlining.Never = refl

-- a function, by its parts
pub function_made : (names : Names) (x : FnText) (path : List ℕ) (args : ℕ) (locals : List Tree) (blocks : List TypedBlock)
    → path ≡ path_bytes names.strings (path_rule x.path) → args ≡ length x.args.items
    → locals ≡ locals_from (declared names (fn_rule x)) 0 (length (declared names (fn_rule x)))
    → blocks ≡ map (text_block (sense_with names (declared names (fn_rule x)) x.blocks)) x.blocks
    → (let made : TypedFunction = record { path = path; inlining = x.inline; is_drop = x.is_drop; body = record { args = args; locals = locals; blocks = blocks } } in made) ≡ function_named names (fn_rule x)
function_made names x path args locals blocks p a l b =
    let ds = declared names (fn_rule x) in
    let count = a ∙ sym (ap length (items_listed (λ (r : ArgRule). r) part_arg x.args.items x.args.trailing) ∙ length-map x.args.items part_arg) in
    let parts = b ∙ sym (map-map (block_named names ds) (λ t. block_rule (lined_block t)) x.blocks) in
    let body : ℕ → List Tree → List TypedBlock → TypedBody = λ n ts bs. record { args = n; locals = ts; blocks = bs } in
    let make : List ℕ → Inline → TypedBody → TypedFunction = λ q i whole. record { path = q; inlining = i; is_drop = x.is_drop; body = whole } in
    ap₂ (λ q i. make q i (body args locals blocks)) p (inline-same x.inline)
    ∙ ap₂ (λ n ts. make (path_bytes names.strings (path_rule x.path)) (inline_named (attr_rule x.inline)) (body n ts blocks)) count l
    ∙ ap (λ bs. make (path_bytes names.strings (path_rule x.path)) (inline_named (attr_rule x.inline)) (body (function_named names (fn_rule x)).body.args (function_named names (fn_rule x)).body.locals bs)) parts

pub blocks_lined : (x : FnText) → map text_lines x.blocks ≡ map block_lines (map lined_block x.blocks)
blocks_lined x = sym (map-map block_lines lined_block x.blocks)

pub blocks_wrong : (names : Names) (locals : Declared) (x : FnText) → each (text_wrong (sense_with names locals x.blocks)) x.blocks ≡ each (wrong_in_block names locals) (map lined_block x.blocks)
blocks_wrong names locals x = each_mapped (wrong_in_block names locals) lined_block x.blocks

-- the faults of its head, and then those of its blocks
pub head_and_blocks : (names : Names) (x : FnText) (line : ℕ)
    → head_faults names (lined_fn line x) ++ each (text_faults (sense_with names (declared names (fn_rule x)) x.blocks)) x.blocks ≡ fn_faults names (lined_fn line x)
head_and_blocks names x line =
    let f = lined_fn line x in
    let ds = declared names (fn_rule x) in
    let texts : each (text_faults (sense_with names ds x.blocks)) x.blocks ≡ each (block_faults names ds (labels_of f)) f.blocks =
    each_mapped (block_faults names ds (map label_of x.blocks)) lined_block x.blocks
    ∙ ap (λ labels. each (block_faults names ds labels) f.blocks) (sym (map-map (λ (b : LinedBlock). b.label) lined_block x.blocks)) in
    ap (λ l. head_faults names f ++ l) texts

-- ---- no fault

pub none_first : (fs : List Fault) → first_fault fs ≡ None → fs ≡ []
none_first [] h = refl
none_first (f ∷ fs) h = absurd cc

pub some_first : (o : Option NameFault) (f : NameFault) (kept : Option Fault) → option_map (λ x. (x.line, x.code)) o ≡ kept → o ≡ Some f → kept ≡ Some (f.line, f.code)
some_first o f kept is h = sym is ∙ ap (λ p. option_map (λ x. (x.line, x.code)) p) h
