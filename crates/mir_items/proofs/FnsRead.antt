-- Parsing blocks and functions is the grammar's rule, both ways.
use Rattle.std.proofs.Common.{◌≡◌, ℕ, ◌+◌, ◌≤◌, true, false, List, [], ◌∷◌, map, length, drop, Ok, refl, sym, ap, ap₂, subst, ◌∙◌, arith}
use Rattle.mir_text.specs.declared.symbol.Symbol.{Symbol}
use Rattle.mir_text.specs.declared.symbol.Symbol.TheVariants as s
use Rattle.mir_text.specs.Grammar.{Items, end, last, more, items_put, each_put, AllOf}
use Rattle.mir_text.specs.GrammarTerms.{BlockRule, block_put}
use Rattle.mir_text.specs.GrammarItems.{ArgRule, arg_put, fn_front_put, decls_put, result_put, FnRule, fn_put}
use Rattle.mir_text.specs.PartLines.{past, items_lined, lets_lined, after_front, after_result}
use Rattle.mir_text.specs.Nesting.{BlockGood, FnGood}
use Rattle.mir_tree.specs.declared.Items.{Items as ItemsText}
use Rattle.mir_tree.specs.declared.Lined.{Lined}
use Rattle.mir_tree.specs.declared.body.BlockText.{BlockText}
use Rattle.mir_tree.specs.declared.item.ArgText.{ArgText}
use Rattle.mir_tree.specs.declared.item.FnText.{FnText}
use Rattle.mir_parse.specs.Signs.{close_brace}
use Rattle.mir_parse.proofs.Laws.{in_steps, ok_same, ends_in_comma, close_brace-sound}
use Rattle.mir_parse.proofs.Sizes.{block_size}
use Rattle.mir_parse.proofs.BlocksRead.{block_text, block-complete, block-sound}
use Rattle.mir_items.specs.Lines.{lines_at}
use Rattle.mir_items.specs.Decls.{with_line}
use Rattle.mir_items.specs.Functions.{begins_block, block_here, with_blocks, fn_blocks, fn_item}
use Rattle.mir_items.proofs.Sizes.{arg_size, args_size, fn_front_size, result_size, decls_size, first-line, lines-past, past-lines}
use Rattle.mir_items.proofs.EachRead.{IsReadAt, each_text, EachLaws, each-complete, each-sound}
use Rattle.mir_items.proofs.ListsAt.{items_read}
use Rattle.mir_items.proofs.ArgsRead.{arg_here}
use Rattle.mir_items.proofs.DeclsRead.{arg_text, lined_text, EndsDecls, close-ends, block-ends}
use Rattle.mir_items.proofs.HeadsRead.{HeadRule, head_put, head_text, head-complete}
use Rattle.mir_items.proofs.HeadsSound.{head_of, head-sound}
use Rattle.mir_items.proofs.TreesOf.{blocks_tree, fn_made, fn_tree}

-- ---- blocks

-- a block where it stands
abbrev pub block_of : List ℕ → BlockRule → List Symbol → BlockText
block_of lines b ts = block_text (lines_at lines ts) b

label-begins : (n : ℕ) (rest : List Symbol) → begins_block (s.Block n ∷ rest) ≡ true
unfolding begins_block
label-begins n rest = refl

brace-ends : (rest : List Symbol) → begins_block (s.CloseBrace ∷ rest) ≡ false
unfolding begins_block
brace-ends rest = refl

block-here-sound : (lines : List ℕ) (ts : List Symbol) (x : BlockText) (rest : List Symbol) → block_here lines ts ≡ Ok (x, rest) → IsReadAt block_put (block_of lines) BlockGood ts x rest
block-here-sound lines ts x rest h =
    let q = block-sound (lines_at lines ts) ts x rest h in
    record { rule = q.rule; reads = q.reads; yields = q.yields; good = q.good }

block_laws : (lines : List ℕ) → EachLaws (length lines) begins_block (block_here lines) block_put (block_of lines) BlockGood
block_laws lines = record {
  begin = (λ b rest. label-begins b.label _);
  complete = (λ b rest good fits. block-complete (lines_at lines (block_put b rest)) b rest good);
  sound = (λ ts x rest fits h. block-here-sound lines ts x rest h);
  grows = (λ b rest. omega (arith, block_size b rest));
}

abbrev blocks_text : List ℕ → List BlockRule → List Symbol → List BlockText
blocks_text lines bs rest = each_text block_put (block_of lines) bs (s.CloseBrace ∷ rest)

abbrev blocks_put : List BlockRule → List Symbol → List Symbol
blocks_put bs rest = each_put block_put bs (s.CloseBrace ∷ rest)

fn_blocks-complete : (lines : List ℕ) (bs : List BlockRule) (rest : List Symbol) → AllOf BlockGood bs → length (blocks_put bs rest) ≤ length lines → fn_blocks lines (blocks_put bs rest) ≡ Ok (blocks_text lines bs rest, rest)
unfolding fn_blocks close_brace
fn_blocks-complete lines bs rest good fits =
    rw (each-complete (length lines) begins_block (block_here lines) block_put (block_of lines) BlockGood (block_laws lines) bs (s.CloseBrace ∷ rest) good fits (brace-ends rest)) refl

-- blocks and the brace that closes them were read
record AreBlocks (lines : List ℕ) (ts : List Symbol) (us : List BlockText) (rest : List Symbol) : Type 0 where
  rules : List BlockRule
  reads : blocks_text lines rules rest ≡ us
  yields : ts ≡ blocks_put rules rest
  good : AllOf BlockGood rules

fn_blocks-sound : (lines : List ℕ) (ts : List Symbol) (us : List BlockText) (rest : List Symbol) → length ts ≤ length lines → fn_blocks lines ts ≡ Ok (us, rest) → AreBlocks lines ts us rest
unfolding fn_blocks
fn_blocks-sound lines ts us rest fits h =
    in_steps _ _ (us, rest) h (λ bs past found went.
    in_steps _ _ (us, rest) went (λ a after closed same_h.
    let b = each-sound (length lines) begins_block (block_here lines) block_put (block_of lines) BlockGood (block_laws lines) ts bs past fits found in
    let brace = close_brace-sound past (a, after) closed in
    let P : List BlockText × List Symbol → Type 0 = λ y. AreBlocks lines ts y.0 y.1 in
    subst P (ok_same _ _ same_h) (record {
      rules = b.rules;
      reads = ap (each_text block_put (block_of lines) b.rules) (sym brace) ∙ b.reads;
      yields = b.yields ∙ ap (each_put block_put b.rules) brace;
      good = b.good;
    })))

-- the blocks that are read are those of the lines from there on
blocks-at : (lines : List ℕ) (bs : List BlockRule) (rest : List Symbol) → length (each_put block_put bs rest) ≤ length lines
    → each_text block_put (block_of lines) bs rest ≡ blocks_tree bs (lines_at lines (each_put block_put bs rest))
blocks-at lines [] rest fits = refl
blocks-at lines (b ∷ bs) rest fits =
    let over = each_put block_put bs rest in
    let ts = block_put b over in
    let size = block_size b over in
    let less : length over ≤ length lines = omega arith in
    ap (λ l. block_of lines b ts ∷ l) (blocks-at lines bs rest less ∙ ap (blocks_tree bs) (sym (past-lines block_put b lines ts over size fits)))

-- ---- arguments

abbrev args_here : List ℕ → Items ArgRule → List Symbol → List (Lined ArgText)
args_here lines xs rest = items_read arg_put (arg_here lines) s.Close xs rest

-- the arguments that are read are those of the lines from there on
args-at : (lines : List ℕ) (xs : Items ArgRule) (rest : List Symbol) → length (items_put arg_put s.Close xs rest) ≤ length lines
    → args_here lines xs rest ≡ map lined_text (items_lined arg_put xs (lines_at lines (items_put arg_put s.Close xs rest)))
args-at lines end rest fits = refl
args-at lines (last a) rest fits = ap (λ n. with_line n (arg_text a) ∷ []) (sym (first-line lines (arg_put a (s.Close ∷ rest))))
args-at lines (more a xs) rest fits =
    let over = items_put arg_put s.Close xs rest in
    let ts = arg_put a (s.Comma ∷ over) in
    let size = arg_size a (s.Comma ∷ over) in
    let less : length over ≤ length lines = omega arith in
    let comma_fits : length (s.Comma ∷ over) ≤ length lines = omega arith in
    let one : length (s.Comma ∷ over) ≡ 1 + length over = omega arith in
    let f : ℕ → List (Lined ArgText) → List (Lined ArgText) = λ n l. with_line n (arg_text a) ∷ l in
    let behind : drop 1 (past arg_put a (lines_at lines ts)) ≡ lines_at lines over =
    ap (drop 1) (past-lines arg_put a lines ts (s.Comma ∷ over) size fits) ∙ lines-past lines 1 (length over) (length (s.Comma ∷ over)) one comma_fits in
    ap₂ f (sym (first-line lines ts)) (args-at lines xs rest less ∙ ap (λ l. map lined_text (items_lined arg_put xs l)) (sym behind))

-- ---- functions

abbrev over_args : FnRule → List Symbol → List Symbol
over_args f rest = result_put f.result (decls_put f.locals (blocks_put f.blocks rest))

-- the parts of a function have the lines from where they begin on
record PartsAt (lines : List ℕ) (f : FnRule) (rest : List Symbol) : Type 0 where
  args : after_front f (lines_at lines (fn_put f rest)) ≡ lines_at lines (items_put arg_put s.Close f.args (over_args f rest))
  lets : after_result f (lines_at lines (fn_put f rest)) ≡ lines_at lines (decls_put f.locals (blocks_put f.blocks rest))
  blocks : past decls_put f.locals (after_result f (lines_at lines (fn_put f rest))) ≡ lines_at lines (blocks_put f.blocks rest)
  args_fit : length (items_put arg_put s.Close f.args (over_args f rest)) ≤ length lines
  lets_fit : length (decls_put f.locals (blocks_put f.blocks rest)) ≤ length lines
  blocks_fit : length (blocks_put f.blocks rest) ≤ length lines

parts-at : (lines : List ℕ) (f : FnRule) (rest : List Symbol) → length (fn_put f rest) ≤ length lines → PartsAt lines f rest
parts-at lines f rest fits =
    let blocks_ts = blocks_put f.blocks rest in
    let lets_ts = decls_put f.locals blocks_ts in
    let result_ts = result_put f.result lets_ts in
    let args_ts = items_put arg_put s.Close f.args result_ts in
    let front_size = fn_front_size f args_ts in
    let args_fit : length args_ts ≤ length lines = omega arith in
    let list_size = args_size f.args result_ts in
    let result_fit : length result_ts ≤ length lines = omega arith in
    let type_size = result_size f.result lets_ts in
    let lets_fit : length lets_ts ≤ length lines = omega arith in
    let let_size = decls_size f.locals blocks_ts in
    let blocks_fit : length blocks_ts ≤ length lines = omega arith in
    let args = past-lines fn_front_put f lines (fn_put f rest) args_ts front_size fits in
    let behind = ap (past (items_put arg_put s.Close) f.args) args ∙ past-lines (items_put arg_put s.Close) f.args lines args_ts result_ts list_size args_fit in
    let lets = ap (past result_put f.result) behind ∙ past-lines result_put f.result lines result_ts lets_ts type_size result_fit in
    let bodies = ap (past decls_put f.locals) lets ∙ past-lines decls_put f.locals lines lets_ts blocks_ts let_size lets_fit in
    record { args = args; lets = lets; blocks = bodies; args_fit = args_fit; lets_fit = lets_fit; blocks_fit = blocks_fit }

abbrev listed_args : Items ArgRule → List (Lined ArgText) → ItemsText (Lined ArgText)
listed_args xs us = record { items = us; trailing = ends_in_comma xs }

-- what is read is the tree of the rule
fn-text : (lines : List ℕ) (f : FnRule) (rest : List Symbol) → length (fn_put f rest) ≤ length lines
    → with_blocks (head_text lines (head_of f) (blocks_put f.blocks rest)) (blocks_text lines f.blocks rest) ≡ fn_tree f (lines_at lines (fn_put f rest))
fn-text lines f rest fits =
    let at = parts-at lines f rest fits in
    let xs = ap (listed_args f.args) (args-at lines f.args (over_args f rest) at.args_fit ∙ ap (λ l. map lined_text (items_lined arg_put f.args l)) (sym at.args)) in
    let ls = ap (λ l. map lined_text (lets_lined f.locals l)) (sym at.lets) in
    let bs = blocks-at lines f.blocks (s.CloseBrace ∷ rest) at.blocks_fit ∙ ap (blocks_tree f.blocks) (sym at.blocks) in
    λ k. fn_made f (xs k) (ls k) (bs k)

ends-decls : (bs : List BlockRule) (rest : List Symbol) → EndsDecls (blocks_put bs rest)
ends-decls [] rest = close-ends rest
ends-decls (b ∷ bs) rest = block-ends b.label _

pub fn-complete : (lines : List ℕ) (f : FnRule) (rest : List Symbol) → FnGood f → length (fn_put f rest) ≤ length lines → fn_item lines (fn_put f rest) ≡ Ok (fn_tree f (lines_at lines (fn_put f rest)), rest)
unfolding fn_item
fn-complete lines f rest good fits =
    let at = parts-at lines f rest fits in
    rw (
      head-complete lines (head_of f) (blocks_put f.blocks rest) (good.0, good.1, good.2) at.lets_fit (ends-decls f.blocks rest),
      fn_blocks-complete lines f.blocks rest good.3 at.blocks_fit,
    ) (ap (λ x. Ok (x, rest)) (fn-text lines f rest fits))

-- ---- what is read is a function

abbrev rule_of : HeadRule → List BlockRule → FnRule
rule_of h bs = record { attr = h.attr; is_drop = h.is_drop; path = h.path; args = h.args; result = h.result; locals = h.locals; blocks = bs }

head_fewer : (h : HeadRule) (rest : List Symbol) → length rest ≤ length (head_put h rest)
head_fewer h rest =
    omega (
      arith,
      fn_front_size (rule_of h []) (items_put arg_put s.Close h.args (result_put h.result (decls_put h.locals rest))),
      args_size h.args (result_put h.result (decls_put h.locals rest)),
      result_size h.result (decls_put h.locals rest),
      decls_size h.locals rest,
    )

abbrev pub fn_here : List ℕ → FnRule → List Symbol → FnText
fn_here lines f ts = fn_tree f (lines_at lines ts)

abbrev IsFn : List ℕ → List Symbol → FnText → List Symbol → Type 0
IsFn lines ts x rest = IsReadAt fn_put (fn_here lines) FnGood ts x rest

pub fn-sound : (lines : List ℕ) (ts : List Symbol) (x : FnText) (rest : List Symbol) → length ts ≤ length lines → fn_item lines ts ≡ Ok (x, rest) → IsReadAt fn_put (fn_here lines) FnGood ts x rest
unfolding fn_item
fn-sound lines ts x rest fits h =
    in_steps _ _ (x, rest) h (λ front past found went.
    in_steps _ _ (x, rest) went (λ us after bodies same_h.
    let head = head-sound lines ts front past fits found in
    let past_fits : length past ≤ length lines = omega (arith, ap length head.yields, head_fewer head.rule past) in
    let b = fn_blocks-sound lines past us after past_fits bodies in
    let f = rule_of head.rule b.rules in
    let stands : ts ≡ fn_put f after = head.yields ∙ ap (head_put head.rule) b.yields in
    let put_fits : length (fn_put f after) ≤ length lines = subst (λ (l : List Symbol). length l ≤ length lines) stands fits in
    let read : with_blocks (head_text lines head.rule (blocks_put b.rules after)) (blocks_text lines b.rules after) ≡ with_blocks front us =
    ap₂ with_blocks (ap (head_text lines head.rule) (sym b.yields) ∙ head.reads) b.reads in
    let P : FnText × List Symbol → Type 0 = λ y. IsFn lines ts y.0 y.1 in
    subst P (ok_same _ _ same_h) (record {
      rule = f;
      reads = ap (fn_here lines f) stands ∙ sym (fn-text lines f after put_fits) ∙ read;
      yields = stands;
      good = (head.good.0, head.good.1, head.good.2, b.good);
    })))
