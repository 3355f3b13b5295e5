-- Lines of a program's shape, item by item.
use Rattle.std.proofs.Common.{◌≡◌, ℕ, zero, suc, Bool, true, ◌&&◌, nat_eq, List, [], ◌∷◌, length, Some, slice_get, IsTrue, refl, ap, ◌∙◌, eqb-true}
use Rattle.std.proofs.lemmas.List.{length-map}
use Rattle.mir_syntax.specs.declared.lines.FnLines.{FnLines}
use Rattle.mir_syntax.specs.declared.lines.BlockLines.{BlockLines}
use Rattle.mir_syntax.specs.declared.lines.Lines.{Lines}
use Rattle.mir_syntax.specs.declared.program.Program.{Program}
use Rattle.mir_syntax.specs.Tree.{trees_of}
use Rattle.mir_syntax.specs.Crate.{TypedFunction, Crate, crate_of, def_of, outside_of, function_of}
use Rattle.mir_syntax.specs.Shapes.{◌>>=◌}
use Rattle.mir_rules.specs.Broken.{definition, outside, header, local, statement}
use Rattle.mir_rules.specs.Faults.{block_lines, line_at, same_lengths, block_fits, function_fits, lines_fit}
use Rattle.mir_rules.proofs.Lists.{and_true-left, and_true-right}

module _ {A B : Type 0} (alike : A → B → Bool) where
  pub alike_long : (xs : List A) (ys : List B) → same_lengths alike xs ys ≡ true → length xs ≡ length ys
  alike_long [] [] h = refl
  alike_long [] (y ∷ ys) h = absurd cc
  alike_long (x ∷ xs) [] h = absurd cc
  alike_long (x ∷ xs) (y ∷ ys) h = ap suc (alike_long xs ys (and_true-right (alike x y) (same_lengths alike xs ys) h))

  pub alike_at : (xs : List A) (ys : List B) (k : ℕ) (x : A) (y : B) → same_lengths alike xs ys ≡ true → slice_get xs k ≡ Some x → slice_get ys k ≡ Some y → alike x y ≡ true
  alike_at [] ys k x y h e f = absurd cc
  alike_at (a ∷ xs) [] k x y h e f = absurd cc
  alike_at (a ∷ xs) (b ∷ ys) zero x y h e f =
      let first : a ≡ x = cc in
      let second : b ≡ y = cc in
      rw (first, second) at (and_true-left (alike a b) (same_lengths alike xs ys) h)
  alike_at (a ∷ xs) (b ∷ ys) (suc k) x y h e f = alike_at xs ys k x y (and_true-right (alike a b) (same_lengths alike xs ys) h) e f

pub blocks_fit : (l : FnLines) (g : TypedFunction) → function_fits l g ≡ true → same_lengths block_fits l.blocks g.body.blocks ≡ true
blocks_fit l g h = and_true-right (nat_eq (length l.locals) (length g.body.locals)) (same_lengths block_fits l.blocks g.body.blocks) h

module _ (lines : Lines) (C : Crate) (fit : IsTrue (lines_fit lines C)) where
  abbrev defs_fit : Bool
  defs_fit = nat_eq (length lines.defs) (length C.defs)

  abbrev outsides_fit : Bool
  outsides_fit = nat_eq (length lines.outsides) (length C.outsides)

  abbrev functions_fit : Bool
  functions_fit = same_lengths function_fits lines.functions C.functions

  defs_alike : length lines.defs ≡ length C.defs
  unfolding lines_fit
  defs_alike = eqb-true (length lines.defs) (length C.defs) (and_true-left defs_fit (outsides_fit && functions_fit) fit)

  outsides_alike : length lines.outsides ≡ length C.outsides
  unfolding lines_fit
  outsides_alike = eqb-true (length lines.outsides) (length C.outsides) (and_true-left outsides_fit functions_fit (and_true-right defs_fit (outsides_fit && functions_fit) fit))

  all_fit : functions_fit ≡ true
  unfolding lines_fit
  all_fit = and_true-right outsides_fit functions_fit (and_true-right defs_fit (outsides_fit && functions_fit) fit)

  pub functions_alike : length lines.functions ≡ length C.functions
  functions_alike = alike_long function_fits lines.functions C.functions all_fit

  pub function_fit : (k : ℕ) (l : FnLines) (g : TypedFunction) → slice_get lines.functions k ≡ Some l → slice_get C.functions k ≡ Some g → function_fits l g ≡ true
  function_fit k l g e f = alike_at function_fits lines.functions C.functions k l g all_fit e f

  pub function_blocks : (k : ℕ) (l : FnLines) (g : TypedFunction) → slice_get lines.functions k ≡ Some l → slice_get C.functions k ≡ Some g → same_lengths block_fits l.blocks g.body.blocks ≡ true
  function_blocks k l g e f = blocks_fit l g (function_fit k l g e f)

  pub function_locals : (k : ℕ) (l : FnLines) (g : TypedFunction) → slice_get lines.functions k ≡ Some l → slice_get C.functions k ≡ Some g → length l.locals ≡ length g.body.locals
  function_locals k l g e f = eqb-true (length l.locals) (length g.body.locals) (and_true-left (nat_eq (length l.locals) (length g.body.locals)) (same_lengths block_fits l.blocks g.body.blocks) (function_fit k l g e f))

module _ (lines : Lines) (p : Program) (fit : IsTrue (lines_fit lines (crate_of p))) where
  pub defs_long : length lines.defs ≡ length p.defs
  defs_long = defs_alike lines (crate_of p) fit ∙ length-map p.defs (def_of (trees_of p.types))

  pub outsides_long : length lines.outsides ≡ length p.outsides
  outsides_long = outsides_alike lines (crate_of p) fit ∙ length-map p.outsides (outside_of (trees_of p.types))

  pub functions_long : length lines.functions ≡ length p.functions
  functions_long = functions_alike lines (crate_of p) fit ∙ length-map p.functions (function_of (trees_of p.types))

-- ---- the lines of spots

pub definition_line : (lines : Lines) (d line : ℕ) → slice_get lines.defs d ≡ Some line → line_at lines (definition d) ≡ line
unfolding line_at
definition_line lines d line e = rw e refl

pub outside_line : (lines : Lines) (o line : ℕ) → slice_get lines.outsides o ≡ Some line → line_at lines (outside o) ≡ line
unfolding line_at
outside_line lines o line e = rw e refl

pub header_line : (lines : Lines) (f : ℕ) (l : FnLines) → slice_get lines.functions f ≡ Some l → line_at lines (header f) ≡ l.head
unfolding line_at ◌>>=◌
header_line lines f l e = rw e refl

pub local_line : (lines : Lines) (f x line : ℕ) (l : FnLines) → slice_get lines.functions f ≡ Some l → slice_get l.locals x ≡ Some line → line_at lines (local f x) ≡ line
unfolding line_at ◌>>=◌
local_line lines f x line l e h = rw (e, h) refl

block_is : (lines : Lines) (f j : ℕ) (l : FnLines) (k : BlockLines) → slice_get lines.functions f ≡ Some l → slice_get l.blocks j ≡ Some k → block_lines lines f j ≡ Some k
unfolding ◌>>=◌
block_is lines f j l k e h = rw (e, h) refl

pub statement_line : (lines : Lines) (f j i line : ℕ) (l : FnLines) (k : BlockLines) → slice_get lines.functions f ≡ Some l → slice_get l.blocks j ≡ Some k → slice_get k.stmts i ≡ Some line → line_at lines (statement f j i) ≡ line
unfolding line_at ◌>>=◌
statement_line lines f j i line l k e h at = rw (block_is lines f j l k e h, at) refl
