-- What a walk over a body with its lines finds is all that the body breaks, each on its line.
use Rattle.std.proofs.Common.{◌≡◌, ℕ, suc, ◌+◌, true, List, [], ◌∷◌, ◌++◌, map, length, slice_get, Some, refl, sym, ap, ◌∙◌, arith, eqb-true}
use Rattle.std.proofs.lemmas.List.{length-map, map-append}
use Rattle.mir_syntax.specs.declared.lines.BlockLines.{BlockLines}
use Rattle.mir_syntax.specs.declared.lines.FnLines.{FnLines}
use Rattle.mir_syntax.specs.declared.lines.Lines.{Lines}
use Rattle.mir_syntax.specs.declared.body.Stmt.{Stmt}
use Rattle.mir_syntax.specs.declared.body.Block.{Block}
use Rattle.mir_syntax.specs.declared.body.Body.{Body}
use Rattle.mir_syntax.specs.Tree.{Tree}
use Rattle.mir_syntax.specs.Crate.{TypedBody, Crate, stmt_of, block_of, body_of}
use Rattle.mir_syntax.specs.Shapes.{Shape, ◌>>=◌}
use Rattle.mir_rules.specs.Broken.{Spot, statement, terminator, gather, at_spot, statement_broken, terminator_broken, statement_found, block_found, body_found}
use Rattle.mir_rules.specs.Faults.{block_lines, line_at, same_lengths, block_fits, by_line}
use Rattle.mir_rules.proofs.Lists.{and_true-left, and_true-right}
use Rattle.mir_validate.specs.Walk.{at_line, statements_broken, block_broken, blocks_broken}

-- codes at a spot, by the line of the spot
pub at_spots : (lines : Lines) (spot : Spot) (line : ℕ) (codes : List ℕ) → line_at lines spot ≡ line → map (by_line lines) (map (at_spot spot) codes) ≡ map (at_line line) codes
at_spots lines spot line [] e = refl
at_spots lines spot line (code ∷ codes) e = rw e (ap (λ l. (line, code) ∷ l) (at_spots lines spot line codes e))

shift : (i j : ℕ) → i + suc j ≡ suc i + j
shift i j = omega arith

module _ (C : Crate) (D : List Shape) (trees : List Tree) (b : Body) (all : Lines) (f : ℕ) (fl : FnLines) (is : slice_get all.functions f ≡ Some fl) where
  abbrev typed : TypedBody
  typed = body_of trees b

  block_is : (j : ℕ) (k : BlockLines) → slice_get fl.blocks j ≡ Some k → block_lines all f j ≡ Some k
  unfolding ◌>>=◌
  block_is j k e = rw is e

  module _ (j : ℕ) (k : BlockLines) (here : slice_get fl.blocks j ≡ Some k) where
    statement_line : (i line : ℕ) → slice_get k.stmts i ≡ Some line → line_at all (statement f j i) ≡ line
    unfolding line_at ◌>>=◌
    statement_line i line e = rw (block_is j k here, e) refl

    terminator_line : line_at all (terminator f j) ≡ k.term
    unfolding line_at ◌>>=◌
    terminator_line = rw (block_is j k here) refl

    stmts_lines : (i : ℕ) (lines : List ℕ) (stmts : List Stmt) → ((m : ℕ) → slice_get k.stmts (m + i) ≡ slice_get lines m) → length lines ≡ length stmts
        → map (by_line all) (gather (statement_found D typed f j) i (map (stmt_of trees) stmts)) ≡ statements_broken D b.args typed.locals trees lines stmts
    stmts_lines i [] [] at same = refl
    stmts_lines i [] (s ∷ stmts) at same = absurd (omega arith)
    stmts_lines i (line ∷ lines) [] at same = absurd (omega arith)
    stmts_lines i (line ∷ lines) (s ∷ stmts) at same =
        let codes = statement_broken D b.args typed.locals (stmt_of trees s) in
        let zeroth : 0 + i ≡ i = omega arith in
        let first : slice_get k.stmts i ≡ Some line = ap (slice_get k.stmts) (sym zeroth) ∙ at 0 in
        let head = at_spots all (statement f j i) line codes (statement_line i line first) in
        let tail = stmts_lines (suc i) lines stmts (λ m. ap (slice_get k.stmts) (shift m i) ∙ at (suc m)) (omega arith) in
        map-append (by_line all) (map (at_spot (statement f j i)) codes) (gather (statement_found D typed f j) (suc i) (map (stmt_of trees) stmts))
        ∙ (ap (λ l. l ++ map (by_line all) (gather (statement_found D typed f j) (suc i) (map (stmt_of trees) stmts))) head ∙ ap (λ l. map (at_line line) codes ++ l) tail)

    block_located : (block : Block) → length k.stmts ≡ length block.stmts → map (by_line all) (block_found C D typed f j (block_of trees block)) ≡ block_broken C D b.args typed.locals trees k block
    block_located block same =
        let stmts = gather (statement_found D typed f j) 0 (map (stmt_of trees) block.stmts) in
        let codes = terminator_broken C D typed.locals block.term in
        let head = stmts_lines 0 k.stmts block.stmts (λ m. ap (slice_get k.stmts) (let n : m + 0 ≡ m = omega arith in n)) same in
        let tail = at_spots all (terminator f j) k.term codes terminator_line in
        map-append (by_line all) stmts (map (at_spot (terminator f j)) codes)
        ∙ (ap (λ l. l ++ map (by_line all) (map (at_spot (terminator f j)) codes)) head ∙ ap (λ l. statements_broken D b.args typed.locals trees k.stmts block.stmts ++ l) tail)

  stmts_same : (k : BlockLines) (block : Block) → block_fits k (block_of trees block) ≡ true → length k.stmts ≡ length block.stmts
  stmts_same k block h = eqb-true (length k.stmts) (length (map (stmt_of trees) block.stmts)) h ∙ length-map block.stmts (stmt_of trees)

  blocks_lines : (j : ℕ) (lines : List BlockLines) (blocks : List Block) → ((m : ℕ) → slice_get fl.blocks (m + j) ≡ slice_get lines m) → same_lengths block_fits lines (map (block_of trees) blocks) ≡ true
      → map (by_line all) (gather (block_found C D typed f) j (map (block_of trees) blocks)) ≡ blocks_broken C D b.args typed.locals trees lines blocks
  blocks_lines j [] [] at fits = refl
  blocks_lines j [] (k ∷ blocks) at fits = absurd cc
  blocks_lines j (k ∷ lines) [] at fits = absurd cc
  blocks_lines j (k ∷ lines) (block ∷ blocks) at fits =
      let others = map (block_of trees) blocks in
      let zeroth : 0 + j ≡ j = omega arith in
      let first : slice_get fl.blocks j ≡ Some k = ap (slice_get fl.blocks) (sym zeroth) ∙ at 0 in
      let here = and_true-left (block_fits k (block_of trees block)) (same_lengths block_fits lines others) fits in
      let head = block_located j k first block (stmts_same k block here) in
      let tail = blocks_lines (suc j) lines blocks (λ m. ap (slice_get fl.blocks) (shift m j) ∙ at (suc m)) (and_true-right (block_fits k (block_of trees block)) (same_lengths block_fits lines others) fits) in
      map-append (by_line all) (block_found C D typed f j (block_of trees block)) (gather (block_found C D typed f) (suc j) others)
      ∙ (ap (λ l. l ++ map (by_line all) (gather (block_found C D typed f) (suc j) others)) head ∙ ap (λ l. block_broken C D b.args typed.locals trees k block ++ l) tail)

  pub body_located : same_lengths block_fits fl.blocks typed.blocks ≡ true → map (by_line all) (body_found C D f typed) ≡ blocks_broken C D b.args typed.locals trees fl.blocks b.blocks
  unfolding body_found
  body_located fits = blocks_lines 0 fl.blocks b.blocks (λ m. ap (slice_get fl.blocks) (let n : m + 0 ≡ m = omega arith in n)) fits
