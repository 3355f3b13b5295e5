-- The blocks of a formed body are ready: they are whole, and what they call is there.
use Rattle.std.proofs.Common.{◌≡◌, true, ◌&&◌, List, [], ◌∷◌, map, refl}
use Rattle.std.specs.List.{list_all}
use Rattle.std.proofs.lemmas.Bool.{and_from}
use Rattle.mir_syntax.specs.declared.body.Block.{Block}
use Rattle.mir_syntax.specs.Tree.{Tree}
use Rattle.mir_syntax.specs.Crate.{TypedBody, Crate, block_of}
use Rattle.mir_syntax.specs.Parts.{stmt_whole, term_whole}
use Rattle.mir_rules.specs.Formed.{call_formed, block_formed}
use Rattle.mir_rules.proofs.Lists.{and_true-left, and_true-right}
use Rattle.mir_rules.proofs.WholeParts.{whole_block, block_call}
use Rattle.mir_validate.specs.Terms.{block_ready}

module _ (C : Crate) (b : TypedBody) where
  ready : (trees : List Tree) (k : Block) → block_formed C b (block_of trees k) ≡ true → block_ready C k ≡ true
  ready trees k h =
      let whole = whole_block C b trees k h in
      let stmts = list_all stmt_whole k.stmts in
      and_from stmts (term_whole k.term && call_formed C k.term) (and_true-left stmts (term_whole k.term) whole)
      (and_from (term_whole k.term) (call_formed C k.term) (and_true-right stmts (term_whole k.term) whole) (block_call C b trees k h))

  pub ready_blocks : (trees : List Tree) (blocks : List Block) → list_all (block_formed C b) (map (block_of trees) blocks) ≡ true → list_all (block_ready C) blocks ≡ true
  ready_blocks trees [] h = refl
  ready_blocks trees (k ∷ blocks) h =
      let head = block_formed C b (block_of trees k) in
      let others = list_all (block_formed C b) (map (block_of trees) blocks) in
      and_from (block_ready C k) (list_all (block_ready C) blocks) (ready trees k (and_true-left head others h)) (ready_blocks trees blocks (and_true-right head others h))
