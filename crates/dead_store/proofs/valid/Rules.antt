-- What a round leaves of a body that breaks no rule breaks none.
use Rattle.std.proofs.Common.{◌≡◌, refl, sym, ap, ◌∙◌, ℕ, true, nat_lt, ◌&&◌, List, length, Some, slice_get}
use Rattle.std.specs.List.{list_all}
use Rattle.mir_syntax.specs.declared.body.Term.{Term}
use Rattle.mir_syntax.specs.Shapes.{Shape}
use Rattle.mir_syntax.specs.Crate.{TypedBlock, TypedBody, Crate}
use Rattle.mir_syntax.specs.Parts.{term_operands, term_places, targets}
use Rattle.mir_rules.specs.Formed.{type_formed, place_formed, operand_formed, call_formed, stmt_formed, term_formed, block_formed, has_start, body_formed}
use Rattle.mir_rules.proofs.Lists.{and_true-left, and_true-right, list_all_true}
use Rattle.mir_rules.proofs.Keeps.{BodyKeeps}
use Rattle.mir_rules.proofs.ValidCrates.{stmt_formed_at, term_formed_at}
use Rattle.dead_store.specs.Pruned.{is_useless, blocks_without, pruned_once}
use Rattle.dead_store.proofs.Without.{blocks_long, block_back}
use Rattle.mir_rules.specs.Drops.{NoDrops, is_drop}
use Rattle.mir_rules.specs.Calls.{AddsNoCall}
use Rattle.mir_relate.proofs.Formed.{same_locals_stmt}

module _ (C : Crate) (D : List Shape) (b : TypedBody) where
  abbrev b2 : TypedBody
  b2 = pruned_once D b

  same_term : (t : Term) → term_formed C b2 t ≡ term_formed C b t
  unfolding term_formed
  same_term t = ap (λ n. call_formed C t && (list_all operand_formed (term_operands t) && (list_all (place_formed b) (term_places t) && list_all (λ i. nat_lt i n) (targets t)))) (blocks_long (is_useless D b) 0 b.blocks)

  pub formed_left : body_formed C b ≡ true → body_formed C b2 ≡ true
  unfolding body_formed
  formed_left h =
      let locals = list_all (type_formed C) b.locals in
      let blocks = list_all (block_formed C b) b.blocks in
      let start : has_start b2 ≡ true = ap (λ n. nat_lt 0 n && nat_lt b.args (length b.locals)) (blocks_long (is_useless D b) 0 b.blocks) ∙ and_true-left (has_start b) (locals && blocks) h in
      let types = and_true-left locals blocks (and_true-right (has_start b) (locals && blocks) h) in
      rw (start, types) (list_all_true (block_formed C b2) (blocks_without (is_useless D b) 0 b.blocks) each)
    where
      each : (i : ℕ) (k2 : TypedBlock) → slice_get (blocks_without (is_useless D b) 0 b.blocks) i ≡ Some k2 → block_formed C b2 k2 ≡ true
      each i k2 e =
          let l = block_back (is_useless D b) 0 b.blocks i k2 e in
          let term : term_formed C b2 k2.term ≡ true = ap (term_formed C b2) l.term ∙ same_term l.block.term ∙ term_formed_at C b h i l.block l.there in
          let stmts : list_all (stmt_formed C b2) k2.stmts ≡ true = list_all_true (stmt_formed C b2) k2.stmts (λ n s f. let (j, at) = l.stmts n s f in same_locals_stmt C b b2 refl s ∙ stmt_formed_at C b h i j l.block s l.there at) in
          rw (stmts, term) refl

  pub keeps_left : BodyKeeps C b → BodyKeeps C b2
  keeps_left h = record {
    stmts = λ j i k2 s e f. let l = block_back (is_useless D b) 0 b.blocks j k2 e in let (n, at) = l.stmts i s f in h.stmts j n l.block s l.there at;
    terms = λ j k2 e. let l = block_back (is_useless D b) 0 b.blocks j k2 e in rw l.term (h.terms j l.block l.there);
  }

module _ (D : List Shape) (b : TypedBody) where
  pub drops_left : NoDrops b → NoDrops (pruned_once D b)
  drops_left h = record { none = λ i k2 e. let l = block_back (is_useless D b) 0 b.blocks i k2 e in ap is_drop l.term ∙ h.none i l.block l.there }

  pub calls_left : AddsNoCall (pruned_once D b) b
  calls_left g (i, k2, p, os, next, e, t) = let l = block_back (is_useless D b) 0 b.blocks i k2 e in (i, l.block, p, os, next, l.there, sym l.term ∙ t)
