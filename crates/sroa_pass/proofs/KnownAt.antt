-- What a valid body says of its statements and of what the split body has for them.
use Rattle.std.proofs.Common.{◌≡◌, inl, inr, ℕ, true, false, List, ◌++◌, length, Some, slice_get, ltb-true}
use Rattle.mir_syntax.specs.Crate.{TypedRvalue, «use», binary, overflow, unary, cast, discriminant, tuple, build, TypedStmt, assign, storage_live, storage_dead, set_discriminant, TypedBlock, TypedBody, Crate}
use Rattle.mir_syntax.specs.Crate as rvalue
use Rattle.mir_syntax.specs.Shapes.{Shape, shapes_of}
use Rattle.mir_syntax.specs.Parts.{term_places}
use Rattle.mir_rules.specs.BodyRules.{breaks_v05, breaks_v06}
use Rattle.mir_rules.specs.Broken.{if_broken, own_broken, operands_broken, terminator_broken}
use Rattle.mir_rules.specs.Formed.{stmt_formed, body_formed}
use Rattle.mir_syntax.specs.Parts.{term_operands}
use Rattle.mir_rules.proofs.Keeps.{BodyKeeps}
use Rattle.mir_rules.proofs.Lists.{append_empty-left, append_empty-right, if_broken_empty}
use Rattle.mir_rules.proofs.Statements.{stmt_typed}
use Rattle.mir_rules.proofs.ValidCrates.{stmt_formed_at}
use Rattle.escape_info.proofs.Lends.{lends}
use Rattle.sroa_pass.proofs.Planned.{AllFit, all_fit, allowed_stmt, allowed_term}
use Rattle.sroa_pass.proofs.Ways.{Lends, There, Known}

module _ (C : Crate) (b : TypedBody) (formed : body_formed C b ≡ true) (kept : BodyKeeps C b) where
  abbrev D : List Shape
  D = shapes_of C

  lends_at : (i n : ℕ) (k : TypedBlock) (x : TypedStmt) → slice_get b.blocks i ≡ Some k → slice_get k.stmts n ≡ Some x → Lends D b x
  lends_at i n k (assign p (rvalue.ref q)) e e2 = λ h. lends D b i n k p q e (inl e2) h
  lends_at i n k (assign p (rvalue.ref_mut q)) e e2 = λ h. lends D b i n k p q e (inr e2) h
  lends_at i n k (assign p («use» o)) e e2 = tt
  lends_at i n k (assign p (binary op c d)) e e2 = tt
  lends_at i n k (assign p (overflow op c d)) e e2 = tt
  lends_at i n k (assign p (unary op c)) e e2 = tt
  lends_at i n k (assign p (cast c t)) e e2 = tt
  lends_at i n k (assign p (discriminant q)) e e2 = tt
  lends_at i n k (assign p (tuple os)) e e2 = tt
  lends_at i n k (assign p (build d v os)) e e2 = tt
  lends_at i n k (storage_live x) e e2 = tt
  lends_at i n k (storage_dead x) e e2 = tt
  lends_at i n k (set_discriminant p v) e e2 = tt

  there_at : (x : TypedStmt) → stmt_formed C b x ≡ true → There D b x
  unfolding stmt_formed
  there_at (assign p r) h = tt
  there_at (storage_live x) h = ltb-true x (length b.locals) h
  there_at (storage_dead x) h = ltb-true x (length b.locals) h
  there_at (set_discriminant p v) h = tt

  pub known_at : (i n : ℕ) (k : TypedBlock) (x : TypedStmt) → slice_get b.blocks i ≡ Some k → slice_get k.stmts n ≡ Some x → Known D b x
  known_at i n k x e e2 = record {
    typed = stmt_typed D b.args b.locals x (kept.stmts i n k x e e2);
    allowed = λ z y q. allowed_stmt D b z y i n k x q e e2;
    lends = lends_at i n k x e e2;
    there = there_at x (stmt_formed_at C b formed i n k x e e2);
  }

  -- the places of a terminator
  pub term_known : (i : ℕ) (k : TypedBlock) → slice_get b.blocks i ≡ Some k → breaks_v06 D b.locals (term_places k.term) ≡ false
  unfolding terminator_broken
  term_known i k e =
      let t = k.term in
      let v05 = if_broken (breaks_v05 t) 5 in
      let v06 = if_broken (breaks_v06 D b.locals (term_places t)) 6 in
      let rest = own_broken C D b.locals t ++ operands_broken D b.locals (term_operands t) in
      if_broken_empty (breaks_v06 D b.locals (term_places t)) 6 (append_empty-left v06 rest (append_empty-right v05 (v06 ++ rest) (kept.terms i k e)))

  pub term_fits : (i : ℕ) (k : TypedBlock) → slice_get b.blocks i ≡ Some k → AllFit D b (term_places k.term)
  term_fits i k e = all_fit D b (term_places k.term) (term_known i k e) (λ x y q. allowed_term D b x y i k q e)
