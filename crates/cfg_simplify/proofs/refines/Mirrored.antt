-- A body with the same statements under other jumps mirrors the other one: each local is its own home.
use Rattle.std.proofs.Common.{◌≡◌, inl, inr, refl, sym, ap, ◌∙◌, subst, ℕ, List, [], ◌∷◌, Option, Some, None, slice_get}
use Rattle.mir_syntax.specs.declared.body.Operand.{Operand}
use Rattle.mir_syntax.specs.declared.body.Operand.TheVariants as operand
use Rattle.mir_syntax.specs.declared.body.Term.{Term}
use Rattle.mir_syntax.specs.declared.body.Term.TheVariants.{Goto, Switch, Return, Unreachable, Drop, Call, Assert}
use Rattle.mir_syntax.specs.Crate.{TypedRvalue, «use», binary, overflow, unary, cast, discriminant, tuple, build, TypedStmt, assign, storage_live, storage_dead, set_discriminant, TypedBlock, TypedBody}
use Rattle.mir_syntax.specs.Crate as rvalue
use Rattle.mir_semantics.specs.Step.{new_slots}
use Rattle.mir_renaming.specs.Renaming.{SomeRel}
use Rattle.mir_relate.specs.Frames.{Change}
use Rattle.mir_relate.specs.Renumbered.{Numbering, OperandSame, OperandsSame, RvalueSame, StmtSame}
use Rattle.mir_relate.proofs.Leaves.{some_val}
use Rattle.mir_relate.proofs.Mirror as mirror
use Rattle.mir_relate.proofs.Mirror.{Positions, To, TermAs, Mirrors}
use Rattle.mir_relate.proofs.Numbered.{Homes}
use Rattle.mir_relate.proofs.SameLocals.{slots_same, slots_agree}
use Rattle.cfg_simplify.proofs.refines.Jumps.{SameTerm, Meets, BodyJumps}

abbrev Own : Numbering
Own = Homes Some

-- text is the same as itself
operand_self : (o : Operand) → OperandSame Own o o
operand_self (operand.Copy p) = (refl, refl)
operand_self (operand.Move p) = (refl, refl)
operand_self (operand.Const c) = refl

operands_self : (os : List Operand) → OperandsSame Own os os
operands_self [] = tt
operands_self (o ∷ os) = (operand_self o, operands_self os)

rvalue_self : (x : TypedRvalue) → RvalueSame Own x x
rvalue_self («use» o) = operand_self o
rvalue_self (binary op a b) = (refl, operand_self a, operand_self b)
rvalue_self (overflow op a b) = (refl, operand_self a, operand_self b)
rvalue_self (unary op a) = (refl, operand_self a)
rvalue_self (cast a t) = (refl, operand_self a)
rvalue_self (rvalue.ref p) = (refl, refl)
rvalue_self (rvalue.ref_mut p) = (refl, refl)
rvalue_self (discriminant p) = (refl, refl)
rvalue_self (tuple os) = operands_self os
rvalue_self (build d k os) = (refl, refl, operands_self os)

stmt_self : (s : TypedStmt) → StmtSame Own s s
stmt_self (assign p x) = ((refl, refl), rvalue_self x)
stmt_self (storage_live x) = refl
stmt_self (storage_dead x) = refl
stmt_self (set_discriminant p k) = ((refl, refl), refl)

-- the same terminator with targets that stand for each other
term_as : (T : ℕ → ℕ → Type 0) (u t : Term) → SameTerm T u t → TermAs Own T t u
term_as T (Goto u2) (Goto u1) h = h
term_as T (Switch p arms2 u2) (Switch o arms1 u1) h = (subst (λ p. OperandSame Own o p) (sym h.0) (operand_self o), h.1)
term_as T Return Return h = tt
term_as T Unreachable Unreachable h = tt
term_as T (Drop q u2) (Drop p u1) h = ((ap (λ p. Some p.local) (sym h.0), ap (λ p. p.proj) (sym h.0)), h.1)
term_as T (Call q g2 ps u2) (Call p g1 os u1) h = ((ap (λ p. Some p.local) (sym h.0), ap (λ p. p.proj) (sym h.0)), sym h.1, subst (λ ps. OperandsSame Own os ps) (sym h.2) (operands_self os), h.3)
term_as T (Assert p e2 x2 ps u2) (Assert o e1 x1 os u1) h = (subst (λ p. OperandSame Own o p) (sym h.0) (operand_self o), sym h.1, sym h.2, subst (λ ps. OperandsSame Own os ps) (sym h.3) (operands_self os), h.4)
term_as T u t h = absurd h

meets_as : (Place : Positions) (n : ℕ) (b2 : TypedBody) (i2 a2 i1 a1 : ℕ) (t1 : Term) (o : Option TypedStmt) → Meets Place n b2 i2 a2 i1 a1 t1 o → mirror.Meets Some Place n b2 i2 a2 i1 a1 t1 o
meets_as Place n b2 i2 a2 i1 a1 t1 (Some s) (k2, n', i, at, h) = inr (k2, s, n', i, at, stmt_self s, h)
meets_as Place n b2 i2 a2 i1 a1 t1 None (inl h) = inl h
meets_as Place n b2 i2 a2 i1 a1 t1 None (inr (k2, i, at, h)) = inr (k2, i, at, term_as (To Place) k2.term t1 h)

pub mirrors : (X : Change) → X.body2.locals ≡ X.body1.locals → (Place : Positions) → BodyJumps X.body2 X.body1 Place → Mirrors X Some Place
mirrors X locals Place jumps =
    let D = X.source.shapes in
    let ts2 = X.body2.locals in
    let ts1 = X.body1.locals in
    record {
      once = λ x x' y e e'. some_val (e ∙ sym e');
      types = λ x y e. ap (λ ts. slice_get ts x) (sym locals) ∙ ap (slice_get ts2) (some_val e);
      result = refl;
      starts = jumps.starts;
      meets = λ n i2 a2 i1 a1 h k1 e. meets_as Place n X.body2 i2 a2 i1 a1 k1.term (slice_get k1.stmts a1) (jumps.meets n i2 a2 i1 a1 h k1 e);
      slots = λ j vs ws hv few x y e v k. subst (λ y. SomeRel j v (slice_get (new_slots D ts2 ws) y)) (some_val e) (slots_same D ts2 ts1 locals j vs ws hv.0 x v k);
      agree = λ j vs ws hv few x y t v w e e1 e2. slots_agree D ts2 ts1 locals j vs ws hv x t v w e1 (ap (slice_get (new_slots D ts2 ws)) (some_val e) ∙ e2);
    }
