-- A body of a valid crate has what is asked of one that is split.
use Rattle.std.proofs.Common.{◌≡◌, refl, sym, ap, ◌∙◌, subst, ℕ, suc, ◌<◌, ◌≤◌, false, List, [], ◌∷◌, length, Some, slice_get, arith, lt-ltb}
use Rattle.std.proofs.lemmas.Option.{get_or_from_slice_get}
use Rattle.mir_syntax.specs.declared.body.Place.{Place}
use Rattle.mir_syntax.specs.declared.body.Operand.{Operand}
use Rattle.mir_syntax.specs.Tree.{Tree, empty}
use Rattle.mir_syntax.specs.Crate.{TypedRvalue, «use», binary, overflow, unary, cast, discriminant, tuple, build, TypedStmt, assign, storage_live, storage_dead, set_discriminant, TypedBlock, TypedFunction, Crate}
use Rattle.mir_syntax.specs.Crate as rvalue
use Rattle.mir_syntax.specs.Shapes.{Shape, shapes_of}
use Rattle.mir_syntax.specs.Parts.{rvalue_places}
use Rattle.mir_syntax.proofs.Binds.{bind_some}
use Rattle.mir_rules.specs.BodyRules.{breaks_v06}
use Rattle.mir_rules.specs.Typing.{operands_ty, rvalue_ty}
use Rattle.mir_rules.specs.Valid.{Valid}
use Rattle.mir_rules.proofs.Statements.{Assigns, StmtTyped}
use Rattle.mir_rules.proofs.Typed.{typed_place, typed_rvalue}
use Rattle.mir_rules.proofs.ValidCrates.{body_formed_at, keeps, stmt_at}
use Rattle.sroa_pass.specs.Split.{parts_of, field_types, fields_at}
use Rattle.sroa_pass.specs.Code.{stmt_places, values_of, IsTyped}
use Rattle.sroa_pass.proofs.Fields.{Splits, splits}
use Rattle.sroa_pass.proofs.Planned.{val}
use Rattle.sroa_pass.proofs.Uses.{whole_ty}
use Rattle.sroa_pass.proofs.KnownAt.{term_known}
use Rattle.sroa_pass.proofs.valid.Spread.{struct_built}
use Rattle.sroa_pass.proofs.valid.Kept.{operands_tuple, tuple_typed, build_typed}

-- a tuple of operands has one type for each
operands_long : (D : List Shape) (locals : List Tree) (os : List Operand) (us : Tree) (ts : List Tree) → operands_ty D locals os ≡ Some us → parts_of us ≡ Some ts → length os ≡ length ts
unfolding operands_ty
operands_long D locals [] us ts e h = ap (λ (ts : List Tree). length ts) (val (ap parts_of (val e) ∙ h))
operands_long D locals (o ∷ os) us ts e h =
    let (t, e1, k1) = bind_some e in
    let (vs, e2, k2) = bind_some k1 in
    let (ws, e3, k3) = bind_some (ap parts_of (val k2) ∙ h) in
    ap suc (operands_long D locals os vs ws e2 e3) ∙ ap (λ (ts : List Tree). length ts) (val k3)

module _ (C : Crate) (valid : Valid C) (f : ℕ) (g : TypedFunction) (is : slice_get C.functions f ≡ Some g) where
  abbrev D : List Shape
  D = shapes_of C

  abbrev locals : List Tree
  locals = g.body.locals

  stmt_known : (s : TypedStmt) → StmtTyped D g.body.args locals s → breaks_v06 D locals (stmt_places s) ≡ false
  stmt_known (assign p r) h = typed_place D locals p (rvalue_places r) h.ty h.place (typed_rvalue D locals r h.ty h.rvalue)
  stmt_known (storage_live x) h = refl
  stmt_known (storage_dead x) h = refl
  stmt_known (set_discriminant p k) h = typed_place D locals p [] h.ty h.place refl

  few_values : (p : Place) (r : TypedRvalue) → Assigns D g.body.args locals p r → p.proj ≡ [] → 0 < length (fields_at D locals p.local) → length (values_of r) ≤ length (fields_at D locals p.local)
  few_values p r h whole some = go r h.rvalue
    where
      row : fields_at D locals p.local ≡ field_types D h.ty
      row = ap (field_types D) (get_or_from_slice_get locals p.local h.ty empty (whole_ty D g.body p h.ty whole h.place))

      fields : Splits D h.ty
      fields = splits D h.ty (lt-ltb 0 (length (field_types D h.ty)) (subst (λ (ts : List Tree). 0 < length ts) row some))

      values : (os : List Operand) (us : Tree) → operands_ty D locals os ≡ Some us → us ≡ fields.tuple → length os ≤ length (fields_at D locals p.local)
      values os us e same =
          let long = operands_long D locals os us (field_types D h.ty) e (ap parts_of same ∙ fields.parts) in
          let there = ap (λ (ts : List Tree). length ts) row in
          omega (arith, long, there)

      go : (r : TypedRvalue) → rvalue_ty D locals r ≡ Some h.ty → length (values_of r) ≤ length (fields_at D locals p.local)
      go (tuple os) e =
          let e1 = tuple_typed D locals os h.ty e in
          values os h.ty e1 (val (sym (operands_tuple D locals os h.ty e1) ∙ fields.fields))
      go (build d v os) e =
          let (us, e1, made) = build_typed D locals d v os h.ty e in
          values os us e1 (struct_built C valid d v us h.ty fields.tuple made fields.fields)
      go («use» o) e = omega arith
      go (binary op a c) e = omega arith
      go (overflow op a c) e = omega arith
      go (unary op a) e = omega arith
      go (cast a t) e = omega arith
      go (rvalue.ref q) e = omega arith
      go (rvalue.ref_mut q) e = omega arith
      go (discriminant q) e = omega arith

  pub is_typed : IsTyped D g.body
  is_typed = record {
    stmts = λ i n k s e e2. stmt_known s (stmt_at C valid f i n g k s is e e2);
    terms = λ i k e. term_known C g.body (body_formed_at C valid f g is) ((keeps C valid).bodies f g is) i k e;
    values = λ i n k p r e e2. few_values p r (stmt_at C valid f i n g k (assign p r) is e e2);
  }
