-- Types that ids stand for, and structs that are moved by their parts.
use Rattle.std.proofs.Common.{[], ◌∷◌, ◌≡◌, ℕ, ◌≤◌, Bool, true, false, ◌||◌, List, slice_get, length, Option, Some, None, is_some, refl, sym, ap, ◌∙◌}
use Rattle.std.proofs.lemmas.Option.{slice_get_past}
use Rattle.std.specs.Option.{option_map}
use Rattle.mir_syntax.specs.declared.types.FnId.{FnId}
use Rattle.mir_syntax.specs.Drops.{fn_number}
use Rattle.mir_syntax.specs.declared.types.TyId.{TyId}
use Rattle.mir_syntax.specs.declared.types.ScalarTy.TheVariants as scalar_ty
use Rattle.mir_syntax.specs.declared.program.Program.{Program}
use Rattle.mir_syntax.specs.Tree.{Tree, scalar, named, node}
use Rattle.mir_syntax.specs.declared.types.ScalarTy.{ScalarTy}
use Rattle.mir_syntax.specs.declared.types.Ty.{Ty}
use Rattle.mir_syntax.specs.declared.types.Ty.TheVariants.{Scalar, Tuple, Ref, RefMut, Named}
use Rattle.mir_semantics.specs.Step.{scalar_in}
use Rattle.mir_syntax.specs.Shapes.{Shape, needs_drop, destructor_of, fields_of, fields_of_struct, ◌>>=◌}
use Rattle.mir_syntax.proofs.Places.{at_id-past}
use Rattle.mir_meaning.specs.Programs.{shapes_in, type_in, parts_of}

pub type_past : (p : Program) (id : TyId) → length p.types ≤ id.0 → type_in p id ≡ scalar scalar_ty.Bool
type_past p id h = at_id-past p.types id (slice_get_past p.types id.0 h)

pub needs_past : (p : Program) (id : TyId) → length p.types ≤ id.0 → false ≡ needs_drop (shapes_in p) (type_in p id)
unfolding needs_drop
needs_past p id h = sym (ap (needs_drop (shapes_in p)) (type_past p id h))

pub destructor_past : (p : Program) (id : TyId) → length p.types ≤ id.0 → None ≡ destructor_of (shapes_in p) (type_in p id)
destructor_past p id h = sym (ap (destructor_of (shapes_in p)) (type_past p id h))

or_true : (b : Bool) → (b || true) ≡ true
or_true true = refl
or_true false = refl

or_false : (b : Bool) → (b || false) ≡ b
or_false true = refl
or_false false = refl

go_gone : (o : Option Shape) (g : ℕ) → (o >>= λ s. s.destructor) ≡ Some g → None ≡ parts_of o
unfolding ◌>>=◌
go_gone None g h = refl
go_gone (Some s) g h = sym (rw (h, or_true s.is_enum) refl)

go_kept : (o : Option Shape) → (o >>= λ s. s.destructor) ≡ None → (o >>= fields_of_struct) ≡ parts_of o
unfolding ◌>>=◌
go_kept None h = refl
go_kept (Some s) h = rw (h, or_false s.is_enum) refl

-- a struct with a destructor is moved and dropped as one
pub parts_gone : (D : List Shape) (t : Tree) (d g : ℕ) → t ≡ named d → destructor_of D t ≡ Some g → None ≡ parts_of (slice_get D d)
parts_gone D t d g e h = go_gone (slice_get D d) g (sym (ap (destructor_of D) e) ∙ h)

pub parts_kept : (D : List Shape) (t : Tree) (d : ℕ) → t ≡ named d → destructor_of D t ≡ None → fields_of D (named d) ≡ parts_of (slice_get D d)
parts_kept D t d e h = go_kept (slice_get D d) (sym (ap (destructor_of D) e) ∙ h)

pub parts_if_some : (D : List Shape) (t : Tree) (d : ℕ) (o : Option FnId) → t ≡ named d → option_map fn_number o ≡ destructor_of D t → is_some o ≡ true → None ≡ parts_of (slice_get D d)
parts_if_some D t d None e h s = absurd cc
parts_if_some D t d (Some g) e h s = parts_gone D t d g.0 e (sym h)

pub parts_if_none : (D : List Shape) (t : Tree) (d : ℕ) (o : Option FnId) → t ≡ named d → option_map fn_number o ≡ destructor_of D t → is_some o ≡ false → fields_of D (named d) ≡ parts_of (slice_get D d)
parts_if_none D t d None e h s = parts_kept D t d e (sym h)
parts_if_none D t d (Some g) e h s = absurd cc

pub other_scalar : (trees : List Tree) (ty : Ty) → ((s : ScalarTy) → ty ≡ Scalar s → ⊥) → scalar_in (node trees ty) ≡ None
other_scalar trees (Scalar s) h = absurd (h s refl)
other_scalar trees (Tuple []) h = refl
other_scalar trees (Tuple (id ∷ ids)) h = refl
other_scalar trees (Ref a) h = refl
other_scalar trees (RefMut a) h = refl
other_scalar trees (Named d) h = refl
