-- Types of fields and variants don't look at destructors.
use Rattle.std.proofs.Common.{◌≡◌, ℕ, suc, zero, List, [], ◌∷◌, slice_get, Option, Some, None, refl, ap, ◌∙◌}
use Rattle.mir_syntax.specs.declared.body.Proj.{Proj}
use Rattle.mir_syntax.specs.declared.body.Proj.TheVariants as proj
use Rattle.mir_syntax.specs.Tree.{Tree, scalar, empty, more, ref, ref_mut, named}
use Rattle.mir_syntax.specs.Crate.{TypedDef, TypedFunction}
use Rattle.mir_syntax.specs.Shapes.{Shape, shape_of, shapes_from, fields_of, fields_of_struct, variant_ty, variant_of_enum, field_ty, proj_ty, ◌>>=◌}
use Rattle.mir_bodies.specs.Places.{downcast_by}

at_def : {A : Type 0} (f : Shape → Option A) (some others : List TypedFunction) → ((k : ℕ) (d : TypedDef) → f (shape_of some k d) ≡ f (shape_of others k d))
    → (k : ℕ) (defs : List TypedDef) (d : ℕ) → slice_get (shapes_from some k defs) d >>= f ≡ slice_get (shapes_from others k defs) d >>= f
unfolding ◌>>=◌
at_def f some others same k [] d = refl
at_def f some others same k (x ∷ defs) zero = same k x
at_def f some others same k (x ∷ defs) (suc d) = at_def f some others same (suc k) defs d

fields_alike : (some others : List TypedFunction) (defs : List TypedDef) (t : Tree) → fields_of (shapes_from some 0 defs) t ≡ fields_of (shapes_from others 0 defs) t
fields_alike some others defs (scalar s) = refl
fields_alike some others defs empty = refl
fields_alike some others defs (more t ts) = refl
fields_alike some others defs (ref t) = refl
fields_alike some others defs (ref_mut t) = refl
fields_alike some others defs (named d) = at_def fields_of_struct some others (λ k x. refl) 0 defs d

variants_alike : (some others : List TypedFunction) (defs : List TypedDef) (t : Tree) (k : ℕ) → variant_ty (shapes_from some 0 defs) t k ≡ variant_ty (shapes_from others 0 defs) t k
variants_alike some others defs (scalar s) k = refl
variants_alike some others defs empty k = refl
variants_alike some others defs (more t ts) k = refl
variants_alike some others defs (ref t) k = refl
variants_alike some others defs (ref_mut t) k = refl
variants_alike some others defs (named d) k = at_def (variant_of_enum k) some others (λ i x. refl) 0 defs d

pub proj_alike : (some others : List TypedFunction) (defs : List TypedDef) (t : Tree) (p : Proj) → proj_ty (shapes_from some 0 defs) t p ≡ proj_ty (shapes_from others 0 defs) t p
proj_alike some others defs t (proj.Field i) = ap (λ o. o >>= λ u. field_ty u i) (fields_alike some others defs t)
proj_alike some others defs t (proj.Downcast k) = variants_alike some others defs t k
proj_alike some others defs t proj.Deref = refl

then_alike : {A : Type 0} (f g : Tree → Option A) → ((t : Tree) → f t ≡ g t) → (o : Option Tree) → o >>= f ≡ o >>= g
unfolding ◌>>=◌
then_alike f g same None = refl
then_alike f g same (Some t) = same t

pub field_alike : (some others : List TypedFunction) (defs : List TypedDef) (o : Option Tree) (n : ℕ)
    → o >>= (λ t. proj_ty (shapes_from some 0 defs) t (proj.Field n)) ≡ o >>= (λ t. proj_ty (shapes_from others 0 defs) t (proj.Field n))
field_alike some others defs o n = then_alike _ _ (λ t. proj_alike some others defs t (proj.Field n)) o

downcast_alike : (some others : List TypedFunction) (defs : List TypedDef) (t : Tree) (n : ℕ) (k : Option ℕ)
    → downcast_by (shapes_from some 0 defs) t n k ≡ downcast_by (shapes_from others 0 defs) t n k
downcast_alike some others defs t n None = refl
downcast_alike some others defs t n (Some k) =
    ap (λ o. o >>= λ u. proj_ty (shapes_from some 0 defs) u (proj.Field n)) (variants_alike some others defs t k)
    ∙ field_alike some others defs (variant_ty (shapes_from others 0 defs) t k) n

pub variant_field_alike : (some others : List TypedFunction) (defs : List TypedDef) (o : Option Tree) (n : ℕ) (k : Option ℕ)
    → o >>= (λ t. downcast_by (shapes_from some 0 defs) t n k) ≡ o >>= (λ t. downcast_by (shapes_from others 0 defs) t n k)
variant_field_alike some others defs o n k = then_alike _ _ (λ t. downcast_alike some others defs t n k) o
