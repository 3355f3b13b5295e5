-- Marks on definitions, carried to the types that hold them by value.
use Rattle.std.proofs.Common.{◌≡◌, ℕ, zero, suc, ◌<◌, ◌≤◌, Bool, false, ◌||◌, List, [], ◌∷◌, ◌++◌, map, length, take, get_or, IsTrue, refl, ap, ap₂, arith, rules}
use Rattle.std.specs.List.{list_all, list_any}
use Rattle.std.proofs.lemmas.List.{get_or_push}
use Rattle.mir_syntax.specs.declared.types.TyId.{TyId}
use Rattle.mir_syntax.specs.declared.types.ScalarTy.TheVariants as scalar_ty
use Rattle.mir_syntax.specs.declared.types.Field.{Field}
use Rattle.mir_syntax.specs.declared.types.Variant.{Variant}
use Rattle.mir_syntax.specs.declared.types.Ty.{Ty}
use Rattle.mir_syntax.specs.declared.types.Ty.TheVariants.{Scalar, Tuple, Ref, RefMut, Named}
use Rattle.mir_syntax.specs.Tree.{Tree, scalar, at_ids, node}
use Rattle.mir_syntax.specs.Table.{all_below}
use Rattle.mir_syntax.specs.Ids.{field_below, variant_below}
use Rattle.mir_syntax.specs.Crate.{variant_of}
use Rattle.mir_syntax.specs.Shapes.{fields_tuple, fields_tree, needs_by, any_needs}
use Rattle.drop_tables.specs.Marks.{is_marked, id_marked, field_marked, variant_marked}

module _ (f : Tree → Bool) where
  -- one more item of a table
  pub map_take : (k : ℕ) (ts : List Tree) (d : Tree) → k < length ts → map f (take k ts) ++ f (get_or ts k d) ∷ [] ≡ map f (take (suc k) ts)
  map_take k [] d h = absurd (omega arith)
  map_take zero (t ∷ ts) d h = refl
  map_take (suc k) (t ∷ ts) d h = ap (λ l. f t ∷ l) (map_take k ts d (omega arith))

  pub read_before : (i k : ℕ) (ts : List Tree) (d : Tree) → i < k → k ≤ length ts → get_or (map f (take k ts)) i false ≡ f (get_or ts i d)
  read_before i zero ts d h g = absurd (omega arith)
  read_before i (suc k) [] d h g = absurd (omega arith)
  read_before zero (suc k) (t ∷ ts) d h g = refl
  read_before (suc i) (suc k) (t ∷ ts) d h g = read_before i k ts d (omega arith) (omega arith)

module _ (marks : ℕ → Bool) (ts : List Tree) (k : ℕ) (within : k ≤ length ts) where
  abbrev known : List Bool
  known = map (needs_by marks) (take k ts)

  pub ids_held : (ids : List TyId) → IsTrue (all_below k ids) → list_any (id_marked known) ids ≡ needs_by marks (at_ids ts ids)
  ids_held [] h = refl
  ids_held (id ∷ ids) h =
      let both : (id.0 < k) × IsTrue (all_below k ids) = search rules in
      ap₂ (λ a b. a || b) (read_before (needs_by marks) id.0 k ts (scalar scalar_ty.Bool) both.0 within) (ids_held ids both.1)

  fields_held : (fields : List Field) → IsTrue (list_all (field_below k) fields) → list_any (field_marked known) fields ≡ needs_by marks (fields_tree ts fields)
  fields_held [] h = refl
  fields_held (f ∷ fields) h =
      let both : (f.ty.0 < k) × IsTrue (list_all (field_below k) fields) = search rules in
      ap₂ (λ a b. a || b) (read_before (needs_by marks) f.ty.0 k ts (scalar scalar_ty.Bool) both.0 within) (fields_held fields both.1)

  pub variants_held : (variants : List Variant) → IsTrue (list_all (variant_below k) variants) → list_any (variant_marked known) variants ≡ any_needs marks (map fields_tuple (map (variant_of ts) variants))
  variants_held [] h = refl
  variants_held (v ∷ variants) h =
      let both : IsTrue (variant_below k v) × IsTrue (list_all (variant_below k) variants) = search rules in
      ap₂ (λ a b. a || b) (fields_held v.fields both.0) (variants_held variants both.1)

pub other_type : (marks : ℕ → Bool) (trees : List Tree) (ty : Ty) → ((ids : List TyId) → ty ≡ Tuple ids → ⊥) → ((d : ℕ) → ty ≡ Named d → ⊥) → needs_by marks (node trees ty) ≡ false
other_type marks trees (Scalar s) h g = refl
other_type marks trees (Tuple ids) h g = absurd (h ids refl)
other_type marks trees (Ref a) h g = refl
other_type marks trees (RefMut a) h g = refl
other_type marks trees (Named d) h g = absurd (g d refl)

-- ---- a list of marks that grows

pub mark_last : (marks : List Bool) (b : Bool) (at : ℕ) → length marks ≡ at → is_marked (marks ++ b ∷ []) at ≡ b
mark_last marks b at h = get_or_push marks b false at h

pub mark_before : (marks : List Bool) (b : Bool) (d : ℕ) → d < length marks → is_marked (marks ++ b ∷ []) d ≡ is_marked marks d
mark_before [] b d h = absurd (omega arith)
mark_before (m ∷ marks) b zero h = refl
mark_before (m ∷ marks) b (suc d) h = mark_before marks b d (omega arith)
