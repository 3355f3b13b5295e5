-- The units of a definition: itself where it has a destructor, else an enum that needs drop, or those of a struct's fields.
use Rattle.std.proofs.Common.{◌≡◌, refl, sym, ap, ◌∙◌, ℕ, zero, suc, Bool, true, false, if◌then◌else◌, List, [], ◌∷◌, length, Option, Some, None, is_some, slice_get, option_map, arith}
use Rattle.mir_syntax.specs.declared.body.Proj.{Proj}
use Rattle.mir_syntax.specs.Tree.{Tree, named}
use Rattle.mir_syntax.specs.Shapes.{Shape, ◌>>=◌, first_variant, struct_fields, fields_of_struct, fields_of, destructor_of, needs_by, needs_of, needs_def, needs_drop}
use Rattle.mir_rules.specs.Weights.{one_unit, units_from, units_of_parts, units_of_shape, units_of, units_def}

pub some_mapped : {A B : Type 0} (f : A → B) (o : Option A) → is_some (option_map f o) ≡ is_some o
some_mapped f None = refl
some_mapped f (Some x) = refl

-- what needs drop is there
none_needs : (D : List Shape) (n d : ℕ) → slice_get D d ≡ None → needs_def D n d ≡ false
none_needs D zero d e = refl
none_needs D (suc n) d e = ap (needs_of (needs_def D n)) e

module _ (D : List Shape) (n d : ℕ) where
  pub units_destroyed : is_some (destructor_of D (named d)) ≡ true → units_def D (suc n) d ≡ [] ∷ []
  unfolding ◌>>=◌
  units_destroyed has = go (slice_get D d) has
    where
      shape : (s : Shape) (c : Bool) → c ≡ true → units_of_shape (units_def D n) (needs_drop D (named d)) c s ≡ [] ∷ []
      shape s true e = refl
      shape s false e = absurd (grind arith)

      go : (o : Option Shape) → is_some (o >>= λ s. s.destructor) ≡ true → units_of (units_def D n) (needs_drop D (named d)) o ≡ [] ∷ []
      go None e = absurd (grind arith)
      go (Some s) e = shape s (is_some s.destructor) e

  pub units_struct : (t : Tree) → is_some (destructor_of D (named d)) ≡ false → fields_of D (named d) ≡ Some t → units_def D (suc n) d ≡ units_from (units_def D n) 0 t
  unfolding ◌>>=◌
  units_struct t none fields = go (slice_get D d) none fields
    where
      parts : (s : Shape) (c : Bool) → (if c then None else Some (struct_fields s)) ≡ Some t → units_of_parts (units_def D n) (needs_drop D (named d)) c s.variants ≡ units_from (units_def D n) 0 t
      parts s true e = absurd (grind arith)
      parts s false e = ap (units_from (units_def D n) 0) (let same : first_variant s.variants ≡ t = grind arith in same)

      shape : (s : Shape) (c : Bool) → c ≡ false → fields_of_struct s ≡ Some t → units_of_shape (units_def D n) (needs_drop D (named d)) c s ≡ units_from (units_def D n) 0 t
      shape s true e f = absurd (grind arith)
      shape s false e f = parts s s.is_enum f

      go : (o : Option Shape) → is_some (o >>= λ s. s.destructor) ≡ false → (o >>= fields_of_struct) ≡ Some t → units_of (units_def D n) (needs_drop D (named d)) o ≡ units_from (units_def D n) 0 t
      go None e f = absurd (grind arith)
      go (Some s) e f = shape s (is_some s.destructor) e f

  pub units_enum : is_some (destructor_of D (named d)) ≡ false → fields_of D (named d) ≡ None → units_def D (suc n) d ≡ one_unit (needs_drop D (named d))
  unfolding ◌>>=◌ needs_drop
  units_enum none fields = go (slice_get D d) refl none fields
    where
      parts : (s : Shape) (c : Bool) → (if c then None else Some (struct_fields s)) ≡ None → units_of_parts (units_def D n) (needs_def D (length D) d) c s.variants ≡ one_unit (needs_def D (length D) d)
      parts s true e = refl
      parts s false e = absurd (grind arith)

      shape : (s : Shape) (c : Bool) → c ≡ false → fields_of_struct s ≡ None → units_of_shape (units_def D n) (needs_def D (length D) d) c s ≡ one_unit (needs_def D (length D) d)
      shape s true e f = absurd (grind arith)
      shape s false e f = parts s s.is_enum f

      go : (o : Option Shape) → slice_get D d ≡ o → is_some (o >>= λ s. s.destructor) ≡ false → (o >>= fields_of_struct) ≡ None → units_of (units_def D n) (needs_def D (length D) d) o ≡ one_unit (needs_def D (length D) d)
      go None is e f = ap one_unit (sym (none_needs D (length D) d is))
      go (Some s) is e f = shape s (is_some s.destructor) e f
