-- The types of lists of operands, of enums, and of what is built.
use Rattle.std.proofs.Common.{◌≡◌, ℕ, zero, suc, Bool, true, false, ◌&&◌, is_some, List, [], ◌∷◌, map, length, slice_get, Option, Some, None, refl, sym, ap, ◌∙◌}
use Rattle.std.specs.Bool.{then_some}
use Rattle.std.specs.Option.{option_map}
use Rattle.std.proofs.lemmas.List.{length-map}
use Rattle.mir_syntax.specs.declared.types.Field.{Field}
use Rattle.mir_syntax.specs.declared.types.Variant.{Variant}
use Rattle.mir_syntax.specs.declared.types.Def.{Def}
use Rattle.mir_syntax.specs.declared.types.Ty.{Ty}
use Rattle.mir_syntax.specs.declared.types.Ty.TheVariants.{Scalar, Tuple, Ref, RefMut, Named}
use Rattle.mir_syntax.specs.declared.body.Operand.{Operand}
use Rattle.mir_syntax.specs.declared.program.Program.{Program}
use Rattle.mir_syntax.specs.Tree.{Tree, empty, more, named, at_id, node, trees_of, tuple_of}
use Rattle.mir_syntax.specs.Crate.{variant_of, field_of}
use Rattle.mir_syntax.specs.Shapes.{Shape, field_ty_of, fields_tuple, ◌>>=◌}
use Rattle.mir_syntax.proofs.Places.{shape-at, shape-past}
use Rattle.mir_rules.specs.Same.{same_tree}
use Rattle.mir_rules.specs.Typing.{operand_ty, operands_ty, isize_ty, enum_of, discriminant_ty, build_ty}
use Rattle.mir_syntax.proofs.Binds.{some_bind, bind_gone, bind_dead}
use Rattle.mir_validate.specs.Inside.{shapes}
use Rattle.mir_validate.specs.Codes.{has_type, have_types, field_tree, variant_count}

-- ---- operands, one after another

step : (D : List Shape) (locals : List Tree) (o : Option Tree) (p : Option Tree) (t : Tree) (ts : List Tree) → (has_type o t && has_type p (tuple_of ts)) ≡ has_type (o >>= λ u. p >>= λ us. Some (more u us)) (tuple_of (t ∷ ts))
unfolding ◌>>=◌ same_tree
step D locals None p t ts = refl
step D locals (Some u) None t ts = and_none (same_tree u t)
  where
    and_none : (b : Bool) → (b && false) ≡ false
    and_none true = refl
    and_none false = refl
step D locals (Some u) (Some us) t ts = refl

none_left : (o p : Option Tree) → false ≡ has_type (o >>= λ u. p >>= λ us. Some (more u us)) empty
unfolding ◌>>=◌ same_tree
none_left None p = refl
none_left (Some u) None = refl
none_left (Some u) (Some us) = refl

pub have_types_is : (D : List Shape) (locals : List Tree) (parts : List Operand) (ts : List Tree) → have_types D locals parts ts ≡ has_type (operands_ty D locals parts) (tuple_of ts)
unfolding operands_ty same_tree
have_types_is D locals [] [] = refl
have_types_is D locals [] (t ∷ ts) = refl
have_types_is D locals (a ∷ others) [] = none_left (operand_ty D locals a) (operands_ty D locals others)
have_types_is D locals (a ∷ others) (t ∷ ts) = ap (λ b. has_type (operand_ty D locals a) t && b) (have_types_is D locals others ts) ∙ step D locals (operand_ty D locals a) (operands_ty D locals others) t ts

-- ---- enums

pub not_enum : (D : List Shape) (trees : List Tree) (ty : Ty) → ((d : ℕ) → ty ≡ Named d → ⊥) → enum_of D (node trees ty) ≡ None
not_enum D trees (Scalar s) h = refl
not_enum D trees (Tuple []) h = refl
not_enum D trees (Tuple (a ∷ others)) h = refl
not_enum D trees (Ref a) h = refl
not_enum D trees (RefMut a) h = refl
not_enum D trees (Named d) h = absurd (h d refl)

pub enum_past : (p : Program) (d : ℕ) → slice_get p.defs d ≡ None → enum_of (shapes p) (named d) ≡ None
enum_past p d h = bind_gone (slice_get (shapes p) d) _ (shape-past p d h)

there : (b : Bool) (s : Shape) → is_some (then_some b s) ≡ b
there true s = refl
there false s = refl

pub enum_at : (p : Program) (d : ℕ) (def : Def) → slice_get p.defs d ≡ Some def → is_some (enum_of (shapes p) (named d)) ≡ def.is_enum
unfolding ◌>>=◌
enum_at p d def h = rw (shape-at p d def h) (there def.is_enum _)

pub discriminant_is : (D : List Shape) (t : Tree) (b : Bool) → is_some (enum_of D t) ≡ b → discriminant_ty D t ≡ then_some b isize_ty
unfolding ◌>>=◌
discriminant_is D t b h = go (enum_of D t) refl
  where
    go : (o : Option Shape) → enum_of D t ≡ o → discriminant_ty D t ≡ then_some b isize_ty
    go None e = let same : false ≡ b = sym (ap is_some e) ∙ h in rw (e, ← same) refl
    go (Some s) e = let same : true ≡ b = sym (ap is_some e) ∙ h in rw (e, ← same) refl

-- ---- what is built

fields_are : (trees : List Tree) (fields : List Field) → map field_ty_of (map (field_of trees) fields) ≡ map (field_tree trees) fields
fields_are trees [] = refl
fields_are trees (f ∷ fields) = ap (λ ts. at_id trees f.ty ∷ ts) (fields_are trees fields)

pub build_past : (p : Program) (o : Option Tree) (d v : ℕ) → slice_get p.defs d ≡ None → (o >>= build_ty (shapes p) d v) ≡ None
build_past p o d v h = bind_dead o _ (λ t. bind_gone (slice_get (shapes p) d) _ (shape-past p d h))

variant_at : (trees : List Tree) (variants : List Variant) (k : ℕ) → slice_get (map fields_tuple (map (variant_of trees) variants)) k ≡ option_map (λ (v : Variant). tuple_of (map (field_tree trees) v.fields)) (slice_get variants k)
variant_at trees [] k = refl
variant_at trees (v ∷ variants) zero = ap (λ ts. Some (tuple_of ts)) (fields_are trees v.fields)
variant_at trees (v ∷ variants) (suc k) = variant_at trees variants k

pub build_absent : (p : Program) (o : Option Tree) (d v : ℕ) (def : Def) → slice_get p.defs d ≡ Some def → slice_get def.variants v ≡ None → (o >>= build_ty (shapes p) d v) ≡ None
build_absent p o d v def h e =
    bind_dead o _ (λ t. some_bind _ (shape-at p d def h) (bind_gone _ _ (variant_at (trees_of p.types) def.variants v ∙ ap (option_map (λ (w : Variant). tuple_of (map (field_tree (trees_of p.types)) w.fields))) e)))

pub build_at : (p : Program) (o : Option Tree) (d v : ℕ) (def : Def) (variant : Variant) (b : Bool) → slice_get p.defs d ≡ Some def → slice_get def.variants v ≡ Some variant
    → has_type o (tuple_of (map (field_tree (trees_of p.types)) variant.fields)) ≡ b → (o >>= build_ty (shapes p) d v) ≡ then_some b (named d)
unfolding ◌>>=◌
build_at p None d v def variant b h e same = rw (← same) refl
build_at p (Some t) d v def variant b h e same =
    let fields = variant_at (trees_of p.types) def.variants v ∙ ap (option_map (λ (w : Variant). tuple_of (map (field_tree (trees_of p.types)) w.fields))) e in
    rw (shape-at p d def h, fields, same) refl

-- ---- how many variants an enum has

pub count_at : (p : Program) (d : ℕ) (def : Def) → slice_get p.defs d ≡ Some def → def.is_enum ≡ true → option_map variant_count (enum_of (shapes p) (named d)) ≡ Some (length def.variants)
unfolding ◌>>=◌
count_at p d def h e = rw (shape-at p d def h, e) (ap Some (length-map (map (variant_of (trees_of p.types)) def.variants) fields_tuple ∙ length-map def.variants (variant_of (trees_of p.types))))

pub count_struct : (p : Program) (d : ℕ) (def : Def) → slice_get p.defs d ≡ Some def → def.is_enum ≡ false → option_map variant_count (enum_of (shapes p) (named d)) ≡ None
unfolding ◌>>=◌
count_struct p d def h e = rw (shape-at p d def h, e) refl
