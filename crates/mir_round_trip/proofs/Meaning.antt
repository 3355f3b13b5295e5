-- What the names of a crate's canonical text mean, and the byte strings that are read back in it.
use Rattle.mir_round_trip.specs.Bodies.{plain_shapes}
use Rattle.std.proofs.Common.{◌≡◌, ◌<◌, ℕ, zero, suc, Bool, true, List, [], ◌∷◌, ◌++◌, length, refl, ap, Option, Some, is_some, slice_get}
use Rattle.mir_syntax.specs.declared.body.Proj.{Proj}
use Rattle.mir_syntax.specs.declared.body.Proj.TheVariants.{Field, Downcast, Deref}
use Rattle.mir_syntax.specs.Tree.{Tree, scalar, empty, more, ref, ref_mut, named}
use Rattle.mir_syntax.specs.Crate.{TypedDef, TypedFunction, Crate}
use Rattle.mir_syntax.specs.Shapes.{shapes_from, shapes_of, ◌>>=◌, proj_ty, fields_of, fields_of_struct, variant_ty, variant_of_enum, field_ty}
use Rattle.mir_text.specs.Grammar.{AllOf}
use Rattle.mir_text.specs.Names.{Strings}
use Rattle.mir_text.specs.NameFaults.{unless, field_names}
use Rattle.mir_text.specs.TypeText.{def_at}
use Rattle.mir_text.specs.PlaceText.{variant_at}
use Rattle.mir_text.specs.TermText.{function_paths, outside_paths}
use Rattle.mir_round_trip.proofs.Paths.{path_names, Back}
use Rattle.mir_round_trip.proofs.Types.{PathsBack}

-- the byte strings of definitions and headers are read back by their numbers
pub record Kept (c : Crate) (strings : Strings) : Type 0 where
  pub paths : PathsBack c strings
  pub variants : (d k : ℕ) → d < length c.defs → k < length (def_at c d).variants → (def_at c d).is_enum ≡ true → Back strings (variant_at c d k).name
  pub fields : (d k : ℕ) → d < length c.defs → k < length (def_at c d).variants → AllOf (Back strings) (field_names (variant_at c d k).fields)
  pub functions : AllOf (λ path. AllOf (Back strings) (path_names path)) (function_paths c.functions)
  pub outsides : AllOf (λ path. AllOf (Back strings) (path_names path)) (outside_paths c.outsides)

-- ---- no fault

pub met : (b : Bool) (code : ℕ) → b ≡ true → unless b code ≡ []
met b code h = rw h refl

pub some-there : {A : Type 0} (o : Option A) (a : A) → o ≡ Some a → is_some o ≡ true
some-there o a h = ap is_some h

-- ---- destructors don't change the types of places

-- the variants of a shape at a number, whatever the destructors are
struct-same : (fs : List TypedFunction) (k n : ℕ) (defs : List TypedDef) → (slice_get (shapes_from fs k defs) n >>= fields_of_struct) ≡ (slice_get (shapes_from [] k defs) n >>= fields_of_struct)
unfolding ◌>>=◌
struct-same fs k n [] = refl
struct-same fs k zero (d ∷ ds) = refl
struct-same fs k (suc n) (d ∷ ds) = struct-same fs (suc k) n ds

enum-same : (fs : List TypedFunction) (v k n : ℕ) (defs : List TypedDef) → (slice_get (shapes_from fs k defs) n >>= variant_of_enum v) ≡ (slice_get (shapes_from [] k defs) n >>= variant_of_enum v)
unfolding ◌>>=◌
enum-same fs v k n [] = refl
enum-same fs v k zero (d ∷ ds) = refl
enum-same fs v k (suc n) (d ∷ ds) = enum-same fs v (suc k) n ds

fields-same : (c : Crate) (t : Tree) → fields_of (shapes_of c) t ≡ fields_of (plain_shapes c) t
unfolding shapes_of
fields-same c (scalar x) = refl
fields-same c empty = refl
fields-same c (more t ts) = refl
fields-same c (ref t) = refl
fields-same c (ref_mut t) = refl
fields-same c (named d) = struct-same c.functions 0 d c.defs

variant-same : (c : Crate) (t : Tree) (k : ℕ) → variant_ty (shapes_of c) t k ≡ variant_ty (plain_shapes c) t k
unfolding shapes_of
variant-same c (scalar x) k = refl
variant-same c empty k = refl
variant-same c (more t ts) k = refl
variant-same c (ref t) k = refl
variant-same c (ref_mut t) k = refl
variant-same c (named d) k = enum-same c.functions k 0 d c.defs

pub proj-same : (c : Crate) (t : Tree) (p : Proj) → proj_ty (shapes_of c) t p ≡ proj_ty (plain_shapes c) t p
proj-same c t (Field n) = ap (λ o. o >>= λ u. field_ty u n) (fields-same c t)
proj-same c t (Downcast k) = variant-same c t k
proj-same c t Deref = refl
