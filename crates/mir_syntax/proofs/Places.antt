-- Laws of the types of places.
use Rattle.std.proofs.Common.{◌≡◌, ℕ, suc, zero, ◌+◌, ◌<◌, ◌⊎◌, inl, inr, Bool, true, false, cond, List, [], ◌∷◌, map, length, slice_get, Option, Some, None, MatchOption, option_copied, Bor, refl, sym, ap, ◌∙◌, arith}
use Rattle.std.specs.Option.{option_map, unwrap_or}
use Rattle.std.proofs.lemmas.Option.{slice_get-map, slice_get_past, unwrap_or-slice_get}
use Rattle.mir_syntax.specs.declared.types.TyId.{TyId}
use Rattle.mir_syntax.specs.declared.types.ScalarTy.TheVariants as scalar_ty
use Rattle.mir_syntax.specs.declared.types.Ty.{Ty}
use Rattle.mir_syntax.specs.declared.types.Ty.TheVariants.{Scalar, Tuple, Ref, RefMut, Named}
use Rattle.mir_syntax.specs.Table.{IsTable}
use Rattle.mir_syntax.specs.declared.types.Field.{Field}
use Rattle.mir_syntax.specs.declared.types.Variant.{Variant}
use Rattle.mir_syntax.specs.declared.types.Def.{Def}
use Rattle.mir_syntax.specs.declared.body.Proj.{Proj}
use Rattle.mir_syntax.specs.declared.body.Proj.TheVariants as proj
use Rattle.mir_syntax.specs.declared.body.Place.{Place}
use Rattle.mir_syntax.specs.declared.program.Program.{Program}
use Rattle.mir_syntax.specs.Tree.{Tree, scalar, empty, more, ref, ref_mut, named, tuple_of, at_id, at_ids, node, trees_of}
use Rattle.mir_syntax.specs.Crate.{TypedDef, TypedFunction, field_of, variant_of, def_of, crate_of}
use Rattle.mir_syntax.specs.Shapes.{Shape, shapes_of, shapes_from, shape_of, fields_tuple, fields_tree, field_id, field_ty_of, fields_of, first_variant, field_ty, variant_ty, pointee, proj_ty, ends_in_downcast, whole_path_ty, whole_place_ty, path_through, ◌>>=◌}
use Rattle.mir_syntax.proofs.Trees.{length-trees_of, at_id-node}
use Rattle.mir_syntax.proofs.Lists.{slice_get-none}

-- an id past the table stands for a type that has no parts
pub at_id-past : (types : List Ty) (id : TyId) → slice_get types id.0 ≡ None → at_id (trees_of types) id ≡ scalar scalar_ty.Bool
at_id-past types id h =
    let past = slice_get-none types id.0 h in
    let none : slice_get (trees_of types) id.0 ≡ None = slice_get_past (trees_of types) id.0 (omega (arith, length-trees_of types)) in
    sym (unwrap_or-slice_get (trees_of types) id.0 (scalar scalar_ty.Bool)) ∙ ap (λ o. unwrap_or o (scalar scalar_ty.Bool)) none

-- ---- shapes

shapes_from-at : (functions : List TypedFunction) (n : ℕ) (defs : List TypedDef) (d : ℕ) (def : TypedDef) → slice_get defs d ≡ Some def
    → slice_get (shapes_from functions n defs) d ≡ Some (shape_of functions (n + d) def)
shapes_from-at functions n [] d def h = absurd cc
shapes_from-at functions n (x ∷ defs) zero def h =
    let same : x ≡ def = cc in
    let zeroth : n ≡ n + 0 = omega arith in
    ap (λ y. Some (shape_of functions n y)) same ∙ ap (λ m. Some (shape_of functions m def)) zeroth
shapes_from-at functions n (x ∷ defs) (suc d) def h =
    let later : suc n + d ≡ n + suc d = omega arith in
    shapes_from-at functions (suc n) defs d def h ∙ ap (λ m. Some (shape_of functions m def)) later

pub shapes_from-past : (functions : List TypedFunction) (n : ℕ) (defs : List TypedDef) (d : ℕ) → slice_get defs d ≡ None → slice_get (shapes_from functions n defs) d ≡ None
shapes_from-past functions n [] d h = refl
shapes_from-past functions n (x ∷ defs) zero h = absurd cc
shapes_from-past functions n (x ∷ defs) (suc d) h = shapes_from-past functions (suc n) defs d h

-- there are as many shapes as definitions
pub shapes_from-length : (functions : List TypedFunction) (n : ℕ) (defs : List TypedDef) → length (shapes_from functions n defs) ≡ length defs
shapes_from-length functions n [] = refl
shapes_from-length functions n (d ∷ defs) = ap suc (shapes_from-length functions (suc n) defs)

-- the shape of a definition
pub shape-at : (p : Program) (d : ℕ) (def : Def) → slice_get p.defs d ≡ Some def
    → slice_get (shapes_of (crate_of p)) d ≡ Some (shape_of (crate_of p).functions (0 + d) (def_of (trees_of p.types) def))
unfolding shapes_of
shape-at p d def h =
    let c = crate_of p in
    let typed : slice_get c.defs d ≡ Some (def_of (trees_of p.types) def) =
    slice_get-map (def_of (trees_of p.types)) p.defs d ∙ ap (option_map (def_of (trees_of p.types))) h in
    shapes_from-at c.functions 0 c.defs d (def_of (trees_of p.types) def) typed

pub shape-past : (p : Program) (d : ℕ) → slice_get p.defs d ≡ None → slice_get (shapes_of (crate_of p)) d ≡ None
unfolding shapes_of
shape-past p d h =
    let c = crate_of p in
    let typed : slice_get c.defs d ≡ None = slice_get-map (def_of (trees_of p.types)) p.defs d ∙ ap (option_map (def_of (trees_of p.types))) h in
    shapes_from-past c.functions 0 c.defs d typed

-- ---- fields

field_ty-tuple : (ts : List Tree) (i : ℕ) → field_ty (tuple_of ts) i ≡ slice_get ts i
field_ty-tuple [] i = refl
field_ty-tuple (t ∷ ts) zero = refl
field_ty-tuple (t ∷ ts) (suc i) = field_ty-tuple ts i

pub fields_of-tuple : (D : List Shape) (ts : List Tree) → fields_of D (tuple_of ts) ≡ Some (tuple_of ts)
fields_of-tuple D [] = refl
fields_of-tuple D (t ∷ ts) = refl

pub at_ids-tuple : (trees : List Tree) (ids : List TyId) → at_ids trees ids ≡ tuple_of (map (at_id trees) ids)
at_ids-tuple trees [] = refl
at_ids-tuple trees (id ∷ ids) = ap (more (at_id trees id)) (at_ids-tuple trees ids)

-- the type of a field of a tuple type
pub tuple-field : (D : List Shape) (trees : List Tree) (ids : List TyId) (i : ℕ)
    → option_map (at_id trees) (slice_get ids i) ≡ proj_ty D (at_ids trees ids) (proj.Field i)
unfolding ◌>>=◌
tuple-field D trees ids i =
    rw (at_ids-tuple trees ids, fields_of-tuple D (map (at_id trees) ids), field_ty-tuple (map (at_id trees) ids) i) (sym (slice_get-map (at_id trees) ids i))

pub field_ty-fields : (trees : List Tree) (fields : List Field) (i : ℕ) → field_ty (fields_tree trees fields) i ≡ option_map (at_id trees) (option_map field_id (slice_get fields i))
field_ty-fields trees [] i = refl
field_ty-fields trees (f ∷ fields) zero = refl
field_ty-fields trees (f ∷ fields) (suc i) = field_ty-fields trees fields i

-- the type of a field of what has these fields
pub field-of-fields : (D : List Shape) (trees : List Tree) (t : Tree) (fields : List Field) (i : ℕ) → Some (fields_tree trees fields) ≡ fields_of D t
    → option_map (at_id trees) (option_map field_id (slice_get fields i)) ≡ proj_ty D t (proj.Field i)
unfolding ◌>>=◌
field-of-fields D trees t fields i h = rw (← h) (sym (field_ty-fields trees fields i))

pub no-field : (D : List Shape) (t : Tree) (i : ℕ) → None ≡ fields_of D t → proj_ty D t (proj.Field i) ≡ None
unfolding ◌>>=◌
no-field D t i h = rw (← h) refl

cond-none : {A : Type 0} (b : Bool) → ◌≡◌ {A = Option A} (cond b None None) None
cond-none true = refl
cond-none false = refl

first-none : (trees : List Tree) (variants : List Variant) → slice_get variants 0 ≡ None → first_variant (map fields_tuple (map (variant_of trees) variants)) ≡ empty
first-none trees [] h = refl
first-none trees (v ∷ vs) h = absurd cc

first-some : (trees : List Tree) (variants : List Variant) (v : Variant) → slice_get variants 0 ≡ Some v
    → first_variant (map fields_tuple (map (variant_of trees) variants)) ≡ fields_tree trees v.fields
first-some trees [] v h = absurd cc
first-some trees (w ∷ vs) v h = let same : w ≡ v = cc in ap (λ u. fields_tree trees u.fields) same

pub variants_at : (trees : List Tree) (variants : List Variant) (k : ℕ)
    → slice_get (map fields_tuple (map (variant_of trees) variants)) k ≡ option_map (λ v. fields_tree trees v.fields) (slice_get variants k)
variants_at trees [] k = refl
variants_at trees (v ∷ vs) zero = refl
variants_at trees (v ∷ vs) (suc k) = variants_at trees vs k

-- ---- structs and variants

-- the fields of a struct, by what the program holds
pub struct-none : (p : Program) (d : ℕ) → slice_get p.defs d ≡ None → fields_of (shapes_of (crate_of p)) (named d) ≡ None
unfolding ◌>>=◌
struct-none p d h = rw (shape-past p d h) refl

pub struct-enum : (p : Program) (d : ℕ) (def : Def) → slice_get p.defs d ≡ Some def → def.is_enum ≡ true → fields_of (shapes_of (crate_of p)) (named d) ≡ None
unfolding ◌>>=◌
struct-enum p d def h e = rw (shape-at p d def h, e) refl

pub struct-empty : (p : Program) (d : ℕ) (def : Def) → slice_get p.defs d ≡ Some def → def.is_enum ≡ false → slice_get def.variants 0 ≡ None
    → fields_of (shapes_of (crate_of p)) (named d) ≡ Some empty
unfolding ◌>>=◌
struct-empty p d def h e v = rw (shape-at p d def h, e) (ap Some (first-none (trees_of p.types) def.variants v))

pub struct-fields : (p : Program) (d : ℕ) (def : Def) (v : Variant) → slice_get p.defs d ≡ Some def → def.is_enum ≡ false → slice_get def.variants 0 ≡ Some v
    → fields_of (shapes_of (crate_of p)) (named d) ≡ Some (fields_tree (trees_of p.types) v.fields)
unfolding ◌>>=◌
struct-fields p d def v h e first = rw (shape-at p d def h, e) (ap Some (first-some (trees_of p.types) def.variants v first))

-- the fields of a variant
pub variant-none : (p : Program) (d k : ℕ) → slice_get p.defs d ≡ None → variant_ty (shapes_of (crate_of p)) (named d) k ≡ None
unfolding ◌>>=◌
variant-none p d k h = rw (shape-past p d h) refl

pub variant-struct : (p : Program) (d k : ℕ) (def : Def) → slice_get p.defs d ≡ Some def → def.is_enum ≡ false → variant_ty (shapes_of (crate_of p)) (named d) k ≡ None
unfolding ◌>>=◌
variant-struct p d k def h e = rw (shape-at p d def h, e) refl

pub variant-fields : (p : Program) (d k : ℕ) (def : Def) → slice_get p.defs d ≡ Some def → def.is_enum ≡ true
    → variant_ty (shapes_of (crate_of p)) (named d) k ≡ option_map (λ v. fields_tree (trees_of p.types) v.fields) (slice_get def.variants k)
unfolding ◌>>=◌
variant-fields p d k def h e = rw (shape-at p d def h, e) (variants_at (trees_of p.types) def.variants k)

go-variant : (p : Program) (d k : ℕ) (def : Def) (o : Option Variant) → slice_get p.defs d ≡ Some def → def.is_enum ≡ true → slice_get def.variants k ≡ o
    → (variant_ty (shapes_of (crate_of p)) (named d) k ≡ None) ⊎ ((ts : List Tree) × (variant_ty (shapes_of (crate_of p)) (named d) k ≡ Some (tuple_of ts)))
go-variant p d k def None h e v = inl (variant-fields p d k def h e ∙ ap (option_map (λ v. fields_tree (trees_of p.types) v.fields)) v)
go-variant p d k def (Some variant) h e v =
    inr (map field_ty_of (map (field_of (trees_of p.types)) variant.fields), variant-fields p d k def h e ∙ ap (option_map (λ v. fields_tree (trees_of p.types) v.fields)) v)

go-enum : (p : Program) (d k : ℕ) (def : Def) (b : Bool) → slice_get p.defs d ≡ Some def → def.is_enum ≡ b
    → (variant_ty (shapes_of (crate_of p)) (named d) k ≡ None) ⊎ ((ts : List Tree) × (variant_ty (shapes_of (crate_of p)) (named d) k ≡ Some (tuple_of ts)))
go-enum p d k def true h e = go-variant p d k def (slice_get def.variants k) h e refl
go-enum p d k def false h e = inl (variant-struct p d k def h e)

go-def : (p : Program) (d k : ℕ) (o : Option Def) → slice_get p.defs d ≡ o
    → (variant_ty (shapes_of (crate_of p)) (named d) k ≡ None) ⊎ ((ts : List Tree) × (variant_ty (shapes_of (crate_of p)) (named d) k ≡ Some (tuple_of ts)))
go-def p d k None h = inl (variant-none p d k h)
go-def p d k (Some def) h = go-enum p d k def def.is_enum h refl

-- ---- a path with its first projection taken off

-- a deref, or a field, goes on from the type that it gives
pub path-on : (D : List Shape) (t u : Tree) (p : Proj) (ps : List Proj) → ends_in_downcast (p ∷ ps) ≡ ends_in_downcast ps → proj_ty D t p ≡ Some u
    → whole_path_ty D t (p ∷ ps) ≡ whole_path_ty D u ps
unfolding ◌>>=◌ whole_path_ty
path-on D t u p ps ends h = rw (ends, h) refl

pub path-none : (D : List Shape) (t : Tree) (p : Proj) (ps : List Proj) → proj_ty D t p ≡ None → whole_path_ty D t (p ∷ ps) ≡ None
unfolding ◌>>=◌ whole_path_ty
path-none D t p ps h = rw h (cond-none (ends_in_downcast (p ∷ ps)))

-- what comes after a deref or a field decides how the path ends
pub ends-deref : (ps : List Proj) → ends_in_downcast (proj.Deref ∷ ps) ≡ ends_in_downcast ps
ends-deref [] = refl
ends-deref (p ∷ ps) = refl

pub ends-field : (i : ℕ) (ps : List Proj) → ends_in_downcast (proj.Field i ∷ ps) ≡ ends_in_downcast ps
ends-field i [] = refl
ends-field i (p ∷ ps) = refl

-- a downcast and the field behind it
pub path-variant : (D : List Shape) (trees : List Tree) (t : Tree) (k i : ℕ) (fields : List Field) (u : Tree) (ps : List Proj) → variant_ty D t k ≡ Some (fields_tree trees fields)
    → option_map (at_id trees) (option_map field_id (slice_get fields i)) ≡ Some u
    → whole_path_ty D t (proj.Downcast k ∷ proj.Field i ∷ ps) ≡ whole_path_ty D u ps
unfolding ◌>>=◌ whole_path_ty
path-variant D trees t k i fields u ps h f =
    let whole = fields_of-tuple D (map field_ty_of (map (field_of trees) fields)) in
    rw (ends-field i ps, h, whole, field_ty-fields trees fields i, f) refl

pub path-variant-none : (D : List Shape) (trees : List Tree) (t : Tree) (k i : ℕ) (fields : List Field) (ps : List Proj) → variant_ty D t k ≡ Some (fields_tree trees fields)
    → option_map (at_id trees) (option_map field_id (slice_get fields i)) ≡ None
    → whole_path_ty D t (proj.Downcast k ∷ proj.Field i ∷ ps) ≡ None
unfolding ◌>>=◌ whole_path_ty
path-variant-none D trees t k i fields ps h f =
    let whole = fields_of-tuple D (map field_ty_of (map (field_of trees) fields)) in
    rw (h, whole, field_ty-fields trees fields i, f) (cond-none (ends_in_downcast (proj.Downcast k ∷ proj.Field i ∷ ps)))

-- ---- what the code reads

pub ty-read : (types : List Ty) (id : TyId) (result : Option (Bor Ty)) → IsTable types → option_copied result ≡ slice_get types id.0
    → MatchOption result (at_id (trees_of types) id ≡ scalar scalar_ty.Bool) (λ ty. at_id (trees_of types) id ≡ node (trees_of types) ty.now)
ty-read types id None table h = at_id-past types id (sym h)
ty-read types id (Some ty) table h = at_id-node types id ty.now table (sym h)

pub scalar-field : (D : List Shape) (t : Tree) (i : ℕ) → t ≡ scalar scalar_ty.Bool → proj_ty D t (proj.Field i) ≡ None
unfolding ◌>>=◌
scalar-field D t i h = rw h refl

pub other-field : (D : List Shape) (trees : List Tree) (ty : Ty) (i : ℕ) → ((ids : List TyId) → ty ≡ Tuple ids → ⊥) → ((d : ℕ) → ty ≡ Named d → ⊥)
    → proj_ty D (node trees ty) (proj.Field i) ≡ None
unfolding ◌>>=◌
other-field D trees (Scalar s) i tuple name = refl
other-field D trees (Tuple ids) i tuple name = absurd (tuple ids refl)
other-field D trees (Ref a) i tuple name = refl
other-field D trees (RefMut a) i tuple name = refl
other-field D trees (Named d) i tuple name = absurd (name d refl)

pub other-pointee : (trees : List Tree) (ty : Ty) → ((a : TyId) → ty ≡ Ref a → ⊥) → ((a : TyId) → ty ≡ RefMut a → ⊥) → pointee (node trees ty) ≡ None
other-pointee trees (Scalar s) r m = refl
other-pointee trees (Tuple []) r m = refl
other-pointee trees (Tuple (a ∷ ids)) r m = refl
other-pointee trees (Ref a) r m = absurd (r a refl)
other-pointee trees (RefMut a) r m = absurd (m a refl)
other-pointee trees (Named d) r m = refl

pub other-variant : (D : List Shape) (trees : List Tree) (ty : Ty) (k : ℕ) → ((d : ℕ) → ty ≡ Named d → ⊥) → variant_ty D (node trees ty) k ≡ None
other-variant D trees (Scalar s) k name = refl
other-variant D trees (Tuple []) k name = refl
other-variant D trees (Tuple (a ∷ ids)) k name = refl
other-variant D trees (Ref a) k name = refl
other-variant D trees (RefMut a) k name = refl
other-variant D trees (Named d) k name = absurd (name d refl)

-- what stands after a downcast of a program's type: nothing, or the tuple of a variant's fields
pub variant-is : (p : Program) (t : Tree) (k : ℕ)
    → (variant_ty (shapes_of (crate_of p)) t k ≡ None) ⊎ ((ts : List Tree) × (variant_ty (shapes_of (crate_of p)) t k ≡ Some (tuple_of ts)))
variant-is p (scalar s) k = inl refl
variant-is p empty k = inl refl
variant-is p (more t ts) k = inl refl
variant-is p (ref t) k = inl refl
variant-is p (ref_mut t) k = inl refl
variant-is p (named d) k = go-def p d k (slice_get p.defs d) refl

pointee-tuple : (ts : List Tree) → pointee (tuple_of ts) ≡ None
pointee-tuple [] = refl
pointee-tuple (t ∷ ts) = refl

variant-tuple : (D : List Shape) (ts : List Tree) (k : ℕ) → variant_ty D (tuple_of ts) k ≡ None
variant-tuple D [] k = refl
variant-tuple D (t ∷ ts) k = refl

-- a downcast with no field behind it ends a path that has no type
pub path-downcast : (p : Program) (t : Tree) (k : ℕ) (rest : List Proj) → ((i : ℕ) (ps : List Proj) → rest ≡ proj.Field i ∷ ps → ⊥)
    → whole_path_ty (shapes_of (crate_of p)) t (proj.Downcast k ∷ rest) ≡ None
unfolding ◌>>=◌ whole_path_ty
path-downcast p t k [] other = refl
path-downcast p t k (proj.Field i ∷ ps) other = absurd (other i ps refl)
path-downcast p t k (proj.Deref ∷ ps) other =
    let ends = ends_in_downcast (proj.Downcast k ∷ proj.Deref ∷ ps) in
    elim (variant-is p t k) [ inl none ↦ rw none (cond-none ends) | inr some ↦ rw (some.1, pointee-tuple some.0) (cond-none ends) ]
path-downcast p t k (proj.Downcast j ∷ ps) other =
    let ends = ends_in_downcast (proj.Downcast k ∷ proj.Downcast j ∷ ps) in
    elim (variant-is p t k) [ inl none ↦ rw none (cond-none ends) | inr some ↦ rw (some.1, variant-tuple (shapes_of (crate_of p)) some.0 j) (cond-none ends) ]

-- ---- places

pub path-end : (D : List Shape) (t : Tree) (ps : List Proj) → length ps < 1 → whole_path_ty D t ps ≡ Some t
unfolding whole_path_ty
path-end D t [] h = refl
path-end D t (p ∷ ps) h = absurd (omega arith)

pub place-none : (D : List Shape) (trees : List Tree) (locals : List TyId) (p : Place) → slice_get locals p.local ≡ None → whole_place_ty D (map (at_id trees) locals) p ≡ None
unfolding ◌>>=◌
place-none D trees locals p h = rw (slice_get-map (at_id trees) locals p.local, h) refl

pub place-some : (D : List Shape) (trees : List Tree) (locals : List TyId) (p : Place) (id : TyId) → slice_get locals p.local ≡ Some id
    → whole_place_ty D (map (at_id trees) locals) p ≡ whole_path_ty D (at_id trees id) p.proj
unfolding ◌>>=◌
place-some D trees locals p id h = rw (slice_get-map (at_id trees) locals p.local, h) refl

-- ---- destructors on the way

-- where a path has no type it goes through no destructor
pub through_none : (D : List Shape) (ps : List Proj) → path_through D None ps ≡ false
through_none D [] = refl
through_none D (p ∷ ps) = refl

tuple-through : (D : List Shape) (ts : List Tree) (p : Proj) (ps : List Proj) → path_through D (Some (tuple_of ts)) (p ∷ ps) ≡ path_through D (proj_ty D (tuple_of ts) p) ps
tuple-through D [] p ps = refl
tuple-through D (t ∷ ts) p ps = refl

-- what stands after a downcast has no destructor, so a path that goes on without a field goes through none
pub through-downcast : (p : Program) (t : Tree) (k : ℕ) (rest : List Proj) → ((i : ℕ) (ps : List Proj) → rest ≡ proj.Field i ∷ ps → ⊥)
    → path_through (shapes_of (crate_of p)) (variant_ty (shapes_of (crate_of p)) t k) rest ≡ false
through-downcast p t k rest other = elim (variant-is p t k) [
  | inl none ↦ ap (λ o. path_through (shapes_of (crate_of p)) o rest) none ∙ through_none (shapes_of (crate_of p)) rest
  | inr some ↦ ap (λ o. path_through (shapes_of (crate_of p)) o rest) some.1 ∙ beside (shapes_of (crate_of p)) some.0 rest other
]
  where
    beside : (D : List Shape) (ts : List Tree) (rest : List Proj) → ((i : ℕ) (ps : List Proj) → rest ≡ proj.Field i ∷ ps → ⊥) → path_through D (Some (tuple_of ts)) rest ≡ false
    beside D ts [] other = refl
    beside D ts (proj.Field i ∷ ps) other = absurd (other i ps refl)
    beside D ts (proj.Deref ∷ ps) other = tuple-through D ts proj.Deref ps ∙ ap (λ o. path_through D o ps) (pointee-tuple ts) ∙ through_none D ps
    beside D ts (proj.Downcast j ∷ ps) other = tuple-through D ts (proj.Downcast j) ps ∙ ap (λ o. path_through D o ps) (variant-tuple D ts j) ∙ through_none D ps

-- with a field it goes on from the field's type
pub through-variant : (D : List Shape) (trees : List Tree) (t : Tree) (k i : ℕ) (fields : List Field) (o : Option Tree) (ps : List Proj) → variant_ty D t k ≡ Some (fields_tree trees fields)
    → option_map (at_id trees) (option_map field_id (slice_get fields i)) ≡ o
    → path_through D (variant_ty D t k) (proj.Field i ∷ ps) ≡ path_through D o ps
unfolding ◌>>=◌
through-variant D trees t k i fields o ps h f =
    let ts = map field_ty_of (map (field_of trees) fields) in
    let field : proj_ty D (tuple_of ts) (proj.Field i) ≡ o = rw (fields_of-tuple D ts, field_ty-fields trees fields i, f) refl in
    ap (λ o. path_through D o (proj.Field i ∷ ps)) h ∙ tuple-through D ts (proj.Field i) ps ∙ ap (λ o. path_through D o ps) field
