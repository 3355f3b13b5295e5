-- Variants by their places, and what is read of them.
use Rattle.std.proofs.Common.{◌≡◌, ◌∙◌, refl, sym, ap, ℕ, zero, suc, ◌+◌, ◌-◌, true, false, List, [], ◌∷◌, ◌++◌, map, take, drop, append_assoc, slice_get, length, Some, None, arith, rules, subst, IsTrue, ◌<◌, ℤ}
use Rattle.std.proofs.lemmas.List.{map-append, take-append-drop}
use Rattle.mir_syntax.specs.Table.{all_below}
use Rattle.mir_syntax.specs.declared.types.TyId.{TyId}
use Rattle.mir_syntax.specs.declared.types.Field.{Field}
use Rattle.mir_meaning.specs.declared.datum.Datum.{Datum}
use Rattle.mir_meaning.specs.Views.{value_of, fields_of}
use Rattle.std.specs.Option.{option_map}
use Rattle.mir_syntax.specs.declared.types.Variant.{Variant}
use Rattle.mir_syntax.specs.declared.types.Def.{Def}
use Rattle.mir_syntax.specs.declared.program.Program.{Program}
use Rattle.mir_syntax.specs.Tree.{Tree, more, at_id, at_ids, trees_of}
use Rattle.mir_syntax.specs.Crate.{variant_of}
use Rattle.mir_syntax.specs.Shapes.{Shape, ◌>>=◌, fields_tree, fields_tuple, first_variant}
use Rattle.mir_syntax.proofs.Places.{shape-at, shape-past, variants_at}
use Rattle.mir_semantics.specs.Values.{Value, cons, listed}
use Rattle.mir_meaning.specs.Programs.{shapes_in}
use Rattle.mir_meaning.proofs.Blanks.{depth_enough}
use Rattle.mir_meaning.proofs.Walks.{take_at}
use Rattle.mir_entry.specs.Readings.{Reading, read_by, read_of, read_def, read_variant, reading, behind, in_front, small_natural, numbered, with_number, variant_named}
use Rattle.mir_entry.proofs.Finding.{found_there}

pub named_some : (trees : List Tree) (variants : List Variant) (i : ℤ) (k : ℕ) (v : Variant) (fs : List Field) → Some k ≡ small_natural i → slice_get variants k ≡ Some v → fs ≡ v.fields
    → Some (k, fields_tree trees fs) ≡ variant_named (map fields_tuple (map (variant_of trees) variants)) i
named_some trees variants i k v fs h there e =
    let ts = map fields_tuple (map (variant_of trees) variants) in
    ap (λ x. Some (k, fields_tree trees x)) e
    ∙ sym (ap (numbered ts) (sym h) ∙ ap (with_number k) (variants_at trees variants k ∙ ap (option_map (λ w. fields_tree trees w.fields)) there))

pub named_none : (trees : List Tree) (variants : List Variant) (i : ℤ) (k : ℕ) → Some k ≡ small_natural i → slice_get variants k ≡ None
    → None ≡ variant_named (map fields_tuple (map (variant_of trees) variants)) i
named_none trees variants i k h there =
    let ts = map fields_tuple (map (variant_of trees) variants) in
    sym (ap (numbered ts) (sym h) ∙ ap (with_number k) (variants_at trees variants k ∙ ap (option_map (λ w. fields_tree trees w.fields)) there))

-- ---- definitions

pub read_last : (D : List Shape) (n d : ℕ) (is : List ℤ) → n ≡ 0 → None ≡ read_def D n d is
read_last D zero d is h = refl
read_last D (suc n) d is h = absurd (omega arith)

pub read_past : (p : Program) (n d : ℕ) (is : List ℤ) → slice_get p.defs d ≡ None → None ≡ read_def (shapes_in p) n d is
read_past p zero d is h = refl
read_past p (suc n) d is h = sym (ap (λ o. read_of (read_def (shapes_in p) n) o is) (shape-past p d h))

pub read_enum : (p : Program) (n d : ℕ) (def : Def) (is : List ℤ) → (n ≡ 0 → ⊥) → slice_get p.defs d ≡ Some def → def.is_enum ≡ true
    → read_variant (read_def (shapes_in p) (n - 1)) (map fields_tuple (map (variant_of (trees_of p.types)) def.variants)) is ≡ read_def (shapes_in p) n d is
read_enum p zero d def is some h e = absurd (some refl)
read_enum p (suc n) d def is some h e =
    let one : suc n - 1 ≡ n = omega arith in
    rw one (sym (ap (λ o. read_of (read_def (shapes_in p) n) o is) (shape-at p d def h) ∙ rw e refl))

pub read_struct : (p : Program) (n d : ℕ) (def : Def) (is : List ℤ) → (n ≡ 0 → ⊥) → slice_get p.defs d ≡ Some def → def.is_enum ≡ false
    → read_by (read_def (shapes_in p) (n - 1)) (first_variant (map fields_tuple (map (variant_of (trees_of p.types)) def.variants))) is ≡ read_def (shapes_in p) n d is
read_struct p zero d def is some h e = absurd (some refl)
read_struct p (suc n) d def is some h e =
    let one : suc n - 1 ≡ n = omega arith in
    rw one (sym (ap (λ o. read_of (read_def (shapes_in p) n) o is) (shape-at p d def h) ∙ rw e refl))

-- ---- values one after the other

front_push : (vs : List Value) (v w : Value) → in_front (vs ++ v ∷ []) w ≡ in_front vs (cons v w)
front_push [] v w = refl
front_push (x ∷ vs) v w = ap (cons x) (front_push vs v w)

front_all : (vs : List Value) → in_front vs (listed []) ≡ listed vs
front_all [] = refl
front_all (v ∷ vs) = ap (cons v) (front_all vs)

-- one more value is read
pub read_on : (f : ℕ → List ℤ → Reading) (t ts : Tree) (vs : List Value) (v : Value) (is rest : List ℤ) → read_by f t is ≡ Some (v, rest) → behind (vs ++ v ∷ []) (read_by f ts rest) ≡ behind vs (read_by f (more t ts) is)
unfolding ◌>>=◌
read_on f t ts vs v is rest e = rw e (go (read_by f ts rest))
  where
    go : (r : Reading) → behind (vs ++ v ∷ []) r ≡ behind vs (r >>= λ y. Some (cons v y.0, y.1))
    go None = refl
    go (Some y) = ap (λ w. Some (w, y.1)) (front_push vs v y.0)

-- none is read
pub read_stop : (f : ℕ → List ℤ → Reading) (t ts : Tree) (vs : List Value) (is : List ℤ) → read_by f t is ≡ None → behind vs (read_by f (more t ts) is) ≡ None
unfolding ◌>>=◌
read_stop f t ts vs is e = rw e refl

-- all are read
pub read_done : (vs : List Value) (is : List ℤ) → behind vs (Some (listed [], is)) ≡ Some (listed vs, is)
read_done vs is = ap (λ w. Some (w, is)) (front_all vs)

-- ---- what the loops keep

pub fields_pushed : (f : ℕ → List ℤ → Reading) (trees : List Tree) (fields others : List Field) (x : Field) (values new : List Datum) (value : Datum) (is rest : List ℤ)
    → fields ≡ x ∷ others → Some (value_of value, rest) ≡ read_by f (at_id trees x.ty) is → new ≡ values ++ value ∷ []
    → behind (map value_of new) (read_by f (fields_tree trees others) rest) ≡ behind (map value_of values) (read_by f (fields_tree trees fields) is)
fields_pushed f trees fields others x values new value is rest e h pushed =
    ap (λ ns. behind (map value_of ns) (read_by f (fields_tree trees others) rest)) pushed
    ∙ ap (λ vs. behind vs (read_by f (fields_tree trees others) rest)) (map-append value_of values (value ∷ []))
    ∙ read_on f (at_id trees x.ty) (fields_tree trees others) (map value_of values) (value_of value) is rest (sym h)
    ∙ ap (λ fs. behind (map value_of values) (read_by f (fields_tree trees fs) is)) (sym e)

pub ids_pushed : (f : ℕ → List ℤ → Reading) (trees : List Tree) (ids others : List TyId) (x : TyId) (values new : List Datum) (value : Datum) (is rest : List ℤ)
    → ids ≡ x ∷ others → Some (value_of value, rest) ≡ read_by f (at_id trees x) is → new ≡ values ++ value ∷ []
    → behind (map value_of new) (read_by f (at_ids trees others) rest) ≡ behind (map value_of values) (read_by f (at_ids trees ids) is)
ids_pushed f trees ids others x values new value is rest e h pushed =
    ap (λ ns. behind (map value_of ns) (read_by f (at_ids trees others) rest)) pushed
    ∙ ap (λ vs. behind vs (read_by f (at_ids trees others) rest)) (map-append value_of values (value ∷ []))
    ∙ read_on f (at_id trees x) (at_ids trees others) (map value_of values) (value_of value) is rest (sym h)
    ∙ ap (λ xs. behind (map value_of values) (read_by f (at_ids trees xs) is)) (sym e)

pub fields_done : (f : ℕ → List ℤ → Reading) (trees : List Tree) (fields : List Field) (values : List Datum) (is : List ℤ) (whole : Reading)
    → fields ≡ [] → behind (map value_of values) (read_by f (fields_tree trees fields) is) ≡ whole → Some (fields_of values, is) ≡ whole
fields_done f trees fields values is whole e h =
    sym (read_done (map value_of values) is) ∙ ap (λ fs. behind (map value_of values) (read_by f (fields_tree trees fs) is)) (sym e) ∙ h

pub ids_done : (f : ℕ → List ℤ → Reading) (trees : List Tree) (ids : List TyId) (values : List Datum) (is : List ℤ) (whole : Reading)
    → ids ≡ [] → behind (map value_of values) (read_by f (at_ids trees ids) is) ≡ whole → Some (fields_of values, is) ≡ whole
ids_done f trees ids values is whole e h =
    sym (read_done (map value_of values) is) ∙ ap (λ xs. behind (map value_of values) (read_by f (at_ids trees xs) is)) (sym e) ∙ h

pub ids_stopped : (f : ℕ → List ℤ → Reading) (trees : List Tree) (ids others : List TyId) (x : TyId) (values : List Datum) (is : List ℤ) (whole : Reading)
    → ids ≡ x ∷ others → None ≡ read_by f (at_id trees x) is → behind (map value_of values) (read_by f (at_ids trees ids) is) ≡ whole → None ≡ whole
ids_stopped f trees ids others x values is whole e h kept =
    sym (read_stop f (at_id trees x) (at_ids trees others) (map value_of values) is (sym h)) ∙ ap (λ xs. behind (map value_of values) (read_by f (at_ids trees xs) is)) (sym e) ∙ kept

-- the types that were read, and those that are left
pub ids_read : (ids left others tail : List TyId) (n : ℕ) (x : TyId) → left ≡ drop n ids → left ≡ x ∷ others → take n ids ++ x ∷ tail ≡ take (n + 1) ids ++ tail
ids_read ids left others tail n x h e =
    let one = take_at ids n x (sym (found_there ids left others n x h e)) in
    sym (ap (λ xs. xs ++ tail) one ∙ append_assoc (take n ids) (x ∷ []) tail)

pub ids_whole : (ids left : List TyId) (n : ℕ) → left ≡ drop n ids → take n ids ++ left ≡ ids
ids_whole ids left n h = ap (λ xs. take n ids ++ xs) h ∙ take-append-drop n ids

pub below_rest : (n : ℕ) (ids others : List TyId) (x : TyId) → ids ≡ x ∷ others → IsTrue (all_below n ids) → IsTrue (all_below n others)
below_rest n ids others x e h =
    let whole : IsTrue (all_below n (x ∷ others)) = subst (λ xs. IsTrue (all_below n xs)) e h in
    let both : (x.0 < n) × IsTrue (all_below n others) = search rules in
    both.1

-- ---- at the depth of all definitions

pub reading_in : (p : Program) (t : Tree) (n : ℕ) (is : List ℤ) (r : Reading) → n ≡ length p.defs → r ≡ read_by (read_def (shapes_in p) n) t is → r ≡ reading (shapes_in p) t is
unfolding reading
reading_in p t n is r e h = h ∙ ap (λ m. read_by (read_def (shapes_in p) m) t is) (e ∙ depth_enough p)
