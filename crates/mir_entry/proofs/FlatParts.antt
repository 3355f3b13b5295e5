-- The flat form of the parts of a value, one after another.
use Rattle.std.proofs.Common.{◌≡◌, ◌∙◌, refl, sym, ap, ℕ, suc, nat_eq, Bool, true, false, List, [], ◌∷◌, ◌++◌, map, length, Option, Some, None, ℤ, append_assoc, arith}
use Rattle.std.proofs.lemmas.List.{append-nil, map-append}
use Rattle.mir_syntax.specs.declared.types.ScalarTy.{ScalarTy}
use Rattle.mir_syntax.specs.declared.number.Number.{Number}
use Rattle.mir_num.specs.Numbers.{integer_of}
use Rattle.mir_semantics.specs.Step.{number_in, scalar_in, variant_in}
use Rattle.mir_machine.specs.Ends.{integer_in}
use Rattle.mir_syntax.specs.declared.types.TyId.{TyId}
use Rattle.mir_syntax.specs.declared.types.Field.{Field}
use Rattle.mir_syntax.specs.Tree.{Tree, scalar, empty, more, ref, ref_mut, named, at_id, at_ids}
use Rattle.mir_syntax.specs.Shapes.{◌>>=◌, fields_tree}
use Rattle.mir_semantics.specs.Values.{Value, number, nil, cons, variant, pointer, hole, listed}
use Rattle.mir_semantics.specs.Entry.{both, flat_by}
use Rattle.mir_meaning.specs.declared.datum.Datum.{Datum}
use Rattle.mir_meaning.specs.declared.datum.Datum.{Parts}
use Rattle.mir_meaning.specs.Views.{value_of, fields_of}
use Rattle.mir_meaning.proofs.Values.{view_parts}
use Rattle.mir_entry.specs.Pushed.{pushed, is_listed}

pub flat_next : (f : ℕ → Value → Option (List ℤ)) (t ts : Tree) (v vs : Value) (a b : List ℤ) → both (Some a) (flat_by f t v) ≡ Some b → both (Some a) (flat_by f (more t ts) (cons v vs)) ≡ both (Some b) (flat_by f ts vs)
unfolding ◌>>=◌
flat_next f t ts v vs a b e = go (flat_by f t v) (flat_by f ts vs) e
  where
    go : (x y : Option (List ℤ)) → both (Some a) x ≡ Some b → both (Some a) (both x y) ≡ both (Some b) y
    go None y h = absurd cc
    go (Some x) None h = refl
    go (Some x) (Some y) h = let same : a ++ x ≡ b = cc in ap Some (sym (append_assoc a x y) ∙ ap (λ l. l ++ y) same)

pub flat_stop : (f : ℕ → Value → Option (List ℤ)) (t ts : Tree) (v vs : Value) (a : List ℤ) → both (Some a) (flat_by f t v) ≡ None → both (Some a) (flat_by f (more t ts) (cons v vs)) ≡ None
unfolding ◌>>=◌
flat_stop f t ts v vs a e = go (flat_by f t v) (flat_by f ts vs) e
  where
    go : (x y : Option (List ℤ)) → both (Some a) x ≡ None → both (Some a) (both x y) ≡ None
    go None y h = refl
    go (Some x) y h = absurd cc

pub flat_short : (f : ℕ → Value → Option (List ℤ)) (t ts : Tree) (a : List ℤ) → both (Some a) (flat_by f (more t ts) nil) ≡ None
unfolding ◌>>=◌
flat_short f t ts a = refl

pub flat_over : (f : ℕ → Value → Option (List ℤ)) (v vs : Value) (a : List ℤ) → both (Some a) (flat_by f empty (cons v vs)) ≡ None
unfolding ◌>>=◌
flat_over f v vs a = refl

pub flat_done : (f : ℕ → Value → Option (List ℤ)) (a : List ℤ) → both (Some a) (flat_by f empty nil) ≡ Some a
unfolding ◌>>=◌
flat_done f a = ap Some (append-nil a)

number_is : (v : Value) (n : ℕ) → Some n ≡ number_in v → v ≡ number n
number_is (number m) n h = let same : n ≡ m = cc in ap number (sym same)
number_is nil n h = absurd cc
number_is (cons v vs) n h = absurd cc
number_is (variant k v) n h = absurd cc
number_is (pointer a) n h = absurd cc
number_is hole n h = absurd cc

no_number : (f : ℕ → Value → Option (List ℤ)) (s : ScalarTy) (v : Value) → None ≡ number_in v → flat_by f (scalar s) v ≡ None
no_number f s (number m) h = absurd cc
no_number f s nil h = refl
no_number f s (cons v vs) h = refl
no_number f s (variant k v) h = refl
no_number f s (pointer a) h = refl
no_number f s hole h = refl

pub scalar_pushed : (f : ℕ → Value → Option (List ℤ)) (s : ScalarTy) (v : Value) (n : ℕ) (x : Number) (old new : List Number) → Some n ≡ number_in v → integer_in x ≡ integer_of s n → new ≡ old ++ x ∷ [] → both (Some (map integer_in old)) (flat_by f (scalar s) v) ≡ Some (map integer_in new)
unfolding ◌>>=◌
scalar_pushed f s v n x old new h shown e = rw (number_is v n h, e, ← shown) (ap Some (sym (map-append integer_in old (x ∷ []))))

pub scalar_none : (f : ℕ → Value → Option (List ℤ)) (s : ScalarTy) (v : Value) (a : List ℤ) → None ≡ number_in v → both (Some a) (flat_by f (scalar s) v) ≡ None
unfolding ◌>>=◌
scalar_none f s v a h = rw (no_number f s v h) refl

-- ---- values that have none

pub both_none : (a : List ℤ) (x : Option (List ℤ)) → x ≡ None → both (Some a) x ≡ None
unfolding ◌>>=◌
both_none a x e = rw e refl

pub flat_ref : (f : ℕ → Value → Option (List ℤ)) (t u : Tree) (v : Value) (a : List ℤ) → t ≡ ref u → both (Some a) (flat_by f t v) ≡ None
flat_ref f t u v a e = both_none a (flat_by f t v) (rw e refl)

pub flat_ref_mut : (f : ℕ → Value → Option (List ℤ)) (t u : Tree) (v : Value) (a : List ℤ) → t ≡ ref_mut u → both (Some a) (flat_by f t v) ≡ None
flat_ref_mut f t u v a e = both_none a (flat_by f t v) (rw e refl)

pub no_scalar : (t : Tree) (s : ScalarTy) → None ≡ scalar_in t → t ≡ scalar s → ⊥
no_scalar t s h e = let wrong : ◌≡◌ {A = Option ScalarTy} None (Some s) = h ∙ ap scalar_in e in cc

empty_other : (f : ℕ → Value → Option (List ℤ)) (v : Value) → is_listed v ≡ false → flat_by f empty v ≡ None
empty_other f (number n) h = refl
empty_other f nil h = absurd cc
empty_other f (cons v vs) h = absurd cc
empty_other f (variant k v) h = refl
empty_other f (pointer p) h = refl
empty_other f hole h = refl

more_other : (f : ℕ → Value → Option (List ℤ)) (t ts : Tree) (v : Value) → is_listed v ≡ false → flat_by f (more t ts) v ≡ None
more_other f t ts (number n) h = refl
more_other f t ts nil h = absurd cc
more_other f t ts (cons v vs) h = absurd cc
more_other f t ts (variant k v) h = refl
more_other f t ts (pointer p) h = refl
more_other f t ts hole h = refl

pub types_other : (f : ℕ → Value → Option (List ℤ)) (trees : List Tree) (ids : List TyId) (v : Value) (a : List ℤ) → is_listed v ≡ false → both (Some a) (flat_by f (at_ids trees ids) v) ≡ None
types_other f trees [] v a h = both_none a (flat_by f empty v) (empty_other f v h)
types_other f trees (id ∷ ids) v a h = both_none a (flat_by f (more (at_id trees id) (at_ids trees ids)) v) (more_other f (at_id trees id) (at_ids trees ids) v h)

pub fields_other : (f : ℕ → Value → Option (List ℤ)) (trees : List Tree) (fields : List Field) (v : Value) (a : List ℤ) → is_listed v ≡ false → both (Some a) (flat_by f (fields_tree trees fields) v) ≡ None
fields_other f trees [] v a h = both_none a (flat_by f empty v) (empty_other f v h)
fields_other f trees (x ∷ fields) v a h = both_none a (flat_by f (more (at_id trees x.ty) (fields_tree trees fields)) v) (more_other f (at_id trees x.ty) (fields_tree trees fields) v h)

-- ---- what was put at the end

pub pushed_true : (b : Bool) (ns : List Number) (x : Option (List ℤ)) → x ≡ pushed b ns → b ≡ true → x ≡ Some (map integer_in ns)
pushed_true b ns x h e = h ∙ ap (λ c. pushed c ns) e

pub pushed_false : (b : Bool) (ns : List Number) (x : Option (List ℤ)) → x ≡ pushed b ns → b ≡ false → x ≡ None
pushed_false b ns x h e = h ∙ ap (λ c. pushed c ns) e

-- ---- what the loops keep

not_zero : (n : ℕ) → nat_eq (suc n) 0 ≡ false
not_zero n = grind arith

pub types_pushed : (f : ℕ → Value → Option (List ℤ)) (trees : List Tree) (ids rest : List TyId) (id : TyId) (values others : List Datum) (value : Datum) (a b : List ℤ)
    → ids ≡ id ∷ rest → values ≡ value ∷ others → both (Some a) (flat_by f (at_id trees id) (value_of value)) ≡ Some b
    → both (Some b) (flat_by f (at_ids trees rest) (fields_of others)) ≡ both (Some a) (flat_by f (at_ids trees ids) (fields_of values))
types_pushed f trees ids rest id values others value a b e g h = rw (e, g) (sym (flat_next f (at_id trees id) (at_ids trees rest) (value_of value) (fields_of others) a b h))

pub types_stop : (f : ℕ → Value → Option (List ℤ)) (trees : List Tree) (ids rest : List TyId) (id : TyId) (values others : List Datum) (value : Datum) (a : List ℤ) (whole : Option (List ℤ))
    → ids ≡ id ∷ rest → values ≡ value ∷ others → both (Some a) (flat_by f (at_id trees id) (value_of value)) ≡ None
    → both (Some a) (flat_by f (at_ids trees ids) (fields_of values)) ≡ whole → whole ≡ None
types_stop f trees ids rest id values others value a whole e g h kept = sym kept ∙ rw (e, g) (flat_stop f (at_id trees id) (at_ids trees rest) (value_of value) (fields_of others) a h)

pub types_short : (f : ℕ → Value → Option (List ℤ)) (trees : List Tree) (ids rest : List TyId) (id : TyId) (values : List Datum) (a : List ℤ) (whole : Option (List ℤ))
    → ids ≡ id ∷ rest → values ≡ [] → both (Some a) (flat_by f (at_ids trees ids) (fields_of values)) ≡ whole → whole ≡ None
types_short f trees ids rest id values a whole e g kept = sym kept ∙ rw (e, g) (flat_short f (at_id trees id) (at_ids trees rest) a)

pub types_done : (f : ℕ → Value → Option (List ℤ)) (trees : List Tree) (ids : List TyId) (values : List Datum) (b : Bool) (ns : List Number) (whole : Option (List ℤ))
    → ids ≡ [] → b ≡ nat_eq (length values) 0 → both (Some (map integer_in ns)) (flat_by f (at_ids trees ids) (fields_of values)) ≡ whole → whole ≡ pushed b ns
types_done f trees ids [] b ns whole e g kept = let yes : b ≡ true = g in sym kept ∙ rw (e, yes) (flat_done f (map integer_in ns))
types_done f trees ids (v ∷ vs) b ns whole e g kept = let no : b ≡ false = g ∙ not_zero (length vs) in sym kept ∙ rw (e, no) (flat_over f (value_of v) (fields_of vs) (map integer_in ns))

pub fields_pushed : (f : ℕ → Value → Option (List ℤ)) (trees : List Tree) (fields rest : List Field) (x : Field) (values others : List Datum) (value : Datum) (a b : List ℤ)
    → fields ≡ x ∷ rest → values ≡ value ∷ others → both (Some a) (flat_by f (at_id trees x.ty) (value_of value)) ≡ Some b
    → both (Some b) (flat_by f (fields_tree trees rest) (fields_of others)) ≡ both (Some a) (flat_by f (fields_tree trees fields) (fields_of values))
fields_pushed f trees fields rest x values others value a b e g h = rw (e, g) (sym (flat_next f (at_id trees x.ty) (fields_tree trees rest) (value_of value) (fields_of others) a b h))

pub fields_stop : (f : ℕ → Value → Option (List ℤ)) (trees : List Tree) (fields rest : List Field) (x : Field) (values others : List Datum) (value : Datum) (a : List ℤ) (whole : Option (List ℤ))
    → fields ≡ x ∷ rest → values ≡ value ∷ others → both (Some a) (flat_by f (at_id trees x.ty) (value_of value)) ≡ None
    → both (Some a) (flat_by f (fields_tree trees fields) (fields_of values)) ≡ whole → whole ≡ None
fields_stop f trees fields rest x values others value a whole e g h kept = sym kept ∙ rw (e, g) (flat_stop f (at_id trees x.ty) (fields_tree trees rest) (value_of value) (fields_of others) a h)

pub fields_short : (f : ℕ → Value → Option (List ℤ)) (trees : List Tree) (fields rest : List Field) (x : Field) (values : List Datum) (a : List ℤ) (whole : Option (List ℤ))
    → fields ≡ x ∷ rest → values ≡ [] → both (Some a) (flat_by f (fields_tree trees fields) (fields_of values)) ≡ whole → whole ≡ None
fields_short f trees fields rest x values a whole e g kept = sym kept ∙ rw (e, g) (flat_short f (at_id trees x.ty) (fields_tree trees rest) a)

pub fields_done : (f : ℕ → Value → Option (List ℤ)) (trees : List Tree) (fields : List Field) (values : List Datum) (b : Bool) (ns : List Number) (whole : Option (List ℤ))
    → fields ≡ [] → b ≡ nat_eq (length values) 0 → both (Some (map integer_in ns)) (flat_by f (fields_tree trees fields) (fields_of values)) ≡ whole → whole ≡ pushed b ns
fields_done f trees fields [] b ns whole e g kept = let yes : b ≡ true = g in sym kept ∙ rw (e, yes) (flat_done f (map integer_in ns))
fields_done f trees fields (v ∷ vs) b ns whole e g kept = let no : b ≡ false = g ∙ not_zero (length vs) in sym kept ∙ rw (e, no) (flat_over f (value_of v) (fields_of vs) (map integer_in ns))

pub scalar_is : (t : Tree) (s : ScalarTy) → Some s ≡ scalar_in t → t ≡ scalar s
scalar_is (scalar x) s h = let same : s ≡ x = cc in ap scalar (sym same)
scalar_is empty s h = absurd cc
scalar_is (more t ts) s h = absurd cc
scalar_is (ref t) s h = absurd cc
scalar_is (ref_mut t) s h = absurd cc
scalar_is (named d) s h = absurd cc
