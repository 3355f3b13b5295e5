-- Definitions that are noted with those that they hold by value.
use Rattle.std.proofs.Common.{◌≡◌, ◌⊎◌, inl, inr, ℕ, suc, ◌+◌, ◌<◌, ◌≤◌, Bool, true, false, ◌||◌, ◌==◌, List, [], ◌∷◌, ◌++◌, map, length, get_or, slice_get, sum_by, replicate, Some, refl, sym, ap, ap₂, ◌∙◌, subst, arith, eqb-true, eq-eqb}
use Rattle.std.specs.List.{Contains, flat_map}
use Rattle.std.proofs.lemmas.Bool.{cases_eq, cases_lt, or_cases, or_left, or_right}
use Rattle.std.proofs.lemmas.List.{length-set, get_or-set_same, get_or-set_other, get_or_past, set_past, map-append, length-replicate, get_or-replicate}
use Rattle.std.proofs.lemmas.List.Elements.{Contains-push, Contains-push_cases, Contains-append_left}
use Rattle.std.proofs.lemmas.List.Sums.{sum_by-append, sum_by-cons, sum_by_push}
use Rattle.mir_syntax.specs.declared.types.TyId.{TyId}
use Rattle.mir_syntax.specs.declared.types.Field.{Field}
use Rattle.mir_syntax.specs.declared.types.Variant.{Variant}
use Rattle.mir_syntax.specs.declared.types.Def.{Def}
use Rattle.mir_syntax.specs.declared.types.Ty.{Ty}
use Rattle.mir_syntax.specs.declared.types.Ty.TheVariants.{Scalar, Tuple, Ref, RefMut, Named}
use Rattle.mir_syntax.specs.declared.program.Program.{Program}
use Rattle.mir_syntax.specs.Tree.{Tree, scalar, empty, more, ref, ref_mut, named, at_id, at_ids, node, trees_of}
use Rattle.mir_syntax.specs.Crate.{crate_of, variant_of}
use Rattle.mir_syntax.specs.Shapes.{Shape, shapes_of, fields_tuple, field_id, fields_tree, needs_by, any_needs}
use Rattle.mir_syntax.proofs.Places.{shape-at}
use Rattle.mir_rules.specs.DefinitionRules.{holds_one}
use Rattle.mir_rules.proofs.Depth.{there}
use Rattle.drop_tables.specs.Marks.{ids_of, noted_at}
use Rattle.drop_tables.specs.Holders.{holders_at, Holds, AreHolders, AreInside, any_holds, Noted}
use Rattle.drop_tables.proofs.Destroying.{shapes_count}

-- ---- types that are left to be looked at

-- how many parts a type has
abbrev pub tree_size : Tree → ℕ
tree_size (more t ts) = tree_size t + tree_size ts
tree_size _ = 1

abbrev pub id_size : List Tree → TyId → ℕ
id_size trees id = tree_size (at_id trees id)

size_some : (t : Tree) → 1 ≤ tree_size t
size_some (scalar s) = omega arith
size_some empty = omega arith
size_some (more t ts) = omega (arith, size_some t)
size_some (ref t) = omega arith
size_some (ref_mut t) = omega arith
size_some (named d) = omega arith

parts_size : (trees : List Tree) (ids : List TyId) → tree_size (at_ids trees ids) ≡ suc (sum_by (id_size trees) ids)
parts_size trees [] = refl
parts_size trees (id ∷ ids) = let e = sum_by-cons (id_size trees) id ids in omega (arith, parts_size trees ids, e)

pub fewer_parts : (trees : List Tree) (left rest parts : List TyId) (id : TyId) → left ≡ rest ++ id ∷ [] → at_id trees id ≡ at_ids trees parts → sum_by (id_size trees) (rest ++ parts) < sum_by (id_size trees) left
fewer_parts trees left rest parts id e is =
    let a = sum_by-append (id_size trees) rest parts in
    let b : sum_by (id_size trees) left ≡ sum_by (id_size trees) rest + id_size trees id = ap (sum_by (id_size trees)) e ∙ sum_by_push (id_size trees) rest id in
    let c : id_size trees id ≡ suc (sum_by (id_size trees) parts) = ap tree_size is ∙ parts_size trees parts in
    omega (arith, a, b, c)

pub fewer_left : (trees : List Tree) (left rest : List TyId) (id : TyId) → left ≡ rest ++ id ∷ [] → sum_by (id_size trees) rest < sum_by (id_size trees) left
fewer_left trees left rest id e =
    let b : sum_by (id_size trees) left ≡ sum_by (id_size trees) rest + id_size trees id = ap (sum_by (id_size trees)) e ∙ sum_by_push (id_size trees) rest id in
    omega (arith, b, size_some (at_id trees id))

module _ (f : ℕ → Bool) where
  or_assoc : (a b c : Bool) → ((a || b) || c) ≡ (a || (b || c))
  or_assoc true b c = refl
  or_assoc false b c = refl

  pub any_append : (ts us : List Tree) → any_needs f (ts ++ us) ≡ (any_needs f ts || any_needs f us)
  any_append [] us = refl
  any_append (t ∷ ts) us = ap (λ b. needs_by f t || b) (any_append ts us) ∙ sym (or_assoc (needs_by f t) (any_needs f ts) (any_needs f us))

  module _ (trees : List Tree) where
    ids_append : (ids others : List TyId) → any_needs f (map (at_id trees) (ids ++ others)) ≡ (any_needs f (map (at_id trees) ids) || any_needs f (map (at_id trees) others))
    ids_append ids others = ap (any_needs f) (map-append (at_id trees) ids others) ∙ any_append (map (at_id trees) ids) (map (at_id trees) others)

    parts_need : (ids : List TyId) → needs_by f (at_ids trees ids) ≡ any_needs f (map (at_id trees) ids)
    parts_need [] = refl
    parts_need (id ∷ ids) = ap (λ b. needs_by f (at_id trees id) || b) (parts_need ids)

    fields_need : (fields : List Field) → any_needs f (map (at_id trees) (map field_id fields)) ≡ needs_by f (fields_tree trees fields)
    fields_need [] = refl
    fields_need (x ∷ fields) = ap (λ b. needs_by f (at_id trees x.ty) || b) (fields_need fields)

    pub variants_need : (variants : List Variant) → any_needs f (map (at_id trees) (flat_map ids_of variants)) ≡ any_needs f (map fields_tuple (map (variant_of trees) variants))
    variants_need [] = refl
    variants_need (v ∷ variants) = ids_append (ids_of v) (flat_map ids_of variants) ∙ ap₂ (λ a b. a || b) (fields_need v.fields) (variants_need variants)

or_none : (b : Bool) → (b || false) ≡ b
or_none true = refl
or_none false = refl

-- ---- what was noted, and what is left

pub record Noting (trees : List Tree) (ids : List TyId) (from : ℕ) (holders now : List (List ℕ)) (left : List TyId) : Type 0 where
  pub long : length now ≡ length holders
  pub stay : (e d : ℕ) → Contains (holders_at holders e) d → Contains (holders_at now e) d
  pub only : (e d : ℕ) → Contains (holders_at now e) d → Contains (holders_at holders e) d ⊎ ((d ≡ from) × (any_holds trees ids e ≡ true))
  pub left_in : (e : ℕ) → any_holds trees left e ≡ true → any_holds trees ids e ≡ true
  pub all : (e : ℕ) → e < length holders → any_holds trees ids e ≡ true → Contains (holders_at now e) from ⊎ (any_holds trees left e ≡ true)

pub noting_begins : (trees : List Tree) (ids : List TyId) (from : ℕ) (holders : List (List ℕ)) → Noting trees ids from holders holders ids
noting_begins trees ids from holders = record {
  long = refl;
  stay = λ e d c. c;
  only = λ e d c. inl c;
  left_in = λ e h. h;
  all = λ e l h. inr h;
}

module _ (trees : List Tree) (ids : List TyId) (from : ℕ) (holders now : List (List ℕ)) (left rest : List TyId) (id : TyId) (n : Noting trees ids from holders now left) (popped : left ≡ rest ++ id ∷ []) where
  last_apart : (e : ℕ) → any_holds trees left e ≡ (any_holds trees rest e || needs_by (λ k. k == e) (at_id trees id))
  last_apart e = ap (λ l. any_holds trees l e) popped ∙ (ids_append (λ k. k == e) trees rest (id ∷ []) ∙ ap (λ b. any_holds trees rest e || b) (or_none (needs_by (λ k. k == e) (at_id trees id))))

  -- the same is left, in other types
  same_left : (left2 : List TyId) → ((e : ℕ) → any_holds trees left2 e ≡ any_holds trees left e) → Noting trees ids from holders now left2
  same_left left2 same = record {
    long = n.long;
    stay = n.stay;
    only = n.only;
    left_in = λ e h. n.left_in e (sym (same e) ∙ h);
    all = λ e l h. elim (n.all e l h) [ inl q ↦ inl q | inr q ↦ inr (same e ∙ q) ];
  }

  pub noting_tuple : (parts : List TyId) → at_id trees id ≡ at_ids trees parts → Noting trees ids from holders now (rest ++ parts)
  noting_tuple parts is = same_left (rest ++ parts)
      (λ e. ids_append (λ k. k == e) trees rest parts ∙ (ap (λ b. any_holds trees rest e || b) (sym (parts_need (λ k. k == e) trees parts) ∙ ap (needs_by (λ k. k == e)) (sym is)) ∙ sym (last_apart e)))

  pub noting_none : ((f : ℕ → Bool) → needs_by f (at_id trees id) ≡ false) → Noting trees ids from holders now rest
  noting_none none = same_left rest (λ e. sym (last_apart e ∙ (ap (λ b. any_holds trees rest e || b) (none (λ k. k == e)) ∙ or_none (any_holds trees rest e))))

  module _ (def : ℕ) (is : at_id trees id ≡ named def) where
    apart : (e : ℕ) → any_holds trees left e ≡ (any_holds trees rest e || (def == e))
    apart e = last_apart e ∙ ap (λ t. any_holds trees rest e || needs_by (λ k. k == e) t) is

    still : (e d : ℕ) → Contains (holders_at now e) d → Contains (holders_at (noted_at now def from) e) d
    still e d c = elim (cases_lt def (length now)) [
      | inl l ↦ elim (cases_eq e def) [
        | inl same ↦ subst (λ xs. Contains xs d) (sym (ap (holders_at (noted_at now def from)) same ∙ get_or-set_same now def (get_or now def [] ++ from ∷ []) [] l)) (Contains-append_left (get_or now def []) (from ∷ []) d (subst (λ x. Contains (holders_at now x) d) same c))
        | inr ne ↦ subst (λ xs. Contains xs d) (sym (get_or-set_other now def e (get_or now def [] ++ from ∷ []) [] ne)) c
      ]
      | inr l ↦ subst (λ xs. Contains (holders_at xs e) d) (sym (set_past now def (get_or now def [] ++ from ∷ []) l)) c
    ]

    new_only : (e d : ℕ) → Contains (holders_at (noted_at now def from) e) d → Contains (holders_at now e) d ⊎ ((d ≡ from) × (any_holds trees ids e ≡ true))
    new_only e d c = elim (cases_lt def (length now)) [
      | inl l ↦ elim (cases_eq e def) [
        | inl same ↦ (
            let t = subst (λ xs. Contains xs d) (ap (holders_at (noted_at now def from)) same ∙ get_or-set_same now def (get_or now def [] ++ from ∷ []) [] l) c in
            elim (Contains-push_cases (get_or now def []) from d t) [
              | inl q ↦ inl (subst (λ x. Contains (holders_at now x) d) (sym same) q)
              | inr q ↦ inr (sym q, n.left_in e (apart e ∙ or_right (any_holds trees rest e) (def == e) (itself e same)))
            ]
            )
        | inr ne ↦ inl (subst (λ xs. Contains xs d) (get_or-set_other now def e (get_or now def [] ++ from ∷ []) [] ne) c)
      ]
      | inr l ↦ inl (subst (λ xs. Contains (holders_at xs e) d) (set_past now def (get_or now def [] ++ from ∷ []) l) c)
    ]
      where
        itself : (e : ℕ) → e ≡ def → (def == e) ≡ true
        itself e same = eq-eqb def e (sym same)

    pub noting_named : Noting trees ids from holders (noted_at now def from) rest
    noting_named = record {
      long = length-set now def (get_or now def [] ++ from ∷ []) ∙ n.long;
      stay = λ e d c. still e d (n.stay e d c);
      only = λ e d c. elim (new_only e d c) [ inl q ↦ n.only e d q | inr q ↦ inr q ];
      left_in = λ e h. n.left_in e (apart e ∙ or_left (any_holds trees rest e) (def == e) h);
      all = λ e l h. elim (n.all e l h) [
        | inl q ↦ inl (still e from q)
        | inr q ↦ elim (or_cases (any_holds trees rest e) (def == e) (sym (apart e) ∙ q)) [
          | inl r ↦ inr r
          | inr r ↦ (
              let same : def ≡ e = eqb-true def e r in
              let here : def < length now = omega (arith, n.long, l, same) in
              inl (subst (λ x. Contains (holders_at (noted_at now def from) x) from) same (subst (λ xs. Contains xs from) (sym (get_or-set_same now def (get_or now def [] ++ from ∷ []) [] here)) (Contains-push (get_or now def []) from)))
              )
        ]
      ];
    }

-- nothing is left
pub noting_over : (trees : List Tree) (ids : List TyId) (from : ℕ) (holders now : List (List ℕ)) → Noting trees ids from holders now [] → Noted trees ids from holders now
noting_over trees ids from holders now n = record {
  long = n.long;
  stay = n.stay;
  only = n.only;
  all = λ e l h. elim (n.all e l h) [ inl q ↦ q | inr q ↦ absurd (let t : true ≡ false = sym q in cc) ];
}

pub other_none : (trees : List Tree) (ty : Ty) → ((ids : List TyId) → ty ≡ Tuple ids → ⊥) → ((d : ℕ) → ty ≡ Named d → ⊥) → (f : ℕ → Bool) → needs_by f (node trees ty) ≡ false
other_none trees (Scalar s) h g f = refl
other_none trees (Tuple ids) h g f = absurd (h ids refl)
other_none trees (Ref a) h g f = refl
other_none trees (RefMut a) h g f = refl
other_none trees (Named d) h g f = absurd (g d refl)

-- ---- definition after definition

pub record Gathered (p : Program) (lists : List (List ℕ)) (upto : ℕ) : Type 0 where
  pub long : length lists ≡ length p.defs
  pub only : (e d : ℕ) → Contains (holders_at lists e) d → Holds (shapes_of (crate_of p)) d e
  pub all : (e d : ℕ) → e < length p.defs → d < upto → Holds (shapes_of (crate_of p)) d e → Contains (holders_at lists e) d

pub gathered_none : (p : Program) (lists : List (List ℕ)) (n : ℕ) → lists ≡ replicate n [] → n ≡ length p.defs → Gathered p lists 0
gathered_none p lists n is long = record {
  long = ap length is ∙ (length-replicate {A = List ℕ} n [] ∙ long);
  only = λ e d c. absurd (nothing e d (subst (λ l. Contains (holders_at l e) d) is c));
  all = λ e d l m h. absurd (omega arith);
}
  where
    blank : (e : ℕ) → holders_at (replicate n []) e ≡ []
    blank e = elim (cases_lt e n) [ inl l ↦ get_or-replicate {A = List ℕ} n e [] [] l | inr l ↦ get_or_past (replicate n []) e [] (omega (arith, length-replicate {A = List ℕ} n [])) ]

    nothing : (e d : ℕ) → Contains (holders_at (replicate n []) e) d → ⊥
    nothing e d c = let q = subst (λ xs. Contains xs d) (blank e) c in omega (arith, q.1)

pub gathered_more : (p : Program) (lists lists2 : List (List ℕ)) (ids : List TyId) (from : ℕ) (def : Def) → Gathered p lists from → slice_get p.defs from ≡ Some def → ids ≡ flat_map ids_of def.variants
    → Noted (trees_of p.types) ids from lists lists2 → Gathered p lists2 (from + 1)
gathered_more p lists lists2 ids from def g at is n = record {
  long = n.long ∙ g.long;
  only = λ e d c. elim (n.only e d c) [
    | inl q ↦ g.only e d q
    | inr q ↦ subst (λ k. Holds D k e) (sym q.0) (sym (held e) ∙ q.1)
  ];
  all = λ e d l m h. elim (cases_eq d from) [
    | inl same ↦ subst (Contains (holders_at lists2 e)) (sym same) (n.all e (omega (arith, g.long, l)) (held e ∙ subst (λ k. Holds D k e) same h))
    | inr ne ↦ n.stay e d (g.all e d l (let b : d < from = below d m ne in b) h)
  ];
}
  where
    D : List Shape
    D = shapes_of (crate_of p)

    held : (e : ℕ) → any_holds (trees_of p.types) ids e ≡ holds_one (λ k. k == e) (slice_get (shapes_of (crate_of p)) from)
    held e = ap (λ l. any_holds (trees_of p.types) l e) is ∙ (variants_need (λ k. k == e) (trees_of p.types) def.variants ∙ ap (holds_one (λ k. k == e)) (sym (shape-at p from def at)))

    below : (d : ℕ) → d < from + 1 → (d ≡ from → ⊥) → d < from
    below d m ne = elim (cases_lt d from) [ inl l ↦ l | inr l ↦ absurd (ne (let z : d ≡ from = omega arith in z)) ]

pub gathered_all : (p : Program) (lists : List (List ℕ)) (n : ℕ) → n ≡ length p.defs → Gathered p lists n → AreHolders (shapes_of (crate_of p)) lists
gathered_all p lists n e g = record {
  long = g.long ∙ sym (shapes_count p);
  only = g.only;
  all = λ x d l h. g.all x d (omega (arith, shapes_count p, l)) (omega (arith, e, shapes_count p, there D (λ k. k == x) d (slice_get D d) refl h)) h;
}
  where
    D : List Shape
    D = shapes_of (crate_of p)

pub are_inside : (D : List Shape) (holders : List (List ℕ)) → AreHolders D holders → AreInside holders
are_inside D holders are = λ e d c. omega (arith, are.long, there D (λ k. k == e) d (slice_get D d) refl (are.only e d c))
