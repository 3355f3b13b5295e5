-- The locals that are tried one after another, and the table that comes of it.
use Rattle.std.proofs.Common.{rules, ◌≡◌, ◌⊎◌, inl, inr, refl, sym, ap, ap₂, ◌∙◌, subst, ℕ, zero, suc, ◌+◌, ◌<◌, ◌≤◌, ◌^◌, IsTrue, Bool, true, false, ◌&&◌, nat_lt, if◌then◌else◌, List, [], ◌∷◌, ◌++◌, map, drop, length, get_or, append_assoc, drop-cons, length-append, Option, Some, None, is_some, arith}
use Rattle.std.proofs.lemmas.Bool.{and_parts, and_from}
use Rattle.std.proofs.lemmas.List.{map-append, append-nil, drop_all, length-map, get_or_append_left}
use Rattle.std.proofs.Math.ListN.{get_or-map}
use Rattle.mir_syntax.specs.declared.types.TyId.{TyId}
use Rattle.mir_syntax.specs.declared.program.Program.{Program}
use Rattle.mir_syntax.specs.Tree.{Tree, at_id, trees_of}
use Rattle.mir_syntax.specs.Crate.{TypedBody, crate_of}
use Rattle.mir_syntax.specs.Shapes.{◌>>=◌, Shape, shapes_of, fields_of, destructor_of}
use Rattle.mir_syntax.specs.Table.{all_below}
use Rattle.mir_syntax.specs.Ids.{IdsInTable}
use Rattle.mir_syntax.proofs.Lists.{id_below}
use Rattle.mir_syntax.proofs.Bools.{if_true, if_false}
use Rattle.sroa_pass.specs.declared.parts.Parts.{Parts}
use Rattle.sroa_pass.specs.Split.{if_any, parts_of, field_types, most_locals, may_split, firsts_from, new_types}
use Rattle.sroa_pass.specs.Code.{Table, parts_at, own_fields, is_chosen, Adds, count_in, first_of_parts, MayBe, Tried, SplitLocals}

-- a type that has fields to split has them as its own
pub own_is : (D : List Shape) (t : Tree) → 0 < length (field_types D t) → own_fields D t ≡ field_types D t
own_is D t l = go (destructor_of D t) refl
  where
    go : (o : Option ℕ) → destructor_of D t ≡ o → own_fields D t ≡ field_types D t
    go None e = sym (ap (λ (o : Option ℕ). if is_some o then [] else if_any (fields_of D t >>= parts_of)) e)
    go (Some g) e = absurd (let z : length (field_types D t) ≡ 0 = ap (λ (o : Option ℕ). length (if is_some o then [] else if_any (fields_of D t >>= parts_of))) e in omega (arith, l, z))

-- what a chosen local has
pub chosen_parts : (args : ℕ) (held : List Bool) (x n standing : ℕ) → is_chosen args held x n standing ≡ true → (0 < n) × (n < 17) × (standing + n < 10001)
chosen_parts args held x n standing h = search (rules, arith)

abbrev blank : TyId
blank = record { 0 = 0 }

module _ (p : Program) (args : ℕ) (held : List Bool) where
  abbrev D : List Shape
  D = shapes_of (crate_of p)

  abbrev tree : TyId → Tree
  tree id = at_id (trees_of p.types) id

  abbrev rows : List TyId → List Tree
  rows ids = map (at_id (trees_of p.types)) ids

  -- the first locals were tried
  pub record Going (old now : List TyId) (t : Table) (i : ℕ) : Type 0 where
    pub added : List TyId
    pub is : now ≡ old ++ added
    pub count : length t ≡ i
    pub low : length now < 2 ^ 30
    pub in_table : IdsInTable p → IsTrue (all_below (length p.types) old) → IsTrue (all_below (length p.types) added)
    pub firsts : (b : TypedBody) → b.locals ≡ map (at_id (trees_of p.types)) old → MayBe (shapes_of (crate_of p)) b args held
        → firsts_from (shapes_of (crate_of p)) b (length old) 0 (map (at_id (trees_of p.types)) old) ≡ map first_of_parts t ++ firsts_from (shapes_of (crate_of p)) b (length now) i (drop i (map (at_id (trees_of p.types)) old))
    pub counts : (x : ℕ) (a : Parts) → parts_at t x ≡ Some a → a.count ≡ count_in p (get_or old x (record { 0 = 0 }))
    pub types : (rest : List (Option ℕ)) → new_types (shapes_of (crate_of p)) (map first_of_parts t ++ rest) (map (at_id (trees_of p.types)) old) ≡ map (at_id (trees_of p.types)) added ++ new_types (shapes_of (crate_of p)) rest (drop i (map (at_id (trees_of p.types)) old))

  pub going_none : (old : List TyId) → length old < 2 ^ 30 → Going old old [] 0
  going_none old l = record {
    added = [];
    is = sym (append-nil old);
    count = refl;
    low = l;
    in_table = λ h k. refl;
    firsts = λ b e m. refl;
    counts = λ x a e. absurd (grind arith);
    types = λ rest. refl;
  }

  joins : (t : Table) (o : Option Parts) (ys : List (Option ℕ)) → map first_of_parts t ++ first_of_parts o ∷ ys ≡ map first_of_parts (t ++ o ∷ []) ++ ys
  joins t o ys = sym (append_assoc (map first_of_parts t) (first_of_parts o ∷ []) ys) ∙ ap (λ xs. xs ++ ys) (sym (map-append first_of_parts t (o ∷ [])))

  at_last : (t : Table) (o : Option Parts) (x : ℕ) (a : Parts) → parts_at (t ++ o ∷ []) x ≡ Some a → (parts_at t x ≡ Some a) ⊎ ((x ≡ length t) × (o ≡ Some a))
  at_last [] o zero a e = inr (refl, e)
  at_last [] o (suc x) a e = absurd (grind arith)
  at_last (q ∷ t) o zero a e = inl e
  at_last (q ∷ t) o (suc x) a e = elim (at_last t o x a e) [
    | inl k ↦ inl k
    | inr k ↦ inr (ap suc k.0, k.1)
  ]

  pub below_more : (n : ℕ) (xs ys : List TyId) → IsTrue (all_below n xs) → IsTrue (all_below n ys) → IsTrue (all_below n (xs ++ ys))
  below_more n [] ys h k = k
  below_more n (x ∷ xs) ys h k = (let both = and_parts (nat_lt x.0 n) (all_below n xs) h in and_from (nat_lt x.0 n) (all_below n (xs ++ ys)) both.0 (below_more n xs ys both.1 k))

  module _ (old now next : List TyId) (t : Table) (i : ℕ) (l : i < length old) (g : Going old now t i) where
    abbrev id : TyId
    id = get_or old i blank

    pub same_id : get_or now i blank ≡ get_or old i blank
    same_id = ap (λ xs. get_or xs i blank) g.is ∙ get_or_append_left old g.added blank i l

    abbrev t0 : Tree
    t0 = tree (get_or old i blank)

    opens : drop i (rows old) ≡ tree (get_or old i blank) ∷ drop (suc i) (rows old)
    opens = drop-cons (rows old) i (tree blank) (let z = length-map old tree in omega (arith, l, z)) ∙ ap (λ u. u ∷ drop (suc i) (rows old)) (get_or-map tree old i blank)

    one : suc i ≡ i + 1
    one = omega arith

    -- what the definition asks of this local
    asked : (b : TypedBody) → b.locals ≡ rows old → MayBe D b args held → (may_split D b i t0 && nat_lt (length now + length (field_types D t0)) (suc most_locals)) ≡ is_chosen args held i (count_in p id) (length now)
    asked b e m = ap (λ c. c && nat_lt (length now + length (field_types D t0)) (suc most_locals)) (m i t0 (let z = ap length e ∙ length-map old tree in omega (arith, l, z)))

    pub more_none : is_chosen args held i (count_in p (get_or now i blank)) (length now) ≡ false → next ≡ now → Going old next (t ++ None ∷ []) (i + 1)
    more_none left e = record {
      added = g.added;
      is = e ∙ g.is;
      count = length-append t (None ∷ []) ∙ ap (λ n. n + 1) g.count;
      low = let z = ap length e in let low = g.low in omega (arith, z, low);
      in_table = g.in_table;
      firsts = λ b eb m.
          let goes = firsts_from D b (length now) (suc i) (drop (suc i) (rows old)) in
          let here = if_false (Some (length now) ∷ firsts_from D b (length now + length (field_types D t0)) (suc i) (drop (suc i) (rows old))) (None ∷ goes) (asked b eb m ∙ ap (λ k. is_chosen args held i (count_in p k) (length now)) (sym same_id) ∙ left) in
          g.firsts b eb m ∙ ap (λ ts. map first_of_parts t ++ firsts_from D b (length now) i ts) opens ∙ ap (λ xs. map first_of_parts t ++ xs) here ∙ joins t None goes
          ∙ ap₂ (λ (n k : ℕ). map first_of_parts (t ++ None ∷ []) ++ firsts_from D b n k (drop k (rows old))) (ap length (sym e)) one;
      counts = λ x a h. elim (at_last t None x a h) [
        | inl k ↦ g.counts x a k
        | inr k ↦ absurd (let z = k.1 in grind arith)
      ];
      types = λ rest.
          ap (λ fs. new_types D fs (rows old)) (sym (joins t None rest)) ∙ g.types (None ∷ rest)
          ∙ ap (λ ts. map tree g.added ++ new_types D (None ∷ rest) ts) opens
          ∙ ap (λ k. map tree g.added ++ new_types D rest (drop k (rows old))) one;
    }

    pub more_some : (a : Parts) → is_chosen args held i (count_in p (get_or now i blank)) (length now) ≡ true → a.first ≡ length now → a.count ≡ count_in p (get_or now i blank) → Adds p (get_or now i blank) now next → i < 2 ^ 32 → IdsInTable p → IsTrue (all_below (length p.types) old) → Going old next (t ++ Some a ∷ []) (i + 1)
    more_some a chosen first many adds few ids below = record {
      added = g.added ++ adds.added;
      is = adds.is ∙ ap (λ xs. xs ++ adds.added) g.is ∙ append_assoc old g.added adds.added;
      count = length-append t (Some a ∷ []) ∙ ap (λ n. n + 1) g.count;
      low = omega (arith, longer, room);
      in_table = λ h k. below_more (length p.types) g.added adds.added (g.in_table h k) (adds.in_table h inside);
      firsts = λ b eb m.
          let goes = firsts_from D b (length now + length (field_types D t0)) (suc i) (drop (suc i) (rows old)) in
          let here = if_true (Some (length now) ∷ goes) (None ∷ firsts_from D b (length now) (suc i) (drop (suc i) (rows old))) (asked b eb m ∙ ap (λ k. is_chosen args held i (count_in p k) (length now)) (sym same_id) ∙ chosen) in
          g.firsts b eb m ∙ ap (λ ts. map first_of_parts t ++ firsts_from D b (length now) i ts) opens ∙ ap (λ xs. map first_of_parts t ++ xs) here
          ∙ ap (λ n. map first_of_parts t ++ Some n ∷ goes) (sym first)
          ∙ joins t (Some a) goes
          ∙ ap₂ (λ (n k : ℕ). map first_of_parts (t ++ Some a ∷ []) ++ firsts_from D b n k (drop k (rows old))) (sym longer) one;
      counts = λ x b h. elim (at_last t (Some a) x b h) [
        | inl k ↦ g.counts x b k
        | inr k ↦ (let same : a ≡ b = grind (arith, k) in ap (λ (a : Parts). a.count) (sym same) ∙ many ∙ ap (count_in p) (same_id ∙ ap (λ n. get_or old n blank) (sym (k.0 ∙ g.count))))
      ];
      types = λ rest.
          ap (λ fs. new_types D fs (rows old)) (sym (joins t (Some a) rest)) ∙ g.types (Some a.first ∷ rest)
          ∙ ap (λ ts. map tree g.added ++ new_types D (Some a.first ∷ rest) ts) opens
          ∙ sym (append_assoc (map tree g.added) (field_types D t0) (new_types D rest (drop (suc i) (rows old))))
          ∙ ap₂ (λ xs k. xs ++ new_types D rest (drop k (rows old))) (ap (λ ts. map tree g.added ++ ts) (sym fields) ∙ sym (map-append tree g.added adds.added)) one;
    }
      where
        parts : (0 < count_in p (get_or now i blank)) × (count_in p (get_or now i blank) < 17) × (length now + count_in p (get_or now i blank) < 10001)
        parts = chosen_parts args held i (count_in p (get_or now i blank)) (length now) chosen

        room : length now + length (field_types D t0) < 10001
        room = subst (λ k. length now + count_in p k < 10001) same_id parts.2

        some : 0 < length (field_types D t0)
        some = subst (λ k. 0 < count_in p k) same_id parts.0

        fields : map tree adds.added ≡ field_types D t0
        fields = adds.types ∙ ap (λ k. own_fields D (tree k)) same_id ∙ own_is D t0 some

        longer : length next ≡ length now + length (field_types D t0)
        longer = ap length adds.is ∙ length-append now adds.added ∙ ap (λ n. length now + n) (sym (length-map adds.added tree) ∙ ap length fields)

        inside : (get_or now i blank).0 < length p.types
        inside = subst (λ (k : TyId). k.0 < length p.types) (sym same_id) (id_below (length p.types) old i blank below l)

    pub more : (o : Option Parts) → i < 2 ^ 32 → IdsInTable p → IsTrue (all_below (length p.types) old) → Tried p args held i (get_or now i blank) now next o → Going old next (t ++ o ∷ []) (i + 1)
    more None few ids below (left, e) = more_none left e
    more (Some a) few ids below (chosen, first, many, adds) = more_some a chosen first many adds few ids below

  pub all_tried : (old now : List TyId) (t : Table) (i : ℕ) → length old ≤ i → Going old now t i → SplitLocals p args held old now t
  all_tried old now t i l g = record {
    added = g.added;
    is = g.is;
    in_table = g.in_table;
    firsts = λ b e m.
        sym (append-nil (map first_of_parts t)) ∙ ap (λ ts. map first_of_parts t ++ firsts_from D b (length now) i ts) (sym none)
        ∙ sym (g.firsts b e m) ∙ ap₂ (λ n ts. firsts_from D b n 0 ts) (sym (length-map old tree) ∙ ap length (sym e)) (sym e);
    counts = g.counts;
    types =
        sym (append-nil (map tree g.added)) ∙ ap (λ ts. map tree g.added ++ new_types D [] ts) (sym none) ∙ sym (g.types []) ∙ ap (λ fs. new_types D fs (rows old)) (append-nil (map first_of_parts t));
  }
    where
      none : drop i (rows old) ≡ []
      none = drop_all i (rows old) (let z = length-map old tree in omega (arith, l, z))
