-- Laws of the chains by which a type is found.
use Rattle.std.proofs.Common.{◌≡◌, ℕ, suc, zero, ◌+◌, ◌<◌, ◌≤◌, Bool, true, false, cond, nat_eq, eq-eqb, List, [], ◌∷◌, ◌++◌, map, length, take, get_or, set, slice_get, Some, refl, sym, ap, subst, ◌∙◌, ◌⊎◌, inl, inr, arith, length-append, length-set, length-take-le, mod-lt, replicate, ◌-◌, add-one}
use Rattle.std.proofs.lemmas.Bool.{false≢true, cases_lt, eqb-false, eqb-true}
use Rattle.std.proofs.lemmas.List.{get_or_append_left, get_or-set_same, get_or-set_other, get_or-replicate, length-replicate, map-append, length-map, take_more}
use Rattle.std.proofs.lemmas.Grind.{get_or_default_zero}
use Rattle.std.proofs.lemmas.Option.{slice_get_read, slice_get_within}
use Rattle.std.proofs.Math.Seq.{get_or-append_seam}
use Rattle.mir_syntax.specs.declared.types.Ty.{Ty}
use Rattle.mir_syntax.specs.TypeIndex.{type_hash, slot_of, slots_of, latest, is_at, IsIndex}

cond-cases : {A : Type 0} (b : Bool) (x y : A) → ((b ≡ true) × (cond b x y ≡ x)) ⊎ ((b ≡ false) × (cond b x y ≡ y))
cond-cases true x y = inl (refl, refl)
cond-cases false x y = inr (refl, refl)

latest-low : (test : ℕ → Bool) (n : ℕ) → latest test n ≤ n
latest-low test zero = omega arith
latest-low test (suc n) =
    let low = latest-low test n in
    elim (cond-cases (test n) (suc n) (latest test n)) [ inl h ↦ omega arith | inr h ↦ omega arith ]

-- no later place passes
latest-last : (test : ℕ → Bool) (n k : ℕ) → latest test n ≤ k → k < n → test k ≡ false
latest-last test zero k low h = absurd (omega arith)
latest-last test (suc n) k low h =
    elim (cond-cases (test n) (suc n) (latest test n)) [
      | inl c ↦ absurd (omega arith)
      | inr c ↦ elim (cases_lt k n) [ inl below ↦ latest-last test n k (rw c.1 at low) below | inr above ↦ let same : k ≡ n = omega arith in rw same c.0 ]
    ]

latest-in : (test : ℕ → Bool) (n k : ℕ) → latest test n ≡ suc k → test k ≡ true
latest-in test zero k e = absurd (omega arith)
latest-in test (suc n) k e =
    elim (cond-cases (test n) (suc n) (latest test n)) [
      | inl c ↦ let same : k ≡ n = omega arith in rw same c.0
      | inr c ↦ latest-in test n k (sym c.1 ∙ e)
    ]

latest-same : (test other : ℕ → Bool) (n : ℕ) → ((k : ℕ) → k < n → test k ≡ other k) → latest test n ≡ latest other n
latest-same test other zero same = refl
latest-same test other (suc n) same = rw (same n (omega arith), latest-same test other n (λ k h. same k (omega arith))) refl

get_or-map : {X : Type 0} (f : X → ℕ) (xs : List X) (k : ℕ) (x : X) → slice_get xs k ≡ Some x → get_or (map f xs) k 0 ≡ f x
get_or-map f [] k x h = absurd cc
get_or-map f (y ∷ xs) zero x h = let same : y ≡ x = cc in ap f same
get_or-map f (y ∷ xs) (suc k) x h = get_or-map f xs k x h

-- how far a search in a chain has come: the type stands nowhere from the link on, and the next place is of its chain
pub record Passed (types : List Ty) (n : ℕ) (ty : Ty) (link : ℕ) : Type 0 where
  pub within : link ≤ length types
  pub stays : (k : ℕ) → link ≡ suc k → get_or (slots_of n types) k 0 ≡ slot_of n ty
  pub absent : (k : ℕ) → link ≤ k → slice_get types k ≡ Some ty → ⊥

passed-latest : (types : List Ty) (n : ℕ) (ty : Ty) (m : ℕ) → m ≤ length types → ((k : ℕ) → m ≤ k → slice_get types k ≡ Some ty → ⊥)
    → Passed types n ty (latest (is_at (slots_of n types) (slot_of n ty)) m)
passed-latest types n ty m h absent =
    let test = is_at (slots_of n types) (slot_of n ty) in
    let low = latest-low test m in
    record {
      within = omega arith;
      stays = λ k e. eqb-true _ _ (latest-in test m k e);
      absent = λ k above here. elim (cases_lt k m) [
        | inl below ↦ false≢true (sym (latest-last test m k above below) ∙ eq-eqb _ _ (get_or-map (slot_of n) types k ty here))
        | inr from ↦ absent k from here
      ];
    }

pub passed-first : (types : List Ty) (heads next : List ℕ) (ty : Ty) → IsIndex types heads next → 0 < length heads
    → Passed types (length heads) ty (get_or heads (slot_of (length heads) ty) 0)
passed-first types heads next ty index h =
    rw (index.begins (slot_of (length heads) ty) (omega arith))
    (passed-latest types (length heads) ty (length types) (omega arith) (λ k past here. absurd (let below = slice_get_within types k ty here in omega arith)))

pub passed-next : (types : List Ty) (heads next : List ℕ) (ty : Ty) (k : ℕ) → IsIndex types heads next → Passed types (length heads) ty (suc k)
    → (slice_get types k ≡ Some ty → ⊥) → Passed types (length heads) ty (get_or next k 0)
passed-next types heads next ty k index passed other =
    let within = passed.within in
    rw (index.goes_on k (omega arith), passed.stays k refl)
    (passed-latest types (length heads) ty k (omega arith) (λ j from here. elim (cases_lt k j) [
      | inl past ↦ passed.absent j (omega arith) here
      | inr to ↦ let same : j ≡ k = omega arith in other (rw same at here)
    ]))

-- a list of slots that goes on passes the same tests at its first places
is_at-front : (slots more : List ℕ) (s k : ℕ) → k < length slots → is_at (slots ++ more) s k ≡ is_at slots s k
is_at-front slots more s k h = ap (λ a. nat_eq a s) (get_or_append_left slots more 0 k h)

latest-front : (slots more : List ℕ) (s k : ℕ) → k ≤ length slots → latest (is_at (slots ++ more) s) k ≡ latest (is_at slots s) k
latest-front slots more s k h = latest-same (is_at (slots ++ more) s) (is_at slots s) k (λ j below. is_at-front slots more s j (omega arith))

at-end : (slots : List ℕ) (own : ℕ) → get_or (slots ++ own ∷ []) (length slots) 0 ≡ own
at-end slots own = get_or-append_seam slots own [] 0

-- the chain of one more type begins at it; the other chains stay
begins-own : (slots : List ℕ) (own s : ℕ) → own ≡ s → latest (is_at (slots ++ own ∷ []) s) (suc (length slots)) ≡ suc (length slots)
begins-own slots own s same =
    let test = is_at (slots ++ own ∷ []) s in
    let holds : test (length slots) ≡ true = eq-eqb _ _ (at-end slots own ∙ same) in
    ap (λ b. cond b (suc (length slots)) (latest test (length slots))) holds

begins-other : (slots : List ℕ) (own s : ℕ) → nat_eq own s ≡ false
    → latest (is_at (slots ++ own ∷ []) s) (suc (length slots)) ≡ latest (is_at slots s) (length slots)
begins-other slots own s other =
    let test = is_at (slots ++ own ∷ []) s in
    let fails : test (length slots) ≡ false = ap (λ a. nat_eq a s) (at-end slots own) ∙ other in
    ap (λ b. cond b (suc (length slots)) (latest test (length slots))) fails ∙ latest-front slots (own ∷ []) s (length slots) (omega arith)

-- one more slot at the end is the first of its chain, before what was
begins-more : (slots heads : List ℕ) (own s : ℕ) → s < length heads → get_or heads s 0 ≡ latest (is_at slots s) (length slots)
    → get_or (set heads own (suc (length slots))) s 0 ≡ latest (is_at (slots ++ own ∷ []) s) (suc (length slots))
begins-more slots heads own s h was =
    elim (cond-cases {A = ℕ} (nat_eq own s) 0 0) [
      | inl c ↦
          let same : own ≡ s = eqb-true own s c.0 in
          rw same (get_or-set_same heads s (suc (length slots)) 0 h) ∙ sym (begins-own slots own s same)
      | inr c ↦
          let differs : s ≡ own → ⊥ = λ e. eqb-false own s c.0 (sym e) in
          get_or-set_other heads own s (suc (length slots)) 0 differs ∙ was ∙ sym (begins-other slots own s c.0)
    ]

goes-on-more : (slots heads next : List ℕ) (own k : ℕ) → k < suc (length slots) → length slots < length next → get_or heads own 0 ≡ latest (is_at slots own) (length slots)
    → ((j : ℕ) → j < length slots → get_or next j 0 ≡ latest (is_at slots (get_or slots j 0)) j)
    → get_or (set next (length slots) (get_or heads own 0)) k 0 ≡ latest (is_at (slots ++ own ∷ []) (get_or (slots ++ own ∷ []) k 0)) k
goes-on-more slots heads next own k h room was old =
    elim (cases_lt k (length slots)) [
      | inl below ↦
          let differs : k ≡ length slots → ⊥ = λ e. omega arith in
          rw (get_or_append_left slots (own ∷ []) 0 k below)
          (get_or-set_other next (length slots) k (get_or heads own 0) 0 differs ∙ old k below ∙ sym (latest-front slots (own ∷ []) (get_or slots k 0) k (omega arith)))
      | inr last ↦
          let same : k ≡ length slots = omega arith in
          rw (same, at-end slots own)
          (get_or-set_same next (length slots) (get_or heads own 0) 0 room ∙ was ∙ sym (latest-front slots (own ∷ []) own (length slots) (omega arith)))
    ]

length-more : {X : Type 0} (xs : List X) (x : X) → length (xs ++ x ∷ []) ≡ suc (length xs)
length-more xs x = omega (arith, length-append xs (x ∷ []))

pub index-link : (types : List Ty) (heads next : List ℕ) (ty : Ty) → IsIndex types heads next → length types < length heads
    → IsIndex (types ++ ty ∷ []) (set heads (slot_of (length heads) ty) (suc (length types))) (set next (length types) (get_or heads (slot_of (length heads) ty) 0))
index-link types heads next ty index h =
    let n = length heads in
    let own = slot_of n ty in
    let slots = slots_of n types in
    let long : length slots ≡ length types = length-map types (slot_of n) in
    let more : slots_of n (types ++ ty ∷ []) ≡ slots ++ own ∷ [] = map-append (slot_of n) types (ty ∷ []) in
    let kept : length (set heads own (suc (length types))) ≡ n = length-set heads own (suc (length types)) in
    let below : own < n = mod-lt (type_hash ty) (omega arith) in
    let was : (s : ℕ) → s < n → get_or heads s 0 ≡ latest (is_at slots s) (length slots) = λ s within. rw long (index.begins s within) in
    record {
      room = omega (arith, kept, length-more types ty);
      paired = omega (arith, kept, index.paired, length-set next (length types) (get_or heads own 0));
      begins = λ s within. rw (kept, more, length-more types ty, ← long) (begins-more slots heads own s (omega (arith, kept)) (was s (omega (arith, kept))));
      goes_on = λ k within. rw (kept, more, ← long)
          (goes-on-more slots heads next own k (omega (arith, length-more types ty)) (omega (arith, index.paired)) (was own below)
          (λ j before. index.goes_on j (omega arith)));
    }

-- no types in no slots, and in any number of them
pub index-none : IsIndex [] [] []
index-none = record { room = omega arith; paired = refl; begins = λ s h. absurd (omega arith); goes_on = λ k h. absurd (omega arith) }

pub index-fresh : (n : ℕ) → IsIndex [] (replicate n 0) (replicate n 0)
index-fresh n = record {
  room = omega arith;
  paired = refl;
  begins = λ s h. get_or-replicate n s 0 0 (rw (length-replicate {A = ℕ} n 0) at h);
  goes_on = λ k h. absurd (omega arith);
}

-- ---- the same, of what the code reads

slot-below : (heads : List ℕ) (ty : Ty) → 0 < length heads → slot_of (length heads) ty < length heads
slot-below heads ty h = mod-lt (type_hash ty) h

pub first-read : (types : List Ty) (heads next : List ℕ) (ty : Ty) (link : ℕ) → IsIndex types heads next → 0 < length heads
    → link ≡ get_or heads (slot_of (length heads) ty) link → Passed types (length heads) ty link
first-read types heads next ty link index h read =
    let is : link ≡ get_or heads (slot_of (length heads) ty) 0 = read ∙ get_or_default_zero heads (slot_of (length heads) ty) link (slot-below heads ty h) in
    rw is (passed-first types heads next ty index h)

one-before : (link : ℕ) → 0 < link → link ≡ suc (link - 1)
one-before link h = omega arith

next-is : (types : List Ty) (heads next : List ℕ) (ty : Ty) (link after : ℕ) → IsIndex types heads next → Passed types (length heads) ty link → 0 < link
    → after ≡ get_or next (link - 1) after → after ≡ get_or next (link - 1) 0
next-is types heads next ty link after index passed h read =
    let within = passed.within in
    let room = index.room in
    let paired = index.paired in
    read ∙ get_or_default_zero next (link - 1) after (omega arith)

pub next-falls : (types : List Ty) (heads next : List ℕ) (ty : Ty) (link after : ℕ) → IsIndex types heads next → Passed types (length heads) ty link → 0 < link
    → after ≡ get_or next (link - 1) after → after < link
next-falls types heads next ty link after index passed h read =
    let within = passed.within in
    let slots = slots_of (length heads) types in
    let is = next-is types heads next ty link after index passed h read in
    let goes = index.goes_on (link - 1) (omega arith) in
    let low = latest-low (is_at slots (get_or slots (link - 1) 0)) (link - 1) in
    omega arith

pub here-read : (types : List Ty) (n : ℕ) (ty : Ty) (link : ℕ) (x : Ty) → Passed types n ty link → 0 < link
    → x ≡ get_or types (link - 1) x → x ≡ ty → slice_get types (link - 1) ≡ Some ty
here-read types n ty link x passed h read same =
    let within = passed.within in
    slice_get_read types (length types) (link - 1) x refl (omega arith) read ∙ ap Some same

pub next-read : (types : List Ty) (heads next : List ℕ) (ty : Ty) (link : ℕ) (x : Ty) (after : ℕ) → IsIndex types heads next
    → Passed types (length heads) ty link → 0 < link → x ≡ get_or types (link - 1) x → (x ≡ ty → ⊥) → after ≡ get_or next (link - 1) after
    → Passed types (length heads) ty after
next-read types heads next ty link x after index passed h read other goes =
    let within = passed.within in
    let here : slice_get types (link - 1) ≡ Some x = slice_get_read types (length types) (link - 1) x refl (omega arith) read in
    let differs : slice_get types (link - 1) ≡ Some ty → ⊥ = λ is. other (cc (here, is)) in
    let P : ℕ → Type 0 = λ m. Passed types (length heads) ty m in
    rw (next-is types heads next ty link after index passed h goes)
    (passed-next types heads next ty (link - 1) index (subst P (one-before link h) passed) differs)

pub link-read : (types : List Ty) (heads next : List ℕ) (at : ℕ) (x : Ty) (s link : ℕ) → at < length types → at < length heads → IsIndex (take at types) heads next
    → x ≡ get_or types at x → s ≡ slot_of (length heads) x → link ≡ get_or heads s link
    → IsIndex (take (at + 1) types) (set heads s (at + 1)) (set next at link)
link-read types heads next at x s link within room index read slot goes =
    let long : length (take at types) ≡ at = length-take-le at types (omega arith) in
    let more : take (at + 1) types ≡ take at types ++ x ∷ [] = take_more types at x within ∙ ap (λ y. take at types ++ y ∷ []) (sym read) in
    let is : link ≡ get_or heads (slot_of (length heads) x) 0 =
    goes ∙ ap (λ i. get_or heads i link) slot ∙ get_or_default_zero heads (slot_of (length heads) x) link (slot-below heads x (omega arith)) in
    let linked = index-link (take at types) heads next x index (omega arith) in
    rw (more, slot, is, add-one) (rw long at linked)
