-- The candidates of a function are those that come in three layers.
use Rattle.std.proofs.Common.{◌≡◌, ◌≢◌, refl, sym, ap, ap₂, ◌∙◌, subst, ℕ, ◌<◌, Bool, true, false, ◌||◌, List, [], ◌∷◌, ◌++◌, append_assoc, append-nil, length, get_or, set, replicate, ◌⊎◌, inl, inr, arith}
use Rattle.std.specs.Prelude.{if◌then◌else◌}
use Rattle.std.proofs.lemmas.Bool.Decides.{nat_tests}
use Rattle.std.proofs.lemmas.List.{length-set, length-replicate, get_or-replicate, get_or-set_same, get_or-set_other}
use Rattle.bit_rows.specs.Rows.{marked, stands}
use Rattle.bit_rows.proofs.Marks.{length-marked, marked-at, marked-append}
use Rattle.call_graph.specs.Callees.{once_after}
use Rattle.call_graph.proofs.Once.{IsOnce, both, stands_cases, stands_first, stands_later, stands_append}
use Rattle.query_plan.specs.Queries.{Pipeline, callees_of, brought, opt, takes}
use Rattle.query_plan.specs.Source.{IsSource}
use Rattle.query_plan.proofs.Calls.{in_once_after, calls_below}
use Rattle.query_plan.proofs.Members.{is_once}
use Rattle.candidates.specs.Walk.{AllBelow, new_by, layer_from, coming_from}
use Rattle.candidates.specs.Comes.{never_of, wanted, brings_of, all_of}
use Rattle.candidates.proofs.Walking.{new_join}

pub wanted_join : (never : ℕ → Bool) (xs ys : List ℕ) → wanted never (xs ++ ys) ≡ wanted never xs ++ wanted never ys
wanted_join never [] ys = refl
wanted_join never (x ∷ xs) ys = go (never x) (wanted_join never xs ys)
  where
    go : (b : Bool) → wanted never (xs ++ ys) ≡ wanted never xs ++ wanted never ys → ◌≡◌ {A = List ℕ} (if b then wanted never (xs ++ ys) else x ∷ wanted never (xs ++ ys)) ((if b then wanted never xs else x ∷ wanted never xs) ++ wanted never ys)
    go true r = r
    go false r = ap (λ (zs : List ℕ). x ∷ zs) r

pub in_wanted : (never : ℕ → Bool) (g : ℕ) (gs : List ℕ) → stands g (wanted never gs) ≡ true → (stands g gs ≡ true) × (never g ≡ false)
in_wanted never g [] h = absurd (cc)
in_wanted never g (x ∷ xs) h = go (never x) refl h (in_wanted never g xs)
  where
    go : (b : Bool) → never x ≡ b → stands g (if b then wanted never xs else x ∷ wanted never xs) ≡ true → (stands g (wanted never xs) ≡ true → (stands g xs ≡ true) × (never g ≡ false)) → (stands g (x ∷ xs) ≡ true) × (never g ≡ false)
    go true e k r = let s = r k in (stands_later g x xs s.0, s.1)
    go false e k r = elim (stands_cases g x (wanted never xs) k) [
      | inl s ↦ (subst (λ (y : ℕ). stands g (y ∷ xs) ≡ true) s (stands_first g xs), ap never s ∙ e)
      | inr m ↦ (let s = r m in (stands_later g x xs s.0, s.1))
    ]

pub all_listed : (seen xs : List ℕ) (g : ℕ) → stands g xs ≡ true → (stands g seen || stands g (once_after seen xs)) ≡ true
all_listed seen [] g h = absurd (cc)
all_listed seen (x ∷ xs) g h = go (stands x seen) refl (stands_cases g x xs h) (all_listed seen xs g) (all_listed (x ∷ seen) xs g)
  where
    go : (b : Bool) → stands x seen ≡ b → (g ≡ x) ⊎ (stands g xs ≡ true) → (stands g xs ≡ true → (stands g seen || stands g (once_after seen xs)) ≡ true) → (stands g xs ≡ true → (stands g (x ∷ seen) || stands g (once_after (x ∷ seen) xs)) ≡ true) → (stands g seen || stands g (if b then once_after seen xs else x ∷ once_after (x ∷ seen) xs)) ≡ true
    go true e (inl s) r t = let k : stands g seen ≡ true = subst (λ (y : ℕ). stands y seen ≡ true) (sym s) e in grind arith
    go true e (inr m) r t = r m
    go false e (inl s) r t = let k : stands g (x ∷ once_after (x ∷ seen) xs) ≡ true = subst (λ (y : ℕ). stands g (y ∷ once_after (x ∷ seen) xs) ≡ true) s (stands_first g (once_after (x ∷ seen) xs)) in grind arith
    go false e (inr m) r t = let u = t m in grind arith

-- the marks are those of a list
pub record Agrees (n : ℕ) (known : List Bool) (seen : List ℕ) : Type 0 where
  pub long : length known ≡ n
  pub bits : (y : ℕ) → y < n → get_or known y false ≡ stands y seen

agrees_set : (n : ℕ) (known : List Bool) (seen : List ℕ) (x : ℕ) → x < n → Agrees n known seen → Agrees n (set known x true) (x ∷ seen)
agrees_set n known seen x lt a = record {
  long = length-set known x true ∙ a.long;
  bits = λ y l. elim (let c : (y ≡ x) ⊎ (y ≢ x) = grind (arith, nat_tests) in c) [
    | inl e ↦ subst (λ (z : ℕ). get_or (set known x true) z false ≡ stands z (x ∷ seen)) (sym e) (get_or-set_same known x true false (let k = a.long in omega (arith, lt, k)) ∙ sym (stands_first x seen))
    | inr ne ↦ (let s = get_or-set_other known x y true false ne in let b = a.bits y l in grind (arith, nat_tests))
  ];
}

agrees_again : (n : ℕ) (known : List Bool) (seen : List ℕ) (x : ℕ) → stands x seen ≡ true → Agrees n known (x ∷ seen) → Agrees n known seen
agrees_again n known seen x h a = record { long = a.long; bits = λ y l. a.bits y l ∙ same y }
  where
    same : (y : ℕ) → stands y (x ∷ seen) ≡ stands y seen
    same y = elim (let c : (y ≡ x) ⊎ (y ≢ x) = grind (arith, nat_tests) in c) [
      | inl e ↦ subst (λ (z : ℕ). stands z (x ∷ seen) ≡ stands z seen) (sym e) (stands_first x seen ∙ sym h)
      | inr ne ↦ grind (arith, nat_tests)
    ]

pub new_is : (never : ℕ → Bool) (n : ℕ) (known : List Bool) (seen xs : List ℕ) → Agrees n known seen → AllBelow n xs → new_by never known xs ≡ wanted never (once_after seen xs)
new_is never n known seen [] a l = refl
new_is never n known seen (x ∷ xs) a l =
    let lt = l x (stands_first x xs) in
    let later : AllBelow n xs = λ y m. l y (stands_later y x xs m) in
    let b = agrees_set n known seen x lt a in
    go (stands x seen) refl (never x) (a.bits x lt) (λ (h : stands x seen ≡ true). new_is never n (set known x true) seen xs (agrees_again n (set known x true) seen x h b) later) (new_is never n (set known x true) (x ∷ seen) xs b later)
  where
    go : (s : Bool) → stands x seen ≡ s → (nev : Bool) → get_or known x false ≡ stands x seen → (stands x seen ≡ true → new_by never (set known x true) xs ≡ wanted never (once_after seen xs)) → new_by never (set known x true) xs ≡ wanted never (once_after (x ∷ seen) xs)
        → ◌≡◌ {A = List ℕ} ((if get_or known x false || never x then [] else x ∷ []) ++ new_by never (set known x true) xs) (wanted never (if s then once_after seen xs else x ∷ once_after (x ∷ seen) xs))
    go true e nev k r t = ap (λ (b : Bool). let ys : List ℕ = if b || never x then [] else x ∷ [] in ys ++ new_by never (set known x true) xs) (k ∙ e) ∙ r e
    go false e nev k r t = ap (λ (b : Bool). let ys : List ℕ = if b || never x then [] else x ∷ [] in ys ++ new_by never (set known x true) xs) (k ∙ e) ∙ own (never x)
      where
        own : (b : Bool) → ◌≡◌ {A = List ℕ} ((if b then [] else x ∷ []) ++ new_by never (set known x true) xs) (if b then wanted never (once_after (x ∷ seen) xs) else x ∷ wanted never (once_after (x ∷ seen) xs))
        own true = t
        own false = ap (λ (ys : List ℕ). x ∷ ys) t

has_join : (y : ℕ) (xs ys : List ℕ) → stands y (xs ++ ys) ≡ (stands y xs || stands y ys)
has_join y [] ys = refl
has_join y (x ∷ xs) ys = let r = has_join y xs ys in grind arith

pub agrees_after : (n : ℕ) (known : List Bool) (seen xs : List ℕ) → Agrees n known seen → Agrees n (marked known xs) (seen ++ once_after seen xs)
agrees_after n known seen xs a = record {
  long = length-marked known xs ∙ a.long;
  bits = λ y l.
      let long = a.long in
      let m = marked-at known xs y (omega (arith, l, long)) in
      let b = a.bits y l in
      let j = has_join y seen (once_after seen xs) in
      m ∙ ap (λ (p : Bool). p || stands y xs) b ∙ same (stands y seen) (stands y xs) (stands y (once_after seen xs)) (all_listed seen xs y) (inner y) ∙ sym j;
}
  where
    inner : (y : ℕ) → stands y (once_after seen xs) ≡ true → stands y xs ≡ true
    inner y h = in_once_after seen xs y h

    same : (s x m : Bool) → (x ≡ true → (s || m) ≡ true) → (m ≡ true → x ≡ true) → (s || x) ≡ (s || m)
    same true x m h k = refl
    same false true m h k = sym (h refl)
    same false false true h k = k refl
    same false false false h k = refl

new_once_is : (seen xs : List ℕ) → IsOnce xs → ((y : ℕ) → stands y xs ≡ true → stands y seen ≡ false) → once_after seen xs ≡ xs
new_once_is seen [] o h = refl
new_once_is seen (x ∷ xs) o h =
    ap (λ (b : Bool). if b then once_after seen xs else x ∷ once_after (x ∷ seen) xs) (h x (stands_first x xs))
    ∙ ap (λ (ys : List ℕ). x ∷ ys) (new_once_is (x ∷ seen) xs o.1 (λ y k. elim (let c : (y ≡ x) ⊎ (y ≢ x) = grind (arith, nat_tests) in c) [
      | inl e ↦ absurd (both (stands x xs) (subst (λ (z : ℕ). stands z xs ≡ true) e k) o.0)
      | inr ne ↦ (let s = h y (stands_later y x xs k) in grind (arith, nat_tests))
    ]))

-- ---- one layer after another

module _ {B : Type 0} (P : Pipeline B) (is : IsSource P) (f : ℕ) (lt : f < P.functions) where
  abbrev pub n : ℕ
  n = P.functions

  abbrev pub never : ℕ → Bool
  never = never_of P

  abbrev pub b : ℕ → List ℕ
  b = brings_of P f

  abbrev pub bring : List ℕ → List ℕ
  bring gs = brought P (opt P) f gs

  never_brings : (g : ℕ) → never g ≡ true → b g ≡ []
  never_brings g h = let no : takes P (opt P) f g ≡ false = grind arith in ap (λ (t : Bool). let xs : List ℕ = if t then P.callees (opt P g) else [] in xs) no

  layer_all : (after : List Bool → List ℕ → List ℕ) (known : List Bool) (fresh gs : List ℕ) → layer_from never b after known fresh (wanted never gs) ≡ wanted never gs ++ after (marked known (bring gs)) (fresh ++ new_by never known (bring gs))
  layer_all after known fresh [] = ap (after known) (sym (append-nil fresh))
  layer_all after known fresh (g ∷ gs) = go (never g) refl (λ k fr. layer_all after k fr gs)
    where
      go : (t : Bool) → never g ≡ t → ((k : List Bool) (fr : List ℕ) → layer_from never b after k fr (wanted never gs) ≡ wanted never gs ++ after (marked k (bring gs)) (fr ++ new_by never k (bring gs))) → layer_from never b after known fresh (if t then wanted never gs else g ∷ wanted never gs) ≡ (if t then wanted never gs else g ∷ wanted never gs) ++ after (marked known (b g ++ bring gs)) (fresh ++ new_by never known (b g ++ bring gs))
      go true e r = r known fresh ∙ ap (λ (xs : List ℕ). wanted never gs ++ after (marked known xs) (fresh ++ new_by never known xs)) (ap (λ (ys : List ℕ). ys ++ bring gs) (sym (never_brings g e)))
      go false e r = ap (λ (xs : List ℕ). g ∷ xs) (r (marked known (b g)) (fresh ++ new_by never known (b g))
          ∙ ap₂ (λ (k : List Bool) (fr : List ℕ). wanted never gs ++ after k fr) (sym (marked-append known (b g) (bring gs))) (append_assoc fresh (new_by never known (b g)) (new_by never (marked known (b g)) (bring gs)) ∙ ap (λ (xs : List ℕ). fresh ++ xs) (sym (new_join never known (b g) (bring gs)))))

  bring_low : (gs : List ℕ) → AllBelow n gs → AllBelow n (bring gs)
  bring_low [] l x h = absurd (cc)
  bring_low (g ∷ gs) l x h = elim (stands_append x (b g) (bring gs) h) [
    | inl k ↦ one (takes P (opt P) f g) k
    | inr k ↦ bring_low gs (λ y m. l y (stands_later y g gs m)) x k
  ]
    where
      one : (t : Bool) → stands x (if t then P.callees (opt P g) else []) ≡ true → x < n
      one true k = calls_below P is g x (l g (stands_first g gs)) k
      one false k = absurd (cc)

  new_low : (seen xs : List ℕ) → AllBelow n xs → AllBelow n (once_after seen xs)
  new_low seen xs l x h = l x (in_once_after seen xs x h)

  abbrev pub first : List ℕ
  first = callees_of P f

  abbrev pub start : List Bool
  start = replicate n false

  start_agrees : Agrees n start []
  start_agrees = record { long = length-replicate n false; bits = λ y l. get_or-replicate n y false false l }

  -- who comes in the end
  pub comes_all : coming_from never b 3 (marked start first) (new_by never start first) [] ≡ all_of P f
  comes_all =
      let known1 = marked start first in
      let second = once_after first (bring first) in
      let known2 = marked known1 (bring first) in
      let third = once_after (first ++ second) (bring second) in
      let once : once_after [] first ≡ first = new_once_is [] first (is_once first (is.calls.once (P.simple (P.body f)))) (λ y h. refl) in
      let low1 : AllBelow n first = λ x h. is.graph.callees_below f x h in
      let low2 : AllBelow n (bring first) = bring_low first low1 in
      let low3 : AllBelow n (bring second) = bring_low second (new_low first (bring first) low2) in
      let new1 : new_by never start first ≡ wanted never first = new_is never n start [] first start_agrees low1 ∙ ap (wanted never) once in
      let agrees1 : Agrees n known1 first = subst (Agrees n known1) once (agrees_after n start [] first start_agrees) in
      let new2 : new_by never known1 (bring first) ≡ wanted never second = new_is never n known1 first (bring first) agrees1 low2 in
      let agrees2 : Agrees n known2 (first ++ second) = agrees_after n known1 first (bring first) agrees1 in
      let new3 : new_by never known2 (bring second) ≡ wanted never third = new_is never n known2 (first ++ second) (bring second) agrees2 low3 in
      ap (λ (xs : List ℕ). coming_from never b 2 known1 [] xs) new1
      ∙ layer_all (λ k layer. coming_from never b 1 k [] layer) known1 [] first
      ∙ ap (λ (xs : List ℕ). wanted never first ++ coming_from never b 1 known2 [] xs) new2
      ∙ ap (λ (xs : List ℕ). wanted never first ++ xs) (layer_all (λ k layer. layer) known2 [] second ∙ ap (λ (xs : List ℕ). wanted never second ++ xs) new3 ∙ sym (wanted_join never second third))
      ∙ sym (wanted_join never first (second ++ third))
