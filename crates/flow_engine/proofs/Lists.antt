-- Items of lists, and the lists of a problem.
use Rattle.std.proofs.Common.{◌≡◌, ◌≢◌, ◌⊎◌, inl, inr, refl, sym, ap, ap₂, ◌∙◌, subst, ℕ, zero, suc, ◌+◌, ◌<◌, List, [], ◌∷◌, ◌++◌, length, get_or, set, take, Some, slice_get, arith}
use Rattle.std.specs.List.{Contains}
use Rattle.std.proofs.lemmas.Bool.{cases_eq}
use Rattle.std.proofs.lemmas.List.{take_more, length-set, length-take-le}
use Rattle.std.proofs.lemmas.Option.{slice_get_read}
use Rattle.std.proofs.lemmas.List.Elements.{Contains-push, Contains-append_left, Contains-push_cases}
use Rattle.mir_syntax.proofs.Lists.{set_there}
use Rattle.mir_syntax.proofs.Trees.{slice_get-front}
use Rattle.flow_engine.specs.declared.edges.Edge.{Edge}
use Rattle.flow_engine.specs.Solving.{IsLeaving}
use Rattle.flow_engine.specs.Flow.{Arrow, starts_to, arrows_at}

pub some_one : {A : Type 0} {x y : A} → Some x ≡ Some y → x ≡ y
some_one e = grind arith

pub get_set_other : {A : Type 0} (xs : List A) (t i : ℕ) (y : A) → i ≢ t → slice_get (set xs t y) i ≡ slice_get xs i
get_set_other [] t i y ne = refl
get_set_other (z ∷ xs) zero zero y ne = absurd (ne refl)
get_set_other (z ∷ xs) zero (suc i) y ne = refl
get_set_other (z ∷ xs) (suc t) zero y ne = refl
get_set_other (z ∷ xs) (suc t) (suc i) y ne = get_set_other xs t i y (λ e. ne (ap suc e))

pub none_in_empty : {A : Type 0} (x : A) → Contains {X = A} [] x → ⊥
none_in_empty x p = absurd (omega (arith, p.1))

pub length-starts : {A : Type 0} (start : ℕ → A) (b n : ℕ) → length (starts_to start b n) ≡ n
length-starts start b zero = refl
length-starts start b (suc n) = ap suc (length-starts start (suc b) n)

pub start_at : {A : Type 0} (start : ℕ → A) (b n i : ℕ) (s : A) → slice_get (starts_to start b n) i ≡ Some s → s ≡ start (b + i)
start_at start b zero i s e = absurd (grind arith)
start_at start b (suc n) zero s e = sym (some_one e) ∙ ap start (let z : b ≡ b + 0 = omega arith in z)
start_at start b (suc n) (suc i) s e = start_at start (suc b) n i s e ∙ ap start (let z : suc b + i ≡ b + suc i = omega arith in z)

pub starts_more : {A : Type 0} (start : ℕ → A) (b n : ℕ) → starts_to start b (suc n) ≡ starts_to start b n ++ start (b + n) ∷ []
starts_more start b zero = ap (λ k. start k ∷ []) (let z : b ≡ b + 0 = omega arith in z)
starts_more start b (suc n) = ap (λ xs. start b ∷ xs) (starts_more start (suc b) n ∙ ap (λ k. starts_to start (suc b) n ++ start k ∷ []) (let z : suc b + n ≡ b + suc n = omega arith in z))

-- the edge behind an arrow
pub record IsArrow {A : Type 0} (flow : ℕ → A → A) (i : ℕ) (es : List Edge) (a : Arrow A) : Type 0 where
  pub edge : Edge
  pub at : slice_get es i ≡ Some edge
  pub from : a.from ≡ edge.from
  pub to : a.to ≡ edge.to
  pub flows : a.flow ≡ flow i

arrow_from : {A : Type 0} (flow : ℕ → A → A) (k : ℕ) (es : List Edge) (i : ℕ) (a : Arrow A) → slice_get (arrows_at flow k es) i ≡ Some a → (e : Edge) × (slice_get es i ≡ Some e) × (record { from = e.from; to = e.to; flow = flow (k + i) } ≡ a)
arrow_from flow k [] i a e = absurd (grind arith)
arrow_from {A} flow k (d ∷ es) zero a e = (d, refl, ap (λ n. (let r : Arrow A = record { from = d.from; to = d.to; flow = flow n } in r)) (let z : k + 0 ≡ k = omega arith in z) ∙ some_one e)
arrow_from {A} flow k (d ∷ es) (suc i) a e = let p = arrow_from flow (suc k) es i a e in (p.0, p.1, ap (λ n. (let r : Arrow A = record { from = p.0.from; to = p.0.to; flow = flow n } in r)) (let z : k + suc i ≡ suc k + i = omega arith in z) ∙ p.2)

pub arrow_is : {A : Type 0} (flow : ℕ → A → A) (es : List Edge) (i : ℕ) (a : Arrow A) → slice_get (arrows_at flow 0 es) i ≡ Some a → IsArrow flow i es a
arrow_is flow es i a e =
    let p = arrow_from flow 0 es i a e in
    record { edge = p.0; at = p.1; from = sym (ap (λ (a : Arrow _). a.from) p.2); to = sym (ap (λ (a : Arrow _). a.to) p.2); flows = sym (ap (λ (a : Arrow _). a.flow) p.2) ∙ ap flow (let z : 0 + i ≡ i = omega arith in z) }

pub arrow_to : {A : Type 0} (flow : ℕ → A → A) (k : ℕ) (es : List Edge) (i : ℕ) (e : Edge) → slice_get es i ≡ Some e → slice_get (arrows_at flow k es) i ≡ Some (record { from = e.from; to = e.to; flow = flow (k + i) })
arrow_to flow k [] i e q = absurd (grind arith)
arrow_to {A} flow k (d ∷ es) zero e q = ap₂ (λ (d : Edge) n. Some (let r : Arrow A = record { from = d.from; to = d.to; flow = flow n } in r)) (some_one q) (let z : k ≡ k + 0 = omega arith in z)
arrow_to {A} flow k (d ∷ es) (suc i) e q = arrow_to flow (suc k) es i e q ∙ ap (λ n. Some (let r : Arrow A = record { from = e.from; to = e.to; flow = flow n } in r)) (let z : suc k + i ≡ k + suc i = omega arith in z)

pub get_last : {A : Type 0} (xs : List A) (y : A) (n : ℕ) → length xs ≡ n → slice_get (xs ++ y ∷ []) n ≡ Some y
get_last [] y zero e = refl
get_last [] y (suc n) e = absurd (omega arith)
get_last (x ∷ xs) y zero e = absurd (omega arith)
get_last (x ∷ xs) y (suc n) e = get_last xs y n (omega arith)

pub get_push : {A : Type 0} (xs : List A) (y : A) (j : ℕ) (x : A) (n : ℕ) → length xs ≡ n → slice_get (xs ++ y ∷ []) j ≡ Some x → ((j ≡ n) × (x ≡ y)) ⊎ (slice_get xs j ≡ Some x)
get_push [] y zero x n e g = inl (e, sym (some_one g))
get_push [] y (suc j) x n e g = absurd (grind arith)
get_push (z ∷ xs) y zero x n e g = inr g
get_push (z ∷ xs) y (suc j) x zero e g = absurd (omega arith)
get_push (z ∷ xs) y (suc j) x (suc n) e g = elim (get_push xs y j x n (omega arith) g) [ inl k ↦ inl (ap suc k.0, k.1) | inr k ↦ inr k ]

-- one more edge in the list of the block that it leaves
pub leaving_more : (es : List Edge) (blocks : ℕ) (lists : List (List ℕ)) (i : ℕ) (d : Edge) (list list2 : List ℕ) → i < length es → IsLeaving (take i es) blocks lists → (get_or es i d).from < blocks → list ≡ get_or lists (get_or es i d).from list → list2 ≡ list ++ i ∷ [] → IsLeaving (take (i + 1) es) blocks (set lists (get_or es i d).from list2)
leaving_more es blocks lists i d list list2 l v low read pushed = record {
  long = length-set lists t list2 ∙ v.long;
  has = λ j e at found where_at. has j e at found where_at;
  only = λ b j found where_at c. only b j found where_at c;
}
  where
    t : ℕ
    t = (get_or es i d).from

    more : take (i + 1) es ≡ take i es ++ get_or es i d ∷ []
    more = take_more es i d l

    front : length (take i es) ≡ i
    front = length-take-le i es (omega arith)

    in_lists : (get_or es i d).from < length lists
    in_lists = omega (arith, v.long, low)

    at_t : slice_get lists (get_or es i d).from ≡ Some list
    at_t = slice_get_read lists (length lists) (get_or es i d).from list refl in_lists read

    at_new : (b : ℕ) (found : List ℕ) → slice_get (set lists (get_or es i d).from list2) b ≡ Some found → ((b ≡ (get_or es i d).from) × (found ≡ list2)) ⊎ ((b ≢ (get_or es i d).from) × (slice_get lists b ≡ Some found))
    at_new b found g = elim (cases_eq b (get_or es i d).from) [
      | inl s ↦ inl (s, some_one (sym g ∙ ap (slice_get (set lists (get_or es i d).from list2)) s ∙ set_there lists (get_or es i d).from list2 list at_t))
      | inr ne ↦ inr (ne, sym (get_set_other lists (get_or es i d).from b list2 ne) ∙ g)
    ]

    edge_at : (j : ℕ) (e : Edge) → slice_get (take (i + 1) es) j ≡ Some e → ((j ≡ i) × (e ≡ get_or es i d)) ⊎ (slice_get (take i es) j ≡ Some e)
    edge_at j e at = get_push (take i es) (get_or es i d) j e i front (ap (λ xs. slice_get xs j) (sym more) ∙ at)

    has : (j : ℕ) (e : Edge) → slice_get (take (i + 1) es) j ≡ Some e → (found : List ℕ) → slice_get (set lists (get_or es i d).from list2) e.from ≡ Some found → Contains found j
    has j e at found g = elim (edge_at j e at) [
      | inl k ↦ elim (at_new e.from found g) [
        | inl q ↦ subst (λ xs. Contains xs j) (sym (q.1 ∙ pushed)) (subst (Contains (list ++ i ∷ [])) (sym k.0) (Contains-push list i))
        | inr q ↦ absurd (q.0 (ap (λ (e : Edge). e.from) k.1))
      ]
      | inr old ↦ elim (at_new e.from found g) [
        | inl q ↦ subst (λ xs. Contains xs j) (sym (q.1 ∙ pushed)) (Contains-append_left list (i ∷ []) j (v.has j e old list (ap (slice_get lists) q.0 ∙ at_t)))
        | inr q ↦ v.has j e old found q.1
      ]
    ]

    longer : (j : ℕ) (e : Edge) → slice_get (take i es) j ≡ Some e → slice_get (take (i + 1) es) j ≡ Some e
    longer j e at = ap (λ xs. slice_get xs j) more ∙ slice_get-front (take i es) (get_or es i d ∷ []) j e at

    only : (b j : ℕ) (found : List ℕ) → slice_get (set lists (get_or es i d).from list2) b ≡ Some found → Contains found j → (e : Edge) × (slice_get (take (i + 1) es) j ≡ Some e) × (e.from ≡ b)
    only b j found g c = elim (at_new b found g) [
      | inl q ↦ elim (Contains-push_cases list i j (subst (λ xs. Contains xs j) (q.1 ∙ pushed) c)) [
        | inl old ↦ (let p = v.only (get_or es i d).from j list at_t old in (p.0, longer j p.0 p.1, p.2 ∙ sym q.0))
        | inr same ↦ (get_or es i d, ap (slice_get (take (i + 1) es)) (sym same) ∙ ap (λ xs. slice_get xs i) more ∙ get_last (take i es) (get_or es i d) i front, sym q.0)
      ]
      | inr q ↦ (let p = v.only b j found q.1 c in (p.0, longer j p.0 p.1, p.2))
    ]
