-- For the tests only: what the works of their jobs were given.
use Rattle.std.proofs.Common.{◌≡◌, ◌≢◌, ℕ, zero, suc, ◌<◌, Bool, true, false, List, [], ◌∷◌, ◌++◌, refl, sym, ap, subst, ◌∙◌, arith, append_assoc, append-nil, length, length-append, ◌≤◌}
use Rattle.std.proofs.lemmas.Bool.Decides.{nat_tests}
use Rattle.std.specs.Prelude.{Option, Some, None, option_to_list, MatchOption, slice_get}
use Rattle.sched_core.specs.declared.state.Core.{Core}
use Rattle.sched_core.specs.Shown.{state_of, IsTold}
use Rattle.sched_core.specs.State.{State, Entry, start}
use Rattle.sched_core.specs.Plan.{Plan, has, next_need}
use Rattle.sched_core.specs.TestJobs.{reads, stolen, chosen, out, own, gathered, IsWork}

pub chosen_is : (far : Bool) → (1 < chosen far) × (chosen far < 4)
chosen_is false = (omega arith, omega arith)
chosen_is true = (omega arith, omega arith)

abbrev pub first : List ℕ → Option ℕ
first [] = None
first (x ∷ xs) = Some x

first_of : (o : Option ℕ) → first (option_to_list o) ≡ o
first_of None = refl
first_of (Some x) = refl

-- what a work that was given the first of its reads needs next
pub next_is : (far : Bool) (q : ℕ) (given rest : List ℕ) → reads far q ≡ given ++ rest → next_need (reads far q ++ option_to_list (stolen q)) given ≡ first (rest ++ option_to_list (stolen q))
next_is far zero [] [] e = refl
next_is far zero [] (x ∷ xs) e = absurd (cc)
next_is far zero (g ∷ gs) rest e = absurd (cc)
next_is far (suc zero) [] [] e = refl
next_is far (suc zero) [] (x ∷ xs) e = absurd (cc)
next_is far (suc zero) (g ∷ gs) rest e = absurd (cc)
next_is far (suc (suc zero)) [] [] e = absurd (cc)
next_is far (suc (suc zero)) [] (x ∷ xs) e = (cc)
next_is far (suc (suc zero)) (g ∷ []) [] e = grind (arith, nat_tests)
next_is far (suc (suc zero)) (g ∷ []) (x ∷ xs) e = absurd (cc)
next_is far (suc (suc zero)) (g ∷ (h ∷ gs)) rest e = absurd (cc)
next_is far (suc (suc (suc zero))) [] [] e = absurd (cc)
next_is far (suc (suc (suc zero))) [] (x ∷ xs) e = (cc)
next_is far (suc (suc (suc zero))) (g ∷ []) [] e = grind (arith, nat_tests)
next_is far (suc (suc (suc zero))) (g ∷ []) (x ∷ xs) e = absurd (cc)
next_is far (suc (suc (suc zero))) (g ∷ (h ∷ gs)) rest e = absurd (cc)
next_is far (suc (suc (suc (suc q)))) [] [] e = absurd (cc)
next_is far (suc (suc (suc (suc q)))) [] (x ∷ xs) e = (cc)
next_is far (suc (suc (suc (suc q)))) (g ∷ []) [] e = absurd (cc)
next_is far (suc (suc (suc (suc q)))) (g ∷ []) (x ∷ xs) e = grind (arith, nat_tests, chosen_is far)
next_is far (suc (suc (suc (suc q)))) (g ∷ (h ∷ [])) [] e = grind (arith, nat_tests)
next_is far (suc (suc (suc (suc q)))) (g ∷ (h ∷ [])) (x ∷ xs) e = absurd (cc)
next_is far (suc (suc (suc (suc q)))) (g ∷ (h ∷ (k ∷ gs))) rest e = absurd (cc)

gathered_more : (out : ℕ → List ℕ) (ns : List ℕ) (n : ℕ) → gathered out (ns ++ n ∷ []) ≡ gathered out ns ++ out n
gathered_more out [] n = append-nil (out n)
gathered_more out (m ∷ ns) n = ap (λ (xs : List ℕ). out m ++ xs) (gathered_more out ns n) ∙ sym (append_assoc (out m) (gathered out ns) (out n))

gave_rest : (far : Bool) (q : ℕ) (given rest : List ℕ) (need : ℕ) → reads far q ≡ given ++ rest → next_need (reads far q ++ option_to_list (stolen q)) given ≡ Some need → stolen q ≢ Some need → (tail : List ℕ) × (reads far q ≡ (given ++ need ∷ []) ++ tail)
gave_rest far q given [] need e n s = absurd (s (sym (first_of (stolen q)) ∙ sym (next_is far q given [] e) ∙ n))
gave_rest far q given (x ∷ xs) need e n s =
    let same : Some x ≡ Some need = sym (next_is far q given (x ∷ xs) e) ∙ n in
    let is : x ≡ need = (cc) in
    (xs, e ∙ ap (λ (y : ℕ). given ++ y ∷ xs) is ∙ sym (append_assoc given (need ∷ []) xs))

-- the work goes on once it is given the answer of its next need
pub gave : (far : Bool) (q : ℕ) (given items : List ℕ) (need : ℕ) (answer more : List ℕ) → IsWork far q given items → next_need (reads far q ++ option_to_list (stolen q)) given ≡ Some need → stolen q ≢ Some need → answer ≡ out far need → more ≡ items ++ answer → IsWork far q (given ++ need ∷ []) more
gave far q given items need answer more w n s a m =
    (gave_rest far q given w.0.0 need w.0.1 n s, m ∙ ap (λ (xs : List ℕ). xs ++ answer) w.1 ∙ ap (λ (xs : List ℕ). gathered (out far) given ++ xs) a ∙ sym (gathered_more (out far) given need))

-- once all is given that it reads
pub all_given : (far : Bool) (q : ℕ) (given rest : List ℕ) → reads far q ≡ given ++ rest → ((n : ℕ) → has n (reads far q ++ option_to_list (stolen q)) ≡ true → stolen q ≢ Some n → has n given ≡ true) → given ≡ reads far q
all_given far zero [] rest e h = refl
all_given far zero (g ∷ gs) rest e h = absurd (cc)
all_given far (suc zero) [] rest e h = refl
all_given far (suc zero) (g ∷ gs) rest e h = absurd (cc)
all_given far (suc (suc zero)) [] rest e h = absurd (let k : false ≡ true = h 1 refl (λ i. absurd (cc)) in cc)
all_given far (suc (suc zero)) (g ∷ []) rest e h = (cc)
all_given far (suc (suc zero)) (g ∷ (k ∷ gs)) rest e h = absurd (cc)
all_given far (suc (suc (suc zero))) [] rest e h = absurd (let k : false ≡ true = h 2 refl (λ i. absurd (grind (arith, i))) in cc)
all_given far (suc (suc (suc zero))) (g ∷ []) rest e h = (cc)
all_given far (suc (suc (suc zero))) (g ∷ (k ∷ gs)) rest e h = absurd (cc)
all_given far (suc (suc (suc (suc q)))) [] rest e h = absurd (let k : false ≡ true = h 0 refl (λ i. absurd (cc)) in cc)
all_given far (suc (suc (suc (suc q)))) (g ∷ []) rest e h =
    let k : has (chosen far) (g ∷ []) ≡ true = h (chosen far) (grind (arith, nat_tests)) (λ i. absurd (cc)) in
    absurd (grind (arith, nat_tests, chosen_is far, k))
all_given far (suc (suc (suc (suc q)))) (g ∷ (k ∷ [])) rest e h = (cc)
all_given far (suc (suc (suc (suc q)))) (g ∷ (k ∷ (l ∷ gs))) rest e h = absurd (cc)

pub begun : (far : Bool) (q : ℕ) (given items : List ℕ) → given ≡ [] → items ≡ [] → IsWork far q given items
begun far q given items g i = ((reads far q, ap (λ (xs : List ℕ). xs ++ reads far q) (sym g)), i ∙ ap (gathered (out far)) (sym g))

read_next : (far : Bool) (given items rest : List ℕ) → reads far 4 ≡ given ++ rest → items ≡ gathered (out far) given → length given ≡ 1 → slice_get items 0 ≡ next_need (reads far 4 ++ option_to_list (stolen 4)) given
read_next far [] items rest e i n = absurd (omega arith)
read_next far (g ∷ []) items rest e i n =
    let zero_given : g ≡ 0 = (cc) in
    let same : rest ≡ chosen far ∷ [] = (cc) in
    ap (λ (xs : List ℕ). slice_get xs 0) i ∙ ap (λ (x : ℕ). slice_get (out far x ++ []) 0) zero_given ∙ sym (ap (λ (xs : List ℕ). first (xs ++ [])) same) ∙ sym (next_is far 4 (g ∷ []) rest e)
read_next far (g ∷ (h ∷ gs)) items rest e i n = absurd (omega arith)

-- 4 reads next what 0 answered
pub reads_chosen : (far : Bool) (q : ℕ) (given items : List ℕ) → q ≡ 4 → IsWork far q given items → length given ≡ 1 → slice_get items 0 ≡ next_need (reads far q ++ option_to_list (stolen q)) given
reads_chosen far q given items is w n =
    subst (λ (x : ℕ). slice_get items 0 ≡ next_need (reads far x ++ option_to_list (stolen x)) given) (sym is)
    (let v = subst (λ (x : ℕ). IsWork far x given items) is w in read_next far given items v.0.0 v.0.1 v.1 n)

no_rest : (xs given rest : List ℕ) → xs ≡ given ++ rest → length xs ≤ length given → rest ≡ []
no_rest xs given [] e l = refl
no_rest xs given (x ∷ rest) e l = absurd (let k = ap length e ∙ length-append given (x ∷ rest) in omega (arith, k, l))

-- what was given all its reads and steals nothing has no next need
pub nothing_next : (far : Bool) (q : ℕ) (given items : List ℕ) → IsWork far q given items → length (reads far q) ≤ length given → stolen q ≡ None → None ≡ next_need (reads far q ++ option_to_list (stolen q)) given
nothing_next far q given items w l n =
    let r : w.0.0 ≡ [] = no_rest (reads far q) given w.0.0 w.0.1 l in
    sym (next_is far q given w.0.0 w.0.1 ∙ (λ i. first (r i ++ option_to_list (n i))))

pub not_none : (n : ℕ) → (n ≡ 0 → ⊥) → 1 ≤ n
not_none zero h = absurd (h refl)
not_none (suc n) h = omega arith

pub not_one : (n : ℕ) → (n ≡ 0 → ⊥) → (n ≡ 1 → ⊥) → 2 ≤ n
not_one zero h k = absurd (h refl)
not_one (suc zero) h k = absurd (k refl)
not_one (suc (suc n)) h k = omega arith

abbrev pub items_of : Option (List ℕ) → List ℕ
items_of None = []
items_of (Some xs) = xs

pub own_else : (far : Bool) (q : ℕ) → (q ≡ 0 → ⊥) → q ≡ own far q
own_else far zero h = absurd (h refl)
own_else far (suc q) h = refl

total : (far : Bool) (q : ℕ) (taken : Option (List ℕ)) → q < 5 → MatchOption (stolen q) (taken ≡ None) (λ s. taken ≡ Some (out far s)) → (items_of taken ++ gathered (out far) (reads far q)) ++ own far q ∷ [] ≡ out far q
total far zero taken lt m = ap (λ (t : Option (List ℕ)). (items_of t ++ gathered (out far) (reads far 0)) ++ own far 0 ∷ []) m
total far (suc zero) taken lt m = ap (λ (t : Option (List ℕ)). (items_of t ++ gathered (out far) (reads far 1)) ++ own far 1 ∷ []) m
total far (suc (suc zero)) taken lt m = ap (λ (t : Option (List ℕ)). (items_of t ++ gathered (out far) (reads far 2)) ++ own far 2 ∷ []) m
total far (suc (suc (suc zero))) taken lt m = ap (λ (t : Option (List ℕ)). (items_of t ++ gathered (out far) (reads far 3)) ++ own far 3 ∷ []) m
total false (suc (suc (suc (suc zero)))) taken lt m = ap (λ (t : Option (List ℕ)). (items_of t ++ gathered (out false) (reads false 4)) ++ own false 4 ∷ []) m
total true (suc (suc (suc (suc zero)))) taken lt m = ap (λ (t : Option (List ℕ)). (items_of t ++ gathered (out true) (reads true 4)) ++ own true 4 ∷ []) m
total far (suc (suc (suc (suc (suc q))))) taken lt m = absurd (omega arith)

-- the answer: what was stolen, what was read, and what the query adds
pub finished : (far : Bool) (q : ℕ) (given items : List ℕ) (taken : Option (List ℕ)) (begins all answer : List ℕ) (added : ℕ) → q < 5 → IsWork far q given items
    → ((n : ℕ) → has n (reads far q ++ option_to_list (stolen q)) ≡ true → stolen q ≢ Some n → has n given ≡ true)
    → MatchOption (stolen q) (taken ≡ None) (λ s. taken ≡ Some (out far s))
    → begins ≡ items_of taken → all ≡ begins ++ items → added ≡ own far q → answer ≡ all ++ added ∷ [] → answer ≡ out far q
finished far q given items taken begins all answer added lt w h m b a o r =
    let is : items ≡ gathered (out far) (reads far q) = w.1 ∙ ap (gathered (out far)) (all_given far q given w.0.0 w.0.1 h) in
    r ∙ (λ i. a i ++ o i ∷ []) ∙ (λ i. (b i ++ is i) ++ own far q ∷ []) ∙ total far q taken lt m

-- a new core needs to be told nothing
pub new_is_told : (p : Plan) (c : Core) (n w : ℕ) → state_of c ≡ start n → IsTold p c w
new_is_told p c n w e = λ x xs h. absurd (let k : ◌≡◌ {A = List Entry} [] (x ∷ xs) = sym (ap (λ (s : State). s.stack w) e) ∙ h in cc)
