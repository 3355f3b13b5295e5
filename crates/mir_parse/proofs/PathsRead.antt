-- Parsing paths is the grammar's rule, both ways.
use Rattle.std.proofs.Common.{◌≡◌, ℕ, zero, suc, ◌<◌, ◌≤◌, Bool, true, false, List, [], ◌∷◌, ◌++◌, length, Ok, refl, sym, ap, subst, ◌∙◌, arith, append_assoc}
use Rattle.mir_text.specs.declared.symbol.Symbol.{Symbol}
use Rattle.mir_text.specs.declared.symbol.Symbol.TheVariants as s
use Rattle.mir_text.specs.GrammarTypes.{PathRule, name, name_in, path_put}
use Rattle.mir_tree.specs.declared.ty.PathText.{PathText}
use Rattle.mir_tree.specs.Types.{path_names, path_text}
use Rattle.mir_parse.specs.Promises.{starts_colons}
use Rattle.mir_parse.specs.Signs.{name as name_at}
use Rattle.mir_parse.specs.Paths.{path_turn, path_goes_on, path_from, path}
use Rattle.mir_parse.proofs.Laws.{in_steps, ok_same, IsRead, name-sound}

path-ends : (before : List ℕ) (rest : List Symbol) → starts_colons rest ≡ false → path_turn before rest ≡ Ok ((true, before), rest)
unfolding path_turn
path-ends before [] h = refl
path-ends before (s.Colons ∷ rest) h = absurd cc
path-ends before (x ∷ rest) h = refl

abbrev names : PathRule → ℕ
names (name n) = 1
names (name_in n q) = suc (names q)

few_names : (q : PathRule) (rest : List Symbol) → names q ≤ length (path_put q rest)
few_names (name n) rest = omega arith
few_names (name_in n q) rest = omega (arith, few_names q rest)

pub path_grows : (q : PathRule) (rest : List Symbol) → length rest < length (path_put q rest)
path_grows (name n) rest = omega arith
path_grows (name_in n q) rest = omega (arith, path_grows q rest)

path_more-complete : (q : PathRule) (n : ℕ) (before : List ℕ) (rest : List Symbol) → starts_colons rest ≡ false → names q < n → path_from n before (s.Colons ∷ path_put q rest) ≡ Ok (before ++ path_names q, rest)
unfolding path_from path_turn name_at
path_more-complete q zero before rest e h = absurd (omega arith)
path_more-complete (name m) (suc zero) before rest e h = absurd (omega arith)
path_more-complete (name m) (suc (suc n)) before rest e h = rw (path-ends (before ++ m ∷ []) rest e) refl
path_more-complete (name_in m q) (suc n) before rest e h = rw (path_more-complete q n (before ++ m ∷ []) rest e (omega arith), append_assoc before (m ∷ []) (path_names q)) refl

pub path-complete : (q : PathRule) (rest : List Symbol) → starts_colons rest ≡ false → path (path_put q rest) ≡ Ok (path_text q, rest)
unfolding path name_at path_from
path-complete (name n) rest e = rw (path-ends [] rest e) refl
path-complete (name_in n q) rest e =
    rw (path_more-complete q (suc (length (s.Colons ∷ path_put q rest))) [] rest e (omega (arith, few_names q rest))) refl

-- no more names, or some
data MoreNames (before us : List ℕ) (ts rest : List Symbol) : Type 0 where
  none : us ≡ before → ts ≡ rest → MoreNames before us ts rest
  some : (q : PathRule) → before ++ path_names q ≡ us → ts ≡ s.Colons ∷ path_put q rest → MoreNames before us ts rest

one_more : (before us : List ℕ) (m : ℕ) (ts past rest : List Symbol) → ts ≡ s.Colons ∷ s.Name m ∷ past → MoreNames (before ++ m ∷ []) us past rest → MoreNames before us ts rest
one_more before us m ts past rest e (none a b) = some (name m) (sym a) (e ∙ ap (λ l. s.Colons ∷ s.Name m ∷ l) b)
one_more before us m ts past rest e (some q a b) = some (name_in m q) (sym (append_assoc before (m ∷ []) (path_names q)) ∙ a) (e ∙ ap (λ l. s.Colons ∷ s.Name m ∷ l) b)

path_turn-sound : {R : Type 0} (before : List ℕ) (ts : List Symbol) (q : Bool × List ℕ) (rest : List Symbol) → path_turn before ts ≡ Ok (q, rest)
    → (q ≡ (true, before) → ts ≡ rest → R) → ((m : ℕ) → q ≡ (false, before ++ m ∷ []) → ts ≡ s.Colons ∷ s.Name m ∷ rest → R) → R
unfolding path_turn
path_turn-sound before [] q rest h end_k more_k = let same = ok_same _ _ h in end_k (sym (ap (λ y. y.0) same)) (ap (λ y. y.1) same)
path_turn-sound before (s.Colons ∷ ts) q rest h end_k more_k =
    in_steps _ _ (q, rest) h (λ m past named_is same_h.
    let same = ok_same _ _ same_h in
    more_k m (sym (ap (λ y. y.0) same)) (ap (λ l. s.Colons ∷ l) (name-sound ts (m, past) named_is ∙ ap (λ y. s.Name m ∷ y.1) same)))
path_turn-sound before (x ∷ ts) q rest h end_k more_k = let same = ok_same _ _ h in end_k (sym (ap (λ y. y.0) same)) (ap (λ y. y.1) same)

path_more-sound : (n : ℕ) (before us : List ℕ) (ts rest : List Symbol) → path_from n before ts ≡ Ok (us, rest) → MoreNames before us ts rest
unfolding path_from
path_more-sound zero before us ts rest h = absurd cc
path_more-sound (suc n) before us ts rest h =
    in_steps _ _ (us, rest) h (λ q past turned went.
    path_turn-sound before ts q past turned
    (λ is e. let same = ok_same _ _ (ap (λ y. path_goes_on (path_from n) y past) (sym is) ∙ went) in none (sym (ap (λ y. y.0) same)) (e ∙ ap (λ y. y.1) same))
    (λ m is e. one_more before us m ts past rest e (path_more-sound n (before ++ m ∷ []) us past rest (ap (λ y. path_goes_on (path_from n) y past) (sym is) ∙ went))))

abbrev pub PathGood : PathRule → Type 0
PathGood q = Unit {0}

abbrev pub IsPath : List Symbol → PathText → List Symbol → Type 0
IsPath = IsRead path_put path_text PathGood

path-by : (n : ℕ) (us : List ℕ) (ts past rest : List Symbol) → ts ≡ s.Name n ∷ past → MoreNames [] us past rest → IsPath ts (record { first = n; rest = us }) rest
path-by n us ts past rest e (none a b) =
    let f : List ℕ → PathText = λ l. record { first = n; rest = l } in
    record { rule = name n; reads = ap f (sym a); yields = e ∙ ap (λ l. s.Name n ∷ l) b; good = tt }
path-by n us ts past rest e (some q a b) =
    let f : List ℕ → PathText = λ l. record { first = n; rest = l } in
    record { rule = name_in n q; reads = ap f a; yields = e ∙ ap (λ l. s.Name n ∷ l) b; good = tt }

pub path-sound : (ts : List Symbol) (x : PathText) (rest : List Symbol) → path ts ≡ Ok (x, rest) → IsPath ts x rest
unfolding path
path-sound ts x rest h =
    in_steps _ _ (x, rest) h (λ n past named_is went.
    in_steps _ _ (x, rest) went (λ ns over found same_h.
    let P : PathText × List Symbol → Type 0 = λ y. IsPath ts y.0 y.1 in
    subst P (ok_same _ _ same_h) (path-by n ns ts past over (name-sound ts (n, past) named_is) (path_more-sound _ [] ns past over found))))
