-- Texts of integers, with a comma and a space between two.
use Rattle.std.proofs.Common.{◌≡◌, ℕ, suc, ◌-◌, ◌+◌, ◌<◌, ◌≤◌, List, [], ◌∷◌, ◌++◌, map, length, take, drop, get_or, codes, refl, sym, ap, subst, ◌∙◌, append_assoc, arith, ℤ}
use Rattle.std.specs.Fmt.{signed_decimal}
use Rattle.std.proofs.lemmas.List.{map_more, take_all}
use Rattle.mir_syntax.specs.declared.number.Number.{Number}
use Rattle.mir_machine.specs.Ends.{integer_in}
use Rattle.run_text.specs.RunText.{integers_text}

-- one more integer at the end
one_more : (i : ℤ) (is : List ℤ) (j : ℤ) → integers_text (i ∷ (is ++ j ∷ [])) ≡ integers_text (i ∷ is) ++ (codes ", " ++ signed_decimal j)
one_more i [] j = refl
one_more i (k ∷ is) j =
    ap (λ t. signed_decimal i ++ (codes ", " ++ t)) (one_more k is j)
    ∙ (ap (λ t. signed_decimal i ++ t) (sym (append_assoc (codes ", ") (integers_text (k ∷ is)) (codes ", " ++ signed_decimal j)))
    ∙ sym (append_assoc (signed_decimal i) (codes ", " ++ integers_text (k ∷ is)) (codes ", " ++ signed_decimal j)))

one_behind : (n : Number) (ns : List Number) (k : ℕ) (d : Number) → k < length ns
    → integers_text (integer_in n ∷ map integer_in (take (k + 1) ns)) ≡ integers_text (integer_in n ∷ map integer_in (take k ns)) ++ (codes ", " ++ signed_decimal (integer_in (get_or ns k d)))
one_behind n ns k d h =
    ap (λ is. integers_text (integer_in n ∷ is)) (map_more integer_in ns k d h) ∙ one_more (integer_in n) (map integer_in (take k ns)) (integer_in (get_or ns k d))

-- ---- a front of some numbers

abbrev pub front_text : List Number → ℕ → List ℕ
front_text ns k = integers_text (map integer_in (take k ns))

-- those behind the first one
abbrev pub behind_first : List Number → List Number
behind_first ns = take (length ns - 1) (drop 1 ns)

behind : (n : Number) (ns : List Number) → behind_first (n ∷ ns) ≡ ns
behind n ns = take_all (length (n ∷ ns) - 1) ns (omega arith)

pub first_text : (ns : List Number) (d : Number) → 1 ≤ length ns → front_text ns 1 ≡ signed_decimal (integer_in (get_or ns 0 d))
first_text [] d h = absurd (omega arith)
first_text (n ∷ ns) d h = refl

next_text : (n : Number) (ns : List Number) (k : ℕ) (d : Number) → k < length ns → front_text (n ∷ ns) (k + 1 + 1) ≡ front_text (n ∷ ns) (k + 1) ++ (codes ", " ++ signed_decimal (integer_in (get_or ns k d)))
next_text n ns k d h =
    let e : k + 1 + 1 ≡ suc (k + 1) = omega arith in
    let f : suc k ≡ k + 1 = omega arith in
    ap (front_text (n ∷ ns)) e ∙ (one_behind n ns k d h ∙ ap (λ j. front_text (n ∷ ns) j ++ (codes ", " ++ signed_decimal (integer_in (get_or ns k d)))) f)

pub more_text : (ns : List Number) (k : ℕ) (d : Number) → 1 ≤ length ns → k < length (behind_first ns)
    → front_text ns (k + 1 + 1) ≡ front_text ns (k + 1) ++ (codes ", " ++ signed_decimal (integer_in (get_or (behind_first ns) k d)))
more_text [] k d some h = absurd (omega arith)
more_text (n ∷ ns) k d some h =
    let i : k < length ns = subst (λ l. k < length l) (behind n ns) h in
    subst (λ l. front_text (n ∷ ns) (k + 1 + 1) ≡ front_text (n ∷ ns) (k + 1) ++ (codes ", " ++ signed_decimal (integer_in (get_or l k d)))) (sym (behind n ns)) (next_text n ns k d i)

pub whole_text : (ns : List Number) (k : ℕ) → 1 ≤ length ns → length (behind_first ns) ≤ k → front_text ns (k + 1) ≡ integers_text (map integer_in ns)
whole_text [] k some h = absurd (omega arith)
whole_text (n ∷ ns) k some h =
    let l : length ns ≤ k = subst (λ l. length l ≤ k) (behind n ns) h in
    ap (λ l. integers_text (map integer_in l)) (take_all (k + 1) (n ∷ ns) (omega (arith, l)))

-- a comma, a space and one more number are put at the end
pub number_put : (ns : List Number) (k : ℕ) (d : Number) (start now : List ℕ) {comma next : List ℕ} → 1 ≤ length ns → k < length (behind_first ns)
    → now ≡ start ++ front_text ns (k + 1) → comma ≡ now ++ codes ", " → next ≡ comma ++ signed_decimal (integer_in (get_or (behind_first ns) k d))
    → next ≡ start ++ front_text ns (k + 1 + 1)
number_put ns k d start now some h e f g =
    let one = signed_decimal (integer_in (get_or (behind_first ns) k d)) in
    g ∙ (ap (λ t. t ++ one) f ∙ (append_assoc now (codes ", ") one ∙ (ap (λ t. t ++ (codes ", " ++ one)) e
    ∙ (append_assoc start (front_text ns (k + 1)) (codes ", " ++ one) ∙ ap (λ t. start ++ t) (sym (more_text ns k d some h))))))
