-- Lists with commas: the rule that writes one, its text, and back.
use Rattle.std.proofs.Common.{◌≡◌, ℕ, List, [], ◌∷◌, ◌++◌, map, codes, refl, sym, ap, subst, ◌∙◌, append_assoc}
use Rattle.mir_text.specs.declared.symbol.Symbol.{Symbol}
use Rattle.mir_text.specs.declared.symbol.Symbol.TheVariants as s
use Rattle.mir_text.specs.Grammar.{Put, Items, end, last, more, items_put, items_of, AllItems, AllOf}
use Rattle.mir_text.specs.Names.{Strings}
use Rattle.mir_text.specs.NameFaults.{concat, each_item}
use Rattle.mir_text.specs.TypeText.{piece, more_items, comma_list}
use Rattle.mir_round_trip.specs.Names.{Clear}
use Rattle.mir_round_trip.proofs.Spelling.{Puts, Spelt, after, and_then, put_as}
use Rattle.mir_round_trip.proofs.Literals.{comma_space}

-- what follows begins with no byte of a name where none follows that
abbrev pub Front : List ℕ → Type 0
Front v = (left : List ℕ) → Clear left → Clear (v ++ left)

-- ---- the rule

abbrev pub join_item : {R : Type 0} → R → Items R → Items R
join_item r end = last r
join_item r (last q) = more r (last q)
join_item r (more q qs) = more r (more q qs)

abbrev pub items_rule : {A R : Type 0} → (A → R) → List A → Items R
items_rule rule [] = end
items_rule rule (x ∷ xs) = join_item (rule x) (items_rule rule xs)

-- ---- its symbols

-- what follows an item
abbrev pub tail_put : {R : Type 0} → Put R → Symbol → Put (Items R)
tail_put put closing end rest = closing ∷ rest
tail_put put closing (last q) rest = s.Comma ∷ items_put put closing (last q) rest
tail_put put closing (more q qs) rest = s.Comma ∷ items_put put closing (more q qs) rest

pub join-put : {R : Type 0} (put : Put R) (closing : Symbol) (r : R) (rs : Items R) (rest : List Symbol) → items_put put closing (join_item r rs) rest ≡ put r (tail_put put closing rs rest)
join-put put closing r end rest = refl
join-put put closing r (last q) rest = refl
join-put put closing r (more q qs) rest = refl

pub join-tail : {R : Type 0} (put : Put R) (closing : Symbol) (r : R) (rs : Items R) (rest : List Symbol) → tail_put put closing (join_item r rs) rest ≡ s.Comma ∷ put r (tail_put put closing rs rest)
join-tail put closing r end rest = refl
join-tail put closing r (last q) rest = refl
join-tail put closing r (more q qs) rest = refl

-- ---- its text

pub more-front : {A : Type 0} (text : A → List ℕ) (v : List ℕ) (xs : List A) → Front v → Front (more_items text xs ++ v)
unfolding more_items piece
more-front text v [] front = front
more-front text v (x ∷ xs) front = λ left clear. refl

-- the byte strings of items, and then others
abbrev pub names_onto : {A : Type 0} → (A → List (List ℕ)) → List A → List (List ℕ) → List (List ℕ)
names_onto names [] ms = ms
names_onto names (x ∷ xs) ms = names x ++ names_onto names xs ms

-- items of a kind are spelt
abbrev pub Spells : {A R : Type 0} → (A → List ℕ) → Put R → (Strings → A → R) → (A → List (List ℕ)) → A → Type 0
Spells text put rule names x = Spelt (text x) (λ strings. put (rule strings x)) (names x)

pub more_spelt : {A R : Type 0} (text : A → List ℕ) (put : Put R) (rule : Strings → A → R) (names : A → List (List ℕ)) (closing : Symbol) (v : List ℕ) (g : Puts) (ms : List (List ℕ))
    → Front v → Spelt v (λ strings rest. closing ∷ g strings rest) ms → (xs : List A) → AllOf (Spells text put rule names) xs
    → Spelt (more_items text xs ++ v) (λ strings rest. tail_put put closing (items_rule (rule strings) xs) (g strings rest)) (names_onto names xs ms)
unfolding more_items piece
more_spelt text put rule names closing v g ms front b [] h = b
more_spelt text put rule names closing v g ms front b (x ∷ xs) h =
    let others = more_spelt text put rule names closing v g ms front b xs h.1 in
    let is : codes ", " ++ (text x ++ (more_items text xs ++ v)) ≡ (codes ", " ++ (text x ++ more_items text xs)) ++ v = ap (λ l. codes ", " ++ l) (sym (append_assoc (text x) (more_items text xs) v)) in
    subst (λ l. Spelt l (λ strings rest. tail_put put closing (items_rule (rule strings) (x ∷ xs)) (g strings rest)) (names_onto names (x ∷ xs) ms)) is
    (put_as (λ strings ground rest. sym (join-tail put closing (rule strings x) (items_rule (rule strings) xs) (g strings rest)))
    (after comma_space (and_then h.0 (more-front text v xs front) others)))

pub comma_spelt : {A R : Type 0} (text : A → List ℕ) (put : Put R) (rule : Strings → A → R) (names : A → List (List ℕ)) (closing : Symbol) (v : List ℕ) (g : Puts) (ms : List (List ℕ))
    → Front v → Spelt v (λ strings rest. closing ∷ g strings rest) ms → (xs : List A) → AllOf (Spells text put rule names) xs
    → Spelt (comma_list text xs ++ v) (λ strings rest. items_put put closing (items_rule (rule strings) xs) (g strings rest)) (names_onto names xs ms)
unfolding comma_list
comma_spelt text put rule names closing v g ms front b [] h = b
comma_spelt text put rule names closing v g ms front b (x ∷ xs) h =
    let others = more_spelt text put rule names closing v g ms front b xs h.1 in
    subst (λ l. Spelt l (λ strings rest. items_put put closing (items_rule (rule strings) (x ∷ xs)) (g strings rest)) (names_onto names (x ∷ xs) ms)) (sym (append_assoc (text x) (more_items text xs) v))
    (put_as (λ strings ground rest. sym (join-put put closing (rule strings x) (items_rule (rule strings) xs) (g strings rest)))
    (and_then h.0 (more-front text v xs front) others))

-- ---- back

pub join-of : {R A : Type 0} (of : R → A) (r : R) (rs : Items R) → items_of of (join_item r rs) ≡ of r ∷ items_of of rs
join-of of r end = refl
join-of of r (last q) = refl
join-of of r (more q qs) = refl

pub items-map : {A R B : Type 0} (of : R → B) (rule : A → R) (xs : List A) → items_of of (items_rule rule xs) ≡ map (λ x. of (rule x)) xs
items-map of rule [] = refl
items-map of rule (x ∷ xs) = join-of of (rule x) (items_rule rule xs) ∙ ap (λ l. of (rule x) ∷ l) (items-map of rule xs)

-- what is read back of each item is read back of all
pub all-back : {A : Type 0} (f : A → A) (xs : List A) → AllOf (λ x. f x ≡ x) xs → map f xs ≡ xs
all-back f [] h = refl
all-back f (x ∷ xs) h = ap (λ y. y ∷ map f xs) h.0 ∙ ap (λ l. x ∷ l) (all-back f xs h.1)

pub join-all : {R : Type 0} (P : R → Type 0) (r : R) (rs : Items R) → P r → AllItems P rs → AllItems P (join_item r rs)
join-all P r end h k = h
join-all P r (last q) h k = (h, k)
join-all P r (more q qs) h k = (h, k)

pub items-all : {A R : Type 0} (P : R → Type 0) (rule : A → R) (xs : List A) → AllOf (λ x. P (rule x)) xs → AllItems P (items_rule rule xs)
items-all P rule [] h = tt
items-all P rule (x ∷ xs) h = join-all P (rule x) (items_rule rule xs) h.0 (items-all P rule xs h.1)

-- ---- faults

pub concat-none : {A B : Type 0} (f : A → List B) (xs : List A) → AllOf (λ x. f x ≡ []) xs → concat (map f xs) ≡ []
concat-none f [] h = refl
concat-none f (x ∷ xs) h = ap (λ l. l ++ concat (map f xs)) h.0 ∙ concat-none f xs h.1

pub each-item-none : {A R B : Type 0} (f : R → List B) (rule : A → R) (xs : List A) → AllOf (λ x. f (rule x) ≡ []) xs → each_item f (items_rule rule xs) ≡ []
each-item-none f rule xs h = ap concat (items-map f rule xs) ∙ concat-none (λ x. f (rule x)) xs h

pub all-of-map : {A R : Type 0} (P : R → Type 0) (rule : A → R) (xs : List A) → AllOf (λ x. P (rule x)) xs → AllOf P (map rule xs)
all-of-map P rule [] h = tt
all-of-map P rule (x ∷ xs) h = (h.0, all-of-map P rule xs h.1)
