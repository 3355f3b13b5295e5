-- Tests of whole lists, by their codes and faults.
use Rattle.std.proofs.Common.{◌≡◌, ◌∙◌, Bool, true, List, [], ◌∷◌, ◌++◌, map, refl}
use Rattle.std.specs.List.{list_all, flat_map}
use Rattle.std.proofs.lemmas.Bool.{and_from, and_parts}
use Rattle.std.proofs.lemmas.List.Folds.{list_all-append}
use Rattle.mir_text.specs.Grammar.{Items, end, last, more, items_of, AllItems, AllOf}
use Rattle.mir_text.specs.NameFaults.{each, each_item}
use Rattle.mir_rules.proofs.Lists.{append_empty-left, append_empty-right}

-- ---- lists

module _ {B : Type 0} (p : B → Bool) where
  pub all_append : (xs ys : List B) → list_all p xs ≡ true → list_all p ys ≡ true → list_all p (xs ++ ys) ≡ true
  all_append xs ys h k = list_all-append p xs ys ∙ and_from (list_all p xs) (list_all p ys) h k

  pub all_flat : {A : Type 0} (f : A → List B) (xs : List A) → list_all (λ x. list_all p (f x)) xs ≡ true → list_all p (flat_map f xs) ≡ true
  all_flat f [] h = refl
  all_flat f (x ∷ xs) h =
      let (first, rest) = and_parts (list_all p (f x)) (list_all (λ x. list_all p (f x)) xs) h in
      all_append (f x) (flat_map f xs) first (all_flat f xs rest)

  -- each item whose codes are none passes
  pub all_each : {A X : Type 0} (f : A → List X) (g : A → B) → ((x : A) → f x ≡ [] → p (g x) ≡ true) → (xs : List A) → each f xs ≡ [] → list_all p (map g xs) ≡ true
  all_each f g pass [] h = refl
  all_each f g pass (x ∷ xs) h =
      and_from (p (g x)) (list_all p (map g xs)) (pass x (append_empty-left (f x) (each f xs) h)) (all_each f g pass xs (append_empty-right (f x) (each f xs) h))

  pub all_items : {R X : Type 0} (f : R → List X) (g : R → B) → ((x : R) → f x ≡ [] → p (g x) ≡ true) → (xs : Items R) → each_item f xs ≡ [] → list_all p (items_of g xs) ≡ true
  all_items f g pass end h = refl
  all_items f g pass (last x) h = and_from (p (g x)) true (pass x (append_empty-left (f x) [] h)) refl
  all_items f g pass (more x xs) h =
      and_from (p (g x)) (list_all p (items_of g xs)) (pass x (append_empty-left (f x) (each_item f xs) h)) (all_items f g pass xs (append_empty-right (f x) (each_item f xs) h))

  -- and each good one
  pub all_good : {A : Type 0} (Good : A → Type 0) (g : A → B) → ((x : A) → Good x → p (g x) ≡ true) → (xs : List A) → AllOf Good xs → list_all p (map g xs) ≡ true
  all_good Good g pass [] h = refl
  all_good Good g pass (x ∷ xs) h = and_from (p (g x)) (list_all p (map g xs)) (pass x h.0) (all_good Good g pass xs h.1)

  pub all_good_items : {R : Type 0} (Good : R → Type 0) (g : R → B) → ((x : R) → Good x → p (g x) ≡ true) → (xs : Items R) → AllItems Good xs → list_all p (items_of g xs) ≡ true
  all_good_items Good g pass end h = refl
  all_good_items Good g pass (last x) h = and_from (p (g x)) true (pass x h) refl
  all_good_items Good g pass (more x xs) h = and_from (p (g x)) (list_all p (items_of g xs)) (pass x h.0) (all_good_items Good g pass xs h.1)
