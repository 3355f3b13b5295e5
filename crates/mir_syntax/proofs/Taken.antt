-- Lists of which items are taken from the last one on.
use Rattle.std.proofs.Common.{◌≡◌, ◌∙◌, List, [], ◌∷◌, ◌++◌, drop, length, refl, sym, ap, arith, append_assoc}
use Rattle.std.proofs.lemmas.List.{append-nil, drop_all, drop_at}

-- what is left of a list, and what was taken of it
pub record Taken {A : Type 0} (all left : List A) : Type 0 where
  pub parts : left ++ drop (length left) all ≡ all

pub taken_none : {A : Type 0} (all : List A) → Taken all all
taken_none all = record { parts = ap (λ ys. all ++ ys) (drop_all (length all) all (omega arith)) ∙ append-nil all }

module _ {A : Type 0} (all left left2 : List A) (x : A) (t : Taken all left) (popped : left ≡ left2 ++ x ∷ []) where
  pub taken_whole : left2 ++ x ∷ drop (length left) all ≡ all
  taken_whole = sym (append_assoc left2 (x ∷ []) (drop (length left) all)) ∙ ap (λ xs. xs ++ drop (length left) all) (sym popped) ∙ t.parts

  pub taken_next : drop (length left2) all ≡ x ∷ drop (length left) all
  taken_next = ap (drop (length left2)) (sym taken_whole) ∙ drop_at left2 (x ∷ drop (length left) all) (length left2) refl

  pub taken_more : Taken all left2
  taken_more = record { parts = ap (λ ys. left2 ++ ys) taken_next ∙ taken_whole }

pub taken_all : {A : Type 0} (all left : List A) → left ≡ [] → drop (length left) all ≡ all
taken_all all left e = ap (λ xs. drop (length xs) all) e
