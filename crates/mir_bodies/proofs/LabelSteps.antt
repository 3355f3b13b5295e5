-- Labels that are put into a set, one after another.
use Rattle.std.proofs.Common.{◌≡◌, ℕ, ◌<◌, nat_eq, Bool, true, false, cond, ◌||◌, List, [], ◌∷◌, map, length, refl, sym, ap, ◌∙◌, arith}
use Rattle.mir_text.specs.NameFaults.{is_among}
use Rattle.mir_tree.specs.declared.body.BlockText.{BlockText}
use Rattle.mir_bodies.specs.Labels.{label_of}

added : (c p r w : Bool) → c || (p || r) ≡ w → cond p true c || r ≡ w
added true true r w h = h
added true false r w h = h
added false true r w h = h
added false false r w h = h

pub label_added : (c c' : Bool) (x : BlockText) (rest : List BlockText) (b : ℕ) (w : Bool) → c || is_among (map label_of (x ∷ rest)) b ≡ w → c' ≡ cond (nat_eq x.label b) true c
    → c' || is_among (map label_of rest) b ≡ w
label_added c c' x rest b w h is = ap (λ d. d || is_among (map label_of rest) b) is ∙ added c (nat_eq x.label b) (is_among (map label_of rest) b) w h

or-false : (c : Bool) → c || false ≡ c
or-false true = refl
or-false false = refl

pub labels_ended : (c : Bool) (left : List BlockText) (b : ℕ) (w : Bool) → length left < 1 → c || is_among (map label_of left) b ≡ w → c ≡ w
labels_ended c [] b w short h = sym (or-false c) ∙ h
labels_ended c (x ∷ left) b w short h = absurd (omega arith)
