-- The first fault doesn't depend on the order in which faults are noted.
use Rattle.std.proofs.Common.{◌≡◌, ℕ, List, [], ◌∷◌, ◌++◌, Option, Some, length, ◌<◌, arith, sym, ap, ◌∙◌, refl}
use Rattle.mir_text.specs.NameFaults.{Fault, earlier, on_line, each}
use Rattle.mir_resolve.specs.Faults.{noted}

pub noted-append : (kept : Option Fault) (xs ys : List Fault) → noted kept (xs ++ ys) ≡ noted (noted kept xs) ys
unfolding noted
noted-append kept [] ys = refl
noted-append kept (x ∷ xs) ys = noted-append (Some (earlier x kept)) xs ys

-- the codes of two parts on one line, one part after the other
pub noted_on : (kept : Option Fault) (n : ℕ) (xs ys : List ℕ) → noted kept (on_line n (xs ++ ys)) ≡ noted (noted kept (on_line n xs)) (on_line n ys)
unfolding noted
noted_on kept n [] ys = refl
noted_on kept n (x ∷ xs) ys = noted_on (Some (earlier (n, x) kept)) n xs ys

-- where no parts are left all their codes are noted
pub notes_ended : {Z : Type 0} (codes : Z → List ℕ) (left : List Z) (n : ℕ) (kept whole : Option Fault) → length left < 1 → noted kept (on_line n (each codes left)) ≡ whole → kept ≡ whole
unfolding noted
notes_ended codes [] n kept whole short h = h
notes_ended codes (x ∷ left) n kept whole short h = absurd (omega arith)

-- one part more is noted
pub notes_step : {Z : Type 0} (codes : Z → List ℕ) (z : Z) (rest : List Z) (n : ℕ) (old new whole : Option Fault)
    → noted old (on_line n (each codes (z ∷ rest))) ≡ whole → new ≡ noted old (on_line n (codes z)) → noted new (on_line n (each codes rest)) ≡ whole
notes_step codes z rest n old new whole h is =
    ap (λ k. noted k (on_line n (each codes rest))) is ∙ sym (noted_on old n (codes z) (each codes rest)) ∙ h
