-- The items of a walk by their numbers, and what stands behind so many.
use Rattle.std.proofs.Common.{◌≡◌, ℕ, zero, suc, ◌+◌, ◌<◌, ◌≤◌, List, [], ◌∷◌, ◌++◌, map, take, length, Some, None, slice_get, refl, sym, ap, ap₂, ◌∙◌, arith, length-append}
use Rattle.mir_syntax.specs.declared.lines.Lines.{Lines}
use Rattle.mir_syntax.proofs.Trees.{slice_get-front}
use Rattle.mir_syntax.proofs.Lists.{slice_get-behind}
use Rattle.mir_text.specs.NameFaults.{first_fault}
use Rattle.mir_rules.specs.Broken.{Spot, gather}
use Rattle.mir_rules.specs.Faults.{line_at, by_code}
use Rattle.mir_rules.specs.Limits.{first_past, with_code}
use Rattle.mir_limits.specs.declared.statements.Reached.TheVariants.{Line, Beyond}
use Rattle.mir_limits.specs.Answer.{Reaches}
use Rattle.mir_limits.proofs.Gathered.{append_more, gather_take}

-- ---- walks that find one at each item

module _ {A B : Type 0} (find : ℕ → A → List B) (at : ℕ → B) (one : (i : ℕ) (x : A) → find i x ≡ at i ∷ []) where
  single_long_from : (n : ℕ) (xs : List A) → length (gather find n xs) ≡ length xs
  single_long_from n [] = refl
  single_long_from n (x ∷ xs) = ap (λ l. length (l ++ gather find (suc n) xs)) (one n x) ∙ ap suc (single_long_from (suc n) xs)

  pub single_long : (xs : List A) → length (gather find 0 xs) ≡ length xs
  single_long xs = single_long_from 0 xs

  single_from : (n : ℕ) (xs : List A) (k : ℕ) → k < length xs → slice_get (gather find n xs) k ≡ Some (at (k + n))
  single_from n [] k h = absurd (omega arith)
  single_from n (x ∷ xs) zero h =
      let zeroth : n ≡ 0 + n = omega arith in
      ap (λ l. slice_get (l ++ gather find (suc n) xs) 0) (one n x) ∙ ap (λ m. Some (at m)) zeroth
  single_from n (x ∷ xs) (suc k) h =
      let next : k + suc n ≡ suc k + n = omega arith in
      ap (λ l. slice_get (l ++ gather find (suc n) xs) (suc k)) (one n x) ∙ (single_from (suc n) xs k (omega arith) ∙ ap (λ m. Some (at m)) next)

  pub single_at : (xs : List A) (k : ℕ) → k < length xs → slice_get (gather find 0 xs) k ≡ Some (at k)
  single_at xs k h =
      let here : k + 0 ≡ k = omega arith in
      single_from 0 xs k h ∙ ap (λ m. Some (at m)) here

-- ---- the first that a limit leaves out

past_some : (limit : ℕ) (spots : List Spot) (spot : Spot) → slice_get spots limit ≡ Some spot → first_past limit spots ≡ spot ∷ []
past_some zero [] spot h = absurd cc
past_some zero (s ∷ spots) spot h = let same : s ≡ spot = cc in ap (λ x. x ∷ []) same
past_some (suc n) [] spot h = absurd cc
past_some (suc n) (s ∷ spots) spot h = past_some n spots spot h

past_none : (limit : ℕ) (spots : List Spot) → length spots ≤ limit → first_past limit spots ≡ []
past_none zero [] h = refl
past_none zero (s ∷ spots) h = absurd (omega arith)
past_none (suc n) [] h = refl
past_none (suc n) (s ∷ spots) h = past_none n spots (omega arith)

pub told_past : (lines : Lines) (code limit line : ℕ) (spots : List Spot) (spot : Spot) → slice_get spots limit ≡ Some spot → line_at lines spot ≡ line
    → Some (code, line) ≡ first_fault (map (by_code lines) (map (with_code code) (first_past limit spots)))
told_past lines code limit line spots spot h e =
    ap (λ n. Some (code, n)) (sym e) ∙ ap (λ l. first_fault (map (by_code lines) (map (with_code code) l))) (sym (past_some limit spots spot h))

pub none_past : (lines : Lines) (code limit : ℕ) (spots : List Spot) → length spots ≤ limit → None ≡ first_fault (map (by_code lines) (map (with_code code) (first_past limit spots)))
none_past lines code limit spots h = ap (λ l. first_fault (map (by_code lines) (map (with_code code) l))) (sym (past_none limit spots h))

-- ---- a number on its way through a walk

gather_split : {A B : Type 0} (find : ℕ → A → List B) (n : ℕ) (xs : List A) (k : ℕ) (x : A) → slice_get xs k ≡ Some x → (rest : List B) × (gather find n xs ≡ gather find n (take k xs) ++ (find (k + n) x ++ rest))
gather_split find n [] k x e = absurd cc
gather_split find n (y ∷ xs) zero x e =
    let same : y ≡ x = cc in
    let zeroth : n ≡ 0 + n = omega arith in
    (gather find (suc n) xs, ap (λ l. l ++ gather find (suc n) xs) (ap₂ find zeroth same))
gather_split find n (y ∷ xs) (suc k) x e =
    let (rest, is) = gather_split find (suc n) xs k x e in
    let next : k + suc n ≡ suc k + n = omega arith in
    (rest, ap (λ l. find n y ++ l) (is ∙ ap (λ m. gather find (suc n) (take k xs) ++ (find m x ++ rest)) next) ∙ append_more (find n y) (gather find (suc n) (take k xs)) (find (suc k + n) x ++ rest))

module _ {A : Type 0} (lines : Lines) (find : ℕ → A → List Spot) (xs : List A) (k : ℕ) (x : A) (is : slice_get xs k ≡ Some x) (start left : ℕ) (gone : start ≡ length (gather find 0 (take k xs)) + left) where
  pub reached : (line : ℕ) → Reaches lines (find k x) left (Line line) → Reaches lines (gather find 0 xs) start (Line line)
  reached line (spot, at, on) =
      let before = gather find 0 (take k xs) in
      let here : k + 0 ≡ k = omega arith in
      let (rest, split) = gather_split find 0 xs k x is in
      let found : slice_get (gather find 0 xs) start ≡ Some spot =
      ap₂ slice_get (split ∙ ap (λ m. before ++ (find m x ++ rest)) here) gone ∙ (slice_get-behind before (find k x ++ rest) left ∙ slice_get-front (find k x) rest left spot at) in
      (spot, found, on)

  pub beyond : (more : ℕ) → Reaches lines (find k x) left (Beyond more) → start ≡ length (gather find 0 (take (k + 1) xs)) + more
  beyond more h =
      let long = ap length (gather_take find xs k x is) ∙ length-append (gather find 0 (take k xs)) (find k x) in
      omega (arith, long, h, gone)
