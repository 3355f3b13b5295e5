-- Laws of lists, of `numbers`, and of walks.
use Rattle.std.proofs.Common.{◌≡◌, ℕ, zero, suc, ◌+◌, ◌-◌, ◌<◌, List, [], ◌∷◌, ◌++◌, map, length, get_or, set, take, drop, refl, sym, ap, ◌∙◌, arith, zero-add}
use Rattle.std.specs.List.{All}
use Rattle.std.proofs.lemmas.List.{map-id, length-map, length-append, length-take, length-drop, get_or_append_left, get_or-append_right, get_or-drop, get_or_default}
use Rattle.std.proofs.lemmas.List.Edits.{map_over_more}
use Rattle.std.proofs.lemmas.List.Elements.{All-contains, Contains-push}
use Rattle.std.proofs.lemmas.List.FromFn.{map-range_with_len_more, get_or-map-range_with_len, fill_by_all, length-map-range_with_len}
use Rattle.std.proofs.lemmas.Simd.{map-map}
use Rattle.cfg_simplify.specs.Simple.{numbers, walk}
use Rattle.cfg_simplify.specs.Code.{at}

-- ---- lists from numbers

pub length-numbers : {X : Type 0} (f : ℕ → X) (n : ℕ) → length (map f (numbers n)) ≡ n
length-numbers f n = length-map-range_with_len f 0 n

pub numbers_push : (n : ℕ) → numbers (n + 1) ≡ numbers n ++ n ∷ []
numbers_push n =
    let e : map (λ (x : ℕ). x) (numbers (n + 1)) ≡ map (λ (x : ℕ). x) (numbers n) ++ n ∷ [] = map-range_with_len_more (λ (x : ℕ). x) 0 n n (omega arith) in
    sym (map-id (numbers (n + 1))) ∙ e ∙ ap (λ l. l ++ n ∷ []) (map-id (numbers n))

pub numbers_step : (n : ℕ) (xs ys : List ℕ) → xs ≡ numbers n → ys ≡ xs ++ n ∷ [] → ys ≡ numbers (n + 1)
numbers_step n xs ys e h = h ∙ ap (λ l. l ++ n ∷ []) e ∙ sym (numbers_push n)

-- a loop that puts f n at the end
pub map_step : {X : Type 0} (f : ℕ → X) (n : ℕ) (xs ys : List X) (y : X) → xs ≡ map f (numbers n) → y ≡ f n → ys ≡ xs ++ y ∷ [] → ys ≡ map f (numbers (n + 1))
map_step f n xs ys y e same h = h ∙ ap (λ z. xs ++ z ∷ []) same ∙ ap (λ l. l ++ f n ∷ []) e ∙ sym (map-range_with_len_more f 0 n n (omega arith))

pub get-numbers : {X : Type 0} (f : ℕ → X) (n b : ℕ) (d : X) → b < n → get_or (map f (numbers n)) b d ≡ f b
get-numbers f n b d h = get_or-map-range_with_len f 0 n b b d h (omega arith)

pub get_from : {X : Type 0} (f : ℕ → X) (n : ℕ) (xs : List X) (b : ℕ) (d : X) → xs ≡ map f (numbers n) → b < n → get_or xs b d ≡ f b
get_from f n xs b d e h = ap (λ l. get_or l b d) e ∙ get-numbers f n b d h

pub same_numbers : {X : Type 0} (f g : ℕ → X) (d : X) (n : ℕ) → ((b : ℕ) → b < n → f b ≡ g b) → map f (numbers n) ≡ map g (numbers n)
same_numbers f g d n h = fill_by_all g (map f (numbers n)) n d (length-numbers f n) (λ k l. get-numbers f n k d l ∙ h k l)

pub all-numbers : (f : ℕ → ℕ) (n m : ℕ) (xs : List ℕ) → xs ≡ map f (numbers n) → ((b : ℕ) → b < n → f b < m) → All (λ b. b < m) xs
all-numbers f n m xs e h k d l =
    let long : length xs ≡ n = ap length e ∙ length-numbers f n in
    let within : k < n = omega arith in
    let is : get_or xs k d ≡ f k = get_from f n xs k d e within in
    let below : f k < m = h k within in
    omega (arith, is, below)

-- ---- parts of lists

pub All-left : {X : Type 0} (P : X → Type 0) (xs ys : List X) → All P (xs ++ ys) → All P xs
All-left P xs ys h k d l = rw (← get_or_append_left xs ys d k l) (h k d (omega (arith, length-append xs ys, l)))

pub All-last : {X : Type 0} (P : X → Type 0) (xs : List X) (y : X) → All P (xs ++ y ∷ []) → P y
All-last P xs y h = All-contains P (xs ++ y ∷ []) y h (Contains-push xs y)

-- ---- a map in place

module _ {X : Type 0} (f : X → X) (xs ys : List X) (i : ℕ) (e : ys ≡ map f (take i xs) ++ drop i xs) where
  pub over-length : length ys ≡ length xs
  over-length = omega (arith, ap length e, length-append (map f (take i xs)) (drop i xs), length-map (take i xs) f, length-take i xs, length-drop i xs)

  pub over-here : (d : X) → i < length ys → get_or ys i d ≡ get_or xs i d
  over-here d l =
      let long : length (map f (take i xs)) ≡ i = omega (arith, over-length, length-map (take i xs) f, length-take i xs) in
      let zeroed : i - i ≡ 0 = omega arith in
      let plus : i + 0 ≡ i = omega arith in
      ap (λ l. get_or l i d) e ∙ get_or-append_right (map f (take i xs)) (drop i xs) i i d long (omega arith)
      ∙ ap (λ k. get_or (drop i xs) k d) zeroed ∙ get_or-drop i xs 0 d ∙ ap (λ k. get_or xs k d) plus

  pub over-more : (d x : X) → i < length ys → x ≡ get_or ys i d → set ys i (f x) ≡ map f (take (i + 1) xs) ++ drop (i + 1) xs
  over-more d x l same = map_over_more f xs ys i x (omega (arith, over-length, l)) e (same ∙ get_or_default ys i d x l)

-- ---- walks

pub walk-add : (step : ℕ → ℕ) (m n b : ℕ) → walk step (m + n) b ≡ walk step m (walk step n b)
walk-add step zero n b = ap (λ k. walk step k b) (zero-add n)
walk-add step (suc m) n b =
    let e : suc m + n ≡ suc (m + n) = omega arith in
    ap (λ k. walk step k b) e ∙ ap step (walk-add step m n b)

pub walk-below : (step : ℕ → ℕ) (n : ℕ) → ((b : ℕ) → b < n → step b < n) → (k b : ℕ) → b < n → walk step k b < n
walk-below step n h zero b l = l
walk-below step n h (suc k) b l = h (walk step k b) (walk-below step n h k b l)

pub walk-agree : (f g : ℕ → ℕ) (n : ℕ) → ((b : ℕ) → b < n → f b ≡ g b) → ((b : ℕ) → b < n → g b < n) → (k b : ℕ) → b < n → walk f k b ≡ walk g k b
walk-agree f g n same below zero b l = refl
walk-agree f g n same below (suc k) b l = ap f (walk-agree f g n same below k b l) ∙ same (walk g k b) (walk-below g n below k b l)

-- twice as many steps, looked up
pub walk_twice : (step : ℕ → ℕ) (n h k : ℕ) (half : List ℕ) → ((b : ℕ) → b < n → step b < n) → half ≡ map (walk step h) (numbers n) → k ≡ h + h → map (at half) half ≡ map (walk step k) (numbers n)
walk_twice step n h k half below e twice =
    ap (map (at half)) e ∙ map-map (at half) (walk step h) (numbers n)
    ∙ same_numbers (λ b. at half (walk step h b)) (walk step k) 0 n (λ b l.
    get_from (walk step h) n half (walk step h b) 0 e (walk-below step n below h b l) ∙ sym (walk-add step h h b) ∙ ap (λ m. walk step m b) (sym twice))

-- one step more
pub walk_more : (steps : List ℕ) (n h k : ℕ) (list : List ℕ) → list ≡ map (walk (at steps) h) (numbers n) → k ≡ suc h → map (at steps) list ≡ map (walk (at steps) k) (numbers n)
walk_more steps n h k list e more =
    ap (map (at steps)) e ∙ map-map (at steps) (walk (at steps) h) (numbers n) ∙ ap (λ m. map (walk (at steps) m) (numbers n)) (sym more)
