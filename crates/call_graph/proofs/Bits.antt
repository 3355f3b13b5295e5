-- A reach as two rows of bits, that is given callees in its order.
use Rattle.std.proofs.Common.{◌≡◌, ◌≢◌, refl, sym, ap, ap₂, ◌∙◌, subst, ℕ, zero, suc, ◌+◌, ◌-◌, ◌<◌, ◌≤◌, ◌↔◌, Bool, true, false, not, ◌==◌, ◌&&◌, ◌||◌, List, [], ◌∷◌, ◌++◌, length, get_or, set, take, map, replicate, ◌⊎◌, inl, inr, arith}
use Rattle.std.specs.Prelude.{Option, Some, None, IsTrue, if◌then◌else◌}
use Rattle.std.proofs.lemmas.Bool.Decides.{nat_tests}
use Rattle.std.proofs.lemmas.List.{length-set, length-replicate, get_or-replicate, get_or-set_same, get_or-set_other, take_more, map-append}
use Rattle.std.proofs.lemmas.List.FromFn.{fill_by_all, get_or-map-range_with_len, length-map-range_with_len}
use Rattle.bit_rows.specs.Rows.{row_at, flag, marked, stands, HasSize}
use Rattle.bit_rows.proofs.Marks.{marked-append, length-marked, marked-at}
use Rattle.call_graph.specs.Graph.{Graph, IsGraph, Reaches, called_by, is_known, least, next_known, reach}
use Rattle.call_graph.specs.Reaching.{bits_below, rows_of, is_waiting, KeepsLow}
use Rattle.call_graph.proofs.Once.{bool_tells}
use Rattle.call_graph.proofs.Reached.{reach_all, reach_only, known_given, is_known_of}

-- ---- the least number that passes

-- one number more that doesn't pass
pub least_on : (p : ℕ → Bool) (h n : ℕ) → h < n → p h ≡ false → least p h (n - h) ≡ least p (h + 1) (n - (h + 1))
least_on p h n lt no_pass = go (n - h) (n - suc h) (omega (arith, lt)) ∙ ap (λ (k : ℕ). least p k (n - k)) (let e : suc h ≡ h + 1 = omega arith in e)
  where
    go : (a b : ℕ) → a ≡ suc b → least p h a ≡ least p (suc h) b
    go a b e = ap (least p h) e ∙ ap (λ (t : Bool). if t then Some h else least p (suc h) b) no_pass

pub least_here : (p : ℕ → Bool) (h n : ℕ) → h < n → p h ≡ true → least p h (n - h) ≡ Some h
least_here p h n lt pass = go (n - h) (n - suc h) (omega (arith, lt))
  where
    go : (a b : ℕ) → a ≡ suc b → least p h a ≡ Some h
    go a b e = ap (least p h) e ∙ ap (λ (t : Bool). if t then Some h else least p (suc h) b) pass

pub least_end : (p : ℕ → Bool) (h n : ℕ) → n ≤ h → least p h (n - h) ≡ None
least_end p h n le = ap (least p h) (let e : n - h ≡ 0 = omega arith in e)

-- numbers at the start that don't pass
pub least_from : (p : ℕ → Bool) (low n : ℕ) → low ≤ n → ((h : ℕ) → h < low → p h ≡ false) → least p 0 n ≡ least p low (n - low)
least_from p zero n le none = ap (least p 0) (let e : n ≡ n - 0 = omega arith in e)
least_from p (suc low) n le none =
    least_from p low n (omega (arith, le)) (λ h lt. none h (omega (arith, lt)))
    ∙ least_on p low n (omega (arith, le)) (none low (omega arith))
    ∙ ap (λ (k : ℕ). least p k (n - k)) (let e : low + 1 ≡ suc low = omega arith in e)

-- none before the least one passes
pub least_before : (p : ℕ → Bool) (i n h : ℕ) → least p i n ≡ Some h → (x : ℕ) → i ≤ x → x < h → p x ≡ false
least_before p i zero h e x a b = absurd (cc)
least_before p i (suc n) h e x a b = go (bool_tells (p i)) (least_before p (suc i) n h)
  where
    go : (p i ≡ true) ⊎ (p i ≡ false) → (least p (suc i) n ≡ Some h → (x : ℕ) → suc i ≤ x → x < h → p x ≡ false) → p x ≡ false
    go (inl k) r = absurd (let same : i ≡ h = grind arith in omega (arith, same))
    go (inr k) r =
        let rest : least p (suc i) n ≡ Some h = grind arith in
        elim (let c : (i ≡ x) ⊎ (suc i ≤ x) = grind arith in c) [ inl s ↦ subst (λ (y : ℕ). p y ≡ false) s k | inr l ↦ r rest x l b ]

same_least : (p q : ℕ → Bool) (i n : ℕ) → ((k : ℕ) → i ≤ k → k < i + n → p k ≡ q k) → least p i n ≡ least q i n
same_least p q i zero h = refl
same_least p q i (suc n) h =
    let here = h i (omega arith) (omega arith) in
    let r = same_least p q (suc i) n (λ k a b. h k (omega (arith, a)) (omega (arith, b))) in
    ap₂ (λ (b : Bool) (o : Option ℕ). if b then Some i else o) here r

-- ---- two rows

two_rows : (rows : List (List Bool)) → length rows ≡ 2 → rows ≡ row_at rows 0 ∷ row_at rows 1 ∷ []
two_rows [] e = absurd (omega arith)
two_rows (a ∷ []) e = absurd (omega arith)
two_rows (a ∷ b ∷ []) e = refl
two_rows (a ∷ b ∷ c ∷ rows) e = absurd (omega arith)

sized : (rows : List (List Bool)) (a b : List Bool) (n : ℕ) → rows ≡ a ∷ b ∷ [] → length a ≡ n → length b ≡ n → HasSize rows 2 n
sized rows a b n e la lb = record { count_is = ap length e; bits_is = λ r lt. ap (λ rs. length (row_at rs r)) e ∙ at r lt }
  where
    at : (r : ℕ) → r < 2 → length (row_at (a ∷ b ∷ []) r) ≡ n
    at zero lt = la
    at (suc zero) lt = lb
    at (suc (suc r)) lt = absurd (omega arith)

-- the callees of the next one are given: no one up to it waits
pub taken_low : (rows after : List (List Bool)) (n low h : ℕ) → KeepsLow rows n low → after ≡ set rows 1 (set (row_at rows 1) h true) → least (is_waiting rows) 0 (length (row_at rows 0)) ≡ Some h → h < length (row_at rows 0) → KeepsLow after n (h + 1)
taken_low rows after n low h keeps e next lt =
    let two = two_rows rows keeps.size.count_is in
    let is : after ≡ row_at rows 0 ∷ set (row_at rows 1) h true ∷ [] = e ∙ ap (λ (rs : List (List Bool)). set rs 1 (set (row_at rows 1) h true)) two in
    let long = keeps.size.bits_is 0 (omega arith) in
    let other = keeps.size.bits_is 1 (omega arith) in
    record {
      size = sized after (row_at rows 0) (set (row_at rows 1) h true) n is long (length-set (row_at rows 1) h true ∙ other);
      low_in = omega (arith, lt, long);
      none_below = λ x l. ap (λ rs. is_waiting rs x) is ∙ elim (let c : (x ≡ h) ⊎ (x ≢ h) = grind (arith, nat_tests) in c) [
        | inl same ↦ (let f : get_or (set (row_at rows 1) h true) x false ≡ true = ap (λ (j : ℕ). get_or (set (row_at rows 1) h true) j false) same ∙ get_or-set_same (row_at rows 1) h true false (omega (arith, lt, long, other)) in grind arith)
        | inr ne ↦ (let f = get_or-set_other (row_at rows 1) h x true false ne in
            let w = least_before (is_waiting rows) 0 (length (row_at rows 0)) h next x (omega arith) (let k : x < h = grind arith in k) in
            ap (λ (b : Bool). flag rows 0 x && not b) f ∙ w)
      ];
    }

pub taken_rows : (rows after now : List (List Bool)) (n low h : ℕ) → KeepsLow rows n low → rows ≡ now → after ≡ set rows 1 (set (row_at rows 1) h true) → after ≡ row_at now 0 ∷ set (row_at now 1) h true ∷ []
taken_rows rows after now n low h keeps same e =
    e ∙ ap (λ (rs : List (List Bool)). set rs 1 (set (row_at rows 1) h true)) (two_rows rows keeps.size.count_is) ∙ ap (λ (rs : List (List Bool)). row_at rs 0 ∷ set (row_at rs 1) h true ∷ []) same

-- what the walk from the low number on finds
pub walk_all : (rows now : List (List Bool)) (n low : ℕ) → KeepsLow rows n low → rows ≡ now → least (is_waiting rows) low (n - low) ≡ least (is_waiting now) 0 (length (row_at now 0))
walk_all rows now n low keeps same =
    sym (least_from (is_waiting rows) low n keeps.low_in keeps.none_below)
    ∙ ap (least (is_waiting rows) 0) (sym (keeps.size.bits_is 0 (omega arith)))
    ∙ ap (λ (rs : List (List Bool)). least (is_waiting rs) 0 (length (row_at rs 0))) same

-- ---- callees become known, one after another

pub as_two : (rows : List (List Bool)) (a b : List Bool) → rows ≡ a ∷ b ∷ [] → rows ≡ row_at rows 0 ∷ row_at rows 1 ∷ []
as_two rows a b e = e ∙ ap (λ (rs : List (List Bool)). row_at rs 0 ∷ row_at rs 1 ∷ []) (sym e)

pub marked_long : (rows now taken : List (List Bool)) (xs : List ℕ) (b c : List Bool) → taken ≡ row_at now 0 ∷ b ∷ [] → rows ≡ marked (row_at taken 0) xs ∷ c ∷ [] → length (row_at rows 0) ≡ length (row_at now 0)
marked_long rows now taken xs b c e f = ap (λ (rs : List (List Bool)). length (row_at rs 0)) f ∙ length-marked (row_at taken 0) xs ∙ ap (λ (rs : List (List Bool)). length (row_at rs 0)) e

pub known_more : {A : Type 0} (number : A → ℕ) (list : List A) (i : ℕ) (d : A) (a b : List Bool) (rows rows2 : List (List Bool)) → i < length list → rows ≡ marked a (map number (take i list)) ∷ b ∷ [] → rows2 ≡ set rows 0 (set (row_at rows 0) (number (get_or list i d)) true) → rows2 ≡ marked a (map number (take (i + 1) list)) ∷ b ∷ []
known_more number list i d a b rows rows2 lt e f =
    f ∙ ap (λ (rs : List (List Bool)). set rs 0 (set (row_at rs 0) (number (get_or list i d)) true)) e
    ∙ ap (λ (r : List Bool). r ∷ b ∷ []) (sym (ap (λ xs. marked a (map number xs)) (take_more list i d lt) ∙ ap (marked a) (map-append number (take i list) (get_or list i d ∷ [])) ∙ marked-append a (map number (take i list)) (number (get_or list i d) ∷ [])))

-- ---- bits of numbers

pub bit_is : (p : ℕ → Bool) (n k : ℕ) → k < n → get_or (bits_below n p) k false ≡ p k
bit_is p n k lt = get_or-map-range_with_len p 0 n k k false lt (let e : 0 + k ≡ k = omega arith in e)

pub bits_long : (p : ℕ → Bool) (n : ℕ) → length (bits_below n p) ≡ n
bits_long p n = length-map-range_with_len p 0 n

pub stands_snoc : (x y : ℕ) (xs : List ℕ) → stands x (xs ++ y ∷ []) ≡ (stands x xs || (x == y))
stands_snoc x y [] = grind arith
stands_snoc x y (z ∷ zs) = let r = stands_snoc x y zs in grind arith

called_snoc : (G : Graph) (ks : List ℕ) (k h : ℕ) → called_by G (ks ++ k ∷ []) h ≡ (called_by G ks h || stands h (G.callees k))
called_snoc G [] k h = grind arith
called_snoc G (x ∷ ks) k h = let r = called_snoc G ks k h in grind arith

-- ---- the rows at the start, and after one more was given

pub begun : (G : Graph) (g n : ℕ) → G.functions ≡ n → g < n → (rows rows2 : List (List Bool)) → rows ≡ replicate 2 (replicate n false) → rows2 ≡ set rows 0 (set (row_at rows 0) g true) → rows2 ≡ rows_of G g []
begun G g n same lt rows rows2 e f = f ∙ ap (λ rs. set rs 0 (set (row_at rs 0) g true)) e ∙ ap₂ (λ (a b : List Bool). a ∷ b ∷ []) first second
  where
    blank : List Bool
    blank = replicate n false

    long : length blank ≡ n
    long = length-replicate n false

    first : set blank g true ≡ bits_below G.functions (is_known G g [])
    first = fill_by_all (is_known G g []) (set blank g true) n false (length-set blank g true ∙ long)
        (λ k l. elim (let c : (k ≡ g) ⊎ (k ≢ g) = grind (arith, nat_tests) in c) [
          | inl s ↦ (let t : get_or (set blank g true) k false ≡ true = ap (λ (j : ℕ). get_or (set blank g true) j false) s ∙ get_or-set_same blank g true false (omega (arith, lt, long)) in grind (arith, nat_tests))
          | inr ne ↦ (let t = get_or-set_other blank g k true false ne in let u = get_or-replicate n k false false l in grind (arith, nat_tests))
        ]) ∙ ap (λ m. bits_below m (is_known G g [])) (sym same)

    second : blank ≡ bits_below G.functions (λ h. stands h [])
    second = fill_by_all (λ h. stands h []) blank n false long (λ k l. get_or-replicate n k false false l) ∙ ap (λ m. bits_below m (λ h. stands h [])) (sym same)

module _ (G : Graph) (g h : ℕ) (order : List ℕ) (lt : h < G.functions) where
  abbrev known : List Bool
  known = bits_below G.functions (is_known G g order)

  abbrev given : List Bool
  given = bits_below G.functions (λ x. stands x order)

  first_row : marked known (G.callees h) ≡ bits_below G.functions (is_known G g (order ++ h ∷ []))
  first_row = fill_by_all (is_known G g (order ++ h ∷ [])) (marked known (G.callees h)) G.functions false
      (length-marked known (G.callees h) ∙ bits_long (is_known G g order) G.functions)
      (λ k l.
      let m = marked-at known (G.callees h) k (omega (arith, l, bits_long (is_known G g order) G.functions)) in
      let b = bit_is (is_known G g order) G.functions k l in
      let c = called_snoc G order h k in
      grind arith)

  second_row : set given h true ≡ bits_below G.functions (λ x. stands x (order ++ h ∷ []))
  second_row = fill_by_all (λ x. stands x (order ++ h ∷ [])) (set given h true) G.functions false
      (length-set given h true ∙ bits_long (λ x. stands x order) G.functions)
      (λ k l. elim (let c : (k ≡ h) ⊎ (k ≢ h) = grind (arith, nat_tests) in c) [
        | inl e ↦ (let t : get_or (set given h true) k false ≡ true = ap (λ (j : ℕ). get_or (set given h true) j false) e ∙ get_or-set_same given h true false (omega (arith, lt, bits_long (λ x. stands x order) G.functions)) in
            let u = stands_snoc k h order in grind (arith, nat_tests))
        | inr ne ↦ (let s = get_or-set_other given h k true false ne in
            let b = bit_is (λ x. stands x order) G.functions k l in
            let u = stands_snoc k h order in grind (arith, nat_tests))
      ])

  pub rows_more : (rows rows2 : List (List Bool)) (list : List ℕ) → rows ≡ rows_of G g order → list ≡ G.callees h → rows2 ≡ marked (row_at rows 0) list ∷ set (row_at rows 1) h true ∷ [] → rows2 ≡ rows_of G g (order ++ h ∷ [])
  rows_more rows rows2 list e same f = f ∙ ap₂ (λ (rs : List (List Bool)) (l : List ℕ). marked (row_at rs 0) l ∷ set (row_at rs 1) h true ∷ []) e same ∙ ap₂ (λ (a b : List Bool). a ∷ b ∷ []) first_row second_row

-- ---- the next one is read off the rows

pub next_of_rows : (G : Graph) (g : ℕ) (order : List ℕ) → least (is_waiting (rows_of G g order)) 0 (length (row_at (rows_of G g order) 0)) ≡ next_known G g order
unfolding next_known
next_of_rows G g order =
    ap (least (is_waiting (rows_of G g order)) 0) (bits_long (is_known G g order) G.functions)
    ∙ same_least (is_waiting (rows_of G g order)) (λ h. is_known G g order h && not (stands h order)) 0 G.functions
    (λ k a b. let l : k < G.functions = omega (arith, b) in ap₂ (λ (x y : Bool). x && not y) (bit_is (is_known G g order) G.functions k l) (bit_is (λ x. stands x order) G.functions k l))

-- ---- what is known at the end is reached

pub known_bit : (G : Graph) (g : ℕ) (order : List ℕ) (rows : List (List Bool)) (f : ℕ) → rows ≡ rows_of G g order → f < length (row_at rows 0) → (flag rows 0 f ≡ is_known G g order f) × (f < G.functions)
known_bit G g order rows f e lt =
    let long : length (row_at rows 0) ≡ G.functions = ap (λ rs. length (row_at rs 0)) e ∙ bits_long (is_known G g order) G.functions in
    let l : f < G.functions = omega (arith, lt, long) in
    (ap (λ rs. flag rs 0 f) e ∙ bit_is (is_known G g order) G.functions f l, l)

pub ended_bit : (G : Graph) (g : ℕ) (rows : List (List Bool)) (f : ℕ) → IsGraph G → g < G.functions → rows ≡ rows_of G g (reach G g) → f < length (row_at rows 0) → flag rows 0 f ≡ stands f (reach G g)
ended_bit G g rows f l here e lt =
    let k = known_bit G g (reach G g) rows f e lt in
    k.0 ∙ go (bool_tells (is_known G g (reach G g) f)) (bool_tells (stands f (reach G g))) k.1
  where
    go : (is_known G g (reach G g) f ≡ true) ⊎ (is_known G g (reach G g) f ≡ false) → (stands f (reach G g) ≡ true) ⊎ (stands f (reach G g) ≡ false) → f < G.functions → is_known G g (reach G g) f ≡ stands f (reach G g)
    go (inl a) (inl b) m = a ∙ sym b
    go (inr a) (inr b) m = a ∙ sym b
    go (inl a) (inr b) m = absurd (let c = known_given G l g here f m a in grind arith)
    go (inr a) (inl b) m = absurd (let c = is_known_of G l g here f b in grind arith)

pub ended_chain : (G : Graph) (g f : ℕ) → IsGraph G → g < G.functions → IsTrue (stands f (reach G g)) ↔ Reaches G g f
ended_chain G g f l here = (λ t. reach_only G l g here f t, λ r. reach_all G l g here f r)
