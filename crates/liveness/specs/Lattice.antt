-- Rows of live locals are a lattice, and the flow of live locals rises: proofs alone, of the law that `solve` asks for.
use Rattle.std.proofs.Common.{◌≡◌, inl, inr, refl, sym, ap, ◌∙◌, subst, ℕ, zero, suc, ◌<◌, List, [], ◌∷◌, Bool, true, false, not, ◌&&◌, ◌||◌, if◌then◌else◌, nat_lt, length, get_or, set, Option, Some, None, slice_get, arith}
use Rattle.std.proofs.lemmas.Bool.{or_cases, and_parts, and_from, or_left, or_right}
use Rattle.std.proofs.lemmas.List.{length-replicate}
use Rattle.std.proofs.lemmas.Simd.{length-zip2, get_or-zip2}
use lib.Lanes.{zip2}
use Rattle.bit_rows.specs.Rows.{row_at, flag, and_not, HasSize}
use Rattle.flow_engine.specs.declared.edges.Edge.{Edge}
use Rattle.flow_engine.specs.Flow.{Lawful}
use Rattle.liveness.specs.Rows.{blank}
use Rattle.liveness.specs.Facts.{IsSized, IsBelow, ones, count_ones, begun, joined, after, along, sent}
use Rattle.liveness.specs.Bits.{bit_within, ones_low, ones_same, ones_few}

abbrev pub Fact : Type 0
Fact = List (List Bool)

-- a fact is one row
pub one_row : (n : ℕ) (x : Fact) → HasSize x 1 n → x ≡ row_at x 0 ∷ []
one_row n [] s = absurd (let c = s.count_is in omega arith)
one_row n (r ∷ []) s = refl
one_row n (r ∷ q ∷ rs) s = absurd (let c = s.count_is in omega arith)

pub row_long : (n : ℕ) (x : Fact) → HasSize x 1 n → length (row_at x 0) ≡ n
row_long n x s = s.bits_is 0 (omega arith)

pub single : (n : ℕ) (row : List Bool) → length row ≡ n → HasSize (row ∷ []) 1 n
single n row e = record { count_is = refl; bits_is = λ r l. go r l }
  where
    go : (r : ℕ) → r < 1 → length (row_at (row ∷ []) r) ≡ n
    go zero l = e
    go (suc r) l = absurd (omega arith)

-- ---- joins

pub joined_is : (n : ℕ) (x y : Fact) → HasSize x 1 n → joined x y ≡ zip2 (λ a b. a || b) (row_at x 0) (row_at y 0) ∷ []
joined_is n x y s = ap (λ z. set z 0 (zip2 (λ a b. a || b) (row_at x 0) (row_at y 0))) (one_row n x s)

joined_long : (n : ℕ) (x y : Fact) → HasSize x 1 n → HasSize y 1 n → length (zip2 (λ a b. a || b) (row_at x 0) (row_at y 0)) ≡ n
joined_long n x y s t = length-zip2 (λ a b. a || b) (row_at x 0) (row_at y 0) (row_long n x s ∙ sym (row_long n y t)) ∙ row_long n x s

pub joined_size : (n : ℕ) (x y : Fact) → HasSize x 1 n → HasSize y 1 n → HasSize (joined x y) 1 n
joined_size n x y s t = subst (λ z. HasSize z 1 n) (sym (joined_is n x y s)) (single n (zip2 (λ a b. a || b) (row_at x 0) (row_at y 0)) (joined_long n x y s t))

pub joined_bit : (n : ℕ) (x y : Fact) → HasSize x 1 n → HasSize y 1 n → (k : ℕ) → k < n → flag (joined x y) 0 k ≡ (flag x 0 k || flag y 0 k)
joined_bit n x y s t k l = ap (λ z. flag z 0 k) (joined_is n x y s) ∙ get_or-zip2 (λ a b. a || b) (row_at x 0) (row_at y 0) k false false false (omega (arith, row_long n x s)) (omega (arith, row_long n y t))

flag_within : (n : ℕ) (x : Fact) → HasSize x 1 n → (k : ℕ) → flag x 0 k ≡ true → k < n
flag_within n x s k e = (let l = bit_within (row_at x 0) k e in omega (arith, row_long n x s))

-- ---- what an edge makes of a fact

pub after_long : (n : ℕ) (row kill gen : List Bool) → length row ≡ n → length kill ≡ n → length gen ≡ n → length (after row kill gen) ≡ n
after_long n row kill gen a b c =
    let cut = length-zip2 and_not row kill (a ∙ sym b) in
    length-zip2 (λ a b. a || b) (zip2 and_not row kill) gen (cut ∙ a ∙ sym c) ∙ cut ∙ a

pub after_bit : (n : ℕ) (row kill gen : List Bool) → length row ≡ n → length kill ≡ n → length gen ≡ n → (k : ℕ) → k < n → get_or (after row kill gen) k false ≡ ((get_or row k false && not (get_or kill k false)) || get_or gen k false)
after_bit n row kill gen a b c k l =
    let cut = length-zip2 and_not row kill (a ∙ sym b) in
    get_or-zip2 (λ a b. a || b) (zip2 and_not row kill) gen k false false false (omega arith) (omega arith)
    ∙ ap (λ z. z || get_or gen k false) (get_or-zip2 and_not row kill k false false false (omega arith) (omega arith))

module _ (blocks bits : ℕ) (edges : List Edge) (gens kills : Fact) (s : IsSized blocks bits edges gens kills) where
  abbrev Ok : Fact → Type 0
  Ok x = HasSize x 1 bits

  kill_long : (e : Edge) → e.to < blocks → length (row_at kills e.to) ≡ bits
  kill_long e l = s.kills_size.bits_is e.to l

  gen_long : (e : Edge) → e.to < blocks → length (row_at gens e.to) ≡ bits
  gen_long e l = s.gens_size.bits_is e.to l

  along_ok : (x : Fact) → Ok x → (o : Option Edge) → ((e : Edge) → o ≡ Some e → e.to < blocks) → Ok (along bits gens kills x o)
  along_ok x ok None h = single bits (blank bits) (length-replicate bits false)
  along_ok x ok (Some e) h = single bits (after (row_at x 0) (row_at kills e.to) (row_at gens e.to)) (after_long bits (row_at x 0) (row_at kills e.to) (row_at gens e.to) (row_long bits x ok) (kill_long e (h e refl)) (gen_long e (h e refl)))

  along_below : (x y : Fact) → Ok x → Ok y → IsBelow bits x y → (o : Option Edge) → (h : (e : Edge) → o ≡ Some e → e.to < blocks) → IsBelow bits (along bits gens kills x o) (along bits gens kills y o)
  along_below x y okx oky b None h = record { first_size = along_ok x okx None h; second_size = along_ok y oky None h; ones = λ k e. e }
  along_below x y okx oky b (Some e) h = record {
    first_size = along_ok x okx (Some e) h;
    second_size = along_ok y oky (Some e) h;
    ones = λ k q. rises k q;
  }
    where
      kill : List Bool
      kill = row_at kills e.to

      gen : List Bool
      gen = row_at gens e.to

      rises : (k : ℕ) → get_or (after (row_at x 0) (row_at kills e.to) (row_at gens e.to)) k false ≡ true → get_or (after (row_at y 0) (row_at kills e.to) (row_at gens e.to)) k false ≡ true
      rises k q =
          let kl = kill_long e (h e refl) in
          let gl = gen_long e (h e refl) in
          let l : k < bits = (let m = bit_within (after (row_at x 0) (row_at kills e.to) (row_at gens e.to)) k q in omega (arith, after_long bits (row_at x 0) (row_at kills e.to) (row_at gens e.to) (row_long bits x okx) kl gl)) in
          let was = sym (after_bit bits (row_at x 0) (row_at kills e.to) (row_at gens e.to) (row_long bits x okx) kl gl k l) ∙ q in
          after_bit bits (row_at y 0) (row_at kills e.to) (row_at gens e.to) (row_long bits y oky) kl gl k l
          ∙ elim (or_cases (get_or (row_at x 0) k false && not (get_or (row_at kills e.to) k false)) (get_or (row_at gens e.to) k false) was) [
            | inl p ↦ (let two = and_parts (get_or (row_at x 0) k false) (not (get_or (row_at kills e.to) k false)) p in
                or_left (get_or (row_at y 0) k false && not (get_or (row_at kills e.to) k false)) (get_or (row_at gens e.to) k false) (and_from (get_or (row_at y 0) k false) (not (get_or (row_at kills e.to) k false)) (b.ones k two.0) two.1))
            | inr p ↦ or_right (get_or (row_at y 0) k false && not (get_or (row_at kills e.to) k false)) (get_or (row_at gens e.to) k false) p
          ]

  begun_long : (b : ℕ) (c : Bool) → (c ≡ true → b < blocks) → length (if c then row_at gens b else blank bits) ≡ bits
  begun_long b true h = s.gens_size.bits_is b (h refl)
  begun_long b false h = length-replicate bits false

  begun_ok : (b : ℕ) → Ok (begun blocks bits gens b)
  begun_ok b = single bits (if nat_lt b blocks then row_at gens b else blank bits) (begun_long b (nat_lt b blocks) (λ e. grind arith))

  left : (x y : Fact) → Ok x → Ok y → IsBelow bits x (joined x y)
  left x y ok ok2 = record {
    first_size = ok;
    second_size = joined_size bits x y ok ok2;
    ones = λ k e. joined_bit bits x y ok ok2 k (flag_within bits x ok k e) ∙ or_left (flag x 0 k) (flag y 0 k) e;
  }

  right : (x y : Fact) → Ok x → Ok y → IsBelow bits y (joined x y)
  right x y ok ok2 = record {
    first_size = ok2;
    second_size = joined_size bits x y ok ok2;
    ones = λ k e. joined_bit bits x y ok ok2 k (flag_within bits y ok2 k e) ∙ or_right (flag x 0 k) (flag y 0 k) e;
  }

  least : (x y z : Fact) → Ok x → Ok y → IsBelow bits x z → IsBelow bits y z → IsBelow bits (joined x y) z
  least x y z ok ok2 a b = record {
    first_size = joined_size bits x y ok ok2;
    second_size = a.second_size;
    ones = λ k e. elim (or_cases (flag x 0 k) (flag y 0 k) (sym (joined_bit bits x y ok ok2 k (flag_within bits (joined x y) (joined_size bits x y ok ok2) k e)) ∙ e)) [ inl p ↦ a.ones k p | inr p ↦ b.ones k p ];
  }

  rows_as_long : (x y : Fact) → IsBelow bits x y → length (row_at x 0) ≡ length (row_at y 0)
  rows_as_long x y b = row_long bits x b.first_size ∙ sym (row_long bits y b.second_size)

  pub live_lawful : Lawful (λ x. HasSize x 1 bits) (IsBelow bits) count_ones bits (begun blocks bits gens) joined (sent bits edges gens kills)
  live_lawful = record {
    same = λ x ok. record { first_size = ok; second_size = ok; ones = λ k e. e };
    then_below = λ x y z a b. record { first_size = a.first_size; second_size = b.second_size; ones = λ k e. b.ones k (a.ones k e) };
    join_ok = λ x y ok ok2. joined_size bits x y ok ok2;
    left = left;
    right = right;
    least = least;
    rank_below = λ x y b. ones_low (row_at x 0) (row_at y 0) (rows_as_long x y b) b.ones;
    rank_same = λ x y b e. one_row bits x b.first_size ∙ ap (λ row. row ∷ []) (ones_same (row_at x 0) (row_at y 0) (rows_as_long x y b) b.ones e) ∙ sym (one_row bits y b.second_size);
    rank_high = λ x ok. (let f = ones_few (row_at x 0) in let l = row_long bits x ok in omega arith);
    start_ok = begun_ok;
    flow_ok = λ i x ok. along_ok x ok (slice_get edges i) (λ e q. s.ends i e q);
    flow_below = λ i x y ok ok2 b. along_below x y ok ok2 b (slice_get edges i) (λ e q. s.ends i e q);
  }
