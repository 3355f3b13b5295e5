-- Integers modulo a positive number.
use Rattle.std.proofs.Common.{◌≡◌, sym, ◌∙◌, ap, ap₂, arith, ℕ, zero, suc, ◌+◌, ◌-◌, ◌*◌, ◌/◌, ◌%◌, ◌<◌, ◌≤◌}
use Rattle.std.specs.Prelude.{ℤ, pos, negsuc, ◌+ℤ◌, ◌-ℤ◌, ◌*ℤ◌, neg_ℤ}
use Rattle.std.proofs.lemmas.Int.{ints}
use Rattle.std.proofs.lemmas.Nat.{div-add-mod', mod_below, mul-mod}
use Rattle.std.proofs.Math.Nat.{mod-eq_of_lt, mod-mod, mod_self, zero-mod, mul-mod_left, add-mod-mod, mod-add-mod, mul-add-mod_self_right, add-mul-mod_self_right, add-mul, suc-mul, mul_assoc, mul_comm}
use Rattle.mir_num.specs.Numbers.{modulo}

pub mod_of_multiple : (n k m : ℕ) → (n % (k * m)) % m ≡ n % m
mod_of_multiple n k m =
    sym (ap (λ x. x % m) (sym (div-add-mod' n (k * m)) ∙ ap (λ x. x + n % (k * m)) (sym (mul_assoc (n / (k * m)) k m)))
    ∙ mul-add-mod_self_right (n / (k * m) * k) m (n % (k * m)))

pub mod_of_sum : (a b m : ℕ) → (a % m + b % m) % m ≡ (a + b) % m
mod_of_sum a b m = mod-add-mod a m (b % m) ∙ add-mod-mod a b m

pub modulo_below : (m : ℕ) (z : ℤ) → 0 < m → modulo m z < m
modulo_below m (pos n) h = mod_below n m h
modulo_below m (negsuc n) h = omega (arith, h)

-- what stands some multiples of m above an integer
pub raised : (m : ℕ) (z : ℤ) (k n : ℕ) → 0 < m → z +ℤ pos (k * m) ≡ pos n → modulo m z ≡ n % m
raised m (pos a) k n h e =
    let f : n ≡ a + k * m = omega (arith, ints, e) in
    sym (ap (λ x. x % m) f ∙ add-mul-mod_self_right a k m)
raised m (negsuc a) k n h e =
    let q : a / m * m + a % m ≡ a = div-add-mod' a m in
    let b : a % m < m = mod_below a m h in
    let d : suc (a / m) * m ≡ a / m * m + m = suc-mul (a / m) m in
    let f : n + (suc (a / m)) * m ≡ (m - suc (a % m)) + k * m = omega (arith, ints, e, q, b, d) in
    sym (sym (add-mul-mod_self_right n (suc (a / m)) m) ∙ ap (λ x. x % m) f ∙ add-mul-mod_self_right (m - suc (a % m)) k m ∙ mod-eq_of_lt (omega (arith, b)))

-- some multiples of m above an integer stands a natural number
lift : (m : ℕ) (z : ℤ) → 0 < m → (k n : ℕ) × (z +ℤ pos (k * m) ≡ pos n)
lift m (pos a) h = (0, a, omega (arith, ints))
lift m (negsuc a) h =
    let q : a / m * m + a % m ≡ a = div-add-mod' a m in
    let b : a % m < m = mod_below a m h in
    let d : suc (a / m) * m ≡ a / m * m + m = suc-mul (a / m) m in
    (suc (a / m), m - suc (a % m), omega (arith, ints, q, b, d))

pub modulo-add : (m : ℕ) (x y : ℤ) → 0 < m → modulo m (x +ℤ y) ≡ (modulo m x + modulo m y) % m
modulo-add m x y h =
    let (k, a, e) = lift m x h in
    let (l, b, f) = lift m y h in
    let d : (k + l) * m ≡ k * m + l * m = add-mul k l m in
    raised m (x +ℤ y) (k + l) (a + b) h (omega (arith, ints, e, f, d))
    ∙ sym (mod_of_sum a b m)
    ∙ sym (ap₂ (λ u v. (u + v) % m) (raised m x k a h e) (raised m y l b h f))

-- two numbers that add up to no remainder
opposite : (m a b : ℕ) → 0 < m → a < m → b < m → (a + b) % m ≡ 0 → b ≡ (m - a) % m
opposite m zero b h p q e = sym (mod-eq_of_lt q) ∙ ap (λ x. x % m) (omega arith) ∙ e ∙ sym (ap (λ x. x % m) (let f : m - 0 ≡ m = omega arith in f) ∙ mod_self m)
opposite m (suc a) b h p q e =
    let r : (m - suc a) % m ≡ m - suc a = mod-eq_of_lt (omega (arith, h)) in
    let s : (suc a + b) / m * m + (suc a + b) % m ≡ suc a + b = div-add-mod' (suc a + b) m in
    go ((suc a + b) / m) (let t : (suc a + b) / m * m ≡ suc a + b = omega (arith, s, e) in t) ∙ sym r
  where
    go : (k : ℕ) → k * m ≡ suc a + b → b ≡ m - suc a
    go zero f = omega (arith, f)
    go (suc zero) f = omega (arith, f)
    go (suc (suc k)) f = let d : suc (suc k) * m ≡ k * m + m + m = suc-mul (suc k) m ∙ ap (λ x. x + m) (suc-mul k m) in omega (arith, f, d, p, q)

pub modulo-neg : (m : ℕ) (x : ℤ) → 0 < m → modulo m (neg_ℤ x) ≡ (m - modulo m x) % m
modulo-neg m x h = opposite m (modulo m x) (modulo m (neg_ℤ x)) h (modulo_below m x h) (modulo_below m (neg_ℤ x) h) (sym (modulo-add m x (neg_ℤ x) h) ∙ ap (modulo m) (let e : x +ℤ neg_ℤ x ≡ pos 0 = omega (arith, ints) in e) ∙ zero-mod m)

pub modulo-sub : (m : ℕ) (x y : ℤ) → 0 < m → modulo m (x -ℤ y) ≡ (modulo m x + (m - modulo m y)) % m
modulo-sub m x y h =
    ap (modulo m) (let e : x -ℤ y ≡ x +ℤ neg_ℤ y = omega (arith, ints) in e)
    ∙ modulo-add m x (neg_ℤ y) h ∙ ap (λ v. (modulo m x + v) % m) (modulo-neg m y h) ∙ add-mod-mod (modulo m x) (m - modulo m y) m

-- a number taken from a multiple of m
pub taken_from : (k m b : ℕ) → 0 < m → b ≤ k * m → (k * m - b) % m ≡ (m - b % m) % m
taken_from k m b h p =
    sym (mod-mod (k * m - b) m) ∙ ap (λ x. x % m) (opposite m (b % m) ((k * m - b) % m) h (mod_below b m h) (mod_below (k * m - b) m h)
    (mod_of_sum b (k * m - b) m ∙ ap (λ x. x % m) (omega (arith, p)) ∙ mul-mod_left k m)) ∙ mod-mod (m - b % m) m

modulo-mul_negsuc : (m a b : ℕ) → 0 < m → modulo m (neg_ℤ (pos (a * suc b))) ≡ (a % m * modulo m (negsuc b)) % m
modulo-mul_negsuc m a b h =
    let (l, c, f) = lift m (negsuc b) h in
    let d : l * m ≡ c + suc b = omega (arith, ints, f) in
    let g : a * l * m ≡ a * c + a * suc b = mul_assoc a l m ∙ ap (λ x. a * x) d ∙ spread a c (suc b) in
    raised m (neg_ℤ (pos (a * suc b))) (a * l) (a * c) h (omega (arith, ints, g))
    ∙ mul-mod a c m ∙ ap (λ x. (a % m * x) % m) (sym (raised m (negsuc b) l c h f))
  where
    spread : (x y z : ℕ) → x * (y + z) ≡ x * y + x * z
    spread x y z = mul_comm x (y + z) ∙ add-mul y z x ∙ ap₂ (λ u v. u + v) (mul_comm y x) (mul_comm z x)

pub modulo-mul : (m : ℕ) (x y : ℤ) → 0 < m → modulo m (x *ℤ y) ≡ (modulo m x * modulo m y) % m
modulo-mul m (pos a) (pos b) h = mul-mod a b m
modulo-mul m (pos a) (negsuc b) h = modulo-mul_negsuc m a b h
modulo-mul m (negsuc a) (pos b) h =
    ap (λ x. modulo m (neg_ℤ (pos x))) (mul_comm (suc a) b) ∙ modulo-mul_negsuc m b a h ∙ ap (λ x. x % m) (mul_comm (b % m) (modulo m (negsuc a)))
modulo-mul m (negsuc a) (negsuc b) h =
    let (k, c, e) = lift m (negsuc a) h in
    let (l, d, f) = lift m (negsuc b) h in
    let e' : k * m ≡ c + suc a = omega (arith, ints, e) in
    let f' : l * m ≡ d + suc b = omega (arith, ints, f) in
    let p : c * l * m ≡ c * d + c * suc b = mul_assoc c l m ∙ ap (λ x. c * x) f' ∙ spread c d (suc b) in
    let q : suc b * k * m ≡ suc b * c + suc b * suc a = mul_assoc (suc b) k m ∙ ap (λ x. suc b * x) e' ∙ spread (suc b) c (suc a) in
    let u : c * suc b ≡ suc b * c = mul_comm c (suc b) in
    let v : suc a * suc b ≡ suc b * suc a = mul_comm (suc a) (suc b) in
    let w : suc a * suc b + c * l * m ≡ c * d + suc b * k * m = omega (arith, p, q, u, v) in
    sym (add-mul-mod_self_right (suc a * suc b) (c * l) m) ∙ ap (λ x. x % m) w ∙ add-mul-mod_self_right (c * d) (suc b * k) m
    ∙ mul-mod c d m ∙ sym (ap₂ (λ x y. (x * y) % m) (raised m (negsuc a) k c h e) (raised m (negsuc b) l d h f))
  where
    spread : (x y z : ℕ) → x * (y + z) ≡ x * y + x * z
    spread x y z = mul_comm x (y + z) ∙ add-mul y z x ∙ ap₂ (λ u v. u + v) (mul_comm y x) (mul_comm z x)
