-- The nodes of a block by their numbers.
use Rattle.std.proofs.Common.{◌≡◌, ◌⊎◌, inl, inr, refl, sym, ap, ◌∙◌, subst, ℕ, zero, suc, ◌+◌, ◌*◌, ◌%◌, ◌<◌, Bool, true, false, nat_lt, if◌then◌else◌, List, [], ◌∷◌, length, get_or, Some, slice_get, arith}
use Rattle.std.proofs.lemmas.Option.{slice_get-get_or, get_or_from_slice_get}
use Rattle.const_flow.specs.Nodes.{start_node, end_node, is_start, node_block, at_starts}

-- a node is one of a block's ends
abbrev pub IsEnd : ℕ → ℕ → Type 0
IsEnd b m = (m ≡ 3 * b) ⊎ (m ≡ 3 * b + 2)

pub end_is : (b t : ℕ) → IsEnd b (end_node b t)
end_is b t = go (nat_lt b t)
  where
    go : (c : Bool) → IsEnd b (if c then 3 * b + 2 else 3 * b)
    go true = inr refl
    go false = inl refl

pub start_block : (b : ℕ) → node_block (start_node b) ≡ b
start_block b = omega arith

pub start_starts : (b : ℕ) → is_start (start_node b) ≡ true
start_starts b = let z : (3 * b + 1) % 3 ≡ 1 = omega arith in grind arith

pub end_block : (b m : ℕ) → IsEnd b m → node_block m ≡ b
end_block b m (inl e) = omega arith
end_block b m (inr e) = omega arith

pub end_ends : (b m : ℕ) → IsEnd b m → is_start m ≡ false
end_ends b m (inl e) = let z : m % 3 ≡ 0 = omega arith in grind arith
end_ends b m (inr e) = let z : m % 3 ≡ 2 = omega arith in grind arith

pub end_low : (b m n : ℕ) → IsEnd b m → b < n → m < 3 * n
end_low b m n (inl e) l = omega arith
end_low b m n (inr e) l = omega arith

-- a node is a block's start or one of its ends
pub node_is : (node : ℕ) → (b : ℕ) × ((node ≡ 3 * b + 1) ⊎ IsEnd b node)
node_is zero = (0, inr (inl refl))
node_is (suc zero) = (0, inl refl)
node_is (suc (suc zero)) = (0, inr (inr refl))
node_is (suc (suc (suc node))) = (let (b, k) = node_is node in (
  suc b,
  elim k [
    | inl e ↦ inl (omega arith)
    | inr (inl e) ↦ inr (inl (omega arith))
    | inr (inr e) ↦ inr (inr (omega arith))
  ],
))

pub starts_get : {A : Type 0} (xs : List A) (b : ℕ) (x : A) → slice_get (at_starts xs) b ≡ Some x → slice_get xs (3 * b + 1) ≡ Some x
starts_get [] b x e = absurd (grind arith)
starts_get (y ∷ []) b x e = absurd (grind arith)
starts_get (y ∷ z ∷ []) zero x e = e
starts_get (y ∷ z ∷ []) (suc b) x e = absurd (grind arith)
starts_get (y ∷ z ∷ w ∷ xs) zero x e = e
starts_get (y ∷ z ∷ w ∷ xs) (suc b) x e = subst (λ i. slice_get (y ∷ z ∷ w ∷ xs) i ≡ Some x) (let q : suc (suc (suc (3 * b + 1))) ≡ 3 * suc b + 1 = omega arith in q) (starts_get xs b x e)

pub starts_long : {A : Type 0} (xs : List A) (n : ℕ) → length xs ≡ 3 * n → length (at_starts xs) ≡ n
starts_long [] n e = omega arith
starts_long (y ∷ []) n e = absurd (omega arith)
starts_long (y ∷ z ∷ []) n e = absurd (omega arith)
starts_long (y ∷ z ∷ w ∷ xs) zero e = absurd (omega arith)
starts_long (y ∷ z ∷ w ∷ xs) (suc n) e = ap suc (starts_long xs n (omega arith))

pub starts_item : {A : Type 0} (xs : List A) (n b : ℕ) (x : A) → length xs ≡ 3 * n → b < n → x ≡ get_or xs (3 * b + 1) x → get_or (at_starts xs) b x ≡ x
starts_item xs n b x long l here =
    let v = get_or (at_starts xs) b x in
    let at : slice_get (at_starts xs) b ≡ Some v = slice_get-get_or (at_starts xs) b x (omega (arith, l, starts_long xs n long)) in
    sym (get_or_from_slice_get xs (3 * b + 1) v x (starts_get xs b v at)) ∙ sym here
