-- What is known at the points of a body.
use Rattle.std.proofs.Common.{◌≡◌, inl, inr, refl, sym, ap, ◌∙◌, subst, ℕ, zero, suc, Bool, true, nat_eq, ◌&&◌, List, [], ◌∷◌, take, Option, Some, None, slice_get, arith}
use Rattle.mir_syntax.specs.declared.body.Proj.{Proj}
use Rattle.mir_syntax.specs.declared.body.Place.{Place}
use Rattle.mir_syntax.specs.declared.body.Arm.{Arm}
use Rattle.mir_syntax.specs.Tree.{Tree}
use Rattle.mir_syntax.specs.Crate.{TypedStmt}
use Rattle.mir_syntax.specs.Shapes.{Shape, ◌>>=◌}
use Rattle.mir_num.specs.Numbers as num
use Rattle.mir_semantics.specs.Values.{Value, number, at_path}
use Rattle.mir_semantics.specs.Memory.{Memory, local_at, value_at}
use Rattle.mir_semantics.specs.Step.{Here, take_arm}
use Rattle.const_flow.specs.declared.cell.Cell.{Cell}
use Rattle.const_flow.specs.declared.cell.Cell.TheVariants.{Nothing, Num, Many}
use Rattle.place_map.specs.Tracked.{way}
use Rattle.const_flow.specs.Facts.{Fact, Facts, put_known, learn, always, after_stmt, after_all, switch_to, can_be}
use Rattle.const_flow.specs.Order.{BelowCell, BelowFacts}
use Rattle.const_flow.specs.Holding.{IsKnown, Fits, NumFits, ScalarPlace, addr_of, HoldsAt, Holds}
use Rattle.const_flow.proofs.Same.{arm_there}
use Rattle.const_flow.proofs.sound.Values.{hole_known, many_fits}

some_one : {A : Type 0} {x y : A} → Some x ≡ Some y → x ≡ y
some_one e = grind arith

known_below : (a b : Cell) (v : Value) → BelowCell a b → IsKnown a v → IsKnown b v
known_below Nothing b v h k = hole_known b v k
known_below (Num a) (Num b) v h (inl k) = inl k
known_below (Num a) (Num b) v h (inr k) = inr (k ∙ ap number h)
known_below (Num a) Many v h k = tt
known_below Many Many v h k = tt
known_below a b v h k = absurd h

pub fits_below : (a b : Cell) (o : Option Value) → BelowCell a b → Fits a o → Fits b o
fits_below a b None h k = tt
fits_below a b (Some v) h k = known_below a b v h k

module _ (D : List Shape) (ts : List Tree) (f : ℕ) (Free : ℕ → Type 0) where
  pub holds_below : (m : Memory) (fs gs : Facts) → BelowFacts fs gs → Holds D ts f Free m fs → Holds D ts f Free m gs
  holds_below m [] [] h k = tt
  holds_below m (e ∷ fs) (d ∷ gs) h k = ((subst (ScalarPlace D ts f Free) h.0.0 k.0.0, fits_below e.known d.known _ h.0.1 (subst (λ p. Fits e.known (value_at m (addr_of D ts f Free p))) h.0.0 k.0.1)), holds_below m fs gs h.1 k.1)
  holds_below m [] (d ∷ gs) h k = absurd h
  holds_below m (e ∷ fs) [] h k = absurd h

  many_at : (m : Memory) (e : Fact) (o : Option (List Proj)) → HoldsAt D ts f Free m e → HoldsAt D ts f Free m (put_known (always Many) e o)
  many_at m e None h = h
  many_at m e (Some r) h = (h.0, many_fits (value_at m (addr_of D ts f Free e.place)))

  pub learn_many : (m : Memory) (q : Place) (fs : Facts) → Holds D ts f Free m fs → Holds D ts f Free m (learn q (always Many) fs)
  unfolding learn
  learn_many m q [] h = tt
  learn_many m q (e ∷ fs) h = (many_at m e (way q e.place) h.0, learn_many m q fs h.1)

  -- where the locals that aren't borrowed are the same
  pub same_holds : (m m' : Memory) → ((x : ℕ) → Free x → local_at m' f x ≡ local_at m f x) → (fs : Facts) → Holds D ts f Free m fs → Holds D ts f Free m' fs
  unfolding value_at
  same_holds m m' s [] h = tt
  same_holds m m' s (e ∷ fs) h = ((h.0.0, subst (λ o. Fits e.known (o >>= at_path e.place.proj)) (sym (s e.place.local h.0.0.free)) h.0.1), same_holds m m' s fs h.1)

-- points of a block
pub take_more : (T : Here) (ss : List TypedStmt) (i : ℕ) (st : TypedStmt) (fs : Facts) → slice_get ss i ≡ Some st → after_all T (take (suc i) ss) fs ≡ after_stmt T st (after_all T (take i ss) fs)
take_more T [] i st fs e = absurd (grind arith)
take_more T (s ∷ ss) zero st fs e = ap (λ s. after_stmt T s fs) (some_one e)
take_more T (s ∷ ss) (suc i) st fs e = take_more T ss i st (after_stmt T s fs) e

pub take_end : (ss : List TypedStmt) (i : ℕ) → slice_get ss i ≡ None → take i ss ≡ ss
take_end [] zero e = refl
take_end [] (suc i) e = refl
take_end (s ∷ ss) zero e = absurd (grind arith)
take_end (s ∷ ss) (suc i) e = ap (λ xs. s ∷ xs) (take_end ss i e)

pub take_zero : (ss : List TypedStmt) → take 0 ss ≡ []
take_zero [] = refl
take_zero (s ∷ ss) = refl

-- targets
pub eq_self : (n : ℕ) → nat_eq n n ≡ true
eq_self n = grind arith

pub switch_leads : (k : Cell) (n : ℕ) (arms : List Arm) (other : ℕ) → NumFits k n → switch_to (take_arm n arms other) k arms other ≡ true
switch_leads Nothing n arms other h = absurd h
switch_leads (Num c) n arms other h = ap (λ c. nat_eq (take_arm c arms other) (take_arm n arms other)) h ∙ eq_self (take_arm n arms other)
switch_leads Many n arms other h = arm_there n arms other

pub can_leads : (e : Bool) (k : Cell) (n t : ℕ) → NumFits k n → nat_eq n (num.flag e) ≡ true → (can_be e k && nat_eq t t) ≡ true
can_leads e Nothing n t h q = absurd h
can_leads e (Num c) n t h q = ap (λ b. b && nat_eq t t) (ap (λ c. nat_eq c (num.flag e)) h ∙ q) ∙ eq_self t
can_leads e Many n t h q = eq_self t
