-- The rows of the two small bodies are what the paths leave: each path is followed.
use Rattle.std.proofs.Common.{◌≡◌, ◌⊎◌, inl, inr, refl, sym, ap, ◌∙◌, subst, ℕ, zero, suc, ◌<◌, ◌↔◌, Bool, true, false, IsTrue, [], ◌∷◌, length, Some, slice_get, arith}
use Rattle.std.specs.List.{Contains}
use Rattle.mir_syntax.specs.declared.body.Place.{Place}
use Rattle.mir_syntax.specs.declared.body.Term.TheVariants.{Switch, Return, Drop, Call}
use Rattle.mir_syntax.specs.declared.types.IntTy.TheVariants.{U32}
use Rattle.mir_syntax.specs.Crate.{TypedBlock, build, assign}
use Rattle.mir_syntax.specs.Parts.{targets}
use Rattle.mir_syntax.specs.Shapes.{needs_drop}
use Rattle.mir_rules.specs.Weights.{units}
use Rattle.mir_semantics.proofs.Sample.{place, lit, copy, move, arm, to_function, block}
use Rattle.bit_rows.specs.Rows.{row_at, flag}
use Rattle.move_paths.specs.Inits.{after_block, ComesBy, MaybeAt, SurelyAt}
use Rattle.move_paths.proofs.Facts.{shapes, on_one_arm}
use Rattle.drop_elab.specs.Elab.{IsInits, elab_by, IsElab}
use Rattle.drop_elab.proofs.Rows.{its_inits, of_argument, argument_inits}

-- ---- what a list of one or two contains

one_of : (a i : ℕ) → Contains (a ∷ []) i → i ≡ a
one_of a i (zero, l, e) = sym e
one_of a i (suc k, l, e) = absurd (omega arith)

one_of_two : (a b i : ℕ) → Contains (a ∷ b ∷ []) i → (i ≡ a) ⊎ (i ≡ b)
one_of_two a b i (zero, l, e) = inl (sym e)
one_of_two a b i (suc zero, l, e) = inr (sym e)
one_of_two a b i (suc (suc k), l, e) = absurd (omega arith)

no_one : (i : ℕ) → Contains [] i → ⊥
no_one i (k, l, e) = absurd (omega arith)

-- ---- the value that is moved on one arm

abbrev value : Place
value = place 2

first : TypedBlock
first = block (assign (place 2) (build 0 0 (lit U32 7 ∷ [])) ∷ []) (Switch (copy (place 1)) (arm 0 2 ∷ []) 1)

abbrev Arrives : ℕ → Bool → Type 0
Arrives zero now = now ≡ false
Arrives (suc zero) now = now ≡ true
Arrives (suc (suc zero)) now = Unit {0}
Arrives (suc (suc (suc zero))) now = now ≡ false
Arrives (suc (suc (suc (suc i)))) now = ⊥

go_on : (a i : ℕ) (k : TypedBlock) (was now : Bool) → Arrives a was → slice_get on_one_arm.blocks a ≡ Some k → Contains (targets k.term) i → now ≡ after_block value k was → Arrives i now
go_on zero i k was now h is c e =
    let same : block (assign (place 2) (build 0 0 (lit U32 7 ∷ [])) ∷ []) (Switch (copy (place 1)) (arm 0 2 ∷ []) 1) ≡ k = grind arith in
    let made : now ≡ true = e ∙ ap (λ (k : TypedBlock). after_block value k was) (sym same) in
    elim (one_of_two 2 1 i (subst (λ (k : TypedBlock). Contains (targets k.term) i) (sym same) c)) [
      | inl at ↦ subst (λ i. Arrives i now) (sym at) tt
      | inr at ↦ subst (λ i. Arrives i now) (sym at) made
    ]
go_on (suc zero) i k was now h is c e =
    let same : block [] (Call (place 3) (to_function 1) (move (place 2) ∷ []) 2) ≡ k = grind arith in
    subst (λ i. Arrives i now) (sym (one_of 2 i (subst (λ (k : TypedBlock). Contains (targets k.term) i) (sym same) c))) tt
go_on (suc (suc zero)) i k was now h is c e =
    let same : block [] (Drop (place 2) 3) ≡ k = grind arith in
    let gone : now ≡ false = e ∙ ap (λ (k : TypedBlock). after_block value k was) (sym same) in
    subst (λ i. Arrives i now) (sym (one_of 3 i (subst (λ (k : TypedBlock). Contains (targets k.term) i) (sym same) c))) gone
go_on (suc (suc (suc zero))) i k was now h is c e =
    let same : block [] Return ≡ k = grind arith in
    absurd (no_one i (subst (λ (k : TypedBlock). Contains (targets k.term) i) (sym same) c))
go_on (suc (suc (suc (suc a)))) i k was now h is c e = absurd h

arrives : (n i : ℕ) (now : Bool) → ComesBy on_one_arm value n i now → Arrives i now
arrives zero i now (z, e) = subst (λ i. Arrives i now) (sym z) e
arrives (suc n) i now (a, k, was, h, is, c, e) = go_on a i k was now (arrives n a was h) is c e

at_the_start : ComesBy on_one_arm value 0 0 false
at_the_start = (refl, refl)

past_the_first : ComesBy on_one_arm value 1 1 true
unfolding first
past_the_first = (0, first, false, at_the_start, refl, (1, omega arith, refl), refl)

past_the_switch : ComesBy on_one_arm value 1 2 true
unfolding first
past_the_switch = (0, first, false, at_the_start, refl, (0, omega arith, refl), refl)

past_the_call : ComesBy on_one_arm value 2 2 false
past_the_call = (1, block [] (Call (place 3) (to_function 1) (move (place 2) ∷ []) 2), true, past_the_first, refl, (0, omega arith, refl), refl)

past_the_drop : ComesBy on_one_arm value 3 3 false
past_the_drop = (2, block [] (Drop (place 2) 3), false, past_the_call, refl, (0, omega arith, refl), refl)

-- at each block the row tells what arrives
tells_maybe : (i : ℕ) → i < 4 → IsTrue (flag its_inits.maybe i 0) ↔ MaybeAt on_one_arm value i
tells_maybe zero l = ((λ h. absurd (grind arith)), (λ h. absurd (let f : true ≡ false = arrives h.0 0 true h.1 in grind arith)))
tells_maybe (suc zero) l = ((λ h. (1, past_the_first)), (λ h. refl))
tells_maybe (suc (suc zero)) l = ((λ h. (1, past_the_switch)), (λ h. refl))
tells_maybe (suc (suc (suc zero))) l = ((λ h. absurd (grind arith)), (λ h. absurd (let f : true ≡ false = arrives h.0 3 true h.1 in grind arith)))
tells_maybe (suc (suc (suc (suc i)))) l = absurd (omega arith)

tells_sure : (i : ℕ) → i < 4 → IsTrue (flag its_inits.sure i 0) ↔ SurelyAt on_one_arm value i
tells_sure zero l = ((λ h. absurd (grind arith)), (λ h. absurd (h (0, at_the_start))))
tells_sure (suc zero) l = ((λ h c. absurd (let f : false ≡ true = arrives c.0 1 false c.1 in grind arith)), (λ h. refl))
tells_sure (suc (suc zero)) l = ((λ h. absurd (grind arith)), (λ h. absurd (h (2, past_the_call))))
tells_sure (suc (suc (suc zero))) l = ((λ h. absurd (grind arith)), (λ h. absurd (h (3, past_the_drop))))
tells_sure (suc (suc (suc (suc i)))) l = absurd (omega arith)

its_rows : IsInits shapes on_one_arm its_inits
unfolding needs_drop units
its_rows = record {
  maybe_size = record { count_is = refl; bits_is = one_bit };
  sure_size = record { count_is = refl; bits_is = one_bit_sure };
  maybe = maybe;
  sure = sure;
}
  where
    one_bit : (r : ℕ) → r < 4 → length (row_at its_inits.maybe r) ≡ 1
    one_bit zero l = refl
    one_bit (suc zero) l = refl
    one_bit (suc (suc zero)) l = refl
    one_bit (suc (suc (suc zero))) l = refl
    one_bit (suc (suc (suc (suc r)))) l = absurd (omega arith)

    one_bit_sure : (r : ℕ) → r < 4 → length (row_at its_inits.sure r) ≡ 1
    one_bit_sure zero l = refl
    one_bit_sure (suc zero) l = refl
    one_bit_sure (suc (suc zero)) l = refl
    one_bit_sure (suc (suc (suc zero))) l = refl
    one_bit_sure (suc (suc (suc (suc r)))) l = absurd (omega arith)

    maybe : (i k : ℕ) (u : Place) → i < 4 → slice_get (place 2 ∷ []) k ≡ Some u → IsTrue (flag its_inits.maybe i k) ↔ MaybeAt on_one_arm u i
    maybe i zero u l e = (let same : value ≡ u = grind arith in subst (λ u. IsTrue (flag its_inits.maybe i 0) ↔ MaybeAt on_one_arm u i) same (tells_maybe i l))
    maybe i (suc k) u l e = absurd (grind arith)

    sure : (i k : ℕ) (u : Place) → i < 4 → slice_get (place 2 ∷ []) k ≡ Some u → IsTrue (flag its_inits.sure i k) ↔ SurelyAt on_one_arm u i
    sure i zero u l e = (let same : value ≡ u = grind arith in subst (λ u. IsTrue (flag its_inits.sure i 0) ↔ SurelyAt on_one_arm u i) same (tells_sure i l))
    sure i (suc k) u l e = absurd (grind arith)

-- so this is the elaborated body
on_one_arm_is : IsElab shapes on_one_arm (elab_by shapes on_one_arm its_inits)
on_one_arm_is = record { inits = its_inits; are_inits = its_rows; is = refl }

-- ---- the argument that is dropped

abbrev Stays : ℕ → Bool → Type 0
Stays zero now = now ≡ true
Stays (suc zero) now = now ≡ false
Stays (suc (suc i)) now = ⊥

on_from : (a i : ℕ) (k : TypedBlock) (was now : Bool) → Stays a was → slice_get of_argument.blocks a ≡ Some k → Contains (targets k.term) i → now ≡ after_block (place 1) k was → Stays i now
on_from zero i k was now h is c e =
    let same : block [] (Drop (place 1) 1) ≡ k = grind arith in
    let gone : now ≡ false = e ∙ ap (λ (k : TypedBlock). after_block (place 1) k was) (sym same) in
    subst (λ i. Stays i now) (sym (one_of 1 i (subst (λ (k : TypedBlock). Contains (targets k.term) i) (sym same) c))) gone
on_from (suc zero) i k was now h is c e =
    let same : block [] Return ≡ k = grind arith in
    absurd (no_one i (subst (λ (k : TypedBlock). Contains (targets k.term) i) (sym same) c))
on_from (suc (suc a)) i k was now h is c e = absurd h

stays : (n i : ℕ) (now : Bool) → ComesBy of_argument (place 1) n i now → Stays i now
stays zero i now (z, e) = subst (λ i. Stays i now) (sym z) e
stays (suc n) i now (a, k, was, h, is, c, e) = on_from a i k was now (stays n a was h) is c e

dropped : ComesBy of_argument (place 1) 1 1 false
dropped = (0, block [] (Drop (place 1) 1), true, (refl, refl), refl, (0, omega arith, refl), refl)

argument_rows : IsInits shapes of_argument argument_inits
unfolding needs_drop units
argument_rows = record {
  maybe_size = record { count_is = refl; bits_is = one_bit };
  sure_size = record { count_is = refl; bits_is = one_bit };
  maybe = maybe;
  sure = sure;
}
  where
    one_bit : (r : ℕ) → r < 2 → length (row_at argument_inits.maybe r) ≡ 1
    one_bit zero l = refl
    one_bit (suc zero) l = refl
    one_bit (suc (suc r)) l = absurd (omega arith)

    maybe : (i k : ℕ) (u : Place) → i < 2 → slice_get (place 1 ∷ []) k ≡ Some u → IsTrue (flag argument_inits.maybe i k) ↔ MaybeAt of_argument u i
    maybe i (suc k) u l e = absurd (grind arith)
    maybe zero zero u l e = (let same : place 1 ≡ u = grind arith in subst (λ u. IsTrue (flag argument_inits.maybe 0 0) ↔ MaybeAt of_argument u 0) same ((λ h. (0, (refl, refl))), (λ h. refl)))
    maybe (suc zero) zero u l e = (let same : place 1 ≡ u = grind arith in subst (λ u. IsTrue (flag argument_inits.maybe 1 0) ↔ MaybeAt of_argument u 1) same ((λ h. absurd (grind arith)), (λ h. absurd (let f : true ≡ false = stays h.0 1 true h.1 in grind arith))))
    maybe (suc (suc i)) zero u l e = absurd (omega arith)

    sure : (i k : ℕ) (u : Place) → i < 2 → slice_get (place 1 ∷ []) k ≡ Some u → IsTrue (flag argument_inits.sure i k) ↔ SurelyAt of_argument u i
    sure i (suc k) u l e = absurd (grind arith)
    sure zero zero u l e = (let same : place 1 ≡ u = grind arith in subst (λ u. IsTrue (flag argument_inits.sure 0 0) ↔ SurelyAt of_argument u 0) same ((λ h c. absurd (let f : false ≡ true = stays c.0 0 false c.1 in grind arith)), (λ h. refl)))
    sure (suc zero) zero u l e = (let same : place 1 ≡ u = grind arith in subst (λ u. IsTrue (flag argument_inits.sure 1 0) ↔ SurelyAt of_argument u 1) same ((λ h. absurd (grind arith)), (λ h. absurd (h (1, dropped)))))
    sure (suc (suc i)) zero u l e = absurd (omega arith)

of_argument_is : IsElab shapes of_argument (elab_by shapes of_argument argument_inits)
of_argument_is = record { inits = argument_inits; are_inits = argument_rows; is = refl }
