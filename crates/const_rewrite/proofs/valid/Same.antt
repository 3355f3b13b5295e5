-- What folding keeps of a body: the rules, drops and calls.
use Rattle.std.proofs.Common.{◌≡◌, inl, inr, refl, sym, ap, ap₂, ◌∙◌, subst, ℕ, suc, ◌≤◌, Bool, true, false, if◌then◌else◌, List, take, length, Some, slice_get, arith}
use Rattle.mir_syntax.specs.declared.body.Place.{Place}
use Rattle.mir_syntax.specs.declared.body.Operand.{Operand}
use Rattle.mir_syntax.specs.declared.body.Callee.{Callee}
use Rattle.mir_syntax.specs.declared.body.Arm.{Arm}
use Rattle.mir_syntax.specs.declared.body.Term.{Term}
use Rattle.mir_syntax.specs.declared.body.Term.TheVariants.{Goto, Switch, Return, Unreachable, Drop, Call, Assert}
use Rattle.mir_syntax.specs.Tree.{Tree}
use Rattle.mir_syntax.specs.Crate.{TypedBlock, TypedBody, TypedFunction, Crate}
use Rattle.mir_syntax.specs.Shapes.{Shape, shapes_of}
use Rattle.mir_semantics.specs.Step.{Here}
use Rattle.mir_rules.specs.Calls.{AddsNoCall}
use Rattle.mir_rules.specs.Drops.{is_drop, NoDrops}
use Rattle.mir_rules.specs.Limits.{most_in_body}
use Rattle.mir_rules.specs.Valid.{Valid, with_body, at_function, ValidAt}
use Rattle.mir_rules.proofs.Bodies.{Alike}
use Rattle.mir_rules.proofs.ValidCrates.{keeps, body_formed_at, term_at, valid_put, valid_again, holds_body}
use Rattle.const_flow.specs.declared.cell.Cell.{Cell}
use Rattle.const_flow.specs.declared.cell.Cell.TheVariants.{Nothing, Num, Many}
use Rattle.const_flow.specs.Facts.{Facts, known, after_all}
use Rattle.const_flow.specs.ConstAt.{Reached, text, const_at}
use Rattle.const_rewrite.specs.Folded.{folded_operand, folded_operands, switch_or, as_expected, folded_term, folded_by, folded}
use Rattle.const_rewrite.proofs.Blocks.{BlockFrom, same_locals, same_args, as_many, blocks_from}
use Rattle.const_rewrite.proofs.valid.Kept.{keeps_by}
use Rattle.const_rewrite.proofs.valid.Formed.{formed_by}

-- ---- by any facts

pub alike_by : (D : List Shape) (xs : List Reached) (g : TypedFunction) → Alike (with_body g (folded_by D xs g.body)) g
unfolding folded_by
alike_by D xs g = record { is_drop = refl; args = refl; start = refl }

pub valid_by : (C : Crate) → Valid C → (f : ℕ) (g : TypedFunction) → slice_get C.functions f ≡ Some g → (xs : List Reached) → Valid (at_function C f g (folded_by (shapes_of C) xs g.body))
valid_by C valid f g there xs = valid_put C f g (folded_by (shapes_of C) xs g.body) valid there (alike_by (shapes_of C) xs g) (formed_by C (shapes_of C) xs g.body (body_formed_at C valid f g there)) (keeps_by C g.body xs (λ j k e. term_at C valid f j g k there e) ((keeps C valid).bodies f g there))

stays_valid_by : (C : Crate) (f : ℕ) (b : TypedBody) (v : ValidAt C f b) (xs : List Reached) → ValidAt C f (folded_by (shapes_of (at_function C f v.function b)) xs b)
stays_valid_by C f b v xs =
    let C2 = at_function C f v.function b in
    let D = shapes_of C2 in
    let at = holds_body C f b v in
    let few_blocks = v.blocks in
    let few_locals = v.locals in
    valid_again C f b (folded_by D xs b) v (same_args D xs b) (ap (λ ts. take (suc b.args) ts) (same_locals D xs b)) (formed_by C2 D xs b (body_formed_at C2 v.valid f (with_body v.function b) at)) (keeps_by C2 b xs (λ j k e. term_at C2 v.valid f j (with_body v.function b) k at e) ((keeps C2 v.valid).bodies f (with_body v.function b) at)) (subst (λ n. n ≤ most_in_body) (sym (as_many D xs b)) few_blocks) (subst (λ (ts : List Tree). length ts ≤ most_in_body) (sym (same_locals D xs b)) few_locals)

-- ---- drops and calls

-- a folded terminator is no new drop, and a call of it is one of the old one
module _ (h : Here) (fs : Facts) where
  switch_calm : (k : Cell) (o : Operand) (arms : List Arm) (u : ℕ) → is_drop (switch_or k o arms u) ≡ false
  switch_calm (Num n) o arms u = refl
  switch_calm Nothing o arms u = refl
  switch_calm Many o arms u = refl

  assert_calm : (b : Bool) (o : Operand) (c : Bool) (words : List ℕ) (os : List Operand) (u : ℕ) → is_drop (if b then Goto u else Assert o c words os u) ≡ false
  assert_calm true o c words os u = refl
  assert_calm false o c words os u = refl

  drop_back : (t : Term) → is_drop t ≡ false → is_drop (folded_term h fs t) ≡ false
  unfolding folded_term
  drop_back (Goto u) e = refl
  drop_back (Switch o arms u) e = switch_calm (known fs o) o arms u
  drop_back Return e = refl
  drop_back Unreachable e = refl
  drop_back (Drop p u) e = e
  drop_back (Call p g os u) e = refl
  drop_back (Assert o c words os u) e = assert_calm (as_expected c (known fs o)) (folded_operand h fs o) c words (folded_operands h fs os) u

  module _ (p : Place) (g : Callee) (os : List Operand) (next : ℕ) where
    switch_calls : (k : Cell) (o : Operand) (arms : List Arm) (u : ℕ) → switch_or k o arms u ≡ Call p g os next → ⊥
    switch_calls (Num n) o arms u e = grind arith
    switch_calls Nothing o arms u e = grind arith
    switch_calls Many o arms u e = grind arith

    assert_calls : (b : Bool) (o : Operand) (c : Bool) (words : List ℕ) (ps : List Operand) (u : ℕ) → (if b then Goto u else Assert o c words ps u) ≡ Call p g os next → ⊥
    assert_calls true o c words ps u e = grind arith
    assert_calls false o c words ps u e = grind arith

    call_back : (t : Term) → folded_term h fs t ≡ Call p g os next → (q : Place) × (ps : List Operand) × (t ≡ Call q g ps next)
    unfolding folded_term
    call_back (Goto u) e = absurd (grind arith)
    call_back (Switch o arms u) e = absurd (switch_calls (known fs o) o arms u e)
    call_back Return e = absurd (grind arith)
    call_back Unreachable e = absurd (grind arith)
    call_back (Drop q u) e = absurd (grind arith)
    call_back (Call q g2 ps u) e = (q, ps, ap₂ (λ g u. Call q g ps u) (let z : g2 ≡ g = grind arith in z) (let z : u ≡ next = grind arith in z))
    call_back (Assert o c words ps u) e = absurd (assert_calls (as_expected c (known fs o)) (folded_operand h fs o) c words (folded_operands h fs ps) u e)

module _ (D : List Shape) (xs : List Reached) (b : TypedBody) where
  no_drops_by : NoDrops b → NoDrops (folded_by D xs b)
  unfolding folded_by
  no_drops_by none = record { none = λ i k2 e. (let (k, at, from) = blocks_from (text D b) b.blocks xs i k2 e in go k k2 (none.none i k at) from) }
    where
      go : (k k2 : TypedBlock) → is_drop k.term ≡ false → BlockFrom (text D b) k k2 → is_drop k2.term ≡ false
      go k k2 calm (inl same) = ap (λ (k : TypedBlock). is_drop k.term) same ∙ calm
      go k k2 calm (inr (fs, same)) = ap (λ (k : TypedBlock). is_drop k.term) same ∙ drop_back (text D b) (after_all (text D b) k.stmts fs) k.term calm

  no_calls_by : AddsNoCall (folded_by D xs b) b
  unfolding folded_by
  no_calls_by g (i, k2, p, os, next, e, is) =
      let (k, at, from) = blocks_from (text D b) b.blocks xs i k2 e in
      let (q, ps, same) = go k k2 p os next is from in
      (i, k, q, ps, next, at, same)
    where
      go : (k k2 : TypedBlock) (p : Place) (os : List Operand) (next : ℕ) → k2.term ≡ Call p g os next → BlockFrom (text D b) k k2 → (q : Place) × (ps : List Operand) × (k.term ≡ Call q g ps next)
      go k k2 p os next is (inl same) = (p, os, ap (λ (k : TypedBlock). k.term) (sym same) ∙ is)
      go k k2 p os next is (inr (fs, same)) = call_back (text D b) (after_all (text D b) k.stmts fs) p g os next k.term (ap (λ (k : TypedBlock). k.term) (sym same) ∙ is)

-- ---- by what is known in the body

pub folded_is : (D : List Shape) (b : TypedBody) → folded_by D (const_at D b) b ≡ folded D b
unfolding folded
folded_is D b = refl

pub folded_stays_valid : (C : Crate) (f : ℕ) (b : TypedBody) (v : ValidAt C f b) → ValidAt C f (folded (shapes_of (at_function C f v.function b)) b)
folded_stays_valid C f b v = (let D = shapes_of (at_function C f v.function b) in subst (ValidAt C f) (folded_is D b) (stays_valid_by C f b v (const_at D b)))

pub folded_no_drops : (D : List Shape) (b : TypedBody) → NoDrops b → NoDrops (folded D b)
folded_no_drops D b none = subst NoDrops (folded_is D b) (no_drops_by D (const_at D b) b none)

pub folded_adds_no_call : (D : List Shape) (b : TypedBody) → AddsNoCall (folded D b) b
folded_adds_no_call D b = subst (λ b2. AddsNoCall b2 b) (folded_is D b) (no_calls_by D (const_at D b) b)
