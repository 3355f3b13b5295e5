-- What threading keeps of a body: the rules, its form, drops and calls.
use Rattle.std.proofs.Common.{◌≡◌, inl, inr, refl, sym, ap, ap₂, ◌∙◌, subst, ℕ, suc, ◌<◌, ◌≤◌, ◌≢◌, true, false, ◌&&◌, nat_lt, ◌||◌, List, [], length, take, Some, slice_get, arith}
use Rattle.std.specs.List.{list_all}
use Rattle.std.proofs.lemmas.Bool.{and_from}
use Rattle.std.proofs.lemmas.Option.{slice_get_within}
use Rattle.mir_syntax.specs.declared.body.Term.{Term}
use Rattle.mir_syntax.specs.declared.body.Term.TheVariants.{Goto, Call}
use Rattle.mir_syntax.specs.Tree.{Tree}
use Rattle.mir_syntax.specs.Crate.{TypedBlock, TypedBody, TypedFunction, Crate}
use Rattle.mir_syntax.specs.Shapes.{Shape, shapes_of}
use Rattle.mir_syntax.specs.Parts.{term_operands, term_places, targets}
use Rattle.mir_rules.specs.BodyRules.{breaks_v05}
use Rattle.mir_rules.specs.Broken.{statement_broken, terminator_broken}
use Rattle.mir_rules.specs.Calls.{AddsNoCall}
use Rattle.mir_rules.specs.Drops.{is_drop, NoDrops}
use Rattle.mir_rules.specs.Formed.{operand_formed, place_formed, stmt_formed, call_formed, block_there, term_formed, block_formed, has_start, body_formed, type_formed}
use Rattle.mir_rules.specs.Limits.{most_in_body}
use Rattle.mir_rules.specs.Valid.{Valid, with_body, at_function, ValidAt}
use Rattle.mir_rules.proofs.Bodies.{Alike}
use Rattle.mir_rules.proofs.Keeps.{BodyKeeps}
use Rattle.mir_rules.proofs.Lists.{and_true-left, and_true-right, list_all_true, list_all_true-at}
use Rattle.mir_rules.proofs.Terminators.{TermTyped, typed_term, not_to_start}
use Rattle.mir_rules.proofs.ValidCrates.{keeps, body_formed_at, stmt_formed_at, term_formed_at, target_there, first_block, term_at, valid_put, valid_again, holds_body}
use Rattle.const_flow.specs.ConstAt.{Reached, const_at}
use Rattle.const_flow.proofs.Same.{same_or_not}
use Rattle.jump_threading.specs.Threaded.{threaded_by, threaded}
use Rattle.jump_threading.proofs.Blocks.{TermFrom, same_locals, same_args, as_long, within, block_from}
use Rattle.mir_relate.proofs.Formed.{same_locals_stmt, BlocksFormed}

-- ---- a goto to another block than the first

not_first : (n : ℕ) → n ≢ 0 → breaks_v05 (Goto n) ≡ false
not_first n h = elim (same_or_not n 0) [ inl z ↦ absurd (h z.1) | inr z ↦ ap (λ b. b || false) z.0 ]

goto_typed : (C : Crate) (D : List Shape) (locals : List Tree) (n : ℕ) → n ≢ 0 → TermTyped C D locals (Goto n)
goto_typed C D locals n h = record { targets = not_first n h; own = tt; moves = record { through = refl; indirect = refl } }

module _ (C : Crate) (D : List Shape) (xs : List Reached) (b : TypedBody) where
  abbrev b2 : TypedBody
  b2 = threaded_by D xs b

  -- ---- its form

  same_places : (t : Term) → list_all (place_formed b2) (term_places t) ≡ list_all (place_formed b) (term_places t)
  unfolding threaded_by
  same_places t = refl

  more_there : (n : ℕ) → block_there b n ≡ true → block_there b2 n ≡ true
  more_there n h = (let long = as_long D xs b in let lt : n < length b.blocks = grind arith in let lt2 : n < length b2.blocks = omega (arith, long, lt) in grind arith)

  goto_formed : (n : ℕ) → n < length b2.blocks → term_formed C b2 (Goto n) ≡ true
  unfolding term_formed
  goto_formed n h = and_from _ _ refl (and_from _ _ refl (and_from _ _ refl (and_from _ _ (let z : nat_lt n (length b2.blocks) ≡ true = grind arith in z) refl)))

  term_stays : (t : Term) → term_formed C b t ≡ true → term_formed C b2 t ≡ true
  unfolding term_formed
  term_stays t e =
      let ops = list_all operand_formed (term_operands t) in
      let places = list_all (place_formed b) (term_places t) in
      let there = list_all (block_there b) (targets t) in
      let e1 = and_true-right (call_formed C t) (ops && (places && there)) e in
      let e2 = and_true-right ops (places && there) e1 in
      and_from _ _ (and_true-left (call_formed C t) (ops && (places && there)) e) (and_from _ _ (and_true-left ops (places && there) e1) (and_from _ _ (same_places t ∙ and_true-left places there e2) (list_all_true (block_there b2) (targets t) (λ i n q. more_there n (list_all_true-at (block_there b) (targets t) i n (and_true-right places there e2) q)))))

  module _ (formed : body_formed C b ≡ true) where
    term_fine : (i : ℕ) (k k2 : TypedBlock) → slice_get b.blocks i ≡ Some k → TermFrom D xs b k k2 → term_formed C b2 k2.term ≡ true
    term_fine i k k2 at (inl same) = ap (term_formed C b2) same ∙ term_stays k.term (term_formed_at C b formed i k at)
    term_fine i k k2 at (inr (inl (c, same, from, lt))) = ap (term_formed C b2) same ∙ goto_formed c lt
    term_fine i k k2 at (inr (inr (u, m, same, q))) =
        let lt = target_there C b formed i m u k at q in
        let long = as_long D xs b in
        ap (term_formed C b2) same ∙ goto_formed u (omega (arith, lt, long))

    each : BlocksFormed C b2
    each i k2 e =
        let from = block_from D xs b i k2 e in
        and_from _ _ (list_all_true (stmt_formed C b2) k2.stmts (λ n s f. same_locals_stmt C b b2 (same_locals D xs b) s ∙ stmt_formed_at C b formed from.at n from.block s from.is_block (ap (λ ss. slice_get ss n) (sym from.stmts) ∙ f))) (term_fine from.at from.block k2 from.is_block from.term)

    formed_start : has_start b ≡ true
    unfolding body_formed
    formed_start = and_true-left (has_start b) (list_all (type_formed C) b.locals && list_all (block_formed C b) b.blocks) formed

    starts : has_start b2 ≡ true
    unfolding threaded_by
    starts =
        let old = formed_start in
        let lt : 0 < length b.blocks = (let z = and_true-left (nat_lt 0 (length b.blocks)) (nat_lt b.args (length b.locals)) old in grind arith) in
        let long = as_long D xs b in
        let lt2 : 0 < length b2.blocks = omega (arith, lt, long) in
        and_from _ _ (let z : nat_lt 0 (length b2.blocks) ≡ true = grind arith in z) (and_true-right (nat_lt 0 (length b.blocks)) (nat_lt b.args (length b.locals)) old)

    types : list_all (type_formed C) b2.locals ≡ true
    unfolding body_formed threaded_by
    types = and_true-left (list_all (type_formed C) b.locals) (list_all (block_formed C b) b.blocks) (and_true-right (has_start b) (list_all (type_formed C) b.locals && list_all (block_formed C b) b.blocks) formed)

    pub formed_by : body_formed C (threaded_by D xs b) ≡ true
    unfolding body_formed
    formed_by = and_from _ _ starts (and_from _ _ types (list_all_true (block_formed C b2) b2.blocks each))

  -- ---- the rules

  module _ (formed : body_formed C b ≡ true) (typed : (i : ℕ) (k : TypedBlock) → slice_get b.blocks i ≡ Some k → TermTyped C (shapes_of C) b.locals k.term) (kept : BodyKeeps C b) where
    term_keeps : (i : ℕ) (k k2 : TypedBlock) → slice_get b.blocks i ≡ Some k → TermFrom D xs b k k2 → terminator_broken C (shapes_of C) b.locals k2.term ≡ []
    term_keeps i k k2 at (inl same) = ap (terminator_broken C (shapes_of C) b.locals) same ∙ kept.terms i k at
    term_keeps i k k2 at (inr (inl (c, same, from, lt))) =
        let (k0, first) = first_block C b formed in
        let some = slice_get_within b.blocks 0 k0 first in
        ap (terminator_broken C (shapes_of C) b.locals) same ∙ typed_term C (shapes_of C) b.locals (Goto c) (goto_typed C (shapes_of C) b.locals c (λ z. absurd (omega (arith, from, some, z))))
    term_keeps i k k2 at (inr (inr (u, m, same, q))) = ap (terminator_broken C (shapes_of C) b.locals) same ∙ typed_term C (shapes_of C) b.locals (Goto u) (goto_typed C (shapes_of C) b.locals u (not_to_start k.term m u (typed i k at).targets q))

    pub keeps_by : BodyKeeps C (threaded_by D xs b)
    keeps_by = record {
      stmts = λ j i k2 s e f. (let from = block_from D xs b j k2 e in ap₂ (λ n ts. statement_broken (shapes_of C) n ts s) (same_args D xs b) (same_locals D xs b) ∙ (kept.stmts from.at i from.block s from.is_block (ap (λ ss. slice_get ss i) (sym from.stmts) ∙ f)));
      terms = λ j k2 e. (let from = block_from D xs b j k2 e in ap (λ ts. terminator_broken C (shapes_of C) ts k2.term) (same_locals D xs b) ∙ term_keeps from.at from.block k2 from.is_block from.term);
    }

-- ---- drops and calls

module _ (D : List Shape) (xs : List Reached) (b : TypedBody) where
  pub no_drops_by : NoDrops b → NoDrops (threaded_by D xs b)
  no_drops_by none = record { none = λ i k2 e. (let from = block_from D xs b i k2 e in go from.block k2 (none.none from.at from.block from.is_block) from.term) }
    where
      go : (k k2 : TypedBlock) → is_drop k.term ≡ false → TermFrom D xs b k k2 → is_drop k2.term ≡ false
      go k k2 calm (inl same) = ap is_drop same ∙ calm
      go k k2 calm (inr (inl (c, same, from, lt))) = ap is_drop same
      go k k2 calm (inr (inr (u, m, same, q))) = ap is_drop same

  pub no_calls_by : AddsNoCall (threaded_by D xs b) b
  no_calls_by g (i, k2, p, os, next, e, is) = (let from = block_from D xs b i k2 e in (from.at, from.block, p, os, next, from.is_block, go from.block k2 is from.term))
    where
      go : (k k2 : TypedBlock) → k2.term ≡ Call p g os next → TermFrom D xs b k k2 → k.term ≡ Call p g os next
      go k k2 is (inl same) = sym same ∙ is
      go k k2 is (inr (inl (c, same, from, lt))) = absurd (let z : Goto c ≡ Call p g os next = sym same ∙ is in grind arith)
      go k k2 is (inr (inr (u, m, same, q))) = absurd (let z : Goto u ≡ Call p g os next = sym same ∙ is in grind arith)

-- ---- in a crate

pub alike_by : (D : List Shape) (xs : List Reached) (g : TypedFunction) → Alike (with_body g (threaded_by D xs g.body)) g
unfolding threaded_by
alike_by D xs g = record { is_drop = refl; args = refl; start = refl }

pub valid_by : (C : Crate) → Valid C → (f : ℕ) (g : TypedFunction) → slice_get C.functions f ≡ Some g → (xs : List Reached) → Valid (at_function C f g (threaded_by (shapes_of C) xs g.body))
valid_by C valid f g there xs =
    let formed = body_formed_at C valid f g there in
    valid_put C f g (threaded_by (shapes_of C) xs g.body) valid there (alike_by (shapes_of C) xs g) (formed_by C (shapes_of C) xs g.body formed) (keeps_by C (shapes_of C) xs g.body formed (λ j k e. term_at C valid f j g k there e) ((keeps C valid).bodies f g there))

stays_valid_by : (C : Crate) (f : ℕ) (b : TypedBody) (v : ValidAt C f b) (xs : List Reached) → ValidAt C f (threaded_by (shapes_of (at_function C f v.function b)) xs b)
stays_valid_by C f b v xs =
    let C2 = at_function C f v.function b in
    let D = shapes_of C2 in
    let at = holds_body C f b v in
    let formed = body_formed_at C2 v.valid f (with_body v.function b) at in
    let few_locals = v.locals in
    valid_again C f b (threaded_by D xs b) v (same_args D xs b) (ap (λ ts. take (suc b.args) ts) (same_locals D xs b)) (formed_by C2 D xs b formed) (keeps_by C2 D xs b formed (λ j k e. term_at C2 v.valid f j (with_body v.function b) k at e) ((keeps C2 v.valid).bodies f (with_body v.function b) at)) (within D xs b v.blocks) (subst (λ (ts : List Tree). length ts ≤ most_in_body) (sym (same_locals D xs b)) few_locals)

-- ---- by what is known in the body

pub threaded_is : (D : List Shape) (b : TypedBody) → threaded_by D (const_at D b) b ≡ threaded D b
unfolding threaded
threaded_is D b = refl

pub threaded_stays_valid : (C : Crate) (f : ℕ) (b : TypedBody) (v : ValidAt C f b) → ValidAt C f (threaded (shapes_of (at_function C f v.function b)) b)
threaded_stays_valid C f b v = (let D = shapes_of (at_function C f v.function b) in subst (ValidAt C f) (threaded_is D b) (stays_valid_by C f b v (const_at D b)))

pub threaded_no_drops : (D : List Shape) (b : TypedBody) → NoDrops b → NoDrops (threaded D b)
threaded_no_drops D b none = subst NoDrops (threaded_is D b) (no_drops_by D (const_at D b) b none)

pub threaded_adds_no_call : (D : List Shape) (b : TypedBody) → AddsNoCall (threaded D b) b
threaded_adds_no_call D b = subst (λ b2. AddsNoCall b2 b) (threaded_is D b) (no_calls_by D (const_at D b) b)
