-- A crate in which the calls of one body are replaced, one after the other, is valid and refines the crate.
use Rattle.std.proofs.Common.{◌≡◌, ◌⊎◌, inl, inr, refl, sym, ap, ◌∙◌, subst, ℕ, suc, ◌<◌, ◌≤◌, true, length, take, set, Option, Some, None, slice_get, sum_by, nat_le, ◌&&◌, arith}
use Rattle.std.proofs.Common.{leb-true}
use Rattle.std.proofs.lemmas.List.{set-set, take-append-le}
use Rattle.mir_syntax.specs.Crate.{TypedBody, TypedFunction, Crate}
use Rattle.mir_syntax.proofs.Lists.{set_there, set_same}
use Rattle.mir_rules.specs.Drops.{NoDrops}
use Rattle.mir_rules.specs.Limits.{most_in_body}
use Rattle.mir_rules.specs.Valid.{Valid, with_body, at_function, ValidAt}
use Rattle.mir_rules.proofs.Bodies.{Alike, set_cases}
use Rattle.mir_rules.proofs.Lists.{and_true-left, and_true-right}
use Rattle.mir_rules.proofs.ValidCrates.{body_formed_at, args_below}
use Rattle.mir_semantics.specs.Refines.{Refines}
use Rattle.mir_relate.proofs.Refine.{refines_refl, refines_trans}
use Rattle.inline_pass.specs.Spliced.{fits, stmts_in, most_blocks, most_locals, most_stmts, spliced}
use Rattle.inline_pass.specs.Lent.{DropFree, Lent}
use Rattle.inline_pass.proofs.Bodies.{Site, inlined_body, set_other}
use Rattle.inline_pass.proofs.Rounds.{keeps_all}
use Rattle.inline_pass.proofs.Terms.{inlined_no_drops}
use Rattle.inline_pass.proofs.refines.Law.{site_refines}
use Rattle.inline_pass.proofs.valid.SiteValid.{site_valid}

module _ (C : Crate) (valid : Valid C) (f : ℕ) (fn : TypedFunction) (fn_at : slice_get C.functions f ≡ Some fn) (taken : ℕ → Option TypedBody) (lent : Lent C f taken) where
  -- a body that may stand in the place of the one that does
  pub record Stays (b : TypedBody) : Type 0 where
    pub valid_with : Valid (at_function C f fn b)
    pub alike : Alike (with_body fn b) fn

  same_first : C.functions ≡ set C.functions f fn
  same_first = sym (set_same C.functions f fn fn_at)

  stays_first : Stays fn.body
  stays_first = record { valid_with = subst (λ fs. Valid (record C { functions = fs })) same_first valid; alike = record { is_drop = refl; args = refl; start = refl } }

  module _ (b : TypedBody) (stays : Stays b) (s : Site b) (hn : TypedFunction) (hn_at : slice_get C.functions s.called.0 ≡ Some hn) (apart : s.called.0 ≡ f → ⊥) where
    abbrev C' : Crate
    C' = at_function C f fn b

    abbrev b' : TypedBody
    b' = inlined_body b s hn.body

    here : slice_get C'.functions f ≡ Some (with_body fn b)
    here = set_there C.functions f (with_body fn b) fn fn_at

    there : slice_get C'.functions s.called.0 ≡ Some hn
    there = set_other C.functions f s.called.0 (with_body fn b) apart ∙ hn_at

    twice : set C'.functions f (with_body fn b') ≡ set C.functions f (with_body fn b')
    twice = set-set C.functions f (with_body fn b) (with_body fn b')

    valid_next : Valid (at_function C' f (with_body fn b) b')
    valid_next = site_valid C' stays.valid_with f (with_body fn b) here s hn there

    long : b.args < length b.locals
    long = args_below C' b (body_formed_at C' stays.valid_with f (with_body fn b) here)

    stays_next : Stays (inlined_body b s hn.body)
    stays_next = record {
      valid_with = subst (λ fs. Valid (record C { functions = fs })) twice valid_next;
      alike = record { is_drop = refl; args = stays.alike.args; start = ap (λ n. take (suc n) b'.locals) (sym stays.alike.args) ∙ take-append-le (suc b.args) b.locals _ (omega (arith, long)) ∙ ap (λ n. take (suc n) b.locals) stays.alike.args ∙ stays.alike.start };
    }

    refines_next : DropFree C' → Refines (at_function C f fn (inlined_body b s hn.body)) C'
    refines_next free = subst (λ fs. Refines (record C { functions = fs }) C') twice (site_refines C' stays.valid_with free f (with_body fn b) here s hn there apart valid_next)

  not_itself : (g : ℕ) (h : TypedBody) → taken g ≡ Some h → g ≡ f → ⊥
  not_itself g h q z = absurd (let e : None ≡ Some h = sym lent.other ∙ ap taken (sym z) ∙ q in grind arith)

  stays_inlined : (b : TypedBody) → Stays b → (s : Site b) (h : TypedBody) → taken s.called.0 ≡ Some h → fits (inlined_body b s h) ≡ true → Stays (inlined_body b s h)
  stays_inlined b stays s h q fit =
      let (hn, hn_at, same) = lent.stands s.called.0 h q in
      subst (λ h. Stays (inlined_body b s h)) same (stays_next b stays s hn hn_at (not_itself s.called.0 h q))

  pub spliced_valid : Valid (at_function C f fn (spliced taken fn.body))
  spliced_valid = (keeps_all taken Stays stays_inlined fn.body stays_first).valid_with

  -- ---- where nothing drops

  module _ (free : DropFree C) where
    pub record Good (b : TypedBody) : Type 0 where
      pub stays : Stays b
      pub no_drops : NoDrops b
      pub refines : Refines (at_function C f fn b) C

    good_first : Good fn.body
    good_first = record { stays = stays_first; no_drops = free.bodies f fn fn_at; refines = subst (λ fs. Refines (record C { functions = fs }) C) same_first (refines_refl C) }

    drop_free : (b : TypedBody) → NoDrops b → DropFree (at_function C f fn b)
    drop_free b none = record { bodies = λ j n at. go j n (set_cases C.functions f j (with_body fn b) n at) }
      where
        go : (j : ℕ) (n : TypedFunction) → (n ≡ with_body fn b) ⊎ (slice_get C.functions j ≡ Some n) → NoDrops n.body
        go j n (inl q) = subst (λ (n : TypedFunction). NoDrops n.body) (sym q) none
        go j n (inr q) = free.bodies j n q

    good_next : (b : TypedBody) → Good b → (s : Site b) (hn : TypedFunction) → slice_get C.functions s.called.0 ≡ Some hn → (s.called.0 ≡ f → ⊥) → Good (inlined_body b s hn.body)
    good_next b good s hn hn_at apart = record {
      stays = stays_next b good.stays s hn hn_at apart;
      no_drops = inlined_no_drops b s hn.body good.no_drops (free.bodies s.called.0 hn hn_at);
      refines = refines_trans (at_function C f fn (inlined_body b s hn.body)) (at_function C f fn b) C (refines_next b good.stays s hn hn_at apart (drop_free b good.no_drops)) good.refines;
    }

    good_inlined : (b : TypedBody) → Good b → (s : Site b) (h : TypedBody) → taken s.called.0 ≡ Some h → fits (inlined_body b s h) ≡ true → Good (inlined_body b s h)
    good_inlined b good s h q fit =
        let (hn, hn_at, same) = lent.stands s.called.0 h q in
        subst (λ h. Good (inlined_body b s h)) same (good_next b good s hn hn_at (not_itself s.called.0 h q))

    pub spliced_refines : Refines (at_function C f fn (spliced taken fn.body)) C
    spliced_refines = (keeps_all taken Good good_inlined fn.body good_first).refines

-- ---- in place of a body

-- no more blocks and locals than a body may have
abbrev Small : TypedBody → Type 0
Small b = (length b.blocks ≤ most_in_body) × (length b.locals ≤ most_in_body)

fits_small : (b : TypedBody) → fits b ≡ true → Small b
fits_small b e =
    let locals = nat_le (length b.locals) most_locals in
    let stmts = nat_le (sum_by stmts_in b.blocks) most_stmts in
    let k = leb-true (length b.blocks) most_blocks (and_true-left (nat_le (length b.blocks) most_blocks) (locals && stmts) e) in
    let l = leb-true (length b.locals) most_locals (and_true-left locals stmts (and_true-right (nat_le (length b.blocks) most_blocks) (locals && stmts) e)) in
    (omega (arith, k), omega (arith, l))

holds_body : (C : Crate) (f : ℕ) (b : TypedBody) (v : ValidAt C f b) → slice_get (set C.functions f (with_body v.function b)) f ≡ Some (with_body v.function b)
holds_body C f b v = set_there C.functions f (with_body v.function b) v.function v.is

module _ (C : Crate) (f : ℕ) (b : TypedBody) (v : ValidAt C f b) (taken : ℕ → Option TypedBody) (lent : Lent (at_function C f v.function b) f taken) where
  abbrev C2 : Crate
  C2 = at_function C f v.function b

  abbrev b2 : TypedBody
  b2 = spliced taken b

  again : set (set C.functions f (with_body v.function b)) f (with_body v.function b2) ≡ set C.functions f (with_body v.function b2)
  again = set-set C.functions f (with_body v.function b) (with_body v.function b2)

  sizes : Small b2
  sizes = keeps_all taken Small (λ b s site h q fit. fits_small (inlined_body b site h) fit) b (v.blocks, v.locals)

  pub valid_in_place : ValidAt C f b2
  valid_in_place = record {
    function = v.function;
    is = v.is;
    valid = subst (λ fs. Valid (record C { functions = fs })) again (spliced_valid C2 v.valid f (with_body v.function b) (holds_body C f b v) taken lent);
    blocks = sizes.0;
    locals = sizes.1;
  }

  pub refines_in_place : DropFree (at_function C f v.function b) → Refines (at_function C f v.function b2) C2
  refines_in_place free = subst (λ fs. Refines (record C { functions = fs }) C2) again (spliced_refines C2 v.valid f (with_body v.function b) (holds_body C f b v) taken lent free)
