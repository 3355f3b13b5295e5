-- Passes that keep the meaning, the rules and the header of a body: none, one after another, and a list of them.
use Rattle.std.proofs.Common.{◌≡◌, refl, sym, ap, ◌∙◌, subst, ℕ, suc, List, [], ◌∷◌, take, set, Some, arith}
use Rattle.std.proofs.lemmas.List.{set-set}
use Rattle.mir_syntax.specs.Crate.{TypedBody, Crate}
use Rattle.mir_syntax.specs.Shapes.{Shape, shapes_of}
use Rattle.mir_semantics.specs.Refines.{Refines}
use Rattle.mir_rules.specs.Calls.{Calls}
use Rattle.mir_rules.specs.Drops.{NoDrops}
use Rattle.mir_rules.specs.Valid.{with_body, at_function, ValidAt}
use Rattle.mir_rules.proofs.Bodies.{set_alike, shapes_alike}
use Rattle.mir_rules.proofs.ValidCrates.{holds_body}
use Rattle.mir_relate.specs.Passes.{passed_at, PassLaws}
use Rattle.mir_relate.proofs.Refine.{refines_refl, refines_trans}
use Rattle.pass_order.specs.Passes.{BodyPass, after}

-- the laws of a pass, and that the number of arguments stays, and the types of `_0` and of these
pub record PassKeeps (pass : BodyPass) : Type 0 where
  pub laws : PassLaws pass
  pub args : (C : Crate) (f : ℕ) (b : TypedBody) (v : ValidAt C f b) → (passed_at pass C f b v).args ≡ b.args
  pub start : (C : Crate) (f : ℕ) (b : TypedBody) (v : ValidAt C f b) → take (suc b.args) (passed_at pass C f b v).locals ≡ take (suc b.args) b.locals

-- ---- no pass

nothing_keeps : PassKeeps (λ (D : List Shape) (b : TypedBody). b)
nothing_keeps = record {
  laws = record {
    refines = λ C f b v none. refines_refl (at_function C f v.function b);
    stays_valid = λ C f b v. v;
    no_drops = λ C f b v none. none;
    no_calls = λ C f b v g c. c;
  };
  args = λ C f b v. refl;
  start = λ C f b v. refl;
}

-- ---- two passes

-- the definitions are seen as before with another body of the same header
shapes_kept : (C : Crate) (f : ℕ) (b : TypedBody) (v : ValidAt C f b) (c : TypedBody) → c.args ≡ b.args → take (suc b.args) c.locals ≡ take (suc b.args) b.locals → shapes_of (at_function C f v.function c) ≡ shapes_of (at_function C f v.function b)
shapes_kept C f b v c args start =
    let g = with_body v.function b in
    let C2 = at_function C f v.function b in
    subst (λ fs. shapes_of (record C { functions = fs }) ≡ shapes_of C2) (set-set C.functions f g (with_body v.function c))
    (shapes_alike C2 (set C2.functions f (with_body g c)) (set_alike C2.functions f g (with_body g c) (holds_body C f b v) (record { is_drop = refl; args = args; start = start })))

module _ (p q : BodyPass) (kp : PassKeeps p) (kq : PassKeeps q) where
  module _ (C : Crate) (f : ℕ) (b : TypedBody) (v : ValidAt C f b) where
    abbrev half : TypedBody
    half = passed_at p C f b v

    between : ValidAt C f half
    between = kp.laws.stays_valid C f b v

    same_function : between.function ≡ v.function
    same_function = let z : Some between.function ≡ Some v.function = sym between.is ∙ v.is in grind arith

    abbrev whole : TypedBody
    whole = q (shapes_of (at_function C f v.function b)) half

    whole_is : passed_at q C f half between ≡ whole
    whole_is = ap (λ (D : List Shape). q D half) (subst (λ g. shapes_of (at_function C f g half) ≡ shapes_of (at_function C f v.function b)) (sym same_function) (shapes_kept C f b v half (kp.args C f b v) (kp.start C f b v)))

    valid_whole : ValidAt C f whole
    valid_whole = subst (ValidAt C f) whole_is (kq.laws.stays_valid C f half between)

    refines_whole : NoDrops b → Refines (at_function C f v.function whole) (at_function C f v.function b)
    refines_whole none =
        let second = kq.laws.refines C f half between (kp.laws.no_drops C f b v none) in
        let second2 = subst (λ c. Refines (at_function C f between.function c) (at_function C f between.function half)) whole_is second in
        refines_trans (at_function C f v.function whole) (at_function C f v.function half) (at_function C f v.function b)
        (subst (λ g. Refines (at_function C f g whole) (at_function C f g half)) same_function second2) (kp.laws.refines C f b v none)

    drops_whole : NoDrops b → NoDrops whole
    drops_whole none = subst NoDrops whole_is (kq.laws.no_drops C f half between (kp.laws.no_drops C f b v none))

    args_whole : whole.args ≡ b.args
    args_whole = ap (λ (c : TypedBody). c.args) (sym whole_is) ∙ kq.args C f half between ∙ kp.args C f b v

    start_whole : take (suc b.args) whole.locals ≡ take (suc b.args) b.locals
    start_whole =
        ap (λ (c : TypedBody). take (suc b.args) c.locals) (sym whole_is)
        ∙ subst (λ n. take (suc n) (passed_at q C f half between).locals ≡ take (suc n) half.locals) (kp.args C f b v) (kq.start C f half between)
        ∙ kp.start C f b v

  both_keep : PassKeeps (λ D b. q D (p D b))
  both_keep = record {
    laws = record {
      refines = refines_whole;
      stays_valid = valid_whole;
      no_drops = drops_whole;
      no_calls = λ C f b v g c. kp.laws.no_calls C f b v g (kq.laws.no_calls C f (half C f b v) (between C f b v) g (subst (λ b. Calls b g) (sym (whole_is C f b v)) c));
    };
    args = args_whole;
    start = start_whole;
  }

-- ---- a list of passes

abbrev pub AllKeep : List BodyPass → Type 0
AllKeep [] = Unit {0}
AllKeep (pass ∷ rest) = PassKeeps pass × AllKeep rest

pub after_keeps : (passes : List BodyPass) → AllKeep passes → PassKeeps (after passes)
after_keeps [] h = nothing_keeps
after_keeps (pass ∷ rest) h = both_keep pass (after rest) h.0 (after_keeps rest h.1)
