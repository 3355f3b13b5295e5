-- What pruning keeps of a body.
use Rattle.std.proofs.Common.{◌≡◌, refl, sym, ap, ◌∙◌, subst, ℕ, suc, ◌≤◌, true, List, take, length}
use Rattle.mir_syntax.specs.Tree.{Tree}
use Rattle.mir_syntax.specs.Crate.{TypedBody, Crate}
use Rattle.mir_syntax.specs.Shapes.{Shape, shapes_of}
use Rattle.mir_rules.specs.Formed.{body_formed}
use Rattle.mir_rules.specs.Limits.{most_in_body}
use Rattle.mir_rules.specs.Valid.{with_body, at_function, ValidAt}
use Rattle.mir_rules.specs.Drops.{NoDrops}
use Rattle.mir_rules.specs.Calls.{AddsNoCall}
use Rattle.mir_rules.proofs.Keeps.{BodyKeeps}
use Rattle.mir_rules.proofs.ValidCrates.{body_formed_at, keeps, valid_again, holds_body}
use Rattle.dead_store.specs.Pruned.{is_useless, pruned_once, pruned}
use Rattle.dead_store.proofs.Without.{blocks_long}
use Rattle.dead_store.proofs.valid.Rules.{formed_left, keeps_left, drops_left, calls_left}

pub record Same (C : Crate) (b2 b : TypedBody) : Type 0 where
  pub args : b2.args ≡ b.args
  pub locals : b2.locals ≡ b.locals
  pub blocks : length b2.blocks ≡ length b.blocks
  pub formed : body_formed C b ≡ true → body_formed C b2 ≡ true
  pub kept : BodyKeeps C b → BodyKeeps C b2

pub once_same : (C : Crate) (D : List Shape) (b : TypedBody) → Same C (pruned_once D b) b
once_same C D b = record { args = refl; locals = refl; blocks = blocks_long (is_useless D b) 0 b.blocks; formed = formed_left C D b; kept = keeps_left C D b }

same_trans : (C : Crate) (c b a : TypedBody) → Same C c b → Same C b a → Same C c a
same_trans C c b a p q = record { args = p.args ∙ q.args; locals = p.locals ∙ q.locals; blocks = p.blocks ∙ q.blocks; formed = λ h. p.formed (q.formed h); kept = λ h. p.kept (q.kept h) }

pub twice_same : (C : Crate) (D : List Shape) (b : TypedBody) → Same C (pruned_once D (pruned_once D b)) b
twice_same C D b = same_trans C (pruned_once D (pruned_once D b)) (pruned_once D b) b (once_same C D (pruned_once D b)) (once_same C D b)

pub pruned_same : (C : Crate) (D : List Shape) (b : TypedBody) → Same C (pruned D b) b
unfolding pruned
pruned_same C D b = same_trans C (pruned_once D (pruned_once D (pruned_once D b))) (pruned_once D (pruned_once D b)) b (once_same C D (pruned_once D (pruned_once D b))) (twice_same C D b)

pub drops_same : (D : List Shape) (b : TypedBody) → NoDrops b → NoDrops (pruned D b)
unfolding pruned
drops_same D b h = drops_left D (pruned_once D (pruned_once D b)) (drops_left D (pruned_once D b) (drops_left D b h))

pub calls_same : (D : List Shape) (b : TypedBody) → AddsNoCall (pruned D b) b
unfolding pruned
calls_same D b g h = calls_left D b g (calls_left D (pruned_once D b) g (calls_left D (pruned_once D (pruned_once D b)) g h))

pub pruned_stays_valid : (C : Crate) (f : ℕ) (b : TypedBody) (v : ValidAt C f b) → ValidAt C f (pruned (shapes_of (at_function C f v.function b)) b)
pruned_stays_valid C f b v =
    let C2 = at_function C f v.function b in
    let at = holds_body C f b v in
    let s = pruned_same C2 (shapes_of C2) b in
    let few_blocks = v.blocks in
    let few_locals = v.locals in
    valid_again C f b (pruned (shapes_of C2) b) v s.args (ap (λ ts. take (suc b.args) ts) s.locals) (s.formed (body_formed_at C2 v.valid f (with_body v.function b) at)) (s.kept ((keeps C2 v.valid).bodies f (with_body v.function b) at)) (subst (λ n. n ≤ most_in_body) (sym s.blocks) few_blocks) (subst (λ (ts : List Tree). length ts ≤ most_in_body) (sym s.locals) few_locals)
