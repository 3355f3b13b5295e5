-- Bodies that a function asks for are lent to it as the laws want it.
use Rattle.std.proofs.Common.{◌≡◌, refl, ◌∙◌, ℕ, ◌<◌, Bool, true, false, Option, Some, None, slice_get}
use Rattle.mir_syntax.specs.Crate.{TypedBody, TypedFunction, Crate}
use Rattle.mir_syntax.proofs.Binds.{bind_some}
use Rattle.call_graph.specs.Graph.{Graph, IsGraph, asks}
use Rattle.call_graph.proofs.Falls.{asks_another}
use Rattle.inline_pass.specs.Takes.{takes, if_taken, taken_of}
use Rattle.inline_pass.specs.Lent.{Lent}

-- what is taken is lent
taken_lent : (C : Crate) (large : Bool) (lent : ℕ → Option TypedBody) (qualifies : ℕ → Bool) (g : ℕ) (h : TypedBody) → taken_of C large lent qualifies g ≡ Some h → lent g ≡ Some h
taken_lent C large lent qualifies g h e =
    let (n, _, by_function) = bind_some {o = slice_get C.functions g} e in
    let (k, is_lent, taken) = bind_some {o = lent g} by_function in
    is_lent ∙ if_so (takes large n.inlining (qualifies g) k) k taken
  where
    if_so : (b : Bool) (k : TypedBody) → if_taken b k ≡ Some h → Some k ≡ Some h
    if_so true k t = t
    if_so false k t = absurd (cc)

pub asked_lent : (C : Crate) (G : Graph) (f : ℕ) → IsGraph G → f < G.functions → (large : Bool) (lent : ℕ → Option TypedBody) (qualifies : ℕ → Bool)
    → ((g : ℕ) (h : TypedBody) → lent g ≡ Some h → asks G f g ≡ true)
    → ((g : ℕ) (h : TypedBody) → lent g ≡ Some h → (n : TypedFunction) × (slice_get C.functions g ≡ Some n) × (n.body ≡ h))
    → Lent C f (taken_of C large lent qualifies)
asked_lent C G f l within large lent qualifies asked stands = record {
  other = none (taken_of C large lent qualifies f) refl;
  stands = λ g h e. stands g h (taken_lent C large lent qualifies g h e);
}
  where
    none : (o : Option TypedBody) → taken_of C large lent qualifies f ≡ o → o ≡ None
    none None e = refl
    none (Some h) e = absurd (asks_another G l f within (asked f h (taken_lent C large lent qualifies f h e)))
