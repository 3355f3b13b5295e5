-- The bodies that are inlined are those that the definition of inlining takes of what is lent.
use Rattle.std.proofs.Common.{◌≡◌, refl, ap, ◌∙◌, ℕ, ◌≤◌, Bool, true, false, length, Option, Some, None, slice_get, arith}
use Rattle.std.specs.Prelude.{if◌then◌else◌}
use Rattle.mir_syntax.proofs.Lists.{slice_get-none}
use Rattle.mir_syntax.specs.Crate.{TypedBody, TypedFunction, Crate}
use Rattle.mir_syntax.specs.Shapes.{◌>>=◌}
use Rattle.mir_rules.specs.Valid.{Valid, Within}
use Rattle.call_graph.proofs.Falls.{asked_below}
use Rattle.inline_pass.specs.Takes.{takes, if_taken, taken_of}
use Rattle.query_plan.specs.Queries.{Pipeline, graph, is_large, qualifies, lent, taken, opt}
use Rattle.query_plan.specs.Queries as queries
use Rattle.pass_order.specs.Bodies.{inlining_or_plain}
use Rattle.pass_order.specs.OptCrate.{pipeline}
use Rattle.query_plan.proofs.Calls.{lent_is}
use Rattle.pass_order.proofs.compose.Inlined.{graph_is}

module _ (C : Crate) (rules : Valid C) (within : Within C) (f g : ℕ) where
  abbrev S : Pipeline TypedBody
  S = pipeline C

  -- whether it is taken, of a function with this attribute
  abbrev own : Option TypedFunction → Option TypedBody → Option TypedBody
  own o None = None
  own o (Some b) = if takes (is_large S f) (inlining_or_plain o) (qualifies S g) b then Some b else None

  chosen : (t : Bool) (b : TypedBody) → ◌≡◌ {A = Option TypedBody} (if t then Some b else None) (if_taken t b)
  chosen true b = refl
  chosen false b = refl

  by_function : (n : TypedFunction) (l : Option TypedBody) → own (Some n) l ≡ (l >>= λ h. if_taken (takes (is_large S f) n.inlining (qualifies S g) h) h)
  unfolding ◌>>=◌
  by_function n None = refl
  by_function n (Some b) = chosen (takes (is_large S f) n.inlining (qualifies S g) b) b

  none_lent : length C.functions ≤ g → lent S (opt S) f g ≡ None
  none_lent past = go (lent S (opt S) f g) refl
    where
      go : (l : Option TypedBody) → lent S (opt S) f g ≡ l → l ≡ None
      go None e = refl
      go (Some b) e = absurd (let low = asked_below (graph S) (graph_is C rules within) f g (lent_is S (opt S) f g b e).0 in omega (arith, low, past))

  same : (o : Option TypedFunction) → slice_get C.functions g ≡ o → own o (lent S (opt S) f g) ≡ (o >>= λ n. lent S (opt S) f g >>= λ h. if_taken (takes (is_large S f) n.inlining (qualifies S g) h) h)
  unfolding ◌>>=◌
  same None e = ap (own None) (none_lent (slice_get-none C.functions g e))
  same (Some n) e = by_function n (lent S (opt S) f g)

  own_is : (l : Option TypedBody) → queries.if_taken S f g l ≡ own (slice_get C.functions g) l
  own_is None = refl
  own_is (Some b) = refl

  pub taken_is_of : taken S (opt S) f g ≡ taken_of C (is_large S f) (lent S (opt S) f) (qualifies S) g
  taken_is_of = own_is (lent S (opt S) f g) ∙ same (slice_get C.functions g) refl
