-- The steps of a valid crate keep calls, so its queries have a plan that a schedule can answer.
use Rattle.std.proofs.Common.{◌≡◌, ◌⊎◌, inl, inr, subst, ℕ, ◌<◌, true, [], length, Some}
use Rattle.bit_rows.specs.Rows.{stands}
use Rattle.mir_syntax.specs.declared.body.Callee.TheVariants.{Local}
use Rattle.mir_syntax.specs.Crate.{TypedBody, Crate}
use Rattle.mir_syntax.specs.Shapes.{shapes_of}
use Rattle.mir_rules.specs.Drops.{NoDrops}
use Rattle.mir_rules.specs.Valid.{Valid, Within}
use Rattle.call_graph.specs.Callees.{all_called, callees}
use Rattle.sched_core.specs.Good.{IsOnce}
use Rattle.drop_elab.proofs.NoDrop.{no_drop}
use Rattle.drop_elab.proofs.Elaborated.{is_elab}
use Rattle.inline_pass.proofs.Terms.{spliced_calls}
use Rattle.query_plan.specs.Queries.{Pipeline, prom, elab, callees_of, taken, inlined, optimised, opt}
use Rattle.pass_order.specs.OptCrate.{pipeline}
use Rattle.pass_order.specs.Tupled.{BodiesTupled}
use Rattle.query_plan.proofs.Outs.{opt_is}
use Rattle.query_plan.specs.Source.{IsSource}
use Rattle.query_plan.proofs.Members.{once_is}
use Rattle.query_plan.proofs.Once.{after_once}
use Rattle.pass_order.proofs.compose.Calls.{calls_listed, listed_calls}
use Rattle.pass_order.proofs.elab.Laid.{elab_calls}
use Rattle.pass_order.proofs.compose.Inlined.{graph_is}
use Rattle.pass_order.proofs.compose.Rounds.{optimises}

module _ (C : Crate) (rules : Valid C) (within : Within C) (tupled : BodiesTupled C) where
  abbrev S : Pipeline TypedBody
  S = pipeline C

  once : (b : TypedBody) → IsOnce (callees (shapes_of C) b)
  unfolding callees
  once b = once_is (callees (shapes_of C) b) (after_once [] (all_called (shapes_of C) b))

  elaborated_calls : (f g : ℕ) → f < length C.functions → stands g (callees (shapes_of C) (elab S f)) ≡ true → stands g (callees_of S f) ≡ true
  elaborated_calls f g lt h =
      let is = is_elab (shapes_of C) (prom S f) in
      elab_calls (shapes_of C) (prom S f) (elab S f) is g (listed_calls (shapes_of C) (elab S f) g (no_drop (shapes_of C) (prom S f) (elab S f) is) h)

  inlined_calls : (f g : ℕ) → f < length C.functions → stands g (callees (shapes_of C) (inlined S (opt S) f)) ≡ true
      → (stands g (callees (shapes_of C) (elab S f)) ≡ true) ⊎ ((h : ℕ) × (c : TypedBody) × (taken S (opt S) f h ≡ Some c) × (stands g (callees (shapes_of C) c) ≡ true))
  unfolding inlined
  inlined_calls f g lt h = elim (spliced_calls (taken S (opt S) f) (elab S f) (Local (record { 0 = g })) (listed_calls (shapes_of C) (inlined S (opt S) f) g (optimises C rules within tupled f lt).between h)) [
    | inl k ↦ inl (calls_listed (shapes_of C) (elab S f) g k)
    | inr k ↦ inr (k.0, k.1, k.2, calls_listed (shapes_of C) k.1 g k.3)
  ]

  rest_calls : (f g : ℕ) → f < length C.functions → stands g (callees (shapes_of C) (optimised S (opt S) f)) ≡ true → stands g (callees (shapes_of C) (inlined S (opt S) f)) ≡ true
  rest_calls f g lt h =
      let o = optimises C rules within tupled f lt in
      let none = subst NoDrops (opt_is S (graph_is C rules within) f lt) o.none in
      calls_listed (shapes_of C) (inlined S (opt S) f) g (o.calls (Local (record { 0 = g })) (listed_calls (shapes_of C) (optimised S (opt S) f) g none h))

  pub is_source : IsSource (pipeline C)
  is_source = record { graph = graph_is C rules within; calls = record { once = once; elab_keeps = elaborated_calls; splice_keeps = inlined_calls; rest_keeps = rest_calls } }
