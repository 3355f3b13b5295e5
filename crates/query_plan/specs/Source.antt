-- What is asked of a pipeline, so that its queries can be answered: no step makes a call that wasn't there.
use Rattle.std.specs.Prelude.{◌≡◌, ℕ, ◌<◌, ◌⊎◌, true, Some}
use Rattle.bit_rows.specs.Rows.{stands}
use Rattle.sched_core.specs.Good.{IsOnce}
use Rattle.call_graph.specs.Graph.{IsGraph}
use Rattle.query_plan.specs.Queries.{Pipeline, elab, graph, callees_of, inlined, optimised, opt, taken}

-- what each step leaves called of what was: callees are listed once; elaboration calls what was counted as a callee, splicing brings the calls
-- of the bodies that are taken, and the other steps make no call
pub record KeepsCalls {B : Type 0} (P : Pipeline B) : Type 0 where
  pub once : (b : B) → IsOnce (P.callees b)
  pub elab_keeps : (f g : ℕ) → f < P.functions → stands g (P.callees (elab P f)) ≡ true → stands g (callees_of P f) ≡ true
  pub splice_keeps : (f g : ℕ) → f < P.functions → stands g (P.callees (inlined P (opt P) f)) ≡ true
      → (stands g (P.callees (elab P f)) ≡ true) ⊎ ((h : ℕ) × (c : B) × (taken P (opt P) f h ≡ Some c) × (stands g (P.callees c) ≡ true))
  pub rest_keeps : (f g : ℕ) → f < P.functions → stands g (P.callees (optimised P (opt P) f)) ≡ true → stands g (P.callees (inlined P (opt P) f)) ≡ true

-- a crate whose callees and paths are as a call graph's, under steps that keep calls
pub record IsSource {B : Type 0} (P : Pipeline B) : Type 0 where
  pub graph : IsGraph (graph P)
  pub calls : KeepsCalls P
