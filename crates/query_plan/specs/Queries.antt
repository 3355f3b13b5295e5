-- The queries of a crate: what each of them answers. The chain of queries is that of the rustc-dev-guide; who is asked for, and in which order,
-- is this project's own.
use Rattle.std.specs.Prelude.{ℕ, zero, suc, Bool, true, false, not, nat_lt, ◌&&◌, List, [], ◌∷◌, ◌++◌, Option, Some, None, if◌then◌else◌}
use Rattle.mir_syntax.specs.declared.body.Inline.{Inline}
use Rattle.mir_syntax.specs.declared.body.Inline.TheVariants as inline
use Rattle.bit_rows.specs.Rows.{stands}
use Rattle.call_graph.specs.Callees.{once_after}
use Rattle.call_graph.specs.Graph.{Graph, reach, asks, weight}
use Rattle.query_plan.specs.declared.kind.Kind.{Kind}
use Rattle.query_plan.specs.declared.kind.Kind.TheVariants.{Built, Qualif, Prom, Callees, Cost, Reach, Elab, Opt}

-- a crate as it was read, and the steps that bodies go through as functions of bodies
pub record Pipeline (B : Type 0) : Type 0 where
  -- functions are the numbers below this
  pub functions : ℕ
  -- of a function its body, its attribute, and whether its path is below that of another one
  pub body : ℕ → B
  pub inlining : ℕ → Inline
  pub below : ℕ → ℕ → Bool
  -- the control flow is cleaned; the drops are elaborated
  pub simple : B → B
  pub elab : B → B
  -- no call, no drop, no assert and no cycle of blocks
  pub qualif : B → Bool
  -- the functions that a body calls or may run by a drop, each once
  pub callees : B → List ℕ
  pub cost : B → ℕ
  -- whether a body is inlined into a function that is large or isn't, by the attribute of its own function and by whether that one qualifies
  pub takes : Bool → Inline → Bool → B → Bool
  -- bodies stand in the place of calls of their functions
  pub spliced : (ℕ → Option B) → B → B
  -- the steps after that
  pub rest : B → B

abbrev pub is_never : Inline → Bool
is_never inline.Never = true
is_never _ = false

-- a function that costs more is large
abbrev pub large_above : ℕ
large_above = 2000

module _ {B : Type 0} (P : Pipeline B) where
  -- ---- what is answered from the body as it was read

  abbrev pub prom : ℕ → B
  prom f = P.simple (P.body f)

  abbrev pub elab : ℕ → B
  elab f = P.elab (prom f)

  abbrev pub qualifies : ℕ → Bool
  qualifies f = P.qualif (P.body f)

  abbrev pub callees_of : ℕ → List ℕ
  callees_of f = P.callees (prom f)

  abbrev pub is_large : ℕ → Bool
  is_large f = nat_lt large_above (P.cost (prom f))

  abbrev pub graph : Graph
  graph = record { functions = P.functions; callees = callees_of; below = P.below }

  -- ---- what is answered from optimised bodies of others

  -- f asks for g, which may be inlined
  abbrev pub may_take : ℕ → ℕ → Bool
  may_take f g = asks graph f g && not (is_never (P.inlining g))

  -- a body that is lent to f, for calls of g, is taken or isn't
  abbrev pub if_taken : ℕ → ℕ → Option B → Option B
  if_taken f g None = None
  if_taken f g (Some b) = if P.takes (is_large f) (P.inlining g) (qualifies g) b then Some b else None

  -- given the optimised bodies
  module _ (opt : ℕ → B) where
    -- f takes the body of g in the place of calls
    abbrev pub takes : ℕ → ℕ → Bool
    takes f g = may_take f g && P.takes (is_large f) (P.inlining g) (qualifies g) (opt g)

    -- the functions that are called in those of these bodies that f takes
    abbrev pub brought : ℕ → List ℕ → List ℕ
    brought f [] = []
    brought f (g ∷ gs) = (if takes f g then P.callees (opt g) else []) ++ brought f gs

    -- those that come by bodies of functions, and none of which was seen
    abbrev pub brought_after : ℕ → List ℕ → List ℕ → List ℕ
    brought_after f seen gs = once_after seen (brought f gs)

    -- whom f calls, whom those bodies call that f takes, and whom the bodies of these that f takes: each once
    abbrev pub cands : ℕ → List ℕ
    cands f =
        let first = callees_of f in
        let second = brought_after f first first in
        first ++ (second ++ brought_after f (first ++ second) second)

    -- the bodies that are lent to f: those of candidates that f asks for and that may be inlined
    unfoldable pub lent : ℕ → ℕ → Option B
    lent f g = if stands g (cands f) && may_take f g then Some (opt g) else None

    -- and those that it takes
    abbrev pub taken : ℕ → ℕ → Option B
    taken f g = if_taken f g (lent f g)

    -- the elaborated body of f, in which calls are replaced
    unfoldable pub inlined : ℕ → B
    inlined f = P.spliced (taken f) (elab f)

    -- the body of f after all steps
    unfoldable pub optimised : ℕ → B
    optimised f = P.rest (inlined f)

  -- to a depth of asking
  abbrev pub opt_at : ℕ → ℕ → B
  opt_at zero f = elab f
  opt_at (suc n) f = optimised (opt_at n) f

  -- the optimised body of f. Along asking a weight falls, so this is depth enough
  unfoldable pub opt : ℕ → B
  opt f = opt_at (suc (weight graph f)) f

-- ---- answers

pub data Answer (B : Type 0) : Type 0 where
  body : B → Answer B
  flag : Bool → Answer B
  list : List ℕ → Answer B
  number : ℕ → Answer B

-- what the query of a kind answers for a function
abbrev pub answer : {B : Type 0} → Pipeline B → Kind → ℕ → Answer B
answer P Built f = body (P.body f)
answer P Qualif f = flag (qualifies P f)
answer P Prom f = body (prom P f)
answer P Callees f = list (callees_of P f)
answer P Cost f = number (P.cost (prom P f))
answer P Reach f = list (reach (graph P) f)
answer P Elab f = body (elab P f)
answer P Opt f = body (opt P f)
