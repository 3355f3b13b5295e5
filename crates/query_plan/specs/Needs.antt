-- The plan of a crate's queries: their numbers, what each of them needs in which order, and what it steals.
use Rattle.std.specs.Prelude.{ℕ, zero, suc, ◌+◌, ◌*◌, ◌/◌, ◌%◌, List, [], ◌∷◌, ◌++◌, map, Option, Some, None, if◌then◌else◌}
use Rattle.sched_core.specs.Plan.{Plan}
use Rattle.call_graph.specs.Graph.{reach, asks, weight}
use Rattle.query_plan.specs.declared.kind.Kind.{Kind}
use Rattle.query_plan.specs.declared.kind.Kind.TheVariants.{Built, Qualif, Prom, Callees, Cost, Reach, Elab, Opt}
use Rattle.query_plan.specs.Queries.{Pipeline, is_never, graph, cands, opt}

-- the kind with a number. Past the last there are no queries: such numbers need nothing and steal nothing
abbrev pub kind_at : ℕ → Kind
kind_at zero = Built
kind_at (suc zero) = Qualif
kind_at (suc (suc zero)) = Prom
kind_at (suc (suc (suc zero))) = Callees
kind_at (suc (suc (suc (suc zero)))) = Cost
kind_at (suc (suc (suc (suc (suc zero))))) = Reach
kind_at (suc (suc (suc (suc (suc (suc zero)))))) = Elab
kind_at (suc (suc (suc (suc (suc (suc (suc zero))))))) = Opt
kind_at _ = Built

abbrev pub kind_number : Kind → ℕ
kind_number Built = 0
kind_number Qualif = 1
kind_number Prom = 2
kind_number Callees = 3
kind_number Cost = 4
kind_number Reach = 5
kind_number Elab = 6
kind_number Opt = 7

-- the number of a query of a function, of so many functions
unfoldable pub query : ℕ → Kind → ℕ → ℕ
query n k f = kind_number k * n + f

module _ {B : Type 0} (P : Pipeline B) where
  abbrev pub of : Kind → ℕ → ℕ
  of k f = query P.functions k f

  -- what f needs to know of a function that it might take: its reach, where the paths don't tell; and where f asks for it, the rest
  abbrev pub asked : ℕ → ℕ → List ℕ
  asked f g =
      if is_never (P.inlining g) then []
      else (if P.below f g then [] else of Reach g ∷ []) ++ (if asks (graph P) f g then of Qualif g ∷ of Opt g ∷ [] else [])

  abbrev pub asked_of : ℕ → List ℕ → List ℕ
  asked_of f [] = []
  asked_of f (g ∷ gs) = asked f g ++ asked_of f gs

  -- what a query of f needs, in order
  abbrev pub needs_of : Kind → ℕ → List ℕ
  needs_of Built f = []
  needs_of Qualif f = of Built f ∷ []
  needs_of Prom f = of Qualif f ∷ of Built f ∷ []
  needs_of Callees f = of Prom f ∷ []
  needs_of Cost f = of Prom f ∷ []
  needs_of Reach g = map (of Callees) (reach (graph P) g)
  needs_of Elab f = of Callees f ∷ of Cost f ∷ of Prom f ∷ []
  needs_of Opt f = of Callees f ∷ of Cost f ∷ (asked_of f (cands P (opt P) f) ++ of Elab f ∷ [])

  -- the slot that a query of f steals
  abbrev pub stolen_by : Kind → ℕ → Option ℕ
  stolen_by Prom f = Some (of Built f)
  stolen_by Elab f = Some (of Prom f)
  stolen_by Opt f = Some (of Elab f)
  stolen_by _ f = None

  -- it falls from a query to each of its needs
  abbrev pub rank_of : Kind → ℕ → ℕ
  rank_of Opt f = 7 + weight (graph P) f
  rank_of k f = kind_number k

  -- the queries of a crate. The roots are the optimised bodies of the functions in their order
  abbrev pub plan : Plan
  plan = record {
    queries = 8 * P.functions;
    roots = P.functions;
    root = of Opt;
    needs = λ q. needs_of (kind_at (q / P.functions)) (q % P.functions);
    steals = λ q. stolen_by (kind_at (q / P.functions)) (q % P.functions);
    rank = λ q. rank_of (kind_at (q / P.functions)) (q % P.functions);
  }
