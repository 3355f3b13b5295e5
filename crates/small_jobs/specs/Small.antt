-- Four queries, of which 2 and 3 are the roots. Query 1 reads query 0, query 2 reads query 1, and query 3 reads a query r and steals query 0.
use Rattle.std.specs.Prelude.{ℕ, zero, suc, ◌+◌, Bool, true, false, List, [], ◌∷◌, ◌++◌, Option, Some, None, option_to_list}
use Rattle.sched_core.specs.Plan.{Plan}

abbrev pub small_reads : ℕ → ℕ → List ℕ
small_reads r zero = []
small_reads r (suc zero) = 0 ∷ []
small_reads r (suc (suc zero)) = 1 ∷ []
small_reads r (suc (suc (suc zero))) = r ∷ []
small_reads r (suc (suc (suc (suc q)))) = []

abbrev pub small_steals : ℕ → Option ℕ
small_steals zero = None
small_steals (suc zero) = None
small_steals (suc (suc zero)) = None
small_steals (suc (suc (suc zero))) = Some 0
small_steals (suc (suc (suc (suc q)))) = None

abbrev pub small_needs : ℕ → ℕ → List ℕ
small_needs r q = small_reads r q ++ option_to_list (small_steals q)

abbrev pub small_plan : ℕ → Plan
small_plan r = record { queries = 4; roots = 2; root = λ i. i + 2; needs = small_needs r; steals = small_steals; rank = λ q. q }

-- the defined answers: what was read, what was stolen, and 5 more than the number
abbrev pub small_out : ℕ → ℕ
small_out zero = 5
small_out (suc zero) = 5 + 6
small_out (suc (suc zero)) = 11 + 7
small_out (suc (suc (suc q))) = 11 + 5 + 8

-- the needs that a work was given, which are all that the query reads or none, and their answers added up
abbrev pub given_of : ℕ → ℕ → Bool → List ℕ
given_of r q false = []
given_of r q true = small_reads r q

abbrev pub added : List ℕ → ℕ
added [] = 0
added (n ∷ ns) = small_out n + added ns
