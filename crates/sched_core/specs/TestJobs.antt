-- For the tests only: five queries, of which 3 and 4 are the roots. 2 reads the answer of 1, 3 steals it, and 4 reads the query that 0 answers.
use Rattle.std.specs.Prelude.{◌≡◌, ℕ, zero, suc, ◌+◌, Bool, true, false, List, [], ◌∷◌, ◌++◌, Option, Some, None, option_to_list, if◌then◌else◌}
use Rattle.sched_core.specs.Plan.{Plan}

-- what 0 answers
abbrev pub chosen : Bool → ℕ
chosen false = 2
chosen true = 3

-- what a query needs and doesn't steal
abbrev pub reads : Bool → ℕ → List ℕ
reads far zero = []
reads far (suc zero) = []
reads far (suc (suc zero)) = 1 ∷ []
reads far (suc (suc (suc zero))) = 2 ∷ []
reads far (suc (suc (suc (suc q)))) = 0 ∷ chosen far ∷ []

abbrev pub stolen : ℕ → Option ℕ
stolen zero = None
stolen (suc zero) = None
stolen (suc (suc zero)) = None
stolen (suc (suc (suc zero))) = Some 1
stolen (suc (suc (suc (suc q)))) = None

abbrev pub plan : Bool → Plan
plan far = record { queries = 5; roots = 2; root = λ i. i + 3; needs = λ q. reads far q ++ option_to_list (stolen q); steals = stolen; rank = λ q. q }

-- what a query adds to its answer
abbrev pub own : Bool → ℕ → ℕ
own far zero = chosen far
own far (suc q) = suc q

-- what 4 answers: what it read, and itself
abbrev pub last : Bool → List ℕ
last false = 2 ∷ 1 ∷ 2 ∷ 4 ∷ []
last true = 3 ∷ 1 ∷ 1 ∷ 2 ∷ 3 ∷ 4 ∷ []

-- the defined answers: what was stolen, what was read, and itself
abbrev pub out : Bool → ℕ → List ℕ
out far zero = chosen far ∷ []
out far (suc zero) = 1 ∷ []
out far (suc (suc zero)) = 1 ∷ 2 ∷ []
out far (suc (suc (suc zero))) = 1 ∷ 1 ∷ 2 ∷ 3 ∷ []
out far (suc (suc (suc (suc q)))) = last far

-- the answers of these queries, end to end
abbrev pub gathered : (ℕ → List ℕ) → List ℕ → List ℕ
gathered out [] = []
gathered out (n ∷ ns) = out n ++ gathered out ns

-- the work was given the first of what its query reads, and holds their answers
abbrev pub IsWork : Bool → ℕ → List ℕ → List ℕ → Type 0
IsWork far q given items = ((rest : List ℕ) × (reads far q ≡ given ++ rest)) × (items ≡ gathered (out far) given)

abbrev pub few_reads : ℕ → List ℕ
few_reads zero = []
few_reads (suc zero) = 0 ∷ []
few_reads (suc (suc q)) = []

-- one query, which is the root, or two, of which the root reads the other
abbrev pub few : Bool → Plan
few two = record { queries = if two then 2 else 1; roots = 1; root = λ i. if two then 1 else 0; needs = few_reads; steals = λ q. None; rank = λ q. q }
