-- The grammar. For each rule there is a type with one constructor for each alternative, and `x_put`: the symbols of the rule, put before
-- what follows them. Here is what all rules are made with; each subject has a file of its own.
--
--     file = item*
--     X,*  = none or more X with commas between, a comma after the last being allowed
use Rattle.std.specs.Prelude.{List, [], ◌∷◌}
use Rattle.mir_text.specs.declared.symbol.Symbol.{Symbol}
use Rattle.mir_text.specs.declared.symbol.Symbol.TheVariants as s

-- the symbols of a rule, and then the rest
abbrev pub Put : Type 0 → Type 0
Put R = R → List Symbol → List Symbol

-- ---- X,* and the sign that closes it

pub data Items (R : Type 0) : Type 0 where
  end : Items R
  last : R → Items R  -- without a comma after it
  more : R → Items R → Items R

abbrev pub items_put : {R : Type 0} → Put R → Symbol → Put (Items R)
items_put put close end rest = close ∷ rest
items_put put close (last r) rest = put r (close ∷ rest)
items_put put close (more r rs) rest = put r (s.Comma ∷ items_put put close rs rest)

-- what the items are, in order
abbrev pub items_of : {R A : Type 0} → (R → A) → Items R → List A
items_of of end = []
items_of of (last r) = of r ∷ []
items_of of (more r rs) = of r ∷ items_of of rs

abbrev pub AllItems : {R : Type 0} → (R → Type 0) → Items R → Type 0
AllItems P end = Unit {0}
AllItems P (last r) = P r
AllItems P (more r rs) = P r × AllItems P rs

-- ---- X*

abbrev pub each_put : {R : Type 0} → Put R → Put (List R)
each_put put [] rest = rest
each_put put (r ∷ rs) rest = put r (each_put put rs rest)

abbrev pub AllOf : {R : Type 0} → (R → Type 0) → List R → Type 0
AllOf P [] = Unit {0}
AllOf P (r ∷ rs) = P r × AllOf P rs
