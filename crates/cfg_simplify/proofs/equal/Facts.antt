-- The definition on small bodies, by computation.
use Rattle.std.proofs.Common.{◌≡◌, ℕ, [], ◌∷◌, refl}
use Rattle.mir_syntax.specs.declared.body.Arm.{Arm}
use Rattle.mir_syntax.specs.declared.body.Const.TheVariants.{Unit as unit}
use Rattle.mir_syntax.specs.declared.body.Operand.TheVariants as operand
use Rattle.mir_syntax.specs.declared.body.Term.{Term}
use Rattle.mir_syntax.specs.declared.body.Term.TheVariants.{Goto, Switch, Return, Unreachable}
use Rattle.mir_syntax.specs.Crate.{storage_live, TypedBlock}
use Rattle.cfg_simplify.specs.Simple.{simple_blocks}

-- a block without statements, and one with a statement that a number tells apart
abbrev bare : Term → TypedBlock
bare t = record { stmts = []; term = t }

abbrev block : ℕ → Term → TypedBlock
block n t = record { stmts = storage_live n ∷ []; term = t }

abbrev arm : ℕ → Arm
arm b = record { value = 0; block = b }

-- a switch with one arm, and where it goes otherwise
abbrev switch : ℕ → ℕ → Term
switch a b = Switch (operand.Const unit) (arm a ∷ []) b

-- a goto past a block that nothing reaches
skipped : simple_blocks (bare (Goto 2) ∷ bare Unreachable ∷ block 4 Return ∷ []) ≡ block 4 Return ∷ []
skipped = refl

-- an empty goto behind one edge of a switch
through : simple_blocks (bare (switch 2 1) ∷ bare (Goto 3) ∷ block 1 Return ∷ block 2 Return ∷ []) ≡ bare (switch 1 2) ∷ block 1 Return ∷ block 2 Return ∷ []
through = refl

-- a block that goes to itself stays
itself : simple_blocks (bare (Goto 1) ∷ bare (Goto 1) ∷ []) ≡ bare (Goto 1) ∷ bare (Goto 1) ∷ []
itself = refl

-- a chain that comes into a cycle of gotos, from bb1 into that of bb2 and bb3, is a chain of blocks like others: bb1 is joined to bb0, and
-- bb3 to bb2
into-cycle : simple_blocks (bare (Goto 1) ∷ bare (Goto 2) ∷ bare (Goto 3) ∷ bare (Goto 2) ∷ []) ≡ bare (Goto 1) ∷ bare (Goto 1) ∷ []
into-cycle = refl

-- two edges from one switch to one block: it isn't joined
twice : simple_blocks (bare (switch 1 1) ∷ block 1 Return ∷ []) ≡ bare (switch 1 1) ∷ block 1 Return ∷ []
twice = refl

-- a line of blocks becomes one
line : simple_blocks (block 1 (Goto 2) ∷ block 3 Return ∷ block 2 (Goto 1) ∷ []) ≡ record { stmts = storage_live 1 ∷ storage_live 2 ∷ storage_live 3 ∷ []; term = Return } ∷ []
line = refl

-- two blocks that meet: the block where they do stays
meeting : simple_blocks (bare (switch 1 2) ∷ block 1 (Goto 3) ∷ block 2 (Goto 3) ∷ bare Return ∷ []) ≡ bare (switch 1 2) ∷ block 1 (Goto 3) ∷ block 2 (Goto 3) ∷ bare Return ∷ []
meeting = refl

-- bb0 is no empty goto and isn't joined, also where an edge goes back to it
back : simple_blocks (bare (Goto 1) ∷ block 1 (Goto 0) ∷ []) ≡ block 1 (Goto 0) ∷ []
back = refl
