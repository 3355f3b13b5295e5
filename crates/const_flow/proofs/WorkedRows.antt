-- What is known in small bodies, computed.
use Rattle.std.proofs.Common.{◌≡◌, refl, ℕ, List, [], ◌∷◌, Some, None}
use Rattle.mir_syntax.specs.declared.types.IntTy.TheVariants.{U8}
use Rattle.mir_syntax.specs.declared.types.ScalarTy.TheVariants as scalar_ty
use Rattle.mir_syntax.specs.declared.body.Place.{Place}
use Rattle.mir_syntax.specs.declared.body.Const.TheVariants.{Int}
use Rattle.mir_syntax.specs.declared.body.Operand.{Operand}
use Rattle.mir_syntax.specs.declared.body.Operand.TheVariants.{Copy, Const}
use Rattle.mir_syntax.specs.declared.body.Term.TheVariants.{Goto, Switch, Return}
use Rattle.mir_syntax.specs.Tree.{Tree, scalar}
use Rattle.mir_syntax.specs.Crate.{«use», TypedStmt, assign, TypedBody}
use Rattle.place_map.specs.Tracked.{way, beyond, scalars, place_at, tracked}
use Rattle.const_flow.specs.declared.cell.Cell.{Cell}
use Rattle.const_flow.specs.declared.cell.Cell.TheVariants.{Nothing, Num, Many}
use Rattle.const_flow.specs.Rounds.{round}
use Rattle.const_flow.specs.Facts.{look, learn, part_known, known, value_known, moved, after_stmt, after_term, leads}
use Rattle.const_flow.specs.ConstAt.{Reached, sent, const_flow, const_at}

abbrev byte : Tree
byte = scalar (scalar_ty.Int U8)

abbrev number : ℕ → Operand
number n = Const (Int U8 n)

abbrev local : ℕ → Place
local x = place_at x []

abbrev sets : ℕ → ℕ → TypedStmt
sets x n = assign (local x) («use» (number n))

-- the first block chooses by _1 between two, which set _0 to 1 and to 2 and go to the last
abbrev choice : ℕ → List TypedStmt → TypedBody
choice args stmts = record {
  args = args;
  locals = byte ∷ byte ∷ [];
  blocks = record { stmts = stmts; term = Switch (Copy (local 1)) (record { value = 0; block = 1 } ∷ []) 2 }
      ∷ record { stmts = sets 0 1 ∷ []; term = Goto 3 }
      ∷ record { stmts = sets 0 2 ∷ []; term = Goto 3 }
      ∷ record { stmts = []; term = Return }
      ∷ [];
}

abbrev both : Cell → Cell → Reached
both a b = Some (record { place = local 0; known = a } ∷ record { place = local 1; known = b } ∷ [])

-- where two constants meet, the place may be anything
two_constants : const_at [] (choice 1 []) ≡ both Nothing Many ∷ both Nothing Many ∷ both Nothing Many ∷ both Many Many ∷ []
unfolding const_at const_flow round sent leads after_stmt after_term learn value_known part_known known look moved way beyond tracked scalars
two_constants = refl

-- a choice by a known number goes one way alone
one_way : const_at [] (choice 0 (sets 1 0 ∷ [])) ≡ both Nothing Nothing ∷ both Nothing (Num 0) ∷ None ∷ both (Num 1) (Num 0) ∷ []
unfolding const_at const_flow round sent leads after_stmt after_term learn value_known part_known known look moved way beyond tracked scalars
one_way = refl
