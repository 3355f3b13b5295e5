-- Small bodies merged, computed.
use Rattle.std.proofs.Common.{◌≡◌, refl, ℕ, [], ◌∷◌}
use Rattle.mir_syntax.specs.declared.types.IntTy.TheVariants.{U32, I32}
use Rattle.mir_syntax.specs.declared.types.ScalarTy.TheVariants as scalar_ty
use Rattle.mir_syntax.specs.declared.body.Proj.TheVariants.{Field}
use Rattle.mir_syntax.specs.declared.body.Place.{Place}
use Rattle.mir_syntax.specs.declared.body.Const.TheVariants as constant
use Rattle.mir_syntax.specs.declared.body.Operand.{Operand}
use Rattle.mir_syntax.specs.declared.body.Operand.TheVariants.{Copy, Move, Const}
use Rattle.mir_syntax.specs.declared.body.BinOp.TheVariants.{Add, Sub}
use Rattle.mir_syntax.specs.declared.body.Term.TheVariants.{Goto, Return}
use Rattle.mir_syntax.specs.Tree.{Tree, scalar, empty, more}
use Rattle.mir_syntax.specs.Crate.{«use», binary, assign, storage_live, storage_dead, TypedBody}
use Rattle.mir_rules.specs.Same.{same_tree}
use Rattle.liveness.specs.Decided.{is_live}
use Rattle.dest_prop.specs.Merged.{conflict, home_of, is_shared, merged}

abbrev u32 : Tree
u32 = scalar (scalar_ty.Int U32)

abbrev local : ℕ → Place
local x = record { local = x; proj = [] }

abbrev copy : ℕ → Operand
copy x = Copy (local x)

abbrev five : Operand
five = Const (constant.Int U32 5)

-- a local that is a copy of an argument shares the argument's
abbrev copied_argument : TypedBody
copied_argument = record { args = 1; locals = u32 ∷ u32 ∷ u32 ∷ u32 ∷ u32 ∷ []; blocks = record { stmts = assign (local 3) («use» (copy 1)) ∷ assign (local 4) («use» five) ∷ assign (local 0) (binary Add (copy 3) five) ∷ []; term = Return } ∷ [] }

merges_argument : merged [] copied_argument ≡ record copied_argument { blocks = record { stmts = assign (local 4) («use» five) ∷ assign (local 0) (binary Add (copy 1) five) ∷ []; term = Return } ∷ [] }
unfolding merged is_shared home_of conflict is_live same_tree
merges_argument = refl

-- the result shares a local of which storage begins and ends
abbrev i32 : Tree
i32 = scalar (scalar_ty.Int I32)

abbrev sum : Place
sum = record { local = 4; proj = Field 0 ∷ [] }

abbrev stored : TypedBody
stored = record { args = 2; locals = i32 ∷ i32 ∷ i32 ∷ i32 ∷ more i32 (more (scalar scalar_ty.Bool) empty) ∷ []; blocks = record { stmts = storage_live 3 ∷ []; term = Goto 1 } ∷ record { stmts = assign (local 3) («use» (Move sum)) ∷ assign (local 0) («use» (copy 3)) ∷ storage_dead 3 ∷ []; term = Return } ∷ [] }

merges_stored : merged [] stored ≡ record stored { blocks = record { stmts = []; term = Goto 1 } ∷ record { stmts = assign (local 0) («use» (Move sum)) ∷ []; term = Return } ∷ [] }
unfolding merged is_shared home_of conflict is_live same_tree
merges_stored = refl

-- two arguments that are exchanged through a third local stay as they are
abbrev exchanged : TypedBody
exchanged = record { args = 2; locals = u32 ∷ u32 ∷ u32 ∷ u32 ∷ []; blocks = record { stmts = assign (local 3) («use» (copy 1)) ∷ assign (local 1) («use» (copy 2)) ∷ assign (local 2) («use» (copy 3)) ∷ assign (local 0) (binary Sub (copy 1) (copy 2)) ∷ []; term = Return } ∷ [] }

keeps_exchanged : merged [] exchanged ≡ exchanged
unfolding merged is_shared home_of conflict is_live same_tree
keeps_exchanged = refl

-- a third member that conflicts keeps the group of a candidate apart: `_1` may share `_2`, and then `_3` may not, since `_1` lives on
abbrev apart : TypedBody
apart = record { args = 0; locals = u32 ∷ u32 ∷ u32 ∷ u32 ∷ []; blocks = record { stmts = assign (local 1) («use» five) ∷ assign (local 2) («use» (copy 1)) ∷ assign (local 3) («use» (copy 2)) ∷ assign (local 3) («use» five) ∷ assign (local 0) (binary Add (copy 1) (copy 3)) ∷ []; term = Return } ∷ [] }

keeps_third : merged [] apart ≡ record apart { blocks = record { stmts = assign (local 1) («use» five) ∷ assign (local 3) («use» (copy 1)) ∷ assign (local 3) («use» five) ∷ assign (local 0) (binary Add (copy 1) (copy 3)) ∷ []; term = Return } ∷ [] }
unfolding merged is_shared home_of conflict is_live same_tree
keeps_third = refl
