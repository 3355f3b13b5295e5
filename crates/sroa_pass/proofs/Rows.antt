-- Small bodies split, computed.
use Rattle.std.proofs.Common.{◌≡◌, refl, ℕ, true, false, List, [], ◌∷◌, ◌++◌, Some, None}
use Rattle.mir_syntax.specs.declared.types.IntTy.TheVariants.{U8, U32}
use Rattle.mir_syntax.specs.declared.types.ScalarTy.TheVariants as scalar_ty
use Rattle.mir_syntax.specs.declared.body.BinOp.TheVariants.{Add}
use Rattle.mir_syntax.specs.declared.body.OverOp.TheVariants as over_op
use Rattle.mir_syntax.specs.declared.body.Const.TheVariants as constant
use Rattle.mir_syntax.specs.declared.body.Proj.{Proj}
use Rattle.mir_syntax.specs.declared.body.Proj.TheVariants.{Field, Deref}
use Rattle.mir_syntax.specs.declared.body.Place.{Place}
use Rattle.mir_syntax.specs.declared.body.Operand.{Operand}
use Rattle.mir_syntax.specs.declared.body.Operand.TheVariants.{Copy, Move, Const}
use Rattle.mir_syntax.specs.declared.body.Term.TheVariants.{Return}
use Rattle.mir_syntax.specs.Tree.{Tree, scalar, empty, more, ref, ref_mut, named}
use Rattle.mir_syntax.specs.Crate.{«use», binary, overflow, tuple, build, TypedStmt, assign, storage_live, storage_dead, TypedBody}
use Rattle.mir_syntax.specs.Crate as rvalue
use Rattle.mir_syntax.specs.Shapes.{Shape, ◌>>=◌}
use Rattle.sroa_pass.specs.Split.{split}

abbrev u8 : Tree
u8 = scalar (scalar_ty.Int U8)

abbrev byte : ℕ → Operand
byte n = Const (constant.Int U8 n)

abbrev local : ℕ → Place
local x = record { local = x; proj = [] }

abbrev field : ℕ → ℕ → Place
field x i = record { local = x; proj = Field i ∷ [] }

abbrev at : ℕ → List Proj → Place
at x ps = record { local = x; proj = ps }

-- a body of one block that returns
abbrev returning : ℕ → List Tree → List TypedStmt → TypedBody
returning n ts ss = record { args = n; locals = ts; blocks = record { stmts = ss; term = Return } ∷ [] }

-- a pair is built and its fields are read
abbrev u32 : Tree
u32 = scalar (scalar_ty.Int U32)

abbrev pair_types : List Tree
pair_types = u32 ∷ u32 ∷ more u32 (more u32 empty) ∷ []

abbrev five : Operand
five = Const (constant.Int U32 5)

splits_pair : split [] (returning 1 pair_types (assign (local 2) (tuple (Copy (local 1) ∷ five ∷ [])) ∷ assign (local 0) (binary Add (Copy (field 2 0)) (Copy (field 2 1))) ∷ []))
    ≡ returning 1 (pair_types ++ u32 ∷ u32 ∷ []) (assign (local 3) («use» (Copy (local 1))) ∷ assign (local 4) («use» five) ∷ assign (local 0) (binary Add (Copy (local 3)) (Copy (local 4))) ∷ [])
unfolding split ◌>>=◌
splits_pair = refl

-- ---- whole copies and moves, and storage

abbrev bytes : Tree
bytes = more u8 (more u8 empty)

-- from a split local to a split one, a field of another, and back from there
abbrev copying : List TypedStmt
copying =
    storage_live 2 ∷ assign (local 2) («use» (Move (local 1))) ∷ assign (local 3) («use» (Move (local 2))) ∷ assign (field 0 0) («use» (Copy (local 3))) ∷ storage_dead 2 ∷ []

splits_copies : split [] (returning 1 (more bytes (more u8 empty) ∷ bytes ∷ bytes ∷ bytes ∷ []) copying)
    ≡ returning 1 (more bytes (more u8 empty) ∷ bytes ∷ bytes ∷ bytes ∷ u8 ∷ u8 ∷ u8 ∷ u8 ∷ [])
    (storage_live 4 ∷ storage_live 5
    ∷ assign (local 4) («use» (Copy (field 1 0))) ∷ assign (local 5) («use» (Copy (field 1 1)))
    ∷ assign (local 6) («use» (Copy (local 4))) ∷ assign (local 7) («use» (Copy (local 5)))
    ∷ assign (at 0 (Field 0 ∷ Field 0 ∷ [])) («use» (Copy (local 6))) ∷ assign (at 0 (Field 0 ∷ Field 1 ∷ [])) («use» (Copy (local 7)))
    ∷ storage_dead 4 ∷ storage_dead 5 ∷ [])
unfolding split ◌>>=◌
splits_copies = refl

-- ---- which locals are split: `_0`, arguments and borrowed locals are not

abbrev one_field : Tree
one_field = more u8 empty

abbrev left_alone : List TypedStmt
left_alone = assign (local 0) («use» (Copy (local 1))) ∷ assign (local 2) (tuple (byte 1 ∷ [])) ∷ assign (local 3) (rvalue.ref (local 2)) ∷ []

leaves_borrowed : split [] (returning 1 (one_field ∷ one_field ∷ one_field ∷ ref one_field ∷ []) left_alone) ≡ returning 1 (one_field ∷ one_field ∷ one_field ∷ ref one_field ∷ []) left_alone
unfolding split ◌>>=◌
leaves_borrowed = refl

-- `struct S { u8 }` is split, `struct S { u8 }` with a destructor and `enum S { V(u8) }` are not
abbrev only : Shape → List Shape
only s = s ∷ []

abbrev plain : List Shape
plain = only (record { is_enum = false; variants = one_field ∷ []; destructor = None })

abbrev dropping : List Shape
dropping = only (record { is_enum = false; variants = one_field ∷ []; destructor = Some 0 })

abbrev choice : List Shape
choice = only (record { is_enum = true; variants = one_field ∷ []; destructor = None })

abbrev built : TypedBody
built = returning 0 (u8 ∷ named 0 ∷ []) (assign (local 1) (build 0 0 (byte 7 ∷ [])) ∷ [])

splits_struct : split plain built ≡ returning 0 (u8 ∷ named 0 ∷ u8 ∷ []) (assign (local 2) («use» (byte 7)) ∷ [])
unfolding split ◌>>=◌
splits_struct = refl

leaves_destructor : split dropping built ≡ built
unfolding split ◌>>=◌
leaves_destructor = refl

leaves_enum : split choice built ≡ built
unfolding split ◌>>=◌
leaves_enum = refl

-- a struct in a tuple: the outer fields alone
splits_nested : split plain (returning 0 (u8 ∷ named 0 ∷ more (named 0) empty ∷ []) (assign (field 2 0) («use» (Copy (local 1))) ∷ assign (local 0) («use» (Copy (at 2 (Field 0 ∷ Field 0 ∷ [])))) ∷ []))
    ≡ returning 0 (u8 ∷ named 0 ∷ more (named 0) empty ∷ u8 ∷ named 0 ∷ []) (assign (field 4 0) («use» (Copy (local 3))) ∷ assign (local 0) («use» (Copy (field 4 0))) ∷ [])
unfolding split ◌>>=◌
splits_nested = refl

-- a build of a part of the local itself, and a pair with a flag, which no build makes
abbrev swapped : TypedBody
swapped = returning 0 (u8 ∷ bytes ∷ []) (assign (local 1) (tuple (byte 1 ∷ byte 2 ∷ [])) ∷ assign (local 1) (tuple (Copy (field 1 1) ∷ Copy (field 1 0) ∷ [])) ∷ [])

leaves_swapped : split [] swapped ≡ swapped
unfolding split ◌>>=◌
leaves_swapped = refl

abbrev flagged : TypedBody
flagged = returning 0 (u8 ∷ more u8 (more (scalar scalar_ty.Bool) empty) ∷ []) (assign (local 1) (overflow over_op.Add (byte 1) (byte 2)) ∷ [])

leaves_flagged : split [] flagged ≡ flagged
unfolding split ◌>>=◌
leaves_flagged = refl

-- ---- what is read through the local itself: `struct N { next: &N, v: u8 }`

abbrev linked : List Shape
linked = only (record { is_enum = false; variants = more (ref (named 0)) (more u8 empty) ∷ []; destructor = None })

-- `_1 = copy (*(_1.0))`: its second field would be read through the new first one
abbrev read_through : TypedBody
read_through = returning 0 (u8 ∷ named 0 ∷ []) (assign (local 1) («use» (Copy (at 1 (Field 0 ∷ Deref ∷ [])))) ∷ assign (local 0) («use» (Copy (field 1 1))) ∷ [])

leaves_read_through : split linked read_through ≡ read_through
unfolding split ◌>>=◌
leaves_read_through = refl

-- `(*(_2.0)) = copy _1`: the reference itself may be written first
abbrev written_through : TypedBody
written_through = returning 2 (u8 ∷ u8 ∷ ref_mut (named 0) ∷ named 0 ∷ []) (assign (local 3) («use» (Copy (at 2 (Deref ∷ [])))) ∷ assign (at 2 (Deref ∷ [])) («use» (Copy (local 3))) ∷ [])

leaves_written_through : split linked written_through ≡ written_through
unfolding split ◌>>=◌
leaves_written_through = refl
