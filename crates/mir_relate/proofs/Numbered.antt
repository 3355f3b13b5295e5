-- Text that is the same but for the numbers of locals, on two frames of which one's locals are lent to the other's.
use Rattle.std.proofs.Common.{◌≡◌, inl, ℕ, List, [], ◌∷◌, Option, Some, slice_get}
use Rattle.mir_syntax.specs.declared.body.Place.{Place}
use Rattle.mir_syntax.specs.declared.body.Operand.{Operand}
use Rattle.mir_syntax.specs.declared.body.Operand.TheVariants as operand
use Rattle.mir_syntax.specs.Tree.{Tree}
use Rattle.mir_syntax.specs.Shapes.{Shape}
use Rattle.mir_syntax.specs.Crate.{TypedRvalue, «use», binary, overflow, unary, cast, discriminant, tuple, build, TypedStmt, assign, storage_live, storage_dead, set_discriminant}
use Rattle.mir_syntax.specs.Crate as rvalue
use Rattle.mir_semantics.specs.Values.{blank}
use Rattle.mir_semantics.specs.Step.{Here}
use Rattle.mir_renaming.specs.Renaming.{Renaming, Sub}
use Rattle.mir_renaming.proofs.Statements as text
use Rattle.mir_renaming.proofs.Types.{TypeMap, HasTy, StmtTy}
use Rattle.mir_relate.specs.Alike.{Between}
use Rattle.mir_relate.specs.Pass.{AllMoves, RvalueMoves, StmtMoves}
use Rattle.mir_relate.specs.Renumbered.{Numbering, PlaceSame, OperandSame, OperandsSame, RvalueSame, StmtSame}
use Rattle.mir_relate.proofs.Kept as kept

abbrev pub sub_self : (j : Renaming) → Sub j j
sub_self j f x r e = e

-- the locals that have this home
abbrev pub Homes : (ℕ → Option ℕ) → Numbering
Homes B x y = B x ≡ Some y

module _ (D : List Shape) (ts1 ts2 : List Tree) (f1 f2 : ℕ) (j : Renaming) (G : TypeMap) (bok : (t : Tree) → HasTy D G t (blank D t)) (lok : (x : ℕ) (t : Tree) → slice_get ts1 x ≡ Some t → G f1 x ≡ Some t) (R : Numbering) (roots : (x y : ℕ) → R x y → j f1 x ≡ Some (f2, y)) (types : (x y : ℕ) → R x y → slice_get ts1 x ≡ slice_get ts2 y) where
  abbrev low : Sub j j
  low = sub_self j

  abbrev HS : Here
  HS = record { shapes = D; locals = ts1; frame = f1 }

  pub place_as : (p q : Place) → PlaceSame R p q → kept.PlaceAs D ts1 ts2 f1 f2 j j low G bok lok j p q
  place_as p q h = record { root = roots p.local q.local h.0; proj = h.1; ty = types p.local q.local h.0 }

  pub operand_as : (o p : Operand) → OperandSame R o p → kept.OperandAs D ts1 ts2 f1 f2 j j low G bok lok o p
  operand_as (operand.Copy p) (operand.Copy q) h = place_as p q h
  operand_as (operand.Move p) (operand.Move q) h = place_as p q h
  operand_as (operand.Const c) (operand.Const d) h = h
  operand_as o p h = absurd h

  pub operands_as : (os ps : List Operand) → OperandsSame R os ps → text.OperandsRel D ts1 ts2 f1 f2 j j low os ps
  operands_as [] [] h = tt
  operands_as (o ∷ os) (p ∷ ps) h = (operand_as o p h.0, operands_as os ps h.1)
  operands_as [] (p ∷ ps) h = absurd h
  operands_as (o ∷ os) [] h = absurd h

  module _ (Q : Between) (keeps : kept.Kept D ts1 ts2 f1 f2 j j low G bok lok Q) where
    pub moves_as : (os : List Operand) → AllMoves HS os → kept.MovesOk D ts1 ts2 f1 f2 j j low G bok lok Q keeps os
    moves_as [] h = tt
    moves_as (o ∷ os) h = (h.0, moves_as os h.1)

    rvalue_as : (x y : TypedRvalue) → RvalueSame R x y → RvalueMoves HS x → kept.RvalueAs D ts1 ts2 f1 f2 j j low G bok lok Q keeps x y
    rvalue_as («use» o) («use» p) h m = (operand_as o p h, m)
    rvalue_as (binary op a b) (binary op' c d) h m = (h.0, (operand_as a c h.1, operand_as b d h.2), m)
    rvalue_as (overflow op a b) (overflow op' c d) h m = (h.0, (operand_as a c h.1, operand_as b d h.2), m)
    rvalue_as (unary op a) (unary op' b) h m = (h.0, operand_as a b h.1, m)
    rvalue_as (cast a t) (cast b u) h m = (h.0, operand_as a b h.1, m)
    rvalue_as (rvalue.ref p) (rvalue.ref q) h m = inl (place_as p q h)
    rvalue_as (rvalue.ref_mut p) (rvalue.ref_mut q) h m = inl (place_as p q h)
    rvalue_as (discriminant p) (discriminant q) h m = place_as p q h
    rvalue_as (tuple os) (tuple ps) h m = (operands_as os ps h, moves_as os m)
    rvalue_as (build d i os) (build d' i' ps) h m = (h.0, h.1, operands_as os ps h.2, moves_as os m)
    rvalue_as x y h m = absurd h

    pub stmt_as : (s t : TypedStmt) → StmtSame R s t → StmtMoves HS s → StmtTy D G bok ts1 f1 lok s → kept.StmtAs D ts1 ts2 f1 f2 j j low G bok lok Q keeps s t
    stmt_as (assign p x) (assign q y) h m ty = (place_as p q h.0, rvalue_as x y h.1 m, ty)
    stmt_as (storage_live x) (storage_live y) h m ty = record { root = roots x y h; ty = types x y h }
    stmt_as (storage_dead x) (storage_dead y) h m ty = record { root = roots x y h; ty = types x y h }
    stmt_as (set_discriminant p i) (set_discriminant q i') h m ty = (place_as p q h.0, h.1, m)
    stmt_as s t h m ty = absurd h
