-- The same text on both sides, where each local that it names stands for the one of the same number.
use Rattle.std.proofs.Common.{◌≡◌, ◌⊎◌, inl, inr, refl, ℕ, true, List, [], ◌∷◌, Some, slice_get}
use Rattle.mir_syntax.specs.declared.body.Place.{Place}
use Rattle.mir_syntax.specs.declared.body.Operand.{Operand}
use Rattle.mir_syntax.specs.declared.body.Operand.TheVariants as operand
use Rattle.mir_syntax.specs.Tree.{Tree}
use Rattle.mir_syntax.specs.Crate.{TypedRvalue, «use», binary, overflow, unary, cast, discriminant, tuple, build, TypedStmt, assign, storage_live, storage_dead, set_discriminant}
use Rattle.mir_syntax.specs.Crate as rvalue
use Rattle.mir_syntax.specs.Shapes.{Shape}
use Rattle.mir_semantics.specs.Values.{blank}
use Rattle.mir_semantics.specs.Step.{Here}
use Rattle.mir_syntax.specs.Parts.{has_deref}
use Rattle.mir_renaming.specs.Renaming.{Renaming, Sub}
use Rattle.mir_renaming.proofs.Statements as text
use Rattle.mir_renaming.proofs.Types.{TypeMap, HasTy, StmtTy}
use Rattle.mir_renaming.proofs.Among.{Among, OkOperand, OkOperands, OkRvalue, all_rvalue}
use Rattle.mir_relate.specs.Alike.{Between}
use Rattle.mir_relate.specs.Pass.{AllMoves, RvalueMoves, StmtMoves}
use Rattle.mir_relate.proofs.Kept as kept

module _ (D : List Shape) (ts1 ts2 : List Tree) (f1 f2 : ℕ) (j K : Renaming) (low : Sub j K) (G : TypeMap) (bok : (t : Tree) → HasTy D G t (blank D t)) (lok : (x : ℕ) (t : Tree) → slice_get ts1 x ≡ Some t → G f1 x ≡ Some t) (types : (x : ℕ) → slice_get ts1 x ≡ slice_get ts2 x) where
  -- the locals that stand for those of the same number
  abbrev pub A : Among
  A x = K f1 x ≡ Some (f2, x)

  abbrev HS : Here
  HS = record { shapes = D; locals = ts1; frame = f1 }

  pub place_self : (L : Renaming) (p : Place) → L f1 p.local ≡ Some (f2, p.local) → kept.PlaceAs D ts1 ts2 f1 f2 j K low G bok lok L p p
  place_self L p h = record { root = h; proj = refl; ty = types p.local }

  pub operand_self : (o : Operand) → OkOperand A o → kept.OperandAs D ts1 ts2 f1 f2 j K low G bok lok o o
  operand_self (operand.Copy p) h = place_self K p h
  operand_self (operand.Move p) h = place_self K p h
  operand_self (operand.Const c) h = refl

  pub operands_self : (os : List Operand) → OkOperands A os → text.OperandsRel D ts1 ts2 f1 f2 j K low os os
  operands_self [] h = tt
  operands_self (o ∷ os) h = (operand_self o h.0, operands_self os h.1)

  -- a reference is to a lent local, or through a reference
  abbrev pub Lends : TypedRvalue → Type 0
  Lends (rvalue.ref p) = (has_deref p.proj ≡ true) ⊎ (j f1 p.local ≡ Some (f2, p.local))
  Lends (rvalue.ref_mut p) = (has_deref p.proj ≡ true) ⊎ (j f1 p.local ≡ Some (f2, p.local))
  Lends _ = Unit {0}

  abbrev pub StmtOk : TypedStmt → Type 0
  StmtOk (assign p x) = A p.local × OkRvalue A x × Lends x
  StmtOk (storage_live x) = A x
  StmtOk (storage_dead x) = A x
  StmtOk (set_discriminant p k) = A p.local

  -- where each local of the frame is lent, under its own number
  module _ (roots : (x : ℕ) → j f1 x ≡ Some (f2, x)) where
    pub all_here : (x : ℕ) → A x
    all_here x = low f1 x (f2, x) (roots x)

    pub all_lend : (x : TypedRvalue) → Lends x
    all_lend (rvalue.ref p) = inr (roots p.local)
    all_lend (rvalue.ref_mut p) = inr (roots p.local)
    all_lend («use» o) = tt
    all_lend (binary op a c) = tt
    all_lend (overflow op a c) = tt
    all_lend (unary op a) = tt
    all_lend (cast a t) = tt
    all_lend (discriminant v) = tt
    all_lend (tuple os) = tt
    all_lend (build d i os) = tt

    pub all_ok : (s : TypedStmt) → StmtOk s
    all_ok (assign p x) = (all_here p.local, all_rvalue A all_here x, all_lend x)
    all_ok (storage_live x) = all_here x
    all_ok (storage_dead x) = all_here x
    all_ok (set_discriminant p i) = all_here p.local

  module _ (Q : Between) (keeps : kept.Kept D ts1 ts2 f1 f2 j K low G bok lok Q) where
    pub moves_self : (os : List Operand) → AllMoves HS os → kept.MovesOk D ts1 ts2 f1 f2 j K low G bok lok Q keeps os
    moves_self [] h = tt
    moves_self (o ∷ os) h = (h.0, moves_self os h.1)

    ref_self : (p : Place) → A p.local → (has_deref p.proj ≡ true) ⊎ (j f1 p.local ≡ Some (f2, p.local)) → kept.RefAs D ts1 ts2 f1 f2 j K low G bok lok Q keeps p p
    ref_self p a (inl d) = inr (d, place_self K p a)
    ref_self p a (inr l) = inl (place_self j p l)

    pub rvalue_self : (x : TypedRvalue) → OkRvalue A x → Lends x → RvalueMoves HS x → kept.RvalueAs D ts1 ts2 f1 f2 j K low G bok lok Q keeps x x
    rvalue_self («use» o) h l m = (operand_self o h, m)
    rvalue_self (binary op a b) h l m = (refl, (operand_self a h.0, operand_self b h.1), m)
    rvalue_self (overflow op a b) h l m = (refl, (operand_self a h.0, operand_self b h.1), m)
    rvalue_self (unary op a) h l m = (refl, operand_self a h, m)
    rvalue_self (cast a t) h l m = (refl, operand_self a h, m)
    rvalue_self (rvalue.ref p) h l m = ref_self p h l
    rvalue_self (rvalue.ref_mut p) h l m = ref_self p h l
    rvalue_self (discriminant p) h l m = place_self K p h
    rvalue_self (tuple os) h l m = (operands_self os h, moves_self os m)
    rvalue_self (build d i os) h l m = (refl, refl, operands_self os h, moves_self os m)

    pub stmt_self : (s : TypedStmt) → StmtOk s → StmtMoves HS s → StmtTy D G bok ts1 f1 lok s → kept.StmtAs D ts1 ts2 f1 f2 j K low G bok lok Q keeps s s
    stmt_self (assign p x) (a, h, l) m ty = (place_self K p a, rvalue_self x h l m, ty)
    stmt_self (storage_live x) a m ty = record { root = a; ty = types x }
    stmt_self (storage_dead x) a m ty = record { root = a; ty = types x }
    stmt_self (set_discriminant p i) a m ty = (place_self K p a, refl, m)
