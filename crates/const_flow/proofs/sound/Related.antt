-- What is known of a frame of the source holds on, where the memories of both sides are related: what it reads, and what it does.
use Rattle.std.proofs.Common.{◌≡◌, ap, ℕ, true, false, List, Some, None}
use Rattle.mir_syntax.specs.declared.body.Proj.{Proj}
use Rattle.mir_syntax.specs.declared.body.Place.{Place}
use Rattle.mir_syntax.specs.declared.body.Operand.{Operand}
use Rattle.mir_syntax.specs.Crate.{TypedRvalue, «use», binary, overflow, unary, cast, discriminant, tuple, build, TypedStmt, assign, storage_live, storage_dead, set_discriminant, TypedBody}
use Rattle.mir_syntax.specs.Crate as rvalue
use Rattle.mir_syntax.specs.Shapes.{Shape}
use Rattle.mir_syntax.specs.Parts.{has_deref}
use Rattle.mir_semantics.specs.Values.{Value, at_path}
use Rattle.mir_semantics.specs.Memory.{Memory, write}
use Rattle.mir_semantics.specs.Step.{Here, Dest, dest_of, read, read_all, read_number, eval, exec}
use Rattle.mir_renaming.specs.Renaming.{Renaming, Sub, MemRel}
use Rattle.escape_info.specs.Borrowed.{borrowed}
use Rattle.const_flow.specs.declared.cell.Cell.TheVariants.{Many}
use Rattle.const_flow.specs.Facts.{Facts, part_known, known, value_known, always, learn, moved_all, after_stmt}
use Rattle.const_flow.specs.ConstAt.{text}
use Rattle.const_flow.specs.Holding.{Fits, NumFits, H, Holds}
use Rattle.const_flow.proofs.sound.Values.{many_fits}
use Rattle.const_flow.proofs.sound.Frames.{Seen, Sealed, learn_holds}
use Rattle.const_flow.proofs.sound.Statements as statements
use Rattle.const_flow.proofs.sound.Seals.{selves, self_if, self_of, seen, sealed}

-- a place of which a reference is made without going through one is of a borrowed local
abbrev pub RefsOk : List Shape → TypedBody → TypedRvalue → Type 0
RefsOk D b (rvalue.ref p) = has_deref p.proj ≡ false → borrowed D b p.local ≡ true
RefsOk D b (rvalue.ref_mut p) = has_deref p.proj ≡ false → borrowed D b p.local ≡ true
RefsOk D b _ = Unit {0}

abbrev pub StmtRefsOk : List Shape → TypedBody → TypedStmt → Type 0
StmtRefsOk D b (assign p x) = RefsOk D b x
StmtRefsOk D b _ = Unit {0}

-- the facts of a frame hold of the locals that aren't borrowed
abbrev pub BodyHolds : List Shape → TypedBody → ℕ → Memory → Facts → Type 0
BodyHolds D b f = Holds D b.locals f (λ x. borrowed D b x ≡ false)

-- j: what references stand for, the borrowed locals of the frame f1 among them; K: that and all locals of the frame
module _ (D : List Shape) (b : TypedBody) (f1 f2 : ℕ) (j K : Renaming) (low : Sub j K) (own : (x : ℕ) → K f1 x ≡ Some (f2, x)) (unlent : (x : ℕ) → borrowed D b x ≡ false → j f1 x ≡ None) (lent : (x : ℕ) → borrowed D b x ≡ true → j f1 x ≡ Some (f2, x)) (m2 m1 : Memory) (rel : MemRel j K m2 m1) where
  abbrev Free : ℕ → Type 0
  Free x = borrowed D b x ≡ false

  abbrev source : Here
  source = H D b.locals f1 Free

  abbrev T : Here
  T = text D b

  shut : (x : ℕ) → Free x → selves j f1 x ≡ None
  shut x h = ap (λ o. self_if o f1 x) (unlent x h)

  sees : Seen (selves j) (selves K) f1
  sees = seen j K low f1 f2 own

  seal : Sealed (selves j) (selves K) m1
  seal = sealed j K low f1 f2 own m2 m1 rel

  ok_place : (p : Place) → (has_deref p.proj ≡ false → borrowed D b p.local ≡ true) → has_deref p.proj ≡ false → selves j f1 p.local ≡ Some (f1, p.local)
  ok_place p h d = self_of (j f1 p.local) f1 p.local _ (lent p.local (h d))

  ok_refs : (x : TypedRvalue) → RefsOk D b x → statements.OkAddr D b.locals f1 Free (selves j) (selves K) sees shut x
  ok_refs (rvalue.ref p) h = ok_place p h
  ok_refs (rvalue.ref_mut p) h = ok_place p h
  ok_refs («use» o) h = tt
  ok_refs (binary op c d) h = tt
  ok_refs (overflow op c d) h = tt
  ok_refs (unary op c) h = tt
  ok_refs (cast c t) h = tt
  ok_refs (discriminant p) h = tt
  ok_refs (tuple os) h = tt
  ok_refs (build d k os) h = tt

  ok_stmt : (s : TypedStmt) → StmtRefsOk D b s → statements.OkStmtAddr D b.locals f1 Free (selves j) (selves K) sees shut s
  ok_stmt (assign p x) h = ok_refs x h
  ok_stmt (storage_live x) h = tt
  ok_stmt (storage_dead x) h = tt
  ok_stmt (set_discriminant p k) h = tt

  module _ (fs : Facts) (holds : BodyHolds D b f1 m1 fs) where
    -- a read takes nothing from the facts, and gives what is known
    pub read_holds : (o : Operand) (r : Value × Memory) → read source m1 o ≡ Some r → BodyHolds D b f1 r.1 fs
    read_holds o r e = statements.read_holds D b.locals f1 Free (selves j) (selves K) sees shut m1 o r fs (statements.read_keeps D b.locals f1 Free (selves j) (selves K) sees shut m1 o r seal e) holds

    pub read_fits : (o : Operand) (r : Value × Memory) → read source m1 o ≡ Some r → (ps : List Proj) → Fits (part_known fs o ps) (at_path ps r.0)
    read_fits o r e = (statements.read_keeps D b.locals f1 Free (selves j) (selves K) sees shut m1 o r seal e).parts fs holds

    pub number_fits : (o : Operand) (r : ℕ × Memory) → read_number source m1 o ≡ Some r → NumFits (known fs o) r.0
    number_fits o r e = (statements.number_keeps D b.locals f1 Free (selves j) (selves K) sees shut m1 o r seal e).is fs holds

    pub eval_fits : (x : TypedRvalue) (r : Value × Memory) → RefsOk D b x → eval source m1 x ≡ Some r → (ps : List Proj) → Fits (value_known T fs x ps) (at_path ps r.0)
    eval_fits x r ok e = (statements.eval_keeps D b.locals f1 Free (selves j) (selves K) sees shut m1 x r seal (ok_refs x ok) e).parts fs holds

    pub eval_holds : (x : TypedRvalue) (r : Value × Memory) → RefsOk D b x → eval source m1 x ≡ Some r → BodyHolds D b f1 r.1 fs
    eval_holds x r ok e = statements.eval_holds D b.locals f1 Free (selves j) (selves K) sees shut m1 x r fs (statements.eval_keeps D b.locals f1 Free (selves j) (selves K) sees shut m1 x r seal (ok_refs x ok) e) holds

    -- after a statement
    pub exec_holds : (s : TypedStmt) (m1' : Memory) → StmtRefsOk D b s → exec source m1 s ≡ Some m1' → BodyHolds D b f1 m1' (after_stmt T s fs)
    exec_holds s m1' ok e = (statements.exec_keeps D b.locals f1 Free (selves j) (selves K) sees shut m1 s m1' seal (ok_stmt s ok) e).facts fs holds

    -- after a call, whatever comes to its destination
    pub call_holds : (p : Place) (os : List Operand) (d : Dest) (vs : List Value) (m1' : Memory) → dest_of source m1 p ≡ Some d → read_all source m1 os ≡ Some (vs, m1') → (v : Value) → BodyHolds D b f1 (write m1' d.addr v) (learn p (always Many) (moved_all os fs))
    call_holds p os d vs m1' ed er v =
        let w = statements.dest_where D b.locals f1 Free (selves j) (selves K) sees shut m1 p d seal ed in
        let k = statements.read_all_keeps D b.locals f1 Free (selves j) (selves K) sees shut m1 os (vs, m1') seal er in
        learn_holds D b.locals f1 Free (selves j) shut m1' d.addr v p (always Many) (moved_all os fs) w (λ p' r g wy. many_fits (at_path r v)) (k.facts fs holds)
