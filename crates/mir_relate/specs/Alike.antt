-- Text of two frames that does alike to memories in a relation. This project's own.
use Rattle.std.specs.Prelude.{◌≡◌, ℕ, true, List, [], ◌∷◌, length, Option, Some}
use Rattle.mir_syntax.specs.declared.body.Place.{Place}
use Rattle.mir_syntax.specs.declared.body.Operand.{Operand}
use Rattle.mir_syntax.specs.Crate.{TypedRvalue, «use», binary, overflow, unary, cast, discriminant, tuple, build, TypedStmt}
use Rattle.mir_syntax.specs.Crate as rvalue
use Rattle.mir_semantics.specs.Values.{Addr, Value, whole}
use Rattle.mir_semantics.specs.Memory.{Memory, value_at}
use Rattle.mir_semantics.specs.Step.{Here, Dest, resolve, dest_of, store, read, scalar_ty_of, eval, exec}
use Rattle.mir_renaming.specs.Renaming.{Renaming, ValueRel, SomeRel, AddrThere}
use Rattle.mir_renaming.proofs.Statements.{ValuesRel}
use Rattle.mir_renaming.proofs.Agree.{Tight}
use Rattle.mir_renaming.proofs.Tight.{Tights}

-- a relation between a memory of the target and one of the source
abbrev pub Between : Type 1
Between = Memory → Memory → Type 0

-- what a result of the source asks of the target: one too, with memories that are related again
abbrev pub Got : {A : Type 0} → (A → A → Type 0) → Between → A × Memory → Option (A × Memory) → Type 0
Got {A = A} V Q r o = (q : A × Memory) × (o ≡ Some q) × V r.0 q.0 × Q q.1 r.1

abbrev pub GotMemory : Between → Memory → Option Memory → Type 0
GotMemory Q m1 o = (m2 : Memory) × (o ≡ Some m2) × Q m2 m1

-- one frame of each side: what it sees, and what references of the source stand for
pub record Sides : Type 0 where
  pub target : Here
  pub source : Here
  pub lent : Renaming

-- related values, with holes at the same places
abbrev pub Same : Renaming → Value → Value → Type 0
Same j v w = ValueRel j v w × Tight v w

abbrev pub AllSame : Renaming → List Value → List Value → Type 0
AllSame j vs ws = ValuesRel j vs ws × Tights vs ws

-- no value has a hole
abbrev pub AllWhole : List Value → Type 0
AllWhole [] = Unit {0}
AllWhole (v ∷ vs) = (whole v ≡ true) × AllWhole vs

-- arguments of a call, all of them
pub record Arguments (count : ℕ) (vs : List Value) : Type 0 where
  pub whole : AllWhole vs
  pub all : length vs ≡ count

-- the operand of the target reads what that of the source reads
pub record Reads (X : Sides) (Q : Between) (o p : Operand) : Type 0 where
  pub reads : (m2 m1 : Memory) (r : Value × Memory) → Q m2 m1 → read X.source m1 o ≡ Some r → Got (Same X.lent) Q r (read X.target m2 p)
  pub scalars : scalar_ty_of X.source o ≡ scalar_ty_of X.target p

abbrev pub AllRead : Sides → Between → List Operand → List Operand → Type 0
AllRead X Q [] [] = Unit {0}
AllRead X Q (o ∷ os) (p ∷ ps) = Reads X Q o p × AllRead X Q os ps
AllRead X Q _ _ = ⊥

-- the place of the target refers to what that of the source refers to
pub record Refers (X : Sides) (Q : Between) (p q : Place) : Type 0 where
  pub refers : (m2 m1 : Memory) (a : Addr) → Q m2 m1 → resolve X.source m1 p ≡ Some a → AddrThere X.lent a (resolve X.target m2 q)

-- and at that of the target stands what stands at the source's
pub record Shows (X : Sides) (Q : Between) (p q : Place) : Type 0 where
  pub shows : (m2 m1 : Memory) (a : Addr) (v : Value) → Q m2 m1 → resolve X.source m1 p ≡ Some a → value_at m1 a ≡ Some v → (b : Addr) × (resolve X.target m2 q ≡ Some b) × SomeRel X.lent v (value_at m2 b)

-- the same rvalue, of operands and places that do alike
abbrev pub Likewise : Sides → Between → TypedRvalue → TypedRvalue → Type 0
Likewise X Q («use» o) («use» p) = Reads X Q o p
Likewise X Q (binary op a b) (binary op' c d) = (op ≡ op') × Reads X Q a c × Reads X Q b d
Likewise X Q (overflow op a b) (overflow op' c d) = (op ≡ op') × Reads X Q a c × Reads X Q b d
Likewise X Q (unary op a) (unary op' b) = (op ≡ op') × Reads X Q a b
Likewise X Q (cast a t) (cast b u) = (t ≡ u) × Reads X Q a b
Likewise X Q (rvalue.ref p) (rvalue.ref q) = Refers X Q p q
Likewise X Q (rvalue.ref_mut p) (rvalue.ref_mut q) = Refers X Q p q
Likewise X Q (discriminant p) (discriminant q) = Shows X Q p q
Likewise X Q (tuple os) (tuple ps) = AllRead X Q os ps
Likewise X Q (build d k os) (build d' k' ps) = (d ≡ d') × (k ≡ k') × AllRead X Q os ps
Likewise X Q _ _ = ⊥

-- the rvalue of the target gives what that of the source gives
pub record Evals (X : Sides) (Q Q' : Between) (x y : TypedRvalue) : Type 0 where
  pub evals : (m2 m1 : Memory) (r : Value × Memory) → Q m2 m1 → eval X.source m1 x ≡ Some r → Got (Same X.lent) Q' r (eval X.target m2 y)

-- where the source can write one of two such values, the target writes the other
pub record Stores (X : Sides) (Q Q' : Between) (p q : Place) : Type 0 where
  pub stores : (m2 m1 m1' : Memory) (d : Dest) (v w : Value) → Q m2 m1 → Same X.lent v w → dest_of X.source m1 p ≡ Some d → store X.source.shapes m1 d v ≡ Some m1' → (c : Dest) × (dest_of X.target m2 q ≡ Some c) × GotMemory Q' m1' (store X.target.shapes m2 c w)

-- a statement of the target does what that of the source does
pub record Execs (X : Sides) (Q Q' : Between) (s t : TypedStmt) : Type 0 where
  pub execs : (m2 m1 m1' : Memory) → Q m2 m1 → exec X.source m1 s ≡ Some m1' → GotMemory Q' m1' (exec X.target m2 t)
