-- Text that is the same but for the numbers of locals. This project's own.
use Rattle.std.specs.Prelude.{◌≡◌, ◌⊎◌, ℕ, List, [], ◌∷◌}
use Rattle.mir_syntax.specs.declared.body.Place.{Place}
use Rattle.mir_syntax.specs.declared.body.Operand.{Operand}
use Rattle.mir_syntax.specs.declared.body.Operand.TheVariants as operand
use Rattle.mir_syntax.specs.declared.body.Term.{Term}
use Rattle.mir_syntax.specs.declared.body.Term.TheVariants.{Goto, Switch, Return, Unreachable, Drop, Call, Assert}
use Rattle.mir_syntax.specs.Crate.{TypedRvalue, «use», binary, overflow, unary, cast, discriminant, tuple, build, TypedStmt, assign, storage_live, storage_dead, set_discriminant}
use Rattle.mir_syntax.specs.Crate as rvalue

-- which local stands for which
abbrev pub Numbering : Type 1
Numbering = ℕ → ℕ → Type 0

abbrev pub PlaceSame : Numbering → Place → Place → Type 0
PlaceSame R p q = R p.local q.local × (p.proj ≡ q.proj)

abbrev pub OperandSame : Numbering → Operand → Operand → Type 0
OperandSame R (operand.Copy p) (operand.Copy q) = PlaceSame R p q
OperandSame R (operand.Move p) (operand.Move q) = PlaceSame R p q
OperandSame R (operand.Const c) (operand.Const d) = c ≡ d
OperandSame R _ _ = ⊥

abbrev pub OperandsSame : Numbering → List Operand → List Operand → Type 0
OperandsSame R [] [] = Unit {0}
OperandsSame R (o ∷ os) (p ∷ ps) = OperandSame R o p × OperandsSame R os ps
OperandsSame R _ _ = ⊥

abbrev pub RvalueSame : Numbering → TypedRvalue → TypedRvalue → Type 0
RvalueSame R («use» o) («use» p) = OperandSame R o p
RvalueSame R (binary op a b) (binary op' c d) = (op ≡ op') × OperandSame R a c × OperandSame R b d
RvalueSame R (overflow op a b) (overflow op' c d) = (op ≡ op') × OperandSame R a c × OperandSame R b d
RvalueSame R (unary op a) (unary op' b) = (op ≡ op') × OperandSame R a b
RvalueSame R (cast a t) (cast b u) = (t ≡ u) × OperandSame R a b
RvalueSame R (rvalue.ref p) (rvalue.ref q) = PlaceSame R p q
RvalueSame R (rvalue.ref_mut p) (rvalue.ref_mut q) = PlaceSame R p q
RvalueSame R (discriminant p) (discriminant q) = PlaceSame R p q
RvalueSame R (tuple os) (tuple ps) = OperandsSame R os ps
RvalueSame R (build d k os) (build d' k' ps) = (d ≡ d') × (k ≡ k') × OperandsSame R os ps
RvalueSame R _ _ = ⊥

abbrev pub StmtSame : Numbering → TypedStmt → TypedStmt → Type 0
StmtSame R (assign p x) (assign q y) = PlaceSame R p q × RvalueSame R x y
StmtSame R (storage_live x) (storage_live y) = R x y
StmtSame R (storage_dead x) (storage_dead y) = R x y
StmtSame R (set_discriminant p k) (set_discriminant q i) = PlaceSame R p q × (k ≡ i)
StmtSame R _ _ = ⊥

abbrev pub TermSame : Numbering → Term → Term → Type 0
TermSame R (Goto t) (Goto u) = t ≡ u
TermSame R (Switch o as' t) (Switch p bs u) = OperandSame R o p × (as' ≡ bs) × (t ≡ u)
TermSame R Return Return = Unit {0}
TermSame R Unreachable Unreachable = Unit {0}
TermSame R (Drop p t) (Drop q u) = PlaceSame R p q × (t ≡ u)
TermSame R (Call p g os t) (Call q h ps u) = PlaceSame R p q × (g ≡ h) × OperandsSame R os ps × (t ≡ u)
TermSame R (Assert o e x os t) (Assert p e' x' ps u) = OperandSame R o p × (e ≡ e') × (x ≡ x') × OperandsSame R os ps × (t ≡ u)
TermSame R _ _ = ⊥

-- a storage statement of a local for which none stands
abbrev pub Gone : Numbering → TypedStmt → Type 0
Gone R (storage_live x) = (y : ℕ) → R x y → ⊥
Gone R (storage_dead x) = (y : ℕ) → R x y → ⊥
Gone R _ = ⊥

-- statement by statement, but for those
abbrev pub StmtsSame : Numbering → List TypedStmt → List TypedStmt → Type 0
StmtsSame R [] ts = ts ≡ []
StmtsSame R (s ∷ ss) ts = (Gone R s × StmtsSame R ss ts) ⊎ ((t : TypedStmt) × (rest : List TypedStmt) × (ts ≡ t ∷ rest) × StmtSame R s t × StmtsSame R ss rest)
