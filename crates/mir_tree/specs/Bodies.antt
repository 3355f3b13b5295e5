-- Which derivations the trees of places, operands, statements, terminators and blocks are.
use Rattle.std.specs.Prelude.{List, [], ◌∷◌, map}
use Rattle.mir_text.specs.GrammarPlaces as g
use Rattle.mir_text.specs.GrammarPlaces.{PlaceRule, ValueRule, OperandRule}
use Rattle.mir_text.specs.GrammarStatements as r
use Rattle.mir_text.specs.GrammarStatements.{NamedRule, BuildRule, RvalueRule, StmtRule}
use Rattle.mir_text.specs.GrammarTerms as t
use Rattle.mir_text.specs.GrammarTerms.{UnwindRule, ArmRule, TermRule}
use Rattle.mir_text.specs.PartLines.{LinedBlock, Lined as LinedRule}
use Rattle.mir_tree.specs.declared.Lined.{Lined}
use Rattle.mir_tree.specs.declared.operand.ProjText.{ProjText}
use Rattle.mir_tree.specs.declared.operand.ProjText.TheVariants as p
use Rattle.mir_tree.specs.declared.operand.PlaceText.{PlaceText}
use Rattle.mir_tree.specs.declared.operand.ValueText.{ValueText}
use Rattle.mir_tree.specs.declared.operand.ValueText.TheVariants as v
use Rattle.mir_tree.specs.declared.operand.OperandText.{OperandText}
use Rattle.mir_tree.specs.declared.operand.OperandText.TheVariants as o
use Rattle.mir_tree.specs.declared.rvalue.NamedText.{NamedText}
use Rattle.mir_tree.specs.declared.rvalue.BuildText.{BuildText}
use Rattle.mir_tree.specs.declared.rvalue.BuildText.TheVariants as b
use Rattle.mir_tree.specs.declared.rvalue.RvalueText.{RvalueText}
use Rattle.mir_tree.specs.declared.rvalue.RvalueText.TheVariants as x
use Rattle.mir_tree.specs.declared.body.StmtText.{StmtText}
use Rattle.mir_tree.specs.declared.body.StmtText.TheVariants as s
use Rattle.mir_tree.specs.declared.body.UnwindText.{UnwindText}
use Rattle.mir_tree.specs.declared.body.UnwindText.TheVariants as u
use Rattle.mir_tree.specs.declared.body.ArmText.{ArmText}
use Rattle.mir_tree.specs.declared.body.TermText.{TermText}
use Rattle.mir_tree.specs.declared.body.TermText.TheVariants as m
use Rattle.mir_tree.specs.declared.body.BlockText.{BlockText}
use Rattle.mir_tree.specs.Lists.{items_rule}
use Rattle.mir_tree.specs.Types.{path_rule, type_rule}

-- ---- places and operands

abbrev pub place_from : PlaceRule → List ProjText → PlaceRule
place_from q [] = q
place_from q (p.Deref ∷ ps) = place_from (g.deref q) ps
place_from q (p.Field n ty ∷ ps) = place_from (g.field q n (type_rule ty)) ps
place_from q (p.VariantField name n ty ∷ ps) = place_from (g.variant_field q name n (type_rule ty)) ps

abbrev pub place_rule : PlaceText → PlaceRule
place_rule q = place_from (g.local q.local) q.projs

abbrev pub value_rule : ValueText → ValueRule
value_rule (v.Number negative ty n) = g.number negative n ty
value_rule (v.Bool is) = g.boolean is
value_rule v.Unit = g.unit
value_rule (v.Least ty) = g.least ty
value_rule (v.Most ty) = g.most ty

abbrev pub operand_rule : OperandText → OperandRule
operand_rule (o.Copy q) = g.copy (place_rule q)
operand_rule (o.Move q) = g.move (place_rule q)
operand_rule (o.Bare q) = g.bare (place_rule q)
operand_rule (o.Const c) = g.const (value_rule c)

-- ---- rvalues and statements

abbrev pub named_rule : NamedText → NamedRule
named_rule n = (n.name, operand_rule n.operand)

abbrev pub build_rule : BuildText → BuildRule
build_rule b.Plain = r.plain
build_rule (b.Tupled xs) = r.tupled (items_rule operand_rule xs)
build_rule (b.Labelled xs) = r.labelled (items_rule named_rule xs)

abbrev pub rvalue_rule : RvalueText → RvalueRule
rvalue_rule (x.Use a) = r.«use» (operand_rule a)
rvalue_rule (x.Cast a ty) = r.cast (operand_rule a) (type_rule ty)
rvalue_rule (x.Binary op a c) = r.binary op (operand_rule a) (operand_rule c)
rvalue_rule (x.Overflow op a c) = r.overflow op (operand_rule a) (operand_rule c)
rvalue_rule (x.Unary op a) = r.unary op (operand_rule a)
rvalue_rule (x.Ref mutable q) = r.reference mutable (place_rule q)
rvalue_rule (x.Discriminant q) = r.discriminant (place_rule q)
rvalue_rule x.Nothing = r.nothing
rvalue_rule (x.Tuple a others) = r.tuple_of (operand_rule a) (items_rule operand_rule others)
rvalue_rule (x.Build path parts) = r.build (path_rule path) (build_rule parts)

abbrev pub stmt_rule : StmtText → StmtRule
stmt_rule (s.Assign q a) = r.assign (place_rule q) (rvalue_rule a)
stmt_rule s.Nop = r.nop
stmt_rule (s.StorageLive y) = r.live y
stmt_rule (s.StorageDead y) = r.dead y
stmt_rule (s.SetDiscriminant q k) = r.set (place_rule q) k

-- ---- terminators and blocks

abbrev pub unwind_rule : UnwindText → UnwindRule
unwind_rule u.Continue = t.continues
unwind_rule u.Unreachable = t.unreachable

abbrev pub arm_rule : ArmText → ArmRule
arm_rule a = (a.value, a.block)

abbrev pub term_rule : TermText → TermRule
term_rule (m.Goto block) = t.goto block
term_rule m.Return = t.returns
term_rule m.Unreachable = t.never
term_rule (m.Switch a arms block) = t.switch (operand_rule a) (map arm_rule arms) block
term_rule (m.Call q path args block unwind) = t.call (place_rule q) (path_rule path) (items_rule operand_rule args) block (unwind_rule unwind)
term_rule (m.Drop q block unwind) = t.drop (place_rule q) block (unwind_rule unwind)
term_rule (m.Assert expected a message args block unwind) = t.assert expected (operand_rule a) message (map operand_rule args) block (unwind_rule unwind)

-- a part and its line
abbrev pub lined : {X R : Type 0} → (X → R) → Lined X → LinedRule R
lined of q = (q.line, of q.part)

abbrev pub lined_block : BlockText → LinedBlock
lined_block q = record { label = q.label; stmts = map (lined stmt_rule) q.stmts; term = lined term_rule q.term }
