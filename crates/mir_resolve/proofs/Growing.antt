-- A program whose table grows.
use Rattle.std.proofs.Common.{List, [], ◌++◌, sym, ap, ◌∙◌, refl, append_assoc, append-nil}
use Rattle.mir_syntax.specs.declared.types.Ty.{Ty}
use Rattle.mir_syntax.specs.declared.program.Program.{Program}
use Rattle.mir_syntax.specs.Tree.{Extends}
use Rattle.mir_resolve.specs.Types.{Grown}

pub extends_then : (a b c : List Ty) → Extends a b → Extends b c → Extends a c
extends_then a b c x y = (x.0 ++ y.0, y.1 ∙ ap (λ l. l ++ y.0) x.1 ∙ append_assoc a x.0 y.0)

pub grown_same : (a : Program) → Grown a a
grown_same a = record { types = ([], sym (append-nil a.types)); defs = refl; outsides = refl; functions = refl }

pub grown_then : {a b c : Program} → Grown a b → Grown b c → Grown a c
grown_then {a = a} {b = b} {c = c} x y = record {
  types = extends_then a.types b.types c.types x.types y.types;
  defs = y.defs ∙ x.defs;
  outsides = y.outsides ∙ x.outsides;
  functions = y.functions ∙ x.functions;
}
