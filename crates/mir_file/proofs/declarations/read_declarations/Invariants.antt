use Rattle.std.proofs.Common.{◌≡◌, ◌++◌, map, IsTrue, length}
use Rattle.std.specs.List.{list_all}
use Rattle.mir_syntax.specs.Tree.{trees_of}
use Rattle.mir_text.specs.Naming.{declares}
use Rattle.mir_tree.specs.Bodies.{lined}
use Rattle.mir_tree.specs.Rules.{arg_rule, part_arg}
use Rattle.mir_resolve.specs.Types.{Grown}
use Rattle.mir_resolve.specs.Faults.{noted}
use Rattle.mir_resolve.specs.Definitions.{before_defs}
use Rattle.mir_bodies.specs.Locals.{declared_in}
use Rattle.mir_file.specs.Declarations.{declared_below, declarations_faults}
use Rattle.mir_file.proofs.declarations.read_declarations.Given as goal

abbrev pub invariant-texts : goal.invariant-texts
invariant-texts l = record {
  told : declared_in (trees_of l.draft.program.types) l.locals ++ map (λ a. declares (before_defs l.strings l.paths) (part_arg a)) l.left
      ≡ declared_in (trees_of l.fn.draft.program.types) l.fn.locals ++ map (λ a. declares (before_defs l.strings l.paths) (part_arg a)) l.texts;
  notes : noted l.draft.notes (declarations_faults (before_defs l.strings l.paths) (declared_in (trees_of l.draft.program.types) l.locals) (map (lined arg_rule) l.left))
      ≡ noted l.fn.draft.notes (declarations_faults (before_defs l.strings l.paths) (declared_in (trees_of l.fn.draft.program.types) l.fn.locals) (map (lined arg_rule) l.texts));
  inside : IsTrue (list_all (declared_below (length l.draft.program.types)) l.locals);
  grown : Grown l.fn.draft.program l.draft.program;
}

abbrev pub decreases-texts : goal.decreases-texts
decreases-texts l = length l.left
