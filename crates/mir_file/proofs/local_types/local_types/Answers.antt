use Rattle.std.proofs.Common.{IsTrue, List, length, map, ap, sym, subst, ◌∙◌}
use Rattle.mir_syntax.specs.declared.types.TyId.{TyId}
use Rattle.mir_syntax.specs.Tree.{at_id, trees_of}
use Rattle.mir_syntax.specs.Table.{all_below}
use Rattle.mir_syntax.proofs.Growth.{all-weaker, length-extends}
use Rattle.mir_text.specs.Naming.{locals_from}
use Rattle.mir_bodies.specs.Locals.{declared_in}
use Rattle.mir_file.specs.Declarations.{declared_below}
use Rattle.mir_file.proofs.Declaring.{declared_keep}
use Rattle.mir_file.proofs.TypesOf.{ids_told, ids_inside}
use Rattle.mir_file.proofs.local_types.local_types.Goals as goal

pub returns-clause-types : goal.returns-clause-types
returns-clause-types c =
    let locals = c.args.locals.now in
    let trees = trees_of c.unit_type.new.program.types in
    let unit = c.in_ok-unit.unit in
    ap (map (at_id trees)) c.in_ok-ids.ensures
    ∙ ids_told trees locals unit c.in_ok-unit.ensures.stands 0 (length c.as_slice-count.result.now)
    ∙ ap (λ n. locals_from (declared_in trees locals) 0 n) (ap length c.as_slice-count.ensures)

pub returns-clause-inside : goal.returns-clause-inside
returns-clause-inside c =
    let old = c.args.program.now.types in
    let new = c.unit_type.new.program.types in
    let wide = length-extends old new c.in_ok-unit.ensures.grown.types in
    let all = all-weaker (declared_below (length old)) (declared_below (length new)) (declared_keep.wider (length old) (length new) wide) c.args.locals.now c.requires in
    let P : List TyId → Type 0 = λ ids. IsTrue (all_below (length new) ids) in
    subst P (sym c.in_ok-ids.ensures) (ids_inside (length new) c.args.locals.now c.in_ok-unit.unit c.in_ok-unit.ensures.inside all 0 (length c.as_slice-count.result.now))
