use Rattle.std.proofs.Common.{sym, subst}
use Rattle.mir_syntax.specs.Crate.{Crate, crate_of}
use Rattle.mir_rules.specs.Valid.{Valid, Within}
use Rattle.mir_validate.proofs.Completing.{same_crate, ids_stay}
use Rattle.mir_validate.proofs.Validated.{is_valid, is_within}
use Rattle.mir_validate.proofs.verdict.validate.Goals as goal

pub returns-in-Ok-clause-same_ok : goal.returns-in-Ok-clause-same_ok
returns-in-Ok-clause-same_ok c = same_crate c.args.program c.find_fault.new.program c.find_fault.ensures.grown c.requires.ids

pub invariant_of-result : goal.invariant_of-result
invariant_of-result c =
    let same = same_crate c.args.program c.find_fault.new.program c.find_fault.ensures.grown c.requires.ids in
    record {
      valid = subst (λ (C : Crate). Valid C) (sym same) (is_valid c.args.lines.now (crate_of c.args.program) c.requires.formed c.in-Ok.ensures.no_rule);
      within = subst (λ (C : Crate). Within C) (sym same) (is_within c.args.lines.now (crate_of c.args.program) c.in-Ok.ensures.no_limit);
      ids = ids_stay c.args.program c.find_fault.new.program c.find_fault.ensures.grown c.requires.ids;
      drops = c.in-Ok.ensures.drops;
    }

pub returns-in-Ok-clause-checked : goal.returns-in-Ok-clause-checked
returns-in-Ok-clause-checked c =
    let same = same_crate c.args.program c.find_fault.new.program c.find_fault.ensures.grown c.requires.ids in
    record {
      valid = subst (λ (C : Crate). Valid C) (sym same) (is_valid c.args.lines.now (crate_of c.args.program) c.requires.formed c.in-Ok.ensures.no_rule);
      within = subst (λ (C : Crate). Within C) (sym same) (is_within c.args.lines.now (crate_of c.args.program) c.in-Ok.ensures.no_limit);
      ids = ids_stay c.args.program c.find_fault.new.program c.find_fault.ensures.grown c.requires.ids;
      drops = c.in-Ok.ensures.drops;
    }

pub returns-in-Err-clause-same_err : goal.returns-in-Err-clause-same_err
returns-in-Err-clause-same_err c = same_crate c.args.program c.find_fault.new.program c.find_fault.ensures.grown c.requires.ids

pub returns-in-Err-clause-ids_err : goal.returns-in-Err-clause-ids_err
returns-in-Err-clause-ids_err c = ids_stay c.args.program c.find_fault.new.program c.find_fault.ensures.grown c.requires.ids
