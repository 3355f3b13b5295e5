use Rattle.std.proofs.Common.{◌<◌, sym, ap, ◌∙◌, subst, length, get_or}
use Rattle.mir_syntax.specs.declared.types.TyId.{TyId}
use Rattle.mir_syntax.specs.Tree.{ref_mut, at_id, trees_of, Stands}
use Rattle.mir_syntax.proofs.InTable.{local-in-table}
use Rattle.inline_pass.proofs.equal.Results.{some_locals, first_is}
use Rattle.inline_pass.proofs.call.kept_ty.Goals as goal

pub bounds-locals-0 : goal.bounds-locals-0
bounds-locals-0 c = subst (λ xs. 0 < length xs) (sym c.locals.ensures) (some_locals c.args.program.now c.args.callee.now c.requires)

pub ref_mut-requires-clause-in_table : goal.ref_mut-requires-clause-in_table
ref_mut-requires-clause-in_table c =
    subst (λ xs. (get_or {A = TyId} xs 0 (record { 0 = 0 })).0 < length c.args.program.now.types) (sym c.locals.ensures)
    (local-in-table c.args.program.now.types c.args.callee.now 0 (get_or c.args.callee.now.locals 0 (record { 0 = 0 })) c.requires.in_table (first_is c.args.program.now c.args.callee.now c.requires))

pub ref_mut-requires-clause-there : goal.ref_mut-requires-clause-there
ref_mut-requires-clause-there c =
    subst (λ xs. (there : TyId) × Stands c.args.program.now.types there (ref_mut (at_id (trees_of c.args.program.now.types) (get_or {A = TyId} xs 0 (record { 0 = 0 }))))) (sym c.locals.ensures)
    (c.requires.mutable (get_or c.args.callee.now.locals 0 (record { 0 = 0 })) (first_is c.args.program.now c.args.callee.now c.requires))

pub returns-clause-stands : goal.returns-clause-stands
returns-clause-stands c = (
  get_or c.args.callee.now.locals 0 (record { 0 = 0 }),
  first_is c.args.program.now c.args.callee.now c.requires,
  c.ref_mut.ensures.stands ∙ ap (λ xs. ref_mut (at_id (trees_of c.args.program.now.types) (get_or {A = TyId} xs 0 (record { 0 = 0 })))) c.locals.ensures,
)
