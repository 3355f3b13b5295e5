use Rattle.std.proofs.Common.{[], ◌∷◌, ◌∙◌, ◌++◌, ap, sym}
use Rattle.std.specs.Option.{unwrap_or}
use Rattle.mir_file.specs.Declarations.{ids_from}
use Rattle.mir_file.proofs.TypesOf.{ids_to}
use Rattle.mir_file.proofs.local_types.types_of.Goals as goal

pub loop-local-preserved : goal.loop-local-preserved
loop-local-preserved c =
    let locals = c.args.locals.now in
    let unit = c.args.unit in
    let local = c.loop-local.local in
    c.in_ok-push.ensures.ok
    ∙ ap (λ l. l ++ c.unwrap_or.result ∷ []) c.loop-local.invariant
    ∙ ap (λ v. ids_from locals unit 0 local ++ v ∷ []) (c.unwrap_or.ensures ∙ ap (λ o. unwrap_or o unit) c.get.ensures)
    ∙ sym (ids_to locals unit local)
