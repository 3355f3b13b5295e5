use Rattle.std.proofs.Common.{◌≡◌, ◌<◌, ◌++◌, ◌∷◌, [], true, false, if◌then◌else◌, sym, ap, ◌∙◌, take, length, get_or, arith}
use Rattle.mir_syntax.specs.declared.types.TyId.{TyId}
use Rattle.bit_rows.specs.Rows.{row_at}
use Rattle.trim_locals.specs.Trimmed.{marked_items}
use Rattle.trim_locals.proofs.equal.Same.{items_more}
use Rattle.trim_locals.proofs.trim.used_types.Goals as goal
use Rattle.trim_locals.proofs.trim.used_types.Goals.{then-get+in_ok-push, else-get}

pub loop-local-preserved : goal.loop-local-preserved
loop-local-preserved c =
    let marks = row_at c.args.used.now 0 in
    let locals = c.args.locals.now in
    let i = c.loop-local.local in
    let d : TyId = record { 0 = 0 } in
    let low : i < length marks = (let z = c.requires.size.bits_is 0 (omega arith) in omega arith) in
    let more = items_more marks locals i d low (omega arith) in
    let old = marked_items (take i marks) (take i locals) in
    elim c.if-get.branch [
      | then-get+in_ok-push w ↦ (let e : get_or marks i false ≡ true = cc in
          w.kept-is ∙ w.in_ok-push.ensures.ok ∙ ap (λ xs. xs ++ get_or locals i d ∷ []) c.loop-local.invariant ∙ sym (more ∙ ap (λ b. if b then old ++ get_or locals i d ∷ [] else old) e))
      | else-get w ↦ (let e : get_or marks i false ≡ false = cc in
          w.kept-is ∙ c.loop-local.invariant ∙ sym (more ∙ ap (λ b. if b then old ++ get_or locals i d ∷ [] else old) e))
    ]
