use Rattle.std.proofs.Common.{[], ◌∷◌, List, ℕ, set, sym, ap, ◌∙◌, nat_eq}
use Rattle.bit_rows.specs.Rows.{row_at, marked}
use Rattle.bit_rows.proofs.Marks.{marks_then}
use Rattle.mir_syntax.proofs.Bools.{if_false}
use Rattle.dest_prop.proofs.equal.Sharing.{not_eq}
use Rattle.dest_prop.proofs.merge.mark_shared.Goals as goal

pub returns-then-home-local : goal.returns-then-home-local
returns-then-home-local c =
    let rows = c.args.row.now in
    let x = c.args.local in
    let h = c.args.home in
    marks_then rows c.write.new.self c.write-then-home-local.new.self 0 (x ∷ []) (h ∷ []) c.requires c.write.ensures c.write-then-home-local.ensures
    ∙ ap (λ (xs : List ℕ). set rows 0 (marked (row_at rows 0) xs)) (sym (if_false {b = nat_eq h x} [] (x ∷ h ∷ []) (not_eq h x c.if-home-local.true)))
