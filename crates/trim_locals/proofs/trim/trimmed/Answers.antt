use Rattle.std.proofs.Common.{◌+◌, ◌++◌, sym, ap, ◌∙◌, subst, map, length, List, ℕ}
use Rattle.std.specs.List.{flat_map, range_with_len}
use Rattle.mir_syntax.specs.Tree.{trees_of}
use Rattle.mir_syntax.specs.declared.types.TyId.{TyId}
use Rattle.bit_rows.specs.Rows.{row_at, HasSize}
use Rattle.trim_locals.specs.Trimmed.{marked_items}
use Rattle.trim_locals.specs.Code.{bare_block_uses, bare_trimmed_block}
use Rattle.trim_locals.proofs.equal.Same.{marks_are, used_size, is_trimmed}
use Rattle.trim_locals.proofs.equal.InTable.{trimmed_below}
use Rattle.trim_locals.proofs.trim.trimmed.Goals as goal

pub new_numbers-requires-clause-size : goal.new_numbers-requires-clause-size
new_numbers-requires-clause-size c =
    let body = c.args.body in
    subst (HasSize c.in_ok-used.used 1) (sym c.len.ensures) (used_size (length body.locals) (range_with_len 0 (body.args + 1) ++ flat_map bare_block_uses body.blocks) c.in_ok-used.used c.in_ok-used.ensures)

pub used_types-requires-clause-size : goal.used_types-requires-clause-size
used_types-requires-clause-size c =
    let body = c.args.body in
    subst (HasSize c.in_ok-used.used 1) (sym (ap length c.as_slice.ensures)) (used_size (length body.locals) (range_with_len 0 (body.args + 1) ++ flat_map bare_block_uses body.blocks) c.in_ok-used.used c.in_ok-used.ensures)

pub returns-clause-trimmed : goal.returns-clause-trimmed
returns-clause-trimmed c =
    let trees = trees_of c.args.program.now.types in
    let body = c.args.body in
    let marks = row_at c.in_ok-used.used 0 in
    is_trimmed trees body marks c.in_ok-numbers.numbers c.in_ok-locals.locals c.in_ok-blocks.blocks
    (marks_are trees body c.in_ok-used.used c.in_ok-used.ensures)
    c.in_ok-numbers.ensures
    (c.in_ok-locals.ensures ∙ ap (λ (xs : List TyId). marked_items marks xs) c.as_slice.ensures)
    (c.in_ok-blocks.ensures ∙ ap (λ (ns : List ℕ). map (bare_trimmed_block marks ns) body.blocks) c.as_slice-2.ensures)

pub returns-clause-in_table : goal.returns-clause-in_table
returns-clause-in_table c = λ h.
    let body = c.args.body in
    let marks = row_at c.in_ok-used.used 0 in
    trimmed_below (length c.args.program.now.types) body marks c.in_ok-numbers.numbers c.in_ok-locals.locals c.in_ok-blocks.blocks
    (c.in_ok-locals.ensures ∙ ap (λ (xs : List TyId). marked_items marks xs) c.as_slice.ensures)
    (c.in_ok-blocks.ensures ∙ ap (λ (ns : List ℕ). map (bare_trimmed_block marks ns) body.blocks) c.as_slice-2.ensures)
    h
