use Rattle.std.proofs.Common.{refl, sym, ap, ◌∙◌, subst, List, map, slice_get, length}
use Rattle.std.specs.List.{All}
use Rattle.mir_syntax.specs.declared.body.Function.{Function}
use Rattle.mir_syntax.specs.declared.program.Program.{Program}
use Rattle.mir_syntax.specs.Tree.{trees_of}
use Rattle.mir_syntax.specs.Crate.{crate_of}
use Rattle.pass_order.specs.Passes.{optimised}
use Rattle.pass_order.specs.Programs.{HasHeader, header_function}
use Rattle.pass_order.proofs.Alone.{have_headers}
use Rattle.pass_order.proofs.Whole.{knows_alone, ids_alone, can_pass_alone, knows_after, ids_after, passed_after}
use Rattle.pass_order.proofs.all_bodies.optimised.Goals as goal

pub header_functions-requires : goal.header_functions-requires
header_functions-requires c =
    let p = c.into_program-left.result in
    let checked = c.into_program-left.ensures.checked in
    subst (All HasHeader) (sym c.as_slice.ensures) (have_headers (crate_of p) (trees_of p.types) p.functions refl checked.valid checked.within)

pub passed_functions-requires-clause-knows : goal.passed_functions-requires-clause-knows
passed_functions-requires-clause-knows c =
    let are = c.replace-functions.ensures.after ∙ c.in_ok-headers.ensures ∙ ap (λ (fs : List Function). map header_function fs) c.as_slice.ensures in
    knows_alone c.into_program-left.result c.into_program-left.ensures.checked c.replace-functions.new.dest are _

pub passed_functions-requires-clause-ids : goal.passed_functions-requires-clause-ids
passed_functions-requires-clause-ids c =
    let are = c.replace-functions.ensures.after ∙ c.in_ok-headers.ensures ∙ ap (λ (fs : List Function). map header_function fs) c.as_slice.ensures in
    ids_alone c.into_program-left.result c.into_program-left.ensures.checked c.replace-functions.new.dest are _

pub passed_functions-requires-clause-can_pass : goal.passed_functions-requires-clause-can_pass
passed_functions-requires-clause-can_pass c = λ i g e.
    let are = c.replace-functions.ensures.after ∙ c.in_ok-headers.ensures ∙ ap (λ (fs : List Function). map header_function fs) c.as_slice.ensures in
    can_pass_alone c.into_program-left.result c.into_program-left.ensures.checked c.replace-functions.new.dest are _ i g
    (ap (λ (fs : List Function). slice_get fs i) (sym c.replace-functions.ensures.value) ∙ e)

pub returns-clause-optimised : goal.returns-clause-optimised
returns-clause-optimised c =
    let are = c.replace-functions.ensures.after ∙ c.in_ok-headers.ensures ∙ ap (λ (fs : List Function). map header_function fs) c.as_slice.ensures in
    let was = c.replace-functions.ensures.value in
    passed_after c.into_program-left.result c.into_program-left.ensures.checked c.replace-functions.new.dest are _ c.in_ok-left.field-0
    (c.in_ok-left.ensures.count ∙ ap (λ (fs : List Function). length fs) was)
    (λ i g g2 e e2. c.in_ok-left.ensures.each i g g2 (ap (λ (fs : List Function). slice_get fs i) was ∙ e) e2) c.result-1.given.0
    ∙ ap (λ (p : Program). optimised (crate_of p)) c.into_program-left.ensures.same

pub returns-clause-in_table : goal.returns-clause-in_table
returns-clause-in_table c =
    let are = c.replace-functions.ensures.after ∙ c.in_ok-headers.ensures ∙ ap (λ (fs : List Function). map header_function fs) c.as_slice.ensures in
    let was = c.replace-functions.ensures.value in
    ids_after c.into_program-left.result c.into_program-left.ensures.checked c.replace-functions.new.dest are _ c.in_ok-left.field-0
    (c.in_ok-left.ensures.count ∙ ap (λ (fs : List Function). length fs) was)
    (λ i g g2 e e2. c.in_ok-left.ensures.each i g g2 (ap (λ (fs : List Function). slice_get fs i) was ∙ e) e2) _

pub returns-clause-knows : goal.returns-clause-knows
returns-clause-knows c =
    let are = c.replace-functions.ensures.after ∙ c.in_ok-headers.ensures ∙ ap (λ (fs : List Function). map header_function fs) c.as_slice.ensures in
    let was = c.replace-functions.ensures.value in
    knows_after c.into_program-left.result c.into_program-left.ensures.checked c.replace-functions.new.dest are _ c.in_ok-left.field-0
    (c.in_ok-left.ensures.count ∙ ap (λ (fs : List Function). length fs) was)
    (λ i g g2 e e2. c.in_ok-left.ensures.each i g g2 (ap (λ (fs : List Function). slice_get fs i) was ∙ e) e2) _
