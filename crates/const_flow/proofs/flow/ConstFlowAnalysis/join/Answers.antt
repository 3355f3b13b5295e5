use Rattle.std.proofs.Common.{◌≡◌, ◌++◌, sym, ap, ap₂, ◌∙◌, subst, length, take, drop, Some}
use Rattle.std.proofs.Math.Seq.{take-append_seam}
use Rattle.const_flow.specs.Nodes.{IsRow, join_cells}
use Rattle.const_flow.proofs.Joins.{joined_long}
use Rattle.const_flow.proofs.FlownRows.{joined, join_nothing, join_first, join_both}
use Rattle.const_flow.proofs.flow.ConstFlowAnalysis.join.Goals as goal

pub returns-in_default-clause-joined : goal.returns-in_default-clause-joined
returns-in_default-clause-joined c =
    let ps = c.args.self.now.sight.paths.now in
    subst (λ y. c.args.into.now ≡ joined ps c.args.into.now y) (sym c.in_default.is) (join_nothing ps c.args.into.now c.requires.0)

pub returns-in_default-into-clause-joined : goal.returns-in_default-into-clause-joined
returns-in_default-into-clause-joined c =
    let ps = c.args.self.now.sight.paths.now in
    let row : IsRow ps (Some c.in-Some.from) = subst (IsRow ps) c.in-Some.is c.requires.1 in
    ap Some (c.in_ok-copied.ensures ∙ c.as_slice.ensures) ∙ join_first ps c.in-Some.from row ∙ ap₂ (joined ps) (sym c.in_default-into.is) (sym c.in-Some.is)

pub returns-clause-joined : goal.returns-clause-joined
returns-clause-joined c =
    let ps = c.args.self.now.sight.paths.now in
    let into = c.in-Some-into.into in
    let from = c.in-Some.from in
    let new = c.join_cells.new.into in
    let row : IsRow ps (Some from) = subst (IsRow ps) c.in-Some.is c.requires.1 in
    let old_row : IsRow ps (Some into) = subst (IsRow ps) c.in-Some-into.is c.requires.0 in
    let made : new ≡ join_cells into from = c.join_cells.ensures.joined ∙ ap₂ join_cells c.as_mut_slice.ensures.value c.as_slice-2.ensures in
    let long : length into ≡ length new = sym (ap length made ∙ joined_long into from) in
    ap Some (ap (λ n. take n (new ++ drop (length new) into)) long ∙ take-append_seam new (drop (length new) into) ∙ made) ∙ join_both ps into from old_row row ∙ ap₂ (joined ps) (sym c.in-Some-into.is) (sym c.in-Some.is)
