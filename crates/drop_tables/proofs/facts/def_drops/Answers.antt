use Rattle.std.proofs.Common.{◌≡◌, ◌-◌, ℕ, map, length, slice_get, sym, ap, subst, ◌∙◌, arith}
use Rattle.std.proofs.lemmas.List.{length-map}
use Rattle.mir_syntax.specs.Crate.{crate_of}
use Rattle.mir_syntax.specs.Shapes.{shapes_of, needs_drop}
use Rattle.drop_tables.specs.Marks.{is_marked, has_one, own_of}
use Rattle.drop_tables.specs.Holders.{AreHolders, AreInside}
use Rattle.drop_tables.proofs.Destroying.{found_long, own_marks, shapes_count}
use Rattle.drop_tables.proofs.Levels.{needs_all}
use Rattle.drop_tables.proofs.Noting.{are_inside}
use Rattle.drop_tables.proofs.facts.def_drops.Goals as goal

pub spread-requires-clause-inside : goal.spread-requires-clause-inside
spread-requires-clause-inside c =
    subst AreInside (sym c.as_slice-3.ensures) (are_inside (shapes_of (crate_of c.args.program.now)) c.in_ok-holders.holders c.in_ok-holders.ensures.holders)

pub spread-requires-clause-own : goal.spread-requires-clause-own
spread-requires-clause-own c =
    let p = c.args.program.now in
    let found = c.in_ok-destructors.destructors in
    let own : length c.in_ok-own.own ≡ length p.defs = ap length (c.in_ok-own.ensures ∙ ap (map has_one) c.as_slice-2.ensures) ∙ (length-map found has_one ∙ found_long p found c.in_ok-destructors.ensures) in
    own ∙ (sym (shapes_count p) ∙ (sym c.in_ok-holders.ensures.holders.long ∙ ap length (sym c.as_slice-3.ensures)))

pub returns-clause-has : goal.returns-clause-has
returns-clause-has c = λ d.
    ap (λ l. is_marked l d) (c.in_ok-has_destructor.ensures ∙ ap (map has_one) c.as_slice.ensures) ∙ own_marks (shapes_of (crate_of c.args.program.now)) c.in_ok-destructors.destructors c.in_ok-destructors.ensures d

pub returns-clause-needs : goal.returns-clause-needs
unfolding needs_drop
returns-clause-needs c = λ d.
    let p = c.args.program.now in
    let D = shapes_of (crate_of p) in
    let found = c.in_ok-destructors.destructors in
    let own : (k : ℕ) → is_marked c.in_ok-own.own k ≡ own_of (slice_get D k) =
    λ k. ap (λ l. is_marked l k) (c.in_ok-own.ensures ∙ ap (map has_one) c.as_slice-2.ensures) ∙ own_marks D found c.in_ok-destructors.ensures k in
    let are : AreHolders D c.as_slice-3.result.now = subst (AreHolders D) (sym c.as_slice-3.ensures) c.in_ok-holders.ensures.holders in
    let rounds : c.saturating_sub-rounds.result ≡ length D - 1 = omega (arith, c.saturating_sub-rounds.ensures, c.len.ensures, shapes_count p) in
    c.in_ok-needs_drop.ensures D are d ∙ needs_all D (is_marked c.in_ok-own.own) own c.saturating_sub-rounds.result d rounds
