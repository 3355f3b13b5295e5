use Rattle.std.proofs.Common.{refl, ◌<◌, ◌≡◌, ◌||◌, ℕ, ap, ap₂, ◌∙◌, Some, length, slice_get, sym, arith}
use Rattle.mir_syntax.specs.declared.types.Def.{Def}
use Rattle.mir_syntax.specs.Crate.{crate_of}
use Rattle.mir_syntax.specs.Shapes.{shapes_of}
use Rattle.std.proofs.lemmas.Option.{slice_get_read}
use Rattle.std.specs.List.{list_any}
use Rattle.mir_rules.specs.DefinitionRules.{holds_one}
use Rattle.drop_tables.specs.Marks.{is_marked, variant_marked}
use Rattle.drop_tables.proofs.Spreading.{def_marks, one_more_mark, all_marks}
use Rattle.drop_tables.proofs.marks.defs_holding.Goals as goal

pub loop-at-preserved : goal.loop-at-preserved
loop-at-preserved c =
    let p = c.args.program.now in
    let own = c.args.own.now in
    let marks = is_marked c.args.marks.now in
    let def = c.index-defs-at.result in
    let slice = c.as_slice-defs.result.now in
    let inside : c.loop-at.at < length slice = omega arith in
    let there : slice_get p.defs c.loop-at.at ≡ Some def = ap (λ l. slice_get l c.loop-at.at) (sym c.as_slice-defs.ensures) ∙ slice_get_read slice (length slice) c.loop-at.at def refl inside c.index-defs-at.is in
    let same = ap length c.as_slice-defs.ensures in
    let below : c.loop-at.at < length own = omega (arith, inside, same, c.requires.own) in
    let held = def_marks p marks c.in_ok-known.known c.loop-at.at def c.requires.ids c.in_ok-known.ensures there in
    let known : c.any_variant-holds.result ≡ holds_one marks (slice_get (shapes_of (crate_of p)) c.loop-at.at) =
    c.any_variant-holds.ensures ∙ (ap₂ (λ k v. list_any (variant_marked k) v) c.as_slice-in-loop-at.ensures (c.as_slice.ensures ∙ ap (λ (x : Def). x.variants) (sym c.index-defs-at.is)) ∙ held) in
    one_more_mark c.loop-at.held c.push.new.self c.loop-at.at (λ (d : ℕ). is_marked own d || holds_one marks (slice_get (shapes_of (crate_of p)) d)) c.either.result
    c.in_ok-push.ensures.ok c.loop-at.invariant.0 c.loop-at.invariant.1 (c.either.ensures ∙ ap₂ (λ a b. a || b) refl known)

pub returns-clause-marks : goal.returns-clause-marks
returns-clause-marks c =
    let p = c.args.program.now in
    let same = ap length c.as_slice-defs.ensures in
    let all : c.loop-at.at ≡ length p.defs = omega (arith, same) in
    all_marks p c.args.own.now c.loop-at.held (is_marked c.args.marks.now) c.requires.own (c.loop-at.invariant.0 ∙ all) (λ d h. c.loop-at.invariant.1 d (omega (arith, all, h)))
