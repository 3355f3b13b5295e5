use Rattle.std.proofs.Common.{◌≡◌, ◌<◌, [], ◌∷◌, sym, ap, ◌∙◌, length, set, Some, slice_get}
use Rattle.std.proofs.lemmas.Option.{slice_get-get_or}
use Rattle.std.proofs.lemmas.Simd.{length-zip2}
use lib.Lanes.{zip2}
use Rattle.bit_rows.specs.Rows.{row_at, and_not}
use Rattle.liveness.specs.Lattice.{row_long}
use Rattle.move_paths.proofs.flow.StatusFlowAnalysis.flow.Goals as goal

pub or_other-requires-clause-same_bits : goal.or_other-requires-clause-same_bits
or_other-requires-clause-same_bits c =
    let a = c.args.self.now in
    let e = c.in-Some.edge.now in
    let low : c.args.edge < length a.edges.now = c.in-Some.ensures.lookup.3.0 in
    let found : slice_get a.edges.now c.args.edge ≡ Some e = slice_get-get_or a.edges.now c.args.edge e low ∙ ap Some (sym c.in-Some.ensures.lookup.1) in
    let from_in : e.from < a.blocks = a.sized.starts c.args.edge e found in
    let row = row_at c.args.fact.now 0 in
    let copied : c.copy_other.new.self ≡ row ∷ [] = c.copy_other.ensures.row ∙ ap (λ t. set t 0 row) c.in_ok-row.ensures in
    let kill = row_at a.kills.now e.from in
    let cut : c.minus_other.new.self ≡ zip2 and_not row kill ∷ [] = c.minus_other.ensures.row ∙ ap (λ t. set t 0 (zip2 and_not (row_at t 0) kill)) copied in
    let long : length row ≡ a.bits = row_long a.bits c.args.fact.now c.requires in
    ap (λ t. length (row_at t 0)) cut
    ∙ length-zip2 and_not row kill (long ∙ sym (a.sized.kills_size.bits_is e.from from_in))
    ∙ long ∙ sym (a.sized.gens_size.bits_is e.from from_in)
