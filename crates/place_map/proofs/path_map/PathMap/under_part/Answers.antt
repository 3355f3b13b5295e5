use Rattle.std.proofs.Common.{◌≡◌, ◌≤◌, ap, ◌∙◌, sym, subst, List, length, rules}
use Rattle.std.proofs.lemmas.List.Sorted.{IsPartitionPoint-from_clause}
use Rattle.mir_syntax.specs.declared.body.Place.{Place}
use Rattle.place_map.specs.Order.{IsOrdered}
use Rattle.place_map.specs.Tracked.{beyond, SpansUnder}
use Rattle.place_map.proofs.Spans.{before, until, before_parted, until_parted, spans, spans_up}
use Rattle.place_map.proofs.path_map.PathMap.under_part.Goals as goal

pub returns-clause-spans : goal.returns-clause-spans
returns-clause-spans c =
    let places = c.as_slice-places.result.now in
    let p = beyond c.args.place.now c.args.way.now in
    let ordered : IsOrdered places = subst IsOrdered (sym c.as_slice-places.ensures) c.self.invariant in
    let from = IsPartitionPoint-from_clause (before p) places c.partition_point-from.result c.partition_point-from.ensures.partitioned (before_parted places ordered p) (λ a r q k. search rules) in
    let to = IsPartitionPoint-from_clause (until p) places c.partition_point-to.result c.partition_point-to.ensures.partitioned (until_parted places ordered p) (λ a r q k. search rules) in
    let same : places ≡ c.args.self.now = c.as_slice-places.ensures ∙ c.self.view_is in
    subst (λ (ps : List Place). SpansUnder ps p c.partition_point-from.result c.partition_point-to.result) same (spans places ordered p c.partition_point-from.result c.partition_point-to.result from to)

pub returns-clause-within : goal.returns-clause-within
returns-clause-within c =
    let places = c.as_slice-places.result.now in
    let p = beyond c.args.place.now c.args.way.now in
    let ordered : IsOrdered places = subst IsOrdered (sym c.as_slice-places.ensures) c.self.invariant in
    let from = IsPartitionPoint-from_clause (before p) places c.partition_point-from.result c.partition_point-from.ensures.partitioned (before_parted places ordered p) (λ a r q k. search rules) in
    let to = IsPartitionPoint-from_clause (until p) places c.partition_point-to.result c.partition_point-to.ensures.partitioned (until_parted places ordered p) (λ a r q k. search rules) in
    let same : length places ≡ length c.args.self.now = ap length (c.as_slice-places.ensures ∙ c.self.view_is) in (
      spans_up places ordered p c.partition_point-from.result c.partition_point-to.result from to c.partition_point-from.ensures.bound,
      subst (λ n. c.partition_point-to.result ≤ n) same c.partition_point-to.ensures.bound,
    )
