use Rattle.std.proofs.Common.{◌≡◌, ◌<◌, ℕ, Bool, List, [], sym, ap, ◌∙◌, subst, map, length, Some, slice_get, IsTrue, ◌↔◌, arith}
use Rattle.std.specs.List.{All}
use Rattle.std.proofs.lemmas.Result.{IfOk-weaker}
use Rattle.mir_syntax.specs.Tree.{Tree}
use Rattle.mir_syntax.specs.Crate.{body_of}
use Rattle.mir_syntax.specs.declared.body.Place.{Place}
use Rattle.bit_rows.specs.Rows.{row_at, flag, HasSize}
use Rattle.flow_engine.specs.declared.edges.Edge.{Edge}
use Rattle.move_paths.specs.Inits.{Comes}
use Rattle.move_paths.specs.Facts.{IsSized}
use Rattle.move_paths.proofs.Whole.{LeastAt, least_moved, sized, inside, all_long, all_sized, table_size, table_comes}
use Rattle.move_paths.proofs.rows.may_have.Goals as goal

pub invariant_of-flow : goal.invariant_of-flow
invariant_of-flow c =
    let body = c.args.body.now in
    let us = c.args.units.now.places in
    let edges = c.args.edges.now in
    let made = sized [] body us c.requires.closed c.args.status edges c.in_ok-first.first c.args.gens.now c.args.kills.now (c.requires.edges []) c.in_ok-first.ensures (c.requires.gens []) (c.requires.kills []) in
    record { sized = subst (λ n. IsSized n c.len-bits.result edges c.in_ok-first.first c.args.gens.now c.args.kills.now) (sym c.len-blocks.ensures) (subst (λ n. IsSized (length body.blocks) n edges c.in_ok-first.first c.args.gens.now c.args.kills.now) (sym c.len-bits.ensures) made) }

pub solve-requires : goal.solve-requires
solve-requires c =
    let body = c.args.body.now in
    let us = c.args.units.now.places in
    let edges = c.args.edges.now in
    let all = inside [] body us c.requires.closed c.args.status edges c.in_ok-first.first c.args.gens.now c.args.kills.now (c.requires.edges []) c.in_ok-first.ensures (c.requires.gens []) (c.requires.kills []) in
    subst (λ n. All (λ (e : Edge). (e.from < n) × (e.to < n)) edges) (sym c.len-blocks.ensures) all

pub one_table-requires-clause-few : goal.one_table-requires-clause-few
one_table-requires-clause-few c =
    let body = c.args.body.now in
    let us = c.args.units.now.places in
    let edges = c.args.edges.now in
    let facts = c.in_ok-facts.facts in
    let least : LeastAt (length body.blocks) (length us) edges edges c.in_ok-first.first c.args.gens.now c.args.kills.now facts = least_moved c.len-blocks.result (length body.blocks) c.len-bits.result (length us) edges c.in_ok-first.first c.args.gens.now c.args.kills.now facts c.len-blocks.ensures c.len-bits.ensures c.in_ok-facts.ensures in
    let long = all_long [] body us c.requires.closed c.args.status edges c.in_ok-first.first c.args.gens.now c.args.kills.now (c.requires.edges []) c.in_ok-first.ensures (c.requires.gens []) (c.requires.kills []) facts least in
    let same = ap length c.as_slice.ensures in
    omega (arith, c.requires.few_blocks)

pub one_table-requires-clause-sizes : goal.one_table-requires-clause-sizes
one_table-requires-clause-sizes c =
    let body = c.args.body.now in
    let us = c.args.units.now.places in
    let edges = c.args.edges.now in
    let facts = c.in_ok-facts.facts in
    let least : LeastAt (length body.blocks) (length us) edges edges c.in_ok-first.first c.args.gens.now c.args.kills.now facts = least_moved c.len-blocks.result (length body.blocks) c.len-bits.result (length us) edges c.in_ok-first.first c.args.gens.now c.args.kills.now facts c.len-blocks.ensures c.len-bits.ensures c.in_ok-facts.ensures in
    let all = all_sized [] body us c.requires.closed c.args.status edges c.in_ok-first.first c.args.gens.now c.args.kills.now (c.requires.edges []) c.in_ok-first.ensures (c.requires.gens []) (c.requires.kills []) facts least in
    subst (λ n. All (λ x. HasSize x 1 n) c.as_slice.result.now) (sym c.len-bits.ensures) (subst (λ (xs : List (List (List Bool))). All (λ x. HasSize x 1 (length us)) xs) (sym c.as_slice.ensures) all)

pub returns-clause-size : goal.returns-clause-size
returns-clause-size c =
    let body = c.args.body.now in
    let us = c.args.units.now.places in
    let edges = c.args.edges.now in
    let facts = c.in_ok-facts.facts in
    let least : LeastAt (length body.blocks) (length us) edges edges c.in_ok-first.first c.args.gens.now c.args.kills.now facts = least_moved c.len-blocks.result (length body.blocks) c.len-bits.result (length us) edges c.in_ok-first.first c.args.gens.now c.args.kills.now facts c.len-blocks.ensures c.len-bits.ensures c.in_ok-facts.ensures in
    IfOk-weaker c.one_table.result (λ table. table ≡ map (λ row. row_at row 0) c.as_slice.result.now) (λ table. HasSize table (length body.blocks) (length us)) (λ table e. table_size [] body us c.requires.closed c.args.status edges c.in_ok-first.first c.args.gens.now c.args.kills.now (c.requires.edges []) c.in_ok-first.ensures (c.requires.gens []) (c.requires.kills []) facts least table (e ∙ ap (map (λ row. row_at row 0)) c.as_slice.ensures)) c.one_table.ensures

pub returns-clause-comes : goal.returns-clause-comes
returns-clause-comes c =
    let body = c.args.body.now in
    let us = c.args.units.now.places in
    let edges = c.args.edges.now in
    let facts = c.in_ok-facts.facts in
    let least : LeastAt (length body.blocks) (length us) edges edges c.in_ok-first.first c.args.gens.now c.args.kills.now facts = least_moved c.len-blocks.result (length body.blocks) c.len-bits.result (length us) edges c.in_ok-first.first c.args.gens.now c.args.kills.now facts c.len-blocks.ensures c.len-bits.ensures c.in_ok-facts.ensures in
    IfOk-weaker c.one_table.result (λ table. table ≡ map (λ row. row_at row 0) c.as_slice.result.now) (λ rows. (trees : List Tree) (i k : ℕ) (u : Place) → i < length body.blocks → slice_get us k ≡ Some u → IsTrue (flag rows i k) ↔ Comes (body_of trees body) u i c.args.status)
    (λ table e trees i k u l at. table_comes trees body us c.requires.closed c.args.status edges c.in_ok-first.first c.args.gens.now c.args.kills.now (c.requires.edges trees) c.in_ok-first.ensures (c.requires.gens trees) (c.requires.kills trees) facts least table (e ∙ ap (map (λ row. row_at row 0)) c.as_slice.ensures) i k u l at) c.one_table.ensures
