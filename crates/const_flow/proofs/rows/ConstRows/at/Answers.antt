use Rattle.std.proofs.Common.{◌≡◌, ℕ, List, Option, Some, None, sym, ap, ap₂, ◌∙◌, map, get_or}
use Rattle.std.proofs.lemmas.List.{get_or_default, get_or_past}
use Rattle.const_flow.specs.declared.cell.Cell.{Cell}
use Rattle.const_flow.specs.declared.cell.Cell.TheVariants.{Many}
use Rattle.const_flow.specs.Cells.{facts_of}
use Rattle.const_flow.specs.Compact.{reached_in}
use Rattle.const_flow.proofs.Starts.{told_some}
use Rattle.const_flow.proofs.rows.ConstRows.at.Goals as goal

pub returns-in-Some-get : goal.returns-in-Some-get
returns-in-Some-get c =
    let ps = c.self.inside.paths in
    let cells = c.in-Some.cells.now in
    let cell = c.in-Some-get.cell.now in
    let known : get_or c.args.self.now c.args.block None ≡ Some (facts_of ps cells) =
    ap (λ xs. get_or xs c.args.block None) (sym c.self.view_is) ∙ ap₂ (λ (ks : List Cell) (rows : List (Option ℕ)). get_or (map (reached_in ps ks) rows) c.args.block None) (sym c.as_slice.ensures) (sym c.as_slice-rows.ensures) ∙ c.in-Some.ensures.facts in
    let here : get_or cells c.args.path Many ≡ cell = get_or_default cells c.args.path Many cell c.in-Some-get.ensures.lookup.3.0 ∙ sym c.in-Some-get.ensures.lookup.1 in
    c.of.ensures ∙ told_some ps cells c.args.path cell (get_or c.args.self.now c.args.block None) c.in-Some.ensures.length known here

pub returns-in-None : goal.returns-in-None
returns-in-None c =
    let ps = c.self.inside.paths in
    let cells = c.in-Some.cells.now in
    let known : get_or c.args.self.now c.args.block None ≡ Some (facts_of ps cells) =
    ap (λ xs. get_or xs c.args.block None) (sym c.self.view_is) ∙ ap₂ (λ (ks : List Cell) (rows : List (Option ℕ)). get_or (map (reached_in ps ks) rows) c.args.block None) (sym c.as_slice.ensures) (sym c.as_slice-rows.ensures) ∙ c.in-Some.ensures.facts in
    told_some ps cells c.args.path Many (get_or c.args.self.now c.args.block None) c.in-Some.ensures.length known (get_or_past cells c.args.path Many c.in-None.ensures.lookup.3)
