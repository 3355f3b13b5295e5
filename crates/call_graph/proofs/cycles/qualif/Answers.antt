use Rattle.std.proofs.Common.{sym, ap, ap₂, ◌∙◌, Bool, not, ◌&&◌, List, map}
use Rattle.std.specs.List.{list_all}
use Rattle.mir_syntax.specs.declared.body.Block.{Block}
use Rattle.mir_cfg.specs.Paths.{block_term, terms_of}
use Rattle.call_graph.specs.Qualif.{is_plain, has_cycle, qualifies}
use Rattle.call_graph.proofs.cycles.qualif.Goals as goal

pub returns-then-not-all_plain : goal.returns-then-not-all_plain
unfolding qualifies
returns-then-not-all_plain c =
    ap (λ (b : Bool). b && not (has_cycle (terms_of c.args.body.now))) (sym c.if-not-all_plain.true ∙ c.all_plain.ensures ∙ ap (λ (bs : List Block). list_all is_plain (map block_term bs)) c.as_slice.ensures)

pub returns : goal.returns
unfolding qualifies
returns c =
    ap₂ (λ (a b : Bool). a && not b) (sym c.if-not-all_plain.false ∙ c.all_plain.ensures ∙ ap (λ (bs : List Block). list_all is_plain (map block_term bs)) c.as_slice.ensures) c.in_ok-has_cycle.ensures
