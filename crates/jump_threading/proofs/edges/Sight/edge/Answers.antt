use Rattle.std.proofs.Common.{None, sym, ap, ◌∙◌, map, get_or, option_map}
use Rattle.std.specs.Option.{option_copied}
use Rattle.std.proofs.lemmas.Option.{slice_get-map}
use Rattle.mir_syntax.proofs.Lists.{map_there}
use Rattle.jump_threading.specs.Code.{text_in, block_in}
use Rattle.jump_threading.proofs.equal.Edges.{none_is, gone_is, stays_is, edge_is}
use Rattle.jump_threading.proofs.edges.Sight.edge.Goals as goal

pub returns-in_default : goal.returns-in_default
returns-in_default c =
    let s = c.args.self in
    none_is (text_in s) (map (block_in s) s.body.now.blocks) c.args.from (block_in s c.args.block.now) (get_or s.rows.now c.args.from None) (sym c.goes_through.ensures ∙ c.in_default.is)

pub returns-in_default-get : goal.returns-in_default-get
returns-in_default-get c =
    let s = c.args.self in
    gone_is (text_in s) (map (block_in s) s.body.now.blocks) c.args.from (block_in s c.args.block.now) (get_or s.rows.now c.args.from None) c.in-Some.through (sym c.goes_through.ensures ∙ c.in-Some.is) (slice_get-map (block_in s) s.body.now.blocks c.in-Some.through ∙ ap (option_map (block_in s)) (sym c.get.ensures ∙ ap option_copied c.in_default-get.is))

pub returns-in-Some-2 : goal.returns-in-Some-2
returns-in-Some-2 c =
    let s = c.args.self in
    edge_is (text_in s) (map (block_in s) s.body.now.blocks) c.args.from (block_in s c.args.block.now) (get_or s.rows.now c.args.from None) c.in-Some.through c.in-Some-2.to (block_in s c.in-Some-get.next.now) (sym c.goes_through.ensures ∙ c.in-Some.is) (map_there (block_in s) s.body.now.blocks c.in-Some.through c.in-Some-get.next.now (sym c.get.ensures ∙ ap option_copied c.in-Some-get.is)) (sym c.in_ok-to.ensures ∙ c.in-Some-2.is)

pub returns-in-None : goal.returns-in-None
returns-in-None c =
    let s = c.args.self in
    stays_is (text_in s) (map (block_in s) s.body.now.blocks) c.args.from (block_in s c.args.block.now) (get_or s.rows.now c.args.from None) c.in-Some.through (block_in s c.in-Some-get.next.now) (sym c.goes_through.ensures ∙ c.in-Some.is) (map_there (block_in s) s.body.now.blocks c.in-Some.through c.in-Some-get.next.now (sym c.get.ensures ∙ ap option_copied c.in-Some-get.is)) (sym c.in_ok-to.ensures ∙ c.in-None.is)
