use Rattle.std.proofs.Common.{List, None, sym, ap, ap₂, ◌∙◌, map, get_or, option_map}
use Rattle.mir_syntax.specs.declared.body.Stmt.{Stmt}
use Rattle.mir_syntax.specs.Crate.{stmt_of}
use Rattle.const_flow.specs.Facts.{after_all}
use Rattle.const_flow.specs.ConstAt.{Reached}
use Rattle.jump_threading.specs.Code.{text_in, trees_in, block_in, taken_at}
use Rattle.jump_threading.proofs.equal.Edges.{short_same, jump_is, no_jump}
use Rattle.jump_threading.proofs.edges.Sight.jump.Goals as goal

pub returns-then-not-is_short_switch : goal.returns-then-not-is_short_switch
returns-then-not-is_short_switch c =
    let s = c.args.self in
    let long = short_same (trees_in s) c.args.through.now ∙ sym c.is_short_switch.ensures ∙ c.if-not-is_short_switch.true in
    no_jump (text_in s) (block_in s c.args.block.now) (block_in s c.args.through.now) (get_or s.rows.now c.args.from None) long

pub returns : goal.returns
returns c =
    let s = c.args.self in
    let h = text_in s in
    let typed = stmt_of (trees_in s) in
    let walked = λ (ss : List Stmt) (x : Reached). option_map (after_all h (map typed ss)) x in
    let short = short_same (trees_in s) c.args.through.now ∙ sym c.is_short_switch.ensures ∙ c.if-not-is_short_switch.false in
    let one = c.in_ok-walk.ensures ∙ ap₂ walked c.as_slice.ensures c.in_ok-facts.ensures in
    let both = c.in_ok-walk-2.ensures ∙ ap₂ walked c.as_slice-2.ensures one in
    c.taken.ensures ∙ ap (λ x. taken_at x c.args.through.now.term) both ∙ jump_is h (block_in s c.args.block.now) (block_in s c.args.through.now) (get_or s.rows.now c.args.from None) short
