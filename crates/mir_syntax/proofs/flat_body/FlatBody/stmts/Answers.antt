use Rattle.std.proofs.Common.{sym, ap, ◌∙◌, ◌-◌, ◌<◌, length, get_or, take, drop, Some, arith}
use Rattle.mir_syntax.specs.declared.body.Body.{Body}
use Rattle.mir_syntax.specs.Flat.{start_of, stmts_at}
use Rattle.mir_syntax.proofs.Flat.{blocks_long, stmts_are, ends_within, starts_before}
use Rattle.mir_syntax.proofs.flat_body.FlatBody.stmts.Goals as goal

pub start-start-requires : goal.start-start-requires
start-start-requires c =
    let s = c.self.inside in
    let many = sym (blocks_long 0 s.ends s.terms s.stmts c.self.invariant.as_many) ∙ ap (λ (b : Body). length b.blocks) c.self.view_is in
    omega (arith, many, c.requires, ap length c.as_slice-ends.ensures)

pub bounds-ends-block : goal.bounds-ends-block
bounds-ends-block c =
    let s = c.self.inside in
    let many = sym (blocks_long 0 s.ends s.terms s.stmts c.self.invariant.as_many) ∙ ap (λ (b : Body). length b.blocks) c.self.view_is in
    omega (arith, many, c.requires, ap length c.as_slice-ends.ensures)

pub range-requires-clause-order : goal.range-requires-clause-order
range-requires-clause-order c =
    let s = c.self.inside in
    let many = sym (blocks_long 0 s.ends s.terms s.stmts c.self.invariant.as_many) ∙ ap (λ (b : Body). length b.blocks) c.self.view_is in
    let within : c.args.block < length s.ends = omega (arith, many, c.requires) in
    let start = c.start-start.ensures ∙ ap (λ ends. start_of 0 ends c.args.block) c.as_slice-ends.ensures in
    let end = ap (λ ends. get_or ends c.args.block 0) c.as_slice-ends.ensures in
    omega (arith, start, end, starts_before 0 (length s.stmts) c.args.block s.ends c.self.invariant.covers within)

pub range-requires-clause-within : goal.range-requires-clause-within
range-requires-clause-within c =
    let s = c.self.inside in
    let many = sym (blocks_long 0 s.ends s.terms s.stmts c.self.invariant.as_many) ∙ ap (λ (b : Body). length b.blocks) c.self.view_is in
    let within : c.args.block < length s.ends = omega (arith, many, c.requires) in
    let end = ap (λ ends. get_or ends c.args.block 0) c.as_slice-ends.ensures in
    omega (arith, end, ends_within 0 (length s.stmts) c.args.block s.ends c.self.invariant.covers within, ap length c.as_slice.ensures)

pub returns : goal.returns
returns c =
    let s = c.self.inside in
    let many = sym (blocks_long 0 s.ends s.terms s.stmts c.self.invariant.as_many) ∙ ap (λ (b : Body). length b.blocks) c.self.view_is in
    let within : c.args.block < length s.ends = omega (arith, many, c.requires) in
    let start = c.start-start.ensures ∙ ap (λ ends. start_of 0 ends c.args.block) c.as_slice-ends.ensures in
    let end = ap (λ ends. get_or ends c.args.block 0) c.as_slice-ends.ensures in
    ap (λ (b : Body). stmts_at b.blocks c.args.block) (sym c.self.view_is)
    ∙ stmts_are 0 c.args.block s.ends s.terms s.stmts c.self.invariant.as_many within
    ∙ ap Some (sym (c.range.ensures ∙ (λ i. take (end i - start i) (drop (start i) (c.as_slice.ensures i)))))
