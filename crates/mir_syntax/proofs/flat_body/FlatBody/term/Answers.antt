use Rattle.std.proofs.Common.{◌≡◌, sym, ap, ◌∙◌, subst, length, get_or, Some, ◌<◌, arith}
use Rattle.mir_syntax.specs.declared.body.Body.{Body}
use Rattle.mir_syntax.specs.Flat.{term_at}
use Rattle.mir_syntax.proofs.Flat.{blocks_long, term_is}
use Rattle.mir_syntax.proofs.flat_body.FlatBody.term.Goals as goal

pub bounds-as_slice-block : goal.bounds-as_slice-block
bounds-as_slice-block c =
    let s = c.self.inside in
    let many = sym (blocks_long 0 s.ends s.terms s.stmts c.self.invariant.as_many) ∙ ap (λ (b : Body). length b.blocks) c.self.view_is in
    omega (arith, many, c.requires, c.self.invariant.as_many, ap length c.as_slice.ensures)

pub returns : goal.returns
returns c =
    let s = c.self.inside in
    let many = sym (blocks_long 0 s.ends s.terms s.stmts c.self.invariant.as_many) ∙ ap (λ (b : Body). length b.blocks) c.self.view_is in
    let t = c.index-as_slice-block.result in
    let within : c.args.block < length s.ends = omega (arith, many, c.requires) in
    subst (λ (b : Body). term_at b.blocks c.args.block ≡ Some t) c.self.view_is
    (term_is 0 c.args.block s.ends s.terms s.stmts t c.self.invariant.as_many within (c.index-as_slice-block.is ∙ ap (λ ts. get_or ts c.args.block t) c.as_slice.ensures))
