use Rattle.std.proofs.Common.{sym, ap, ◌∙◌, length}
use Rattle.mir_syntax.specs.declared.body.Body.{Body}
use Rattle.mir_syntax.proofs.Flat.{blocks_long}
use Rattle.mir_syntax.proofs.flat_body.FlatBody.blocks.Goals as goal

pub returns : goal.returns
returns c =
    let s = c.self.inside in
    c.len.ensures ∙ sym (blocks_long 0 s.ends s.terms s.stmts c.self.invariant.as_many) ∙ ap (λ (b : Body). length b.blocks) c.self.view_is
