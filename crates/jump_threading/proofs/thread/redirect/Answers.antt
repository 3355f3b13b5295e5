use Rattle.std.proofs.Common.{◌≡◌, ◌+◌, ◌<◌, suc, sym, ap, ◌∙◌, take, length, get_or, arith}
use Rattle.jump_threading.specs.declared.thread.Edge.{Edge}
use Rattle.jump_threading.specs.Code.{bare_link, bare_redirected}
use Rattle.jump_threading.proofs.equal.Redirects.{bare_more}
use Rattle.jump_threading.proofs.thread.redirect.Goals as goal

pub loop-at-preserved : goal.loop-at-preserved
loop-at-preserved c =
    let es = c.args.edges.now in
    let i = c.loop-at.at in
    let d : Edge = record { from = 0; through = 0; to = 0 } in
    let lt : i < length es = omega arith in
    let more = bare_more c.args.blocks.now c.args.first i es d lt in
    c.link.ensures ∙ ap (λ ks. bare_link ks (get_or es i d).from (c.args.first + i)) c.loop-at.invariant ∙ sym more ∙ ap (λ n. bare_redirected c.args.blocks.now c.args.first (take n es)) (let z : suc i ≡ i + 1 = omega arith in z)
