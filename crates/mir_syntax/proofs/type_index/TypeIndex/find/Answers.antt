use Rattle.std.proofs.Common.{◌≡◌, ◌<◌, length, sym, ◌∙◌, arith}
use Rattle.std.proofs.lemmas.Bool.{false≢true}
use Rattle.mir_syntax.proofs.TypeIndex.{first-read, here-read, next-falls, next-read}
use Rattle.mir_syntax.proofs.type_index.TypeIndex.find.Goals as goal

pub loop-link-init : goal.loop-link-init
loop-link-init c =
    let heads = c.args.self.now.heads.items in
    let full : 0 < length heads = omega arith in
    let long : c.len-2.result ≡ length heads = omega arith in
    first-read c.args.types.now heads c.args.self.now.next.items c.args.ty.now c.index-link.result.now c.requires.index full (cc)

pub returns-then-same_type : goal.returns-then-same_type
returns-then-same_type c =
    here-read c.args.types.now (length c.args.self.now.heads.items) c.args.ty.now c.loop-link.link c.index-types-at.result c.loop-link.invariant c.loop-link-test.true
    c.index-types-at.is (c.same_type.ensures.0 c.if-same_type.true)

pub loop-link-smaller : goal.loop-link-smaller
loop-link-smaller c =
    let s = c.args.self.now in
    next-falls c.args.types.now s.heads.items s.next.items c.args.ty.now c.loop-link.link c.index-link-in-loop-link.result.now c.requires.index c.loop-link.invariant
    c.loop-link-test.true c.index-link-in-loop-link.ensures

pub loop-link-preserved : goal.loop-link-preserved
loop-link-preserved c =
    let s = c.args.self.now in
    next-read c.args.types.now s.heads.items s.next.items c.args.ty.now c.loop-link.link c.index-types-at.result c.index-link-in-loop-link.result.now c.requires.index
    c.loop-link.invariant c.loop-link-test.true c.index-types-at.is (λ same. false≢true (sym c.if-same_type.false ∙ c.same_type.ensures.1 same)) c.index-link-in-loop-link.ensures
