use Rattle.std.proofs.Common.{◌≡◌, length, ap, ◌∙◌, arith}
use Rattle.mir_syntax.specs.TypeIndex.{slot_of}
use Rattle.mir_syntax.proofs.TypeIndex.{link-read}
use Rattle.mir_syntax.proofs.type_index.TypeIndex.link.Goals as goal

pub returns-clause-index : goal.returns-clause-index
returns-clause-index c =
    let heads = c.args.self.now.heads.items in
    let long : c.len.result ≡ length heads = omega arith in
    link-read c.args.types.now heads c.args.self.now.next.items c.args.at c.index-types-at.result c.slot-slot.result c.index.result.now c.requires.within
    c.requires.room c.requires.index c.index-types-at.is (c.slot-slot.ensures ∙ ap (λ n. slot_of n c.index-types-at.result) long) c.index.ensures
