use Rattle.std.proofs.Common.{length, sym, ap, ◌∙◌}
use Rattle.std.specs.List.{list_all}
use Rattle.mir_syntax.specs.Table.{all_below}
use Rattle.mir_syntax.specs.Ids.{block_below}
use Rattle.mir_syntax.specs.Tree.{trees_of}
use Rattle.mir_syntax.specs.Crate.{crate_of}
use Rattle.mir_text.specs.NameFaults.{first_fault}
use Rattle.mir_rules.proofs.Lists.{and_true-right}
use Rattle.mir_validate.specs.Inside.{shapes, typed}
use Rattle.mir_rules.proofs.WholeParts.{formed_blocks}
use Rattle.mir_validate.proofs.FormedParts.{ready_blocks}
use Rattle.mir_validate.proofs.Located.{body_located}
use Rattle.mir_validate.proofs.inside.Inside.body_fault.Goals as goal

pub blocks_fault-requires-clause-formed : goal.blocks_fault-requires-clause-formed
blocks_fault-requires-clause-formed c =
    let p = c.args.self.now.program.now in
    let b = c.args.self.now.body.now in
    rw c.as_slice.ensures (ready_blocks (crate_of p) (typed p b) (trees_of p.types) b.blocks (formed_blocks (crate_of p) (typed p b) c.requires.formed))

pub blocks_fault-requires-clause-below : goal.blocks_fault-requires-clause-below
blocks_fault-requires-clause-below c =
    let n = length c.args.self.now.program.now.types in
    let b = c.args.self.now.body.now in
    rw c.as_slice.ensures (and_true-right (all_below n b.locals) (list_all (block_below n) b.blocks) c.args.self.now.locals)

pub returns : goal.returns
returns c = λ all f is fits.
    let p = c.args.self.now.program.now in
    let b = c.args.self.now.body.now in
    let found = rw (c.as_slice.ensures, c.as_slice-2.ensures) at c.in_ok-found.ensures in
    found ∙ ap first_fault (sym (body_located (crate_of p) (shapes p) (trees_of p.types) b all f c.args.lines.now is fits))
