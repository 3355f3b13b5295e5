use Rattle.std.proofs.Common.{refl}
use Rattle.mir_meaning.specs.Views.{value_of, address}
use Rattle.mir_meaning.proofs.Memories.{write_none, write_at}
use Rattle.mir_meaning.proofs.memory.Memory.write.Goals as goal

pub returns-in_default : goal.returns-in_default
returns-in_default c =
    write_none c.args.self.now.stores c.as_mut_slice-stores.result.now (address c.args.frame c.args.local c.args.path.now) (value_of c.args.value) c.as_mut_slice-stores.ensures.value c.in_default.ensures.found

pub returns : goal.returns
returns c =
    write_at c.args.self.now.stores c.as_mut_slice-stores.result.now (address c.args.frame c.args.local c.args.path.now) (value_of c.args.value) c.in-Some.at c.index-stores-at.result
    (record { frame = _; slots = c.change.new.slots }) c.as_mut_slice-stores.ensures.value c.in-Some.ensures.found refl c.change.ensures
