use Rattle.std.proofs.Common.{◌-◌, length, take, drop, arith}
use Rattle.pipe_words.proofs.NumberLists.{no_number, front_is}
use Rattle.pipe_words.proofs.numbers.read_number.Goals as goal

pub returns-in-None : goal.returns-in-None
returns-in-None c = λ n range e.
    no_number c.args.text.now (take (length c.args.text.now - 1) (drop 1 c.args.text.now)) n (front_is c.args.text.now 45 c.in-45.len_at_least (omega arith)) c.in-None.ensures range e
