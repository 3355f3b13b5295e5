use Rattle.pipe_words.proofs.Tokens.{found_is}
use Rattle.pipe_words.proofs.paths.past_name.Goals as goal

pub returns-then-is_name-clause-all : goal.returns-then-is_name-clause-all
returns-then-is_name-clause-all c = λ n rest is clear e. (found_is c.args.text.now c.in-Ok.found c.in-Ok.rest.now n rest c.in-Ok.ensures.read is clear e).1

pub returns-else-is_name-clause-all : goal.returns-else-is_name-clause-all
returns-else-is_name-clause-all c = λ n rest is clear e.
    let h = (found_is c.args.text.now c.in-Ok.found c.in-Ok.rest.now n rest c.in-Ok.ensures.read is clear e).0 in absurd cc
