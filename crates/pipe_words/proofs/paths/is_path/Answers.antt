use Rattle.std.proofs.Common.{◌++◌, ap, ◌∙◌, arith}
use Rattle.std.proofs.lemmas.Bool.Decides.{nat_tests}
use Rattle.pipe_words.proofs.FirstNames.{path_more, path_behind, path_ended, ends_there, no_path}
use Rattle.pipe_words.proofs.paths.is_path.Goals as goal

pub names-preserved : goal.names-preserved
names-preserved c =
    let some = c.in-Some.ensures.some in
    record {
      whole = λ p. c.names.invariant.whole (path_more c.names.rest.now some.0 c.in-Some-past_colons.more.now some.1 (some.2 ∙ ap (λ x. some.0 ++ x) c.in-Some-past_colons.ensures) p);
      left = λ t. path_behind c.names.rest.now c.in-Some.past.now c.in-Some-past_colons.more.now c.in-Some.ensures.all c.in-Some-past_colons.ensures (c.names.invariant.left t);
    }

pub returns-in-None : goal.returns-in-None
returns-in-None c =
    let some = c.in-Some.ensures.some in (
      λ h. c.names.invariant.whole (path_ended c.names.rest.now some.0 c.in-Some.past.now some.1 some.2 (grind (arith, nat_tests))),
      λ t. let e = ends_there c.names.rest.now c.in-Some.past.now c.in-Some.ensures.all c.in-None.ensures (c.names.invariant.left t) in grind (arith, nat_tests),
    )

pub returns : goal.returns
returns c = (λ h. absurd cc, λ t. absurd (no_path c.names.rest.now c.in_default.ensures.all (c.names.invariant.left t)))
