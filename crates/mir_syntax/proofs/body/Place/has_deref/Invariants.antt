use Rattle.std.proofs.Common.{◌≡◌, drop}
use Rattle.mir_syntax.specs.Parts.{has_deref}
use Rattle.mir_syntax.proofs.body.Place.has_deref.Given as goal

abbrev pub invariant-loop-proj : goal.invariant-loop-proj
invariant-loop-proj l = has_deref l.self.proj ≡ has_deref (drop l.proj-index l.self.proj)
