use Rattle.std.proofs.Common.{◌≡◌, drop}
use Rattle.mir_syntax.specs.Parts.{is_direct}
use Rattle.mir_syntax.proofs.body.Place.is_direct.Given as goal

abbrev pub invariant-loop-proj : goal.invariant-loop-proj
invariant-loop-proj l = is_direct l.self.proj ≡ is_direct (drop l.proj-index l.self.proj)
