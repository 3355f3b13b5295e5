use Rattle.std.proofs.Common.{◌∙◌}
use Rattle.mir_resolve.proofs.PathBytes.{path_ended, path_after_bytes}
use Rattle.mir_resolve.proofs.paths.put_names.Goals as goal

pub returns : goal.returns
returns c =
    path_ended c.args.strings.now c.names.buffer c.names.left.now _ c.in_default.len_below
    (c.names.invariant ∙ path_after_bytes c.args.strings.now c.args.first c.args.rest.now)
