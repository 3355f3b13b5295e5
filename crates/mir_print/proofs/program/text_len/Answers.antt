use Rattle.std.proofs.Common.{arith, ◌≡◌, ◌∙◌}
use Rattle.mir_syntax.specs.Crate.{crate_of}
use Rattle.mir_text.specs.Text.{text}
use Rattle.mir_print.specs.Seen.{crate_in}
use Rattle.mir_print.specs.Prints.{counted}
use Rattle.mir_print.proofs.Printing.{goes_counted}
use Rattle.mir_print.proofs.program.text_len.Goals as goal

pub returns : goal.returns
unfolding crate_in
returns c =
    let counts : c.count.result ≡ counted 0 (text (crate_of c.args.program.now)) = c.count.ensures ∙ goes_counted c.new-output.ensures c.put_program.ensures in
    omega (arith, counts)
