use Rattle.std.proofs.Common.{map, arith}
use Rattle.mir_print.specs.Seen.{crate_in}
use Rattle.mir_syntax.specs.Tree.{trees_of}
use Rattle.mir_syntax.specs.Crate.{variant_of}
use Rattle.mir_print.proofs.Texts.{opened}
use Rattle.mir_print.proofs.Printing.{goes_then}
use Rattle.mir_text.specs.Text.{variants_text}
use Rattle.mir_print.proofs.items.put_variants.Goals as goal

pub returns-in-len1-up : goal.returns-in-len1-up
unfolding variants_text
returns-in-len1-up g c =
    opened (λ xs. variants_text (crate_in c.args.program.now) (map (variant_of (trees_of c.args.program.now.types)) xs)) c.args.variants.now c.first-item.result (omega (arith, c.in-len1-up.len_at_least)) c.first-item.is (goes_then c.put-in-len1-up.ensures (goes_then c.put_variant.ensures (goes_then c.put_more_variants.ensures c.put-in-len1-up-2.ensures)))
