use Rattle.mir_text.specs.GrammarTerms.{block_put}
use Rattle.mir_text.specs.Nesting.{BlockGood}
use Rattle.mir_tree.specs.Bodies.{lined_block}
use Rattle.mir_tree.specs.Rules.{block_rule}
use Rattle.mir_parse.specs.Promises.{Any}
use Rattle.mir_parse.specs.Lines.{block_at}
use Rattle.mir_parse.proofs.BlocksRead.{block_text, block-back, block-complete, block-sound, right_lines}
use Rattle.mir_parse.proofs.Laws.{derives, refuses}
use Rattle.mir_parse.proofs.block.parse_block.Goals as goal

pub returns-clause-derives : goal.returns-clause-derives
returns-clause-derives c =
    let lines = c.args.lines.now in
    derives block_put (block_text lines) (λ b. block_rule (lined_block b)) BlockGood (block-back lines) (block_at lines) (block-sound lines) (λ f. (f.0, f.1.now)) c.args.symbols.now c.read_block.result c.read_block.ensures.read

pub returns-clause-refuses : goal.returns-clause-refuses
returns-clause-refuses c =
    let lines = c.args.lines.now in
    refuses block_put (block_text lines) BlockGood Any (block_at lines) (λ b rest good follows. block-complete lines b rest good) (λ f. (f.0, f.1.now)) c.args.symbols.now c.read_block.result c.read_block.ensures.read

pub returns-clause-on_lines : goal.returns-clause-on_lines
returns-clause-on_lines c = right_lines c.args.lines.now (λ f. (f.0, f.1.now)) c.args.symbols.now c.read_block.result c.read_block.ensures.read
