-- The two laws of the parser.
use Rattle.mir_text.specs.Grammar.{AllItems}
use Rattle.mir_text.specs.Nesting.{VariantGood}
use Rattle.mir_tree.specs.Lists.{items_rule}
use Rattle.mir_tree.specs.Rules.{variant_rule}
use Rattle.mir_items.specs.Fields.{variants}
use Rattle.mir_items.proofs.FieldsRead.{VariantsPut, variant_text, variants_rule-back, variants-complete, variants-sound}
use Rattle.mir_parse.specs.Promises.{Any}
use Rattle.mir_parse.proofs.Laws.{derives, refuses, items_text}
use Rattle.mir_items.proofs.variant.parse_variants.Goals as goal

pub returns-clause-derives : goal.returns-clause-derives
returns-clause-derives c =
    derives VariantsPut (items_text variant_text) (items_rule variant_rule) (AllItems VariantGood) variants_rule-back variants variants-sound (λ f. (f.0, f.1.now)) c.args.symbols.now c.read_variants.result c.read_variants.ensures.read

pub returns-clause-refuses : goal.returns-clause-refuses
returns-clause-refuses c =
    refuses VariantsPut (items_text variant_text) (AllItems VariantGood) Any variants (λ r rest good follows. variants-complete r rest good) (λ f. (f.0, f.1.now)) c.args.symbols.now c.read_variants.result c.read_variants.ensures.read
