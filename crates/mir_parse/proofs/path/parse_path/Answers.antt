use Rattle.mir_text.specs.GrammarTypes.{path_put}
use Rattle.mir_tree.specs.Types.{path_rule, path_text}
use Rattle.mir_tree.proofs.TypesBack.{path-back}
use Rattle.mir_parse.specs.Promises.{NoColons}
use Rattle.mir_parse.specs.Paths.{path}
use Rattle.mir_parse.proofs.Laws.{derives, refuses}
use Rattle.mir_parse.proofs.PathsRead.{PathGood, path-complete, path-sound}
use Rattle.mir_parse.proofs.path.parse_path.Goals as goal

pub returns-clause-derives : goal.returns-clause-derives
returns-clause-derives c = derives path_put path_text path_rule PathGood path-back path path-sound (λ f. (f.0, f.1.now)) c.args.symbols.now c.read_path.result c.read_path.ensures.read

pub returns-clause-refuses : goal.returns-clause-refuses
returns-clause-refuses c =
    refuses path_put path_text PathGood NoColons path (λ q rest good e. path-complete q rest e) (λ f. (f.0, f.1.now)) c.args.symbols.now c.read_path.result c.read_path.ensures.read
