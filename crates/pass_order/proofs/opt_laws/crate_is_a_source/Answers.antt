use Rattle.pass_order.proofs.compose.Inlined.{graph_is}
use Rattle.pass_order.proofs.compose.Sources.{is_source}
use Rattle.pass_order.proofs.opt_laws.crate_is_a_source.Goals as goal

pub returns-clause-graph : goal.returns-clause-graph
returns-clause-graph c = graph_is

pub returns-clause-source : goal.returns-clause-source
returns-clause-source c = is_source
