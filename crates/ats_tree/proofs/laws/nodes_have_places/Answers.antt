use Rattle.ats_tree.proofs.NodeLemmas.{node-some, node-only, node-fits}
use Rattle.ats_tree.proofs.laws.nodes_have_places.Goals as goal

pub returns-clause-some : goal.returns-clause-some
returns-clause-some c node = node-some node

pub returns-clause-only : goal.returns-clause-only
returns-clause-only c node depth turns is = node-only node depth turns is

pub returns-clause-fits : goal.returns-clause-fits
returns-clause-fits c node short = node-fits node short
