use Rattle.ats_wire.proofs.OneWay.{end_once}
use Rattle.ats_wire.proofs.laws.connections_end_in_one_way.Goals as goal

pub returns : goal.returns
returns g c = end_once (g.A.Answerer.gives c.args._answerer.now)
