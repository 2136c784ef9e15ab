use Rattle.ats_wire.proofs.Spelled.{spelled_once, not_refused}
use Rattle.ats_wire.proofs.laws.requests_say_one_thing.Goals as goal

pub returns-clause-spells : goal.returns-clause-spells
returns-clause-spells c = spelled_once

pub returns-clause-asks : goal.returns-clause-asks
returns-clause-asks c = not_refused
