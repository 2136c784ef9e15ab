use Rattle.ats_wire.proofs.OneReply.{asked_once}
use Rattle.ats_wire.proofs.laws.replies_say_one_thing.Goals as goal

pub returns : goal.returns
returns c = asked_once
