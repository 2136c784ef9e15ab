-- Beside specs/Connections: what only the functions of this room promise one another.
use Rattle.std.specs.Prelude.{ℕ, false, List, []}
use Rattle.ats_base.specs.Links.{LinkTold}
use Rattle.ats_wire.specs.Requests.{Question}
use Rattle.ats_wire.specs.Replies.{Answers, reply_bytes}
use Rattle.ats_wire.specs.Moving.{Moves}
use Rattle.ats_wire.specs.Inner.Moving.{IsCutOff}
use Rattle.ats_wire.specs.declared.reply.Reply.{Reply}

-- a reply to this body was written whole
abbrev pub IsReplied : (Question → Reply → Type 0) → LinkTold → LinkTold → List ℕ → Type 0
IsReplied gives before now body = (reply : Reply) × Answers gives body reply × Moves before now [] (reply_bytes reply) 0 false

-- a fault cut off the reply to this body before it was written whole
abbrev pub IsCutReply : (Question → Reply → Type 0) → LinkTold → LinkTold → List ℕ → Type 0
IsCutReply gives before now body = (reply : Reply) × Answers gives body reply × IsCutOff before now (reply_bytes reply)
