-- Links from a door, served one after another.
use Rattle.std.specs.Prelude.{◌≡◌, ◌≤◌, ◌+◌, ◌++◌, ◌∷◌, ℕ, Bool, true, List, [], length, take, fold, count_by, is_some, option_map, codes, decimal}
use Rattle.std.specs.List.{All}
use Rattle.ats_base.specs.Outside.{Rose, SinkTold}
use Rattle.ats_base.specs.Links.{LinkTold, Opening, DoorTold, IsNew, counted_broken, counting_accept, accepting_out, accepted_back}
use Rattle.ats_wire.specs.Requests.{Question}
use Rattle.ats_wire.specs.Connections.{IsServed, is_fault}
use Rattle.ats_wire.specs.declared.reply.Reply.{Reply}
use Rattle.ats_wire.specs.declared.serving.Served.{Served}
use Rattle.ats_wire.specs.declared.serving.ConnectionEnd.{ConnectionEnd}
use Rattle.ats_wire.specs.declared.serving.ConnectionEnd.TheVariants.{Ended, CutFrame, BadFrame, RequestLimit, ReadFault, WriteFault}

-- A session: what a link reported when it was accepted and when it was given back, and how it was served.
pub record Session : Type 0 where
  pub came : LinkTold
  pub left : LinkTold
  pub served : Served

-- the link was new, and each of its frames was answered with one of these replies, in order, up to the end that
-- `served` has
pub record IsSession (gives : Question → Reply → Type 0) (must_tell : Bool) (session : Session) : Type 0 where
  pub new : IsNew must_tell session.came
  pub served : IsServed gives session.came session.left session.served

-- what a door that reports has reported after a session: its link was accepted, and is back
abbrev pub after_session : Opening → Session → Opening
after_session opening session = accepted_back session.left (accepting_out opening)

-- the count of broken links after it
abbrev pub broken_after : ℕ → Session → ℕ
broken_after before session = counted_broken session.left.faults before

-- There were these sessions at the door, one after another, and nothing else.
pub record HadSessions (gives : Question → Reply → Type 0) (sessions : List Session)
    (before now : DoorTold) : Type 0 where
  pub each : All (IsSession gives (is_some before.content)) sessions
  pub content : now.content ≡ option_map (λ opening. fold after_session opening sessions) before.content
  pub broken : now.broken ≡ fold broken_after before.broken sessions
  pub same : now.faults ≡ before.faults

-- One call of `accept` failed, and there was no other call on the door.
pub record FailedToAccept (before now : DoorTold) : Type 0 where
  pub content : now.content ≡ option_map counting_accept before.content
  pub broken : now.broken ≡ before.broken
  pub cause : Rose before.faults now.faults
  pub later : before.faults ≤ now.faults
  pub last : now.last_failed ≡ true

-- how many sessions ended by a fault
abbrev pub faults_of : List Session → ℕ
faults_of sessions = count_by (λ session. is_fault session.served.end) sessions

abbrev pub end_word : ConnectionEnd → List ℕ
end_word Ended = codes "end"
end_word (CutFrame left) = codes "cut"
end_word (BadFrame n) = codes "bad"
end_word RequestLimit = codes "limit"
end_word ReadFault = codes "fault"
end_word WriteFault = codes "fault"

-- connection I requests K END
abbrev pub line_of_session : ℕ → Served → List ℕ
line_of_session number served =
    codes "connection " ++ (decimal number ++ (codes " requests " ++ (decimal served.requests
    ++ (codes " " ++ (end_word served.end ++ codes "\n")))))

-- a line for each session, numbers from this one on
abbrev pub session_lines_from : ℕ → List Session → List ℕ
session_lines_from number [] = []
session_lines_from number (session ∷ sessions) = line_of_session number session.served
    ++ session_lines_from (number + 1) sessions

abbrev pub session_lines : List Session → List ℕ
session_lines sessions = session_lines_from 1 sessions

-- the sink took the text, if it reports, and did not fail
pub record Took (before now : SinkTold) (text : List ℕ) : Type 0 where
  pub all : now.taken ≡ option_map (λ taken. taken ++ text) before.taken
  pub same : now.faults ≡ before.faults

-- the sink took the former text, if it reports, and failed after a prefix of this one, once and in its last call
pub record FailedToTake (before now : SinkTold) (former text : List ℕ) : Type 0 where
  pub n : ℕ
  pub within : n ≤ length text
  pub part : now.taken ≡ option_map (λ taken. taken ++ (former ++ take n text)) before.taken
  pub cause : Rose before.faults now.faults
  pub later : before.faults ≤ now.faults
  pub last : now.last_failed ≡ true
