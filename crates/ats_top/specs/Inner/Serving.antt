-- The results of the steps of `serve`, after its index was loaded.
use Rattle.std.specs.Prelude.{◌≡◌, ◌<◌, ◌≤◌, ◌+◌, ◌++◌, ◌∷◌, ℕ, List, [], length, Result, Ok, Err, ◌⊎◌}
use Rattle.ats_base.specs.Outside.{SinkTold}
use Rattle.ats_base.specs.Links.{DoorTold}
use Rattle.ats_wire.specs.Requests.{Question}
use Rattle.ats_wire.specs.declared.reply.Reply.{Reply}
use Rattle.ats_top.specs.declared.serving.Halt.{Halt}
use Rattle.ats_top.specs.declared.serving.Halt.TheVariants.{Door, Sink, Memory}
use Rattle.ats_console.specs.Words.{ServeWords}
use Rattle.ats_plan.specs.Files.{Files}
use Rattle.ats_top.specs.Answering.{gives}
use Rattle.ats_top.specs.Serving.{Session, HadSessions, FailedToAccept, Took, FailedToTake, faults_of, line_of_session, session_lines}
use Rattle.ats_top.specs.Served.{AreAllServed, IsDoorBroken, IsDoorShut, IsLineUnmade, IsServingUnprinted}

-- What a door and a sink report of themselves.
pub record DoorAndSink : Type 0 where
  pub door : DoorTold
  pub sink : SinkTold

-- why the sink did not take the whole text: it failed, or memory for the text ran out
abbrev pub IsTextUnprinted : (before now : SinkTold) → List ℕ → Halt → Type 0
IsTextUnprinted before now text Door = ⊥
IsTextUnprinted before now text Sink = FailedToTake before now [] text
IsTextUnprinted before now text Memory = now ≡ before

-- How serving `connections` links ended after these sessions: all links were served, and `faults` of them ended by a
-- fault; or `accept` failed; or the sink did; or memory for the line of the last session ran out.
abbrev pub EndsServing : (Question → Reply → Type 0) → ℕ
    → (before now : DoorAndSink) → List Session → Result ℕ Halt → Type 0
EndsServing gives connections before now sessions (Ok faults) =
    (length sessions ≡ connections) × (faults ≡ faults_of sessions)
    × HadSessions gives sessions before.door now.door × Took before.sink now.sink (session_lines sessions)
EndsServing gives connections before now sessions (Err Door) =
    (length sessions < connections)
    × ((mid : DoorTold) × HadSessions gives sessions before.door mid × FailedToAccept mid now.door)
    × Took before.sink now.sink (session_lines sessions)
EndsServing gives connections before now sessions (Err Sink) =
    (length sessions ≤ connections) × HadSessions gives sessions before.door now.door
    × ((told : List Session) × (last : Session) × (sessions ≡ told ++ last ∷ [])
    × FailedToTake before.sink now.sink (session_lines told) (line_of_session (length told + 1) last.served))
EndsServing gives connections before now sessions (Err Memory) =
    (length sessions ≤ connections) × HadSessions gives sessions before.door now.door
    × ((told : List Session) × (last : Session) × (sessions ≡ told ++ last ∷ [])
    × Took before.sink now.sink (session_lines told))

abbrev pub ServesLinks : (Question → Reply → Type 0) → ℕ → (before now : DoorAndSink) → Result ℕ Halt → Type 0
ServesLinks gives connections before now result = (sessions : List Session)
    × EndsServing gives connections before now sessions result

-- The result of serving after the index was loaded: as many links as the words say were served; or the door failed, or
-- the sink; or memory for a line ran out.
abbrev pub ServesLinksOf : (List ℕ → List ℕ) → Files → ServeWords → (before now : DoorAndSink) → Result ℕ Halt → Type 0
ServesLinksOf H files words before now (Ok faults) =
    (text : List ℕ) × Took before.sink now.sink text × AreAllServed H files words before.door now.door faults text
ServesLinksOf H files words before now (Err Door) =
    (text : List ℕ) × Took before.sink now.sink text
    × (IsDoorShut H files words before.door now.door text ⊎ IsDoorBroken H files words before.door now.door text)
ServesLinksOf H files words before now (Err Sink) =
    (former : List ℕ) × (last : List ℕ) × FailedToTake before.sink now.sink former last
    × IsServingUnprinted H files words before.door now.door former last
ServesLinksOf H files words before now (Err Memory) =
    (text : List ℕ) × Took before.sink now.sink text × IsLineUnmade H files words before.door now.door text
