-- What is printed of a stop, and after links were served.
use Rattle.std.specs.Prelude.{◌≡◌, ◌⊎◌, ◌<◌, ℕ, List, [], Result, Ok, Err}
use Rattle.ats_base.specs.Outside.{SinkTold}
use Rattle.ats_top.specs.declared.serving.Halt.{Halt}
use Rattle.ats_top.specs.declared.serving.Halt.TheVariants.{Door, Sink, Memory}
use Rattle.ats_console.specs.declared.stops.Stop.TheVariants as stop
use Rattle.ats_console.specs.Stops.{status_of_stop, text_of_stop}
use Rattle.ats_console.specs.declared.stops.Stop.{Stop}
use Rattle.ats_console.specs.declared.stops.Stop.TheVariants.{Memory, Input, Rejected, Link, Peer, Faults, Collision}
use Rattle.ats_top.specs.Run.{Prints}

-- the text is a line that needs memory
abbrev pub HasLine : Stop → Type 0
HasLine (Input line) = Unit {0}
HasLine (Rejected line) = Unit {0}
HasLine (Peer line) = Unit {0}
HasLine (Faults count) = Unit {0}
HasLine (Collision lines) = Unit {0}
HasLine _ = ⊥

-- the sink took the text of this stop, and its status is returned; or the same for out of memory, if memory for its
-- line ran out
abbrev pub PrintsStop : (before now : SinkTold) → Stop → (result : ℕ) → Type 0
PrintsStop before now stop result = Prints before now (status_of_stop stop) [] (text_of_stop stop) result
    ⊎ (HasLine stop × Prints before now (status_of_stop Memory) [] (text_of_stop Memory) result)

-- the sink took the text of a command that is done, or that of its stop
abbrev pub PrintsAnswer : {T : Type 0} → (before now : SinkTold) → Result T Stop → (bytes_of : T → List ℕ) → (result : ℕ)
    → Type 0
PrintsAnswer before now (Ok text) bytes_of result = Prints before now 0 [] (bytes_of text) result
PrintsAnswer before now (Err stop) bytes_of result = PrintsStop before now stop result

-- nothing, if no link failed; the line of the stop; or nothing, to a sink that failed
abbrev pub PrintsOutcome : (before now : SinkTold) → Result ℕ Halt → (result : ℕ) → Type 0
PrintsOutcome before now (Ok faults) result =
    ((faults ≡ 0) × (result ≡ 0) × (now ≡ before)) ⊎ ((0 < faults) × PrintsStop before now (stop.Faults faults) result)
PrintsOutcome before now (Err Door) result = PrintsStop before now stop.Link result
PrintsOutcome before now (Err Memory) result = PrintsStop before now stop.Memory result
PrintsOutcome before now (Err Sink) result = (result ≡ 7) × (now ≡ before)
