-- Beside specs/Links: what only the functions of this room promise one another.
use Rattle.std.specs.Prelude.{[], None, option_map}
use Rattle.ats_base.specs.Outside.{SinkTold}
use Rattle.ats_base.specs.Links.{LinkTold}

-- what a sink reports, in the form of a link whose input is empty
abbrev pub as_link : SinkTold → LinkTold
as_link sink = record {
  traffic = option_map (λ taken. record { address = None; read = []; rest = []; written = taken }) sink.taken;
  calls = sink.calls;
  faults = sink.faults;
  last_failed = sink.last_failed;
}
