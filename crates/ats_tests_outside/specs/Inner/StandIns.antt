-- What the calls report that stand for those of std.
use Rattle.std.specs.Prelude.{List, Option, option_map, map}
use Rattle.ats_base.specs.Outside.{Ask}
use Rattle.ats_base.specs.Links.{LinkTold}
use Rattle.ats_base.specs.MemoryLinks.{LinkState, told_link}
use Rattle.ats_base.specs.declared.outside.FileCall.{FileCall as ShelfCall}
use Rattle.ats_base.specs.declared.outside.FileCall.TheVariants.{Read as ShelfRead, Start as ShelfStart, Append as ShelfAppend}
use Rattle.ats_outside.specs.declared.counts.Counts.{Counts}
use Rattle.ats_tests_outside.specs.declared.reports.FileCall.{FileCall}
use Rattle.ats_tests_outside.specs.declared.reports.FileCall.TheVariants.{Read, Start, Append}
use Rattle.ats_tests_outside.specs.declared.reports.Asks.{Asks}
use Rattle.ats_tests_outside.specs.declared.reports.Closed.{Closed}

abbrev pub call_of : FileCall → ShelfCall
call_of (Read from) = ShelfRead from
call_of Start = ShelfStart
call_of Append = ShelfAppend

abbrev pub told_asks : Asks → Option (List Ask)
told_asks asks = option_map (λ all. map (λ asked. record { name = asked.name; call = call_of asked.call }) all.items) asks.all

abbrev pub told_with : LinkState → Counts → LinkTold
told_with link counts = record {
  traffic = (told_link link).traffic;
  calls = counts.calls;
  faults = counts.faults.count;
  last_failed = counts.faults.last_failed;
}

abbrev pub told_closed : Closed → LinkTold
told_closed closed = told_with closed.link closed.counts
