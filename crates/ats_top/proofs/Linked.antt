-- What follows if serving stopped.
use Rattle.std.proofs.Common.{◌≡◌, ◌⊎◌, ◌<◌, ℕ, List, refl, inl, inr, arith, is_some}
use Rattle.ats_base.specs.Links.{DoorTold}
use Rattle.ats_console.specs.Words.{ServeWords}
use Rattle.ats_plan.specs.Files.{Files}
use Rattle.ats_top.specs.Inner.Outcome.{HasLine}
use Rattle.ats_console.specs.Stops.{status_of_stop}
use Rattle.ats_top.specs.Answering.{gives}
use Rattle.ats_top.specs.Served.{AreAllServed, ServingStop}
use Rattle.ats_top.specs.Run.{HasRisen, DoorFailed}
use Rattle.ats_console.specs.declared.stops.Stop.{Stop}
use Rattle.ats_console.specs.declared.stops.Stop.TheVariants.{Memory, Link, Faults}
use Rattle.ats_top.proofs.Opened.{faults_rise}

module _ (H : List ℕ → List ℕ) (files : Files) (words : ServeWords) (before now : DoorTold) (text : List ℕ) where
  -- if links ended by a fault, the door's count of broken links rose
  broken_rose : (count : ℕ) → 0 < count → AreAllServed H files words before now count text → HasRisen before.broken now.broken
  broken_rose count some all =
      let had = all.served.had in
      let risen = faults_rise (gives H all.served.archive) (is_some all.served.opened.content) all.sessions all.served.opened.broken had.each (omega (arith, some, all.faults_are)) in
      omega (arith, risen, had.broken, all.served.listened.broken)

  -- the status is that of out of memory, or of the door's fault
  pub serving_status : (stop : Stop) → ServingStop H files words before now text stop → (status_of_stop stop ≡ 6) ⊎ DoorFailed before now (status_of_stop stop)
  serving_status Link (inl shut) = inr (inl (refl, shut.failed.cause))
  serving_status Link (inr broken) =
      inr (inl (refl, rw (← broken.served.listened.same, ← broken.served.had.same) broken.failed.cause))
  serving_status (Faults count) (some, all) = inr (inr (refl, broken_rose count some all))
  serving_status Memory unmade = inl refl
  serving_status other stops = absurd stops

  -- if memory for the line of a stop runs out, the stop is out of memory
  pub serving_line : (stop : Stop) → HasLine stop → ServingStop H files words before now text stop → ServingStop H files words before now text Memory
  serving_line (Faults count) has (some, all) =
      record { sessions = all.sessions; told = all.sessions; served = all.served; but_last = inl refl; printed = all.printed }
  serving_line Link has stops = absurd has
  serving_line Memory has stops = absurd has
  serving_line other has stops = absurd stops
