-- How a command that is done or stopped ends.
use Rattle.std.proofs.Common.{◌≡◌, ◌≢◌, ◌⊎◌, ℕ, List, [], refl, sym, subst, inl, inr, Some, None, Result, Ok, Err, IfErr, append-nil}
use Rattle.std.specs.Prelude.{IfOk}
use Rattle.ats_base.specs.Outside.{ShelfTold, SinkTold}
use Rattle.ats_base.specs.Links.{CallerTold, DoorTold}
use Rattle.ats_plan.specs.Plan.{Refuses}
use Rattle.ats_plan.specs.Runs.{IsDone, IsStopped}
use Rattle.ats_plan.proofs.Public.{at_memory, stops_memory}
use Rattle.ats_console.specs.Words.{AskWords, Command, Ask, Serve, command_of}
use Rattle.ats_top.specs.Outside.{Outside}
use Rattle.ats_top.specs.Commands.{plan_of, ask_plan}
use Rattle.ats_top.specs.Asked.{IsReplyVerified}
use Rattle.ats_top.specs.Inner.Stops.{AskStop}
use Rattle.ats_top.specs.Serving.{Took, FailedToTake}
use Rattle.ats_console.specs.Stops.{Done, Stopped, status_of_stop, text_of_stop}
use Rattle.ats_top.specs.Inner.Conversation.{KeepsCallerCount}
use Rattle.ats_top.specs.Inner.Links.{UsesLinks}
use Rattle.ats_top.specs.Inner.Outcome.{HasLine, PrintsStop, PrintsAnswer}
use Rattle.ats_top.specs.Run.{LinksDone, PrintsLast, StoppedEarly, IsHalted, RunEnds, Prints, Ended}
use Rattle.ats_console.specs.declared.stops.Stop.{Stop}
use Rattle.ats_console.specs.declared.stops.Stop.TheVariants.{Usage, Shelf, Memory, Link}
use Rattle.ats_top.proofs.LinkEnds.{ask_done, links_memory}
use Rattle.ats_top.proofs.Sessions.{took_then, failed_then}

-- what is printed after a text that was taken is printed with it
prints_then : (before mid now : SinkTold) (status : ℕ) (text more : List ℕ) (result : ℕ) → Took before mid text
    → Prints mid now status [] more result → Prints before now status text more result
prints_then before mid now status text more result took (inl (not, is, all)) = inl (not, is, took_then before mid now text more took all)
prints_then before mid now status text more result took (inr (is, failed)) =
    inr (is, subst (λ (x : List ℕ). FailedToTake before now x more) (append-nil text) (failed_then before mid now text [] more took failed))

-- the stop has a line of its own
has_other : (stop : Stop) → HasLine stop → stop ≢ Shelf
has_other Shelf has same = has
has_other stop has same = absurd (cc)

has_said : (stop : Stop) → HasLine stop → stop ≢ Usage
has_said Usage has same = has
has_said stop has same = absurd (cc)

module _ (H : List ℕ → List ℕ) (said : List (List ℕ)) (before now : Outside) where
  -- a stop for out of memory in place of one that has a line
  memory_early : (command : Command) (text : List ℕ) (stop : Stop) → stop ≢ Shelf → StoppedEarly H before now command text stop
      → StoppedEarly H before now command text Memory
  memory_early command text stop other early = record {
    plan = record { so = stops_memory Shelf Memory (plan_of H command) before.shelf now.shelf stop early.plan.so other };
    silent = early.silent;
    door = early.door;
  }

  halted_memory : (command : Command) (text : List ℕ) (stop : Stop) → HasLine stop → IsHalted H before now command text stop → IsHalted H before now command text Memory
  halted_memory command text stop has (inl early) = inl (memory_early command text stop (has_other stop has) early)
  halted_memory command text stop has (inr late) = inr (record { plan = late.plan; links = links_memory H before now command text stop has late.links })

  -- if memory for the line of a stop runs out, the stop is out of memory
  pub no_line : (text : List ℕ) (stop : Stop) → HasLine stop → RunEnds H before now said (Stopped text stop) → RunEnds H before now said (Stopped text Memory)
  no_line text stop has (inl unsaid) = absurd (has_said stop has unsaid.usage)
  no_line text stop has (inr (command, is, halted)) = inr (command, is, halted_memory command text stop has halted)

  -- a command that stopped before it printed, and whose stop was then printed
  pub stop_ended : (stop : Stop) (result : ℕ) → RunEnds H before now said (Stopped [] stop) → PrintsStop before.sink now.sink stop result → Ended H said before now result
  stop_ended stop result ends (inl prints) = record { end = Stopped [] stop; ends = ends; prints = prints }
  stop_ended stop result ends (inr (has, prints)) = record { end = Stopped [] Memory; ends = no_line [] stop has ends; prints = prints }

  -- a command that stopped after this text, which was taken, and whose stop was then printed
  pub stopped_after : (text : List ℕ) (mid : SinkTold) (stop : Stop) (result : ℕ) → Took before.sink mid text
      → RunEnds H before now said (Stopped text stop) → PrintsStop mid now.sink stop result → Ended H said before now result
  stopped_after text mid stop result took ends (inl prints) = record {
    end = Stopped text stop;
    ends = ends;
    prints = prints_then before.sink mid now.sink (status_of_stop stop) text (text_of_stop stop) result took prints;
  }
  stopped_after text mid stop result took ends (inr (has, prints)) = record {
    end = Stopped text Memory;
    ends = no_line text stop has ends;
    prints = prints_then before.sink mid now.sink (status_of_stop Memory) text (text_of_stop Memory) result took prints;
  }

-- a command that uses no links does nothing after its plan
unlinked : (H : List ℕ → List ℕ) (before now : Outside) (command : Command) (text : List ℕ) → (UsesLinks command → ⊥) → LinksDone H before now command text
unlinked H before now (Ask words) text none = absurd (none tt)
unlinked H before now (Serve words) text none = absurd (none tt)
unlinked H before now other text none = tt

-- and prints its text at once
printed_once : (command : Command) (text : List ℕ) → (UsesLinks command → ⊥) → PrintsLast command [] text
printed_once (Ask words) text none = refl
printed_once (Serve words) text none = absurd (none tt)
printed_once other text none = refl

-- such a command, when its text or the cause of its stop was printed
module _ (H : List ℕ → List ℕ) (said : List (List ℕ)) (before now : Outside) (command : Command) (is : command_of said ≡ Some command) where
  pub answer_ended : (UsesLinks command → ⊥) → now.door ≡ before.door → {T : Type 0} (bytes_of : T → List ℕ) (answer : Result T Stop) (result : ℕ)
      → IfOk answer (λ text. IsDone (plan_of H command) before.shelf now.shelf (bytes_of text))
      → IfErr answer (IsStopped Shelf Memory (plan_of H command) before.shelf now.shelf)
      → PrintsAnswer before.sink now.sink answer bytes_of result → Ended H said before now result
  answer_ended none door bytes_of (Ok text) result done stopped prints = record {
    end = Done [] (bytes_of text);
    ends = (command, is, (record { plan = done; links = unlinked H before now command (bytes_of text) none }, printed_once command (bytes_of text) none));
    prints = prints;
  }
  answer_ended none door bytes_of (Err stop) result done stopped prints =
      stop_ended H said before now stop result (inr (command, is, inl (record { plan = stopped; silent = refl; door = door }))) prints

-- `ask`, when its text or the cause of its stop was printed
module _ (H : List ℕ → List ℕ) (shelf : ShelfTold) (sink later_sink : SinkTold) (caller later : CallerTold) (door : DoorTold)
    (said : List (List ℕ)) (words : AskWords) (is : command_of said ≡ Some (Ask words)) where
  abbrev first : Outside
  first = record { shelf = shelf; sink = sink; caller = caller; door = door }

  abbrev last : Outside
  last = record { shelf = shelf; sink = later_sink; caller = later; door = door }

  -- its words stopped it
  refused_stop : (stop : Stop) → Refuses Shelf None (ask_plan words) stop → IsStopped Shelf Memory (ask_plan words) shelf shelf stop
  refused_stop stop (inl rows) = record { so = inl (refl, inr rows) }
  refused_stop stop (inr (rows, inl query)) = record { so = inr (rows, inl (refl, inr query)) }
  refused_stop stop (inr (rows, inr (query, asked, never))) = absurd never

  unasked_stop : (stop : Stop) → (stop ≡ Memory) ⊎ Refuses Shelf None (ask_plan words) stop → IsStopped Shelf Memory (ask_plan words) shelf shelf stop
  unasked_stop stop (inl same) = subst (IsStopped Shelf Memory (ask_plan words) shelf shelf) (sym same) (at_memory {plan = ask_plan words})
  unasked_stop stop (inr refuses) = refused_stop stop refuses

  ask_halted : (stop : Stop) → AskStop H caller later words stop → IsHalted H first last (Ask words) [] stop
  ask_halted stop (inl unasked) = inl (record { plan = unasked_stop stop unasked; silent = refl; door = refl })
  ask_halted stop (inr (asks, stops)) = inr (record { plan = ask_done words shelf [] asks; links = (refl, stops) })

  pub ask_ended : {T : Type 0} (bytes_of : T → List ℕ) (answer : Result T Stop) (result : ℕ)
      → IfOk answer (λ text. IsReplyVerified H caller later words (bytes_of text)) → IfErr answer (AskStop H caller later words)
      → PrintsAnswer sink later_sink answer bytes_of result → Ended H said first last result
  ask_ended bytes_of (Ok text) result verified stops prints = record {
    end = Done [] (bytes_of text);
    ends = (Ask words, is, (record { plan = ask_done words shelf (bytes_of text) verified.accepted.replied.asks; links = verified }, refl));
    prints = prints;
  }
  ask_ended bytes_of (Err stop) result verified stops prints = stop_ended H said first last stop result (inr (Ask words, is, ask_halted stop stops)) prints

-- the line of a fault of a link has its status, unless the sink failed
pub link_printed : (before now : SinkTold) (result : ℕ) → PrintsStop before now Link result → result ≢ 8 → result ≢ 7 → ⊥
link_printed before now result (inl (inl (printed, is, took))) not_link not_sink = not_link is
link_printed before now result (inl (inr (is, failed))) not_link not_sink = not_sink is
link_printed before now result (inr (has, prints)) not_link not_sink = has

-- the count of the caller is as before, unless the status is that of its fault
module _ (caller later : CallerTold) (sink later_sink : SinkTold) {T : Type 0} (bytes_of : T → List ℕ) (result : ℕ) where
  pub ask_counts : (answer : Result T Stop) → KeepsCallerCount caller later answer → PrintsAnswer sink later_sink answer bytes_of result
      → result ≢ 8 → result ≢ 7 → later.faults ≡ caller.faults
  ask_counts (Ok text) kept prints not_link not_sink = kept
  ask_counts (Err Link) kept prints not_link not_sink = absurd (link_printed sink later_sink result prints not_link not_sink)
  ask_counts (Err stop) kept prints not_link not_sink = kept (λ (same : stop ≡ Link). absurd (cc))
