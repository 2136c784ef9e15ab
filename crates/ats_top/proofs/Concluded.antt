-- What follows from how a command ended and what it printed.
use Rattle.std.proofs.Common.{◌≡◌, ◌≢◌, ◌⊎◌, ◌≤◌, ◌∙◌, ◌++◌, ℕ, List, Some, None, refl, sym, ap, subst, inl, inr, arith}
use Rattle.ats_base.specs.Outside.{Rose, ShelfTold, StoresOnce}
use Rattle.ats_plan.specs.Plan.{Refuses, Passes, ComesToShelf, IsKnown, LacksFirst, Leaves}
use Rattle.ats_plan.specs.Runs.{IsDone, IsStopped}
use Rattle.ats_plan.specs.Inner.Sound.{IsSound}
use Rattle.ats_plan.proofs.Public.{Cause, Refused, Wanted, Broken, stop_cause, one_refusal, passes_not_refused, does_passes, does_asked, does_counts, does_later, does_leaves, does_untouched, stops_asked, stops_alone, stops_counts, stops_files, stops_later, stops_leaves, stops_uncounted, stops_untouched}
use Rattle.ats_console.specs.Words.{Command, command_of}
use Rattle.ats_console.specs.Stops.{End, Done, Stopped, Unprinted, status_of, status_of_stop, former_of, last_of}
use Rattle.ats_top.specs.Outside.{Outside}
use Rattle.ats_top.specs.Commands.{plan_of}
use Rattle.ats_top.specs.Calling.{HasCalled, HasOpened}
use Rattle.ats_top.specs.Counts.{CountsFaults}
use Rattle.ats_top.specs.Serving.{Took}
use Rattle.ats_top.specs.Run.{AreOfCommand, IsCompleted, StoppedEarly, StoppedLate, IsHalted, RunEnds, PrintsLast, Ended, IsStatus, StopDecides, PassingDecides, HeardDecides, Decides, Excuse, NoMemory, SinkFailed, ShelfFailed, CallerFailed, DoorBroke, HasAsked, Ran}
use Rattle.ats_console.specs.declared.stops.Stop.{Stop}
use Rattle.ats_console.specs.declared.stops.Stop.TheVariants.{Usage, Shelf, Input, Rejected, Memory, Link, Peer, Faults, Collision}
use Rattle.ats_top.proofs.NoUsage.{halted_otherwise}
use Rattle.ats_top.proofs.OneCommand.{its}
use Rattle.ats_top.proofs.LinkEnds.{steps_pass, links_wait, stopped_though_steps_hold, replied_calls, replied_passes, replied_unread, replied_done, replied_stop}

no_command : (said : List (List ℕ)) (command : Command) → command_of said ≡ None → command_of said ≡ Some command → ⊥
no_command said command none some = let both = sym none ∙ some in cc

-- no stop is done
pub never_done : (stop : Stop) → status_of_stop stop ≢ 0
never_done Usage = omega arith
never_done other = omega arith

-- 2 is the status of one stop
only_usage : (stop : Stop) → status_of_stop stop ≡ 2 → stop ≡ Usage
only_usage Usage two = refl
only_usage other two = absurd (omega (arith, two))

-- each end has a status
has_status : (end : End) → IsStatus (status_of end)
has_status (Done former last) = inl refl
has_status (Stopped text (Rejected lines)) = inr (inl refl)
has_status (Stopped text Usage) = inr (inr (inl refl))
has_status (Stopped text Shelf) = inr (inr (inr (inl refl)))
has_status (Stopped text (Input line)) = inr (inr (inr (inr (inl refl))))
has_status (Stopped text (Collision lines)) = inr (inr (inr (inr (inr (inl refl)))))
has_status (Stopped text Memory) = inr (inr (inr (inr (inr (inr (inl refl))))))
has_status (Unprinted former last) = inr (inr (inr (inr (inr (inr (inr (inl refl)))))))
has_status (Stopped text Link) = inr (inr (inr (inr (inr (inr (inr (inr (inl refl))))))))
has_status (Stopped text (Peer line)) = inr (inr (inr (inr (inr (inr (inr (inr (inr (inl refl)))))))))
has_status (Stopped text (Faults count)) = inr (inr (inr (inr (inr (inr (inr (inr (inr (inr refl)))))))))

-- an end whose text may all be printed
abbrev IsPrinted : End → Type 0
IsPrinted (Unprinted former last) = ⊥
IsPrinted _ = Unit {0}

-- the status of another is 7
was_printed : (end : End) (result : ℕ) → result ≢ 7 → result ≡ status_of end → IsPrinted end
was_printed (Done former last) result not is = tt
was_printed (Stopped text stop) result not is = tt
was_printed (Unprinted former last) result not is = not is

module _ (H : List ℕ → List ℕ) (said : List (List ℕ)) (before now : Outside) where
  -- ---- the status

  -- it is this one, or has an excuse
  abbrev Agrees : ℕ → ℕ → Type 0
  Agrees k status = (status ≡ k) ⊎ Excuse H said before now status

  unsaid_end : command_of said ≡ None → (end : End) → IsPrinted end → RunEnds H before now said end → status_of end ≡ 2
  unsaid_end none (Unprinted former last) printed ends = absurd printed
  unsaid_end none (Done former last) printed ends = absurd (no_command said ends.0 none ends.1)
  unsaid_end none (Stopped text stop) printed (inl unsaid) = ap status_of_stop unsaid.usage
  unsaid_end none (Stopped text stop) printed (inr halted) = absurd (no_command said halted.0 none halted.1)

  usage_end : (end : End) → RunEnds H before now said end → status_of end ≡ 2 → command_of said ≡ None
  usage_end (Done former last) ends two = absurd (omega (arith, two))
  usage_end (Unprinted former last) ends two = absurd (omega (arith, two))
  usage_end (Stopped text stop) (inl unsaid) two = unsaid.none
  usage_end (Stopped text stop) (inr (command, is, halted)) two =
      absurd (halted_otherwise H before now command text (subst (IsHalted H before now command text) (only_usage stop two) halted))

  -- of the command of the words
  module _ (command : Command) (is : command_of said ≡ Some command) where
    -- what the status is of what the command did, and of why it stopped, it is of its end
    module _ (P : ℕ → Type 0) (done : (text : List ℕ) → IsCompleted H before now command text → P 0)
        (early : (text : List ℕ) (stop : Stop) → StoppedEarly H before now command text stop → P (status_of_stop stop))
        (late : (text : List ℕ) (stop : Stop) → StoppedLate H before now command text stop → P (status_of_stop stop)) where
      halted_end : (text : List ℕ) (stop : Stop) → IsHalted H before now command text stop → P (status_of_stop stop)
      halted_end text stop (inl stops) = early text stop stops
      halted_end text stop (inr stops) = late text stop stops

      by_end : (end : End) → IsPrinted end → RunEnds H before now said end → P (status_of end)
      by_end (Unprinted former last) printed ends = absurd printed
      by_end (Done former last) printed ends =
          done (former ++ last) (its said (λ c. IsCompleted H before now c (former ++ last) × PrintsLast c former last) command ends is).0
      by_end (Stopped text stop) printed (inl unsaid) = absurd (no_command said command unsaid.none is)
      by_end (Stopped text stop) printed (inr halted) = halted_end text stop (its said (λ c. IsHalted H before now c text stop) command halted is)

    -- a stop whose cause is no refusal has an excuse
    excused : (k : ℕ) (stop : Stop) → (Refuses Shelf before.shelf.files (plan_of H command) stop → status_of_stop stop ≡ k)
        → Cause Shelf Memory (plan_of H command) before.shelf now.shelf stop → Agrees k (status_of_stop stop)
    excused k stop refused (Refused refuses) = inl (refused refuses)
    excused k stop refused (Wanted same) = inr (NoMemory (ap status_of_stop same) (command, is, tt))
    excused k stop refused (Broken same comes rose) = inr (ShelfFailed (ap status_of_stop same) (command, is, comes) rose)

    early_agrees : (k : ℕ) (text : List ℕ) (stop : Stop) → (Refuses Shelf before.shelf.files (plan_of H command) stop → status_of_stop stop ≡ k)
        → StoppedEarly H before now command text stop → Agrees k (status_of_stop stop)
    early_agrees k text stop refused early =
        excused k stop refused (stop_cause Shelf Memory (plan_of H command) before.shelf now.shelf stop early.plan.so)

    module _ (sound : IsSound (plan_of H command)) where
      passes_unrefused : (stop : Stop) → IsKnown before.shelf.files (plan_of H command) → Passes before.shelf.files (plan_of H command)
          → Refuses Shelf before.shelf.files (plan_of H command) stop → ⊥
      passes_unrefused stop known passes refuses = passes_not_refused Shelf before.shelf.files (plan_of H command) stop known sound passes refuses

      -- a plan that is done is not refused
      done_unrefused : (k : ℕ) (text : List ℕ) → StopDecides H before.shelf.files command k → IsDone (plan_of H command) before.shelf now.shelf text → ⊥
      done_unrefused k text decides done =
          passes_unrefused decides.stop decides.known (does_passes (plan_of H command) before.shelf now.shelf text sound done.so) decides.refuses

      -- what decides the status gives that of each end, or the end has an excuse
      stop_decided : (k : ℕ) → StopDecides H before.shelf.files command k → (end : End) → IsPrinted end → RunEnds H before now said end → Agrees k (status_of end)
      stop_decided k decides = by_end (Agrees k)
          (λ text completed. absurd (done_unrefused k text decides completed.plan))
          (λ text stop early. early_agrees k text stop
          (λ refuses. ap status_of_stop (one_refusal Shelf before.shelf.files (plan_of H command) stop decides.stop decides.known sound refuses decides.refuses) ∙ sym decides.is) early)
          (λ text stop late. absurd (done_unrefused k text decides late.plan))

      passing_late : (k : ℕ) (text : List ℕ) (stop : Stop) → PassingDecides H before.shelf.files command k → StoppedLate H before now command text stop
          → Agrees k (status_of_stop stop)
      passing_late k text stop decides late = elim (stopped_though_steps_hold H before now command text stop decides.served late.links) [
        | inl memory ↦ inr (NoMemory memory (command, is, tt))
        | inr failed ↦ inr (DoorBroke (command, is, (failed.0, decides.served)) failed.1)
      ]

      passing_decided : (k : ℕ) → PassingDecides H before.shelf.files command k → (end : End) → IsPrinted end → RunEnds H before now said end → Agrees k (status_of end)
      passing_decided k decides = by_end (Agrees k)
          (λ text completed. inl (sym decides.is))
          (λ text stop early. early_agrees k text stop
          (λ refuses. absurd (passes_unrefused stop decides.known (steps_pass H before.shelf.files command decides.served) refuses)) early)
          (λ text stop late. passing_late k text stop decides late)

      module _ (k : ℕ) (decides : HeardDecides H before now command k) where
        -- the status of the reply, or that of out of memory or of the caller
        heard_agrees : (status : ℕ) → (status ≡ k) ⊎ ((status ≡ 6) ⊎ ((status ≡ 8) × Rose before.caller.faults now.caller.faults)) → Agrees k status
        heard_agrees status (inl same) = inl same
        heard_agrees status (inr (inl memory)) = inr (NoMemory memory (command, is, tt))
        heard_agrees status (inr (inr (eight, rose))) = inr (CallerFailed eight (command, is, replied_calls H before now k command decides.decides) rose)

        heard_decided : (end : End) → IsPrinted end → RunEnds H before now said end → Agrees k (status_of end)
        heard_decided = by_end (Agrees k)
            (λ text completed. heard_agrees 0 (replied_done H before now k decides.known command text decides.decides completed.links))
            (λ text stop early. early_agrees k text stop
            (λ refuses. absurd (passes_unrefused stop (inr (replied_unread H before now k command decides.decides))
            (replied_passes H before now k command decides.decides before.shelf.files) refuses)) early)
            (λ text stop late. heard_agrees (status_of_stop stop) (replied_stop H before now k decides.known command text stop decides.decides late.links))

  -- ---- the shelf

  -- A command was done up to the end of its plan, with status 0 or 7, or it could stop there for out of memory; or its
  -- plan stopped it, with this status.
  abbrev Went : ℕ → Command → Type 0
  Went status command = ((text : List ℕ)
      × ((status ≡ 0) ⊎ ((status ≡ 7) ⊎ IsStopped Shelf Memory (plan_of H command) before.shelf now.shelf Memory))
      × IsDone (plan_of H command) before.shelf now.shelf text)
      ⊎ ((stop : Stop) × (status ≡ status_of_stop stop) × IsStopped Shelf Memory (plan_of H command) before.shelf now.shelf stop)

  -- the shelf was left, or the command of the words went so
  abbrev WentSo : ℕ → Type 0
  WentSo status = (now.shelf ≡ before.shelf) ⊎ AreOfCommand said (Went status)

  halted_went : (command : Command) (text : List ℕ) (stop : Stop) → IsHalted H before now command text stop → Went (status_of_stop stop) command
  halted_went command text stop (inl early) = inr (stop, refl, early.plan)
  halted_went command text stop (inr late) = inl (text, inr (inr (links_wait H before now command text stop late.links late.plan)), late.plan)

  end_went : (end : End) → RunEnds H before now said end → WentSo (status_of end)
  end_went (Done former last) (command, is, (completed, pieces)) = inr (command, is, inl (former ++ last, inl refl, completed.plan))
  end_went (Unprinted former last) (command, is, unprinted) = inr (command, is, inl (former ++ last, inr (inl refl), unprinted.plan))
  end_went (Stopped text stop) (inl unsaid) = inl unsaid.shelf
  end_went (Stopped text stop) (inr (command, is, halted)) = inr (command, is, halted_went command text stop halted)

  abbrev Left : Type 0
  Left = (now.shelf.files ≡ before.shelf.files) ⊎ AreOfCommand said (λ command. Leaves before.shelf.files now.shelf.files (plan_of H command))

  left_said : (command : Command) → command_of said ≡ Some command
      → (now.shelf.files ≡ before.shelf.files) ⊎ Leaves before.shelf.files now.shelf.files (plan_of H command) → Left
  left_said command is (inl same) = inl same
  left_said command is (inr leaves) = inr (command, is, leaves)

  module _ (status : ℕ) where
    files_went : WentSo status → Left
    files_went (inl same) = inl (ap (λ (told : ShelfTold). told.files) same)
    files_went (inr (command, is, inl (text, how, done))) = left_said command is (does_leaves (plan_of H command) before.shelf now.shelf text done.so)
    files_went (inr (command, is, inr (stop, same, stopped))) = left_said command is (stops_leaves Shelf Memory (plan_of H command) before.shelf now.shelf stop stopped.so)

    asked_went : WentSo status → (now.shelf ≡ before.shelf) ⊎ AreOfCommand said (HasAsked H StoresOnce before.shelf now.shelf)
    asked_went (inl same) = inl same
    asked_went (inr (command, is, inl (text, how, done))) = inr (command, is, does_asked (plan_of H command) before.shelf now.shelf text done.so)
    asked_went (inr (command, is, inr (stop, same, stopped))) = inr (command, is, stops_asked Shelf Memory (plan_of H command) before.shelf now.shelf stop stopped.so)

    unread_went : WentSo status → AreOfCommand said (λ command. ComesToShelf (plan_of H command) → ⊥) → now.shelf ≡ before.shelf
    unread_went (inl same) none = same
    unread_went (inr (command, is, inl (text, how, done))) none =
        does_untouched (plan_of H command) before.shelf now.shelf text (its said (λ c. ComesToShelf (plan_of H c) → ⊥) command none is) done.so
    unread_went (inr (command, is, inr (stop, same, stopped))) none =
        stops_untouched Shelf Memory (plan_of H command) before.shelf now.shelf stop (its said (λ c. ComesToShelf (plan_of H c) → ⊥) command none is) stopped.so

    uncounted_went : WentSo status → AreOfCommand said (λ command. LacksFirst before.shelf.files (plan_of H command)) → now.shelf.faults ≡ before.shelf.faults
    uncounted_went (inl same) lacks = ap (λ (told : ShelfTold). told.faults) same
    uncounted_went (inr (command, is, inl (text, how, done))) lacks = does_counts (plan_of H command) before.shelf now.shelf text done.so
    uncounted_went (inr (command, is, inr (stop, same, stopped))) lacks =
        stops_uncounted Shelf Memory (plan_of H command) before.shelf now.shelf stop (its said (λ c. LacksFirst before.shelf.files (plan_of H c)) command lacks is) stopped.so

    later_went : WentSo status → before.shelf.faults ≤ now.shelf.faults
    later_went (inl same) = omega (arith, ap (λ (told : ShelfTold). told.faults) same)
    later_went (inr (command, is, inl (text, how, done))) = does_later (plan_of H command) before.shelf now.shelf text done.so
    later_went (inr (command, is, inr (stop, same, stopped))) = stops_later Shelf Memory (plan_of H command) before.shelf now.shelf stop stopped.so

    counts_went : status ≢ 3 → WentSo status → now.shelf.faults ≡ before.shelf.faults
    counts_went other (inl same) = ap (λ (told : ShelfTold). told.faults) same
    counts_went other (inr (command, is, inl (text, how, done))) = does_counts (plan_of H command) before.shelf now.shelf text done.so
    counts_went other (inr (command, is, inr (stop, same, stopped))) =
        stops_counts Shelf Memory (plan_of H command) before.shelf now.shelf stop stopped.so (λ shelf. other (same ∙ ap status_of_stop shelf))

    -- the files were left, and the calls on the shelf stored none
    abbrev Unstored : Type 0
    Unstored = (now.shelf ≡ before.shelf)
        ⊎ ((now.shelf.files ≡ before.shelf.files) × AreOfCommand said (HasAsked H (λ name asks. ⊥) before.shelf now.shelf))

    stopped_unstored : (command : Command) (stop : Stop) → command_of said ≡ Some command → stop ≢ Shelf
        → IsStopped Shelf Memory (plan_of H command) before.shelf now.shelf stop → Unstored
    stopped_unstored command stop is other stopped = inr (
      stops_files Shelf Memory (plan_of H command) before.shelf now.shelf stop stopped.so other,
      (command, is, stops_alone Shelf Memory (plan_of H command) before.shelf now.shelf stop stopped.so other),
    )

    unstored_went : status ≢ 0 → status ≢ 3 → status ≢ 7 → WentSo status → Unstored
    unstored_went not_done not_shelf not_failed (inl same) = inl same
    unstored_went not_done not_shelf not_failed (inr (command, is, inl (text, inl zero, done))) = absurd (not_done zero)
    unstored_went not_done not_shelf not_failed (inr (command, is, inl (text, inr (inl seven), done))) = absurd (not_failed seven)
    unstored_went not_done not_shelf not_failed (inr (command, is, inl (text, inr (inr waits), done))) =
        stopped_unstored command Memory is (λ same. absurd (cc)) waits
    unstored_went not_done not_shelf not_failed (inr (command, is, inr (stop, same, stopped))) =
        stopped_unstored command stop is (λ shelf. not_shelf (same ∙ ap status_of_stop shelf)) stopped

  -- ---- a run

  module _ (result : ℕ) (ended : Ended H said before now result) where
    -- what holds for the status of the end, if all of its text may be printed, holds for that of the run, or the sink
    -- failed
    tells : (P : ℕ → Type 0) → ((end : End) → IsPrinted end → RunEnds H before now said end → P (status_of end))
        → P result ⊎ ((result ≡ 7) × Rose before.sink.faults now.sink.faults)
    tells P is = elim ended.prints [
      | inl told ↦ inl (subst P (sym told.1) (is ended.end (was_printed ended.end result told.0 told.1) ended.ends))
      | inr failed ↦ inr (failed.0, failed.1.cause)
    ]

    status : IsStatus result
    status = elim (tells IsStatus (λ end printed ends. has_status end)) [
      | inl is ↦ is
      | inr failed ↦ inr (inr (inr (inr (inr (inr (inr (inl failed.0)))))))
    ]

    usage : result ≡ 2 → command_of said ≡ None
    usage is = elim ended.prints [
      | inl told ↦ usage_end ended.end ended.ends (sym told.1 ∙ is)
      | inr failed ↦ absurd (omega (arith, is, failed.0))
    ]

    -- 0 is the status of what is done
    abbrev IsDoneSo : Type 0
    IsDoneSo = AreOfCommand said (λ command. (text : List ℕ) × IsCompleted H before now command text × Took before.sink now.sink text)

    done_end : (end : End) → RunEnds H before now said end → result ≡ 0 → result ≡ status_of end
        → Took before.sink now.sink (former_of end ++ last_of end) → IsDoneSo
    done_end (Done former last) (command, said, (completed, pieces)) is same took = (command, said, (former ++ last, completed, took))
    done_end (Stopped text stop) ends is same took = absurd (never_done stop (sym same ∙ is))
    done_end (Unprinted former last) ends is same took = absurd (omega (arith, is, same))

    done : result ≡ 0 → IsDoneSo
    done is = elim ended.prints [
      | inl told ↦ done_end ended.end ended.ends is told.1 told.2
      | inr failed ↦ absurd (omega (arith, is, failed.0))
    ]

    -- the status is that of the end, or the sink failed
    agrees : (k : ℕ) → ((end : End) → IsPrinted end → RunEnds H before now said end → Agrees k (status_of end)) → Agrees k result
    agrees k is = elim (tells (Agrees k) is) [
      | inl agreed ↦ agreed
      | inr failed ↦ inr (SinkFailed failed.0 failed.1)
    ]

    decided : ((command : Command) → IsSound (plan_of H command)) → (k : ℕ) → Decides H said before now k → Agrees k result
    decided sound k (inl (none, two)) = agrees k (λ end printed ends. inl (unsaid_end none end printed ends ∙ sym two))
    decided sound k (inr (command, is, inl stops)) = agrees k (stop_decided command is (sound command) k stops)
    decided sound k (inr (command, is, inr (inl passes))) = agrees k (passing_decided command is (sound command) k passes)
    decided sound k (inr (command, is, inr (inr heard))) = agrees k (heard_decided command is (sound command) k heard)

    went : WentSo (status_of ended.end)
    went = end_went ended.end ended.ends

    -- the same of the status of the run
    went_so : result ≢ 7 → WentSo result
    went_so other = elim ended.prints [
      | inl told ↦ subst WentSo (sym told.1) went
      | inr failed ↦ absurd (other failed.0)
    ]

    counts : (result ≢ 8 → result ≢ 7 → now.caller.faults ≡ before.caller.faults) → (result ≢ 8 → result ≢ 7 → now.door.faults ≡ before.door.faults)
        → CountsFaults before now result
    counts caller door = elim ended.prints [
      | inl told ↦ record {
        sink = λ other. told.2.same;
        sink_once = λ seven. absurd (told.0 seven);
        sink_last = λ seven. absurd (told.0 seven);
        shelf = λ not_shelf not_failed. counts_went result not_shelf (went_so not_failed);
        caller = caller;
        door = door;
      }
      | inr failed ↦ record {
        sink = λ other. absurd (other failed.0);
        sink_once = λ seven. failed.1.cause;
        sink_last = λ seven. failed.1.last;
        shelf = λ not_shelf not_failed. absurd (not_failed failed.0);
        caller = caller;
        door = door;
      }
    ]

    pub ran : ((command : Command) → IsSound (plan_of H command)) → (result ≢ 8 → result ≢ 7 → now.caller.faults ≡ before.caller.faults)
        → (result ≢ 8 → result ≢ 7 → now.door.faults ≡ before.door.faults) → (now.caller ≡ before.caller) ⊎ AreOfCommand said (HasCalled before.caller now.caller)
        → (now.door ≡ before.door) ⊎ AreOfCommand said (HasOpened before.door now.door) → before.sink.faults ≤ now.sink.faults → Ran H said before now result
    ran sound caller_count door_count called opened sink_later = record {
      ended = ended;
      status = status;
      usage = usage;
      done = done;
      decided = decided sound;
      files = files_went (status_of ended.end) went;
      asked = asked_went (status_of ended.end) went;
      unread = unread_went (status_of ended.end) went;
      unstored = λ not_done not_shelf not_failed. unstored_went result not_done not_shelf not_failed (went_so not_failed);
      called = called;
      opened = opened;
      counts = counts caller_count door_count;
      uncounted = uncounted_went (status_of ended.end) went;
      later = later_went (status_of ended.end) went;
      sink_later = sink_later;
    }
