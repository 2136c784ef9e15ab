-- How a run of `serve` ends.
use Rattle.std.proofs.Common.{◌≡◌, ◌≢◌, ◌≤◌, ◌∙◌, ◌++◌, ℕ, List, [], Result, Ok, Err, Some, refl, sym, subst, inl, inr, arith, append-nil}
use Rattle.ats_base.specs.Outside.{ShelfTold, SinkTold}
use Rattle.ats_base.specs.Links.{CallerTold, DoorTold}
use Rattle.ats_console.specs.Words.{ServeWords, Serve, command_of}
use Rattle.ats_top.specs.Outside.{Outside}
use Rattle.ats_commit.specs.Archive.{Archive}
use Rattle.ats_plan.specs.Files.{Files}
use Rattle.ats_plan.specs.Runs.{IsDone, IsStopped}
use Rattle.ats_plan.proofs.Public.{leads_none, done_end}
use Rattle.ats_console.specs.Steps.{reads_index, no_more, comes_to}
use Rattle.ats_top.specs.Commands.{serve_plan}
use Rattle.ats_console.specs.Stops.{Done, Unprinted}
use Rattle.ats_top.specs.Inner.Serving.{DoorAndSink, ServesLinksOf}
use Rattle.ats_top.specs.Serving.{Took, FailedToTake}
use Rattle.ats_top.specs.Served.{AreAllServed}
use Rattle.ats_top.specs.Inner.Outcome.{PrintsStop, PrintsOutcome}
use Rattle.ats_top.specs.Run.{IsCompleted, Ended}
use Rattle.ats_top.specs.declared.serving.Halt.{Halt}
use Rattle.ats_top.specs.declared.serving.Halt.TheVariants.{Door, Sink, Memory}
use Rattle.ats_console.specs.declared.stops.Stop.{Stop}
use Rattle.ats_console.specs.declared.stops.Stop.TheVariants as stop
use Rattle.ats_console.proofs.Public.{leads_index, at_index, memory_stops}
use Rattle.ats_top.proofs.Stopped.{stop_ended, stopped_after, link_printed}

-- the count of the sink did not fall
pub attends_later : (H : List ℕ → List ℕ) (files : Files) (words : ServeWords) (before now : DoorAndSink) (result : Result ℕ Halt)
    → ServesLinksOf H files words before now result → before.sink.faults ≤ now.sink.faults
attends_later H files words before now (Ok faults) (text, took, all) = omega (arith, took.same)
attends_later H files words before now (Err Door) (text, took, how) = omega (arith, took.same)
attends_later H files words before now (Err Sink) (former, last, failed, some) = failed.later
attends_later H files words before now (Err Memory) (text, took, some) = omega (arith, took.same)

-- the count of the door's faults is as before, unless the status is that of its fault
pub attends_door : (H : List ℕ → List ℕ) (files : Files) (words : ServeWords) (before now : DoorAndSink) (outcome : Result ℕ Halt) (after : SinkTold) (result : ℕ)
    → ServesLinksOf H files words before now outcome → PrintsOutcome now.sink after outcome result → result ≢ 8 → result ≢ 7
    → now.door.faults ≡ before.door.faults
attends_door H files words before now (Ok faults) after result (text, took, all) prints not_door not_sink = all.served.had.same ∙ all.served.listened.same
attends_door H files words before now (Err Door) after result (text, took, how) prints not_door not_sink =
    absurd (link_printed now.sink after result prints not_door not_sink)
attends_door H files words before now (Err Memory) after result (text, took, unmade) prints not_door not_sink = unmade.served.had.same ∙ unmade.served.listened.same
attends_door H files words before now (Err Sink) after result (former, last, failed, some) prints not_door not_sink = some.served.had.same ∙ some.served.listened.same

module _ (H : List ℕ → List ℕ) (said : List (List ℕ)) (words : ServeWords) (is : command_of said ≡ Some (Serve words)) (caller : CallerTold)
    (shelf later : ShelfTold) where
  abbrev at : ShelfTold → SinkTold → DoorTold → Outside
  at shelf sink door = record { shelf = shelf; sink = sink; caller = caller; door = door }

  -- the index was not loaded
  pub unloaded : (why : Stop) (sink now : SinkTold) (door : DoorTold) (result : ℕ)
      → IsStopped stop.Shelf stop.Memory (reads_index H words.index (λ archive. no_more)) shelf later why → PrintsStop sink now why result
      → Ended H said (at shelf sink door) (at later now door) result
  unloaded why sink now door result stops prints =
      stop_ended H said (at shelf sink door) (at later now door) why result (inr (
        Serve words,
        is,
        inl (record {
          plan = at_index stops;
          silent = refl;
          door = refl;
        }),
      )) prints

  module _ (archive : Archive) (loaded : IsDone (reads_index H words.index (comes_to archive)) shelf later []) where
    plan_done : (text : List ℕ) → IsDone (serve_plan H words) shelf later text
    plan_done text = (leads_index leads_none loaded).does later text (done_end tt)

    -- there was no memory for the buffer
    pub roomless : (sink now : SinkTold) (door : DoorTold) (result : ℕ) → PrintsStop sink now stop.Memory result → Ended H said (at shelf sink door) (at later now door) result
    roomless sink now door result prints =
        stop_ended H said (at shelf sink door) (at later now door) stop.Memory result (inr (
          Serve words,
          is,
          inl (record {
            plan = memory_stops (leads_index leads_none loaded) refl;
            silent = refl;
            door = refl;
          }),
        )) prints

    -- the links were served, or not all
    pub served : (sink mid now : SinkTold) (door left : DoorTold) (outcome : Result ℕ Halt) (result : ℕ)
        → ServesLinksOf H shelf.files words (record { door = door; sink = sink }) (record { door = left; sink = mid }) outcome
        → PrintsOutcome mid now outcome result → Ended H said (at shelf sink door) (at later now left) result
    served sink mid now door left (Ok faults) result (text, took, all) (inl (none, done, quiet)) =
        let completed : IsCompleted H (at shelf sink door) (at later now left) (Serve words) text = record { plan = plan_done text; links = subst (λ (n : ℕ). AreAllServed H shelf.files words door left n text) none all } in
        let whole : text ≡ text ++ [] = sym (append-nil text) in
        record {
          end = Done text [];
          ends = (Serve words, is, (subst (IsCompleted H (at shelf sink door) (at later now left) (Serve words)) whole completed, refl));
          prints = inl (omega (arith, done), done, subst (λ (x : List ℕ). Took sink now x) whole (subst (λ (s : SinkTold). Took sink s text) (sym quiet) took));
        }
    served sink mid now door left (Ok faults) result (text, took, all) (inr (some, prints)) =
        stopped_after H said (at shelf sink door) (at later now left) text mid (stop.Faults faults) result took (inr (Serve words, is, inr (record { plan = plan_done text; links = (some, all) }))) prints
    served sink mid now door left (Err Door) result (text, took, how) prints =
        stopped_after H said (at shelf sink door) (at later now left) text mid stop.Link result took (inr (Serve words, is, inr (record { plan = plan_done text; links = how }))) prints
    served sink mid now door left (Err Memory) result (text, took, unmade) prints =
        stopped_after H said (at shelf sink door) (at later now left) text mid stop.Memory result took (inr (Serve words, is, inr (record { plan = plan_done text; links = unmade }))) prints
    served sink mid now door left (Err Sink) result (former, last, failed, some) (seven, quiet) = record {
      end = Unprinted former last;
      ends = (Serve words, is, record { plan = plan_done (former ++ last); links = some });
      prints = inr (seven, subst (λ (s : SinkTold). FailedToTake sink s former last) (sym quiet) failed);
    }
