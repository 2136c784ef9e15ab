-- A run of a command that its plan refuses ends with the status and the text of that stop, or has an excuse. So two runs of
-- the same words over the same files end alike.
use Rattle.std.proofs.Common.{◌≡◌, ◌≢◌, ◌⊎◌, ◌∙◌, ℕ, List, ◌++◌, Some, refl, sym, ap, subst, inl, inr, arith}
use Rattle.ats_plan.specs.Files.{Files}
use Rattle.ats_plan.specs.Plan.{Refuses, Passes, IsKnown}
use Rattle.ats_plan.specs.Runs.{IsDone}
use Rattle.ats_plan.specs.Inner.Sound.{IsSound}
use Rattle.ats_plan.proofs.Public.{Cause, Refused, Wanted, Broken, stop_cause, one_refusal, passes_not_refused, does_passes}
use Rattle.ats_console.specs.Words.{Command, Ask, Serve, command_of}
use Rattle.ats_console.specs.Stops.{End, Done, Stopped, Unprinted, status_of, status_of_stop, former_of, last_of, text_of_stop}
use Rattle.ats_top.specs.Calling.{MayCall, MayOpen}
use Rattle.ats_top.specs.Commands.{plan_of}
use Rattle.ats_top.specs.Outside.{Outside}
use Rattle.ats_top.specs.Run.{IsCompleted, IsHalted, IsUnprinted, RunEnds, StepsHold, LinksStop, LinksUnprinted, PrintsLast, Excuse, NoMemory, SinkFailed, ShelfFailed, Ran}
use Rattle.ats_top.specs.Serving.{Took}
use Rattle.ats_console.specs.declared.stops.Stop.{Stop}
use Rattle.ats_console.specs.declared.stops.Stop.TheVariants.{Shelf, Memory}
use Rattle.ats_top.proofs.Concluded.{never_done}
use Rattle.ats_top.proofs.OneCommand.{its}

-- one stop has status 6, one has 3, and none has 7
only_memory : (stop : Stop) → status_of_stop stop ≡ 6 → stop ≡ Memory
only_memory Memory is = refl
only_memory other is = absurd (omega (arith, is))

only_shelf : (stop : Stop) → status_of_stop stop ≡ 3 → stop ≡ Shelf
only_shelf Shelf is = refl
only_shelf other is = absurd (omega (arith, is))

never_unprinted : (stop : Stop) → status_of_stop stop ≢ 7
never_unprinted Memory = omega arith
never_unprinted other = omega arith

module _ (H : List ℕ → List ℕ) (said : List (List ℕ)) (before now : Outside) (command : Command) (stop : Stop)
    (is : command_of said ≡ Some command) (sound : IsSound (plan_of H command)) (known : IsKnown before.shelf.files (plan_of H command))
    (refuses : Refuses Shelf before.shelf.files (plan_of H command) stop) where
  -- such a command is not done up to the end of its plan
  unfinished : (text : List ℕ) → IsDone (plan_of H command) before.shelf now.shelf text → ⊥
  unfinished text done = passes_not_refused Shelf before.shelf.files (plan_of H command) stop known sound (does_passes (plan_of H command) before.shelf now.shelf text sound done.so) refuses

  -- a stop of the same status is that stop
  one_cause : (other : Stop) → status_of_stop stop ≡ status_of_stop other → Cause Shelf Memory (plan_of H command) before.shelf now.shelf other → other ≡ stop
  one_cause other same (Refused also) = one_refusal Shelf before.shelf.files (plan_of H command) other stop known sound also refuses
  one_cause other same (Wanted memory) = memory ∙ sym (only_memory stop (same ∙ ap status_of_stop memory))
  one_cause other same (Broken shelf comes rose) = shelf ∙ sym (only_shelf stop (same ∙ ap status_of_stop shelf))

  halted_text : (text : List ℕ) (other : Stop) → status_of_stop stop ≡ status_of_stop other → IsHalted H before now command text other
      → text ++ text_of_stop other ≡ text_of_stop stop
  halted_text text other same (inl early) =
      ap (λ (t : List ℕ). t ++ text_of_stop other) early.silent
      ∙ ap text_of_stop (one_cause other same (stop_cause Shelf Memory (plan_of H command) before.shelf now.shelf other early.plan.so))
  halted_text text other same (inr late) = absurd (unfinished text late.plan)

  -- the text of an end of that status
  end_text : (end : End) → status_of_stop stop ≡ status_of end → RunEnds H before now said end → former_of end ++ last_of end ≡ text_of_stop stop
  end_text (Done former last) same ends = absurd (never_done stop same)
  end_text (Unprinted former last) same ends = absurd (never_unprinted stop same)
  end_text (Stopped text other) same (inl unsaid) = absurd (let both = sym is ∙ unsaid.none in cc)
  end_text (Stopped text other) same (inr halted) = halted_text text other same (its said (λ c. IsHalted H before now c text other) command halted is)

  -- with that status the sink took its text
  stop_took : (result : ℕ) → Ran H said before now result → result ≡ status_of_stop stop → Took before.sink now.sink (text_of_stop stop)
  stop_took result ran same = elim ran.ended.prints [
    | inl told ↦ subst (Took before.sink now.sink) (end_text ran.ended.end (sym same ∙ told.1) ran.ended.ends) told.2
    | inr failed ↦ absurd (never_unprinted stop (sym same ∙ failed.0))
  ]

  pub stop_printed : (result : ℕ) → Ran H said before now result
      → ((result ≡ status_of_stop stop) × Took before.sink now.sink (text_of_stop stop)) ⊎ Excuse H said before now result
  stop_printed result ran = elim (ran.decided (status_of_stop stop) (inr (command, is, inl (record { known = known; stop = stop; refuses = refuses; is = refl })))) [
    | inl same ↦ inl (same, stop_took result ran same)
    | inr excuse ↦ inr excuse
  ]

-- ---- two runs

-- a command that comes to no link stops only by its plan, and prints its text at once
unlinked_stop : (H : List ℕ → List ℕ) (before now : Outside) (command : Command) (text : List ℕ) (stop : Stop) → (MayCall command → ⊥) → (MayOpen command → ⊥)
    → IsDone (plan_of H command) before.shelf now.shelf text → LinksStop H before now command text stop → ⊥
unlinked_stop H before now (Ask words) text stop calls opens done links =
    calls (record { rows = done.so.0; query = done.so.1.1.has })
unlinked_stop H before now (Serve words) text stop calls opens done links = opens tt
unlinked_stop H before now other text stop calls opens done links = links

unlinked_print : (H : List ℕ → List ℕ) (before now : Outside) (command : Command) (former last : List ℕ) → (MayOpen command → ⊥) → LinksUnprinted H before now command former last → ⊥
unlinked_print H before now (Serve words) former last opens links = opens tt
unlinked_print H before now other former last opens links = links

-- if such a command is done, all its steps hold
unlinked_steps_hold : (H : List ℕ → List ℕ) (before now : Outside) (command : Command) (text : List ℕ) → (MayCall command → ⊥) → IsCompleted H before now command text
    → Passes before.shelf.files (plan_of H command) → StepsHold H before.shelf.files command
unlinked_steps_hold H before now (Ask words) text calls completed passes = absurd (calls completed.links.accepted.replied.asks)
unlinked_steps_hold H before now other text calls completed passes = passes

-- what is known of the files decides each step, also over files that are the same
same_known : (H : List ℕ → List ℕ) (command : Command) (files others : Files) → others ≡ files → IsKnown files (plan_of H command) → IsKnown others (plan_of H command)
same_known H command files others same known = subst (λ (f : Files). IsKnown f (plan_of H command)) (sym same) known

module _ (H : List ℕ → List ℕ) (said : List (List ℕ)) (command : Command) (before now since later : Outside) (a b : ℕ)
    (is : command_of said ≡ Some command) (calls : MayCall command → ⊥) (opens : MayOpen command → ⊥) (sound : IsSound (plan_of H command))
    (known : IsKnown before.shelf.files (plan_of H command)) (same : since.shelf.files ≡ before.shelf.files)
    (ran : Ran H said before now a) (again : Ran H said since later b) where
  -- both ended with one status, and if it is not 0 they printed the same; or one has an excuse
  abbrev EndAlike : Type 0
  EndAlike = ((a ≡ b) × (a ≢ 0 → (text : List ℕ) × Took before.sink now.sink text × Took since.sink later.sink text))
      ⊎ (Excuse H said before now a ⊎ Excuse H said since later b)

  -- the first one was refused
  refused_alike : (stop : Stop) → Refuses Shelf before.shelf.files (plan_of H command) stop → EndAlike
  refused_alike stop refuses = elim (stop_printed H said before now command stop is sound known refuses a ran) [
    | inr excuse ↦ inr (inl excuse)
    | inl first ↦ elim (stop_printed H said since later command stop is sound (same_known H command before.shelf.files since.shelf.files same known)
        (subst (λ (f : Files). Refuses Shelf f (plan_of H command) stop) (sym same) refuses) b again) [
          | inr excuse ↦ inr (inr excuse)
          | inl second ↦ inl (first.0 ∙ sym second.0, λ not_done. (text_of_stop stop, first.1, second.1))
        ]
  ]

  -- the first one is done
  done_alike : a ≡ 0 → StepsHold H before.shelf.files command → EndAlike
  done_alike zero served =
      elim (again.decided 0 (inr (
        command,
        is,
        inr (inl (record {
          known = same_known H command before.shelf.files since.shelf.files same known;
          served = subst (λ (f : Files). StepsHold H f command) (sym same) served;
          is = refl;
        })),
      ))) [
        | inl also ↦ inl (zero ∙ sym also, λ not_done. absurd (not_done zero))
        | inr excuse ↦ inr (inr excuse)
      ]

  caused_alike : (stop : Stop) → a ≡ status_of_stop stop → Cause Shelf Memory (plan_of H command) before.shelf now.shelf stop → EndAlike
  caused_alike stop status (Refused refuses) = refused_alike stop refuses
  caused_alike stop status (Wanted memory) = inr (inl (NoMemory (status ∙ ap status_of_stop memory) (command, is, tt)))
  caused_alike stop status (Broken shelf comes rose) = inr (inl (ShelfFailed (status ∙ ap status_of_stop shelf) (command, is, comes) rose))

  halted_alike : (text : List ℕ) (stop : Stop) → a ≡ status_of_stop stop → IsHalted H before now command text stop → EndAlike
  halted_alike text stop status (inl early) =
      caused_alike stop status (stop_cause Shelf Memory (plan_of H command) before.shelf now.shelf stop early.plan.so)
  halted_alike text stop status (inr late) = absurd (unlinked_stop H before now command text stop calls opens late.plan late.links)

  completed_alike : (text : List ℕ) → a ≡ 0 → IsCompleted H before now command text → EndAlike
  completed_alike text zero completed =
      done_alike zero (unlinked_steps_hold H before now command text calls completed (does_passes (plan_of H command) before.shelf now.shelf text sound completed.plan.so))

  end_alike : (end : End) → a ≡ status_of end → RunEnds H before now said end → EndAlike
  end_alike (Done former last) status ends =
      completed_alike (former ++ last) status (its said (λ c. IsCompleted H before now c (former ++ last) × PrintsLast c former last) command ends is).0
  end_alike (Unprinted former last) status ends =
      absurd (unlinked_print H before now command former last opens (its said (λ c. IsUnprinted H before now c former last) command ends is).links)
  end_alike (Stopped text stop) status (inl unsaid) = absurd (let both = sym is ∙ unsaid.none in cc)
  end_alike (Stopped text stop) status (inr halted) = halted_alike text stop status (its said (λ c. IsHalted H before now c text stop) command halted is)

  pub runs_alike : EndAlike
  runs_alike = elim ran.ended.prints [
    | inl told ↦ end_alike ran.ended.end told.1 ran.ended.ends
    | inr failed ↦ inr (inl (SinkFailed failed.0 failed.1.cause))
  ]
