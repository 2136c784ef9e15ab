-- The plan of each command goes one way at most, and stops none for its words.
use Rattle.std.proofs.Common.{ℕ, List}
use Rattle.ats_base.specs.Outside.{ShelfTold}
use Rattle.ats_plan.specs.Runs.{IsStopped}
use Rattle.ats_plan.specs.Inner.Sound.{IsSound}
use Rattle.ats_plan.proofs.Public.{stops_otherwise}
use Rattle.ats_console.specs.Words.{Command, Maker, Checker, Auditor, Ask, Serve}
use Rattle.ats_console.specs.declared.stops.Stop.TheVariants.{Usage, Shelf, Memory}
use Rattle.ats_console.proofs.Public.{Sound, ends, not_shelf, not_memory, ranking_sound, index_sound}
use Rattle.ats_makers.proofs.Public.{maker_sound}
use Rattle.ats_checkers.proofs.Public.{checker_sound}
use Rattle.ats_auditors.proofs.Public.{auditor_sound}
use Rattle.ats_top.specs.Commands.{plan_of}

command_sound : (H : List ℕ → List ℕ) (command : Command) → Sound (plan_of H command)
command_sound H (Maker command) = maker_sound H command
command_sound H (Checker command) = checker_sound H command
command_sound H (Auditor command) = auditor_sound H command
command_sound H (Ask words) = ranking_sound (λ query. ends)
command_sound H (Serve words) = index_sound (λ archive. ends)

pub plan_sound : (H : List ℕ → List ℕ) (command : Command) → IsSound (plan_of H command)
plan_sound H command = (command_sound H command).so

-- no command stops for its words
pub plan_otherwise : (H : List ℕ → List ℕ) (command : Command) (before now : ShelfTold) → IsStopped Shelf Memory (plan_of H command) before now Usage → ⊥
plan_otherwise H command before now stopped =
    stops_otherwise Usage Shelf not_shelf Memory not_memory (plan_of H command) before now (command_sound H command).free stopped.so
