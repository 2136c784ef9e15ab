-- Why `ask` stops, as its function returns it.
use Rattle.std.specs.Prelude.{◌≡◌, ◌⊎◌, ℕ, List, None}
use Rattle.ats_base.specs.Links.{CallerTold}
use Rattle.ats_console.specs.Words.{AskWords}
use Rattle.ats_plan.specs.Plan.{Refuses}
use Rattle.ats_console.specs.Steps.{AsksRanking}
use Rattle.ats_top.specs.Commands.{ask_plan}
use Rattle.ats_console.specs.declared.stops.Stop.{Stop}
use Rattle.ats_console.specs.declared.stops.Stop.TheVariants.{Shelf, Memory}
use Rattle.ats_top.specs.Asked.{CallStop}

-- why it stopped: by its words, before there was a call, or after these were found good
abbrev pub AskStop : (List ℕ → List ℕ) → (before now : CallerTold) → AskWords → Stop → Type 0
AskStop H before now words stop =
    ((stop ≡ Memory) ⊎ Refuses Shelf None (ask_plan words) stop)
    ⊎ (AsksRanking words.r words.query × CallStop H before now words stop)
