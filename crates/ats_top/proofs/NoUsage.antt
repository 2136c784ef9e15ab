-- Only words of no command stop for their words.
use Rattle.std.proofs.Common.{ℕ, List, inl, inr}
use Rattle.ats_console.specs.Words.{Command, Ask, Serve}
use Rattle.ats_top.specs.Outside.{Outside}
use Rattle.ats_top.specs.Run.{LinksStop, IsHalted}
use Rattle.ats_console.specs.declared.stops.Stop.TheVariants.{Usage}
use Rattle.ats_top.proofs.Sound.{plan_otherwise}

module _ (H : List ℕ → List ℕ) (before now : Outside) where
  links_otherwise : (command : Command) (text : List ℕ) → LinksStop H before now command text Usage → ⊥
  links_otherwise (Ask words) text links = links.1
  links_otherwise (Serve words) text links = links
  links_otherwise other text links = links

  -- no command stops for its words
  pub halted_otherwise : (command : Command) (text : List ℕ) → IsHalted H before now command text Usage → ⊥
  halted_otherwise command text (inl early) = plan_otherwise H command before.shelf now.shelf early.plan
  halted_otherwise command text (inr late) = links_otherwise command text late.links
