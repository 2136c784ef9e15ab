-- How a command ends that stores what it made.
use Rattle.std.proofs.Common.{◌≡◌, ◌∙◌, ℕ, List}
use Rattle.ats_base.specs.Outside.{ShelfTold, Puts}
use Rattle.ats_plan.specs.Files.{Files}
use Rattle.ats_plan.specs.Plan.{Plan, Stores}
use Rattle.ats_plan.specs.Runs.{IsDone, IsStopped}
use Rattle.ats_plan.proofs.Public.{Leads, done_store}
use Rattle.ats_console.specs.Print.{IsPublished}
use Rattle.ats_console.specs.declared.stops.Stop.{Stop}
use Rattle.ats_console.specs.declared.stops.Stop.TheVariants.{Shelf, Memory}
use Rattle.ats_makers.specs.Inner.Storing.{stores_with}

module _ {plan : Plan Stop} {before mid now : ShelfTold} {line name bytes : List ℕ} {says : Files → Files → List ℕ → Type 0} where
  pub stored : {text : List ℕ} → Leads Shelf Memory plan before (Stores name bytes says) mid → IsDone (stores_with line name bytes) mid now text
      → (Puts mid.files now.files name bytes → text ≡ line → says mid.files now.files text) → IsDone plan before now text
  stored {text = text} leads done said = leads.does now text (done_store done.so.0 done.so.1 done.so.2 (said done.so.2 done.so.3))

  pub not_stored : {stop : Stop} → Leads Shelf Memory plan before (Stores name bytes says) mid
      → IsStopped Shelf Memory (stores_with line name bytes) mid now stop → IsStopped Shelf Memory plan before now stop
  not_stored {stop = stop} leads stopped = leads.stops now stop (record { so = stopped.so })

-- the same line is published
pub published_as : {root line text : List ℕ} → IsPublished root line → text ≡ line → IsPublished root text
published_as is same = record { printed = same ∙ is.printed; word = is.word }
