-- What a run with status 0 printed, for the commands that check what came from elsewhere.
use Rattle.std.proofs.Common.{◌≡◌, ℕ, List, Some, refl}
use Rattle.ats_plan.specs.Files.{Files}
use Rattle.ats_plan.proofs.Public.{EndsIn, does_end}
use Rattle.ats_console.specs.Words.{AskWords, Ask, Both, BothWords, Command, Fetch, FetchWords, Growth, GrowthWords, Verify, VerifyWords, Catalog, CatalogWords, command_of, Checker}
use Rattle.ats_top.specs.Asked.{IsReplyVerified}
use Rattle.ats_top.specs.Commands.{plan_of}
use Rattle.ats_checkers.specs.Commands.{IsBothChecked, IsCatalogChecked, IsFetched, IsGrowthChecked, IsVerified}
use Rattle.ats_top.specs.Outside.{Outside}
use Rattle.ats_top.specs.Run.{IsCompleted, Ran}
use Rattle.ats_top.specs.Serving.{Took}
use Rattle.ats_top.proofs.OneCommand.{its}

module _ (H : List ℕ → List ℕ) (said : List (List ℕ)) (before now : Outside) where
  -- the command of the words is done, and the sink took its text
  completed : (command : Command) → command_of said ≡ Some command → Ran H said before now 0
      → (text : List ℕ) × IsCompleted H before now command text × Took before.sink now.sink text
  completed command is ran =
      its said (λ c. (text : List ℕ) × IsCompleted H before now c text × Took before.sink now.sink text) command (ran.done refl) is

  -- the sink took a text that satisfies what each end of the command's plan says
  printed : (command : Command) (P : Files → List ℕ → Type 0) → EndsIn P (plan_of H command) → command_of said ≡ Some command → Ran H said before now 0
      → (text : List ℕ) × P before.shelf.files text × Took before.sink now.sink text
  printed command P ends is ran =
      let done = completed command is ran in
      (done.0, does_end P (plan_of H command) before.shelf now.shelf done.0 ends done.1.plan.so, done.2)

  pub verified : (words : VerifyWords) → command_of said ≡ Some (Checker (Verify words)) → Ran H said before now 0
      → (text : List ℕ) × IsVerified H before.shelf.files words text × Took before.sink now.sink text
  verified words = printed (Checker (Verify words)) (λ files text. IsVerified H files words text) (λ query. (tt, λ bytes proof files text is. is))

  pub replied : (words : AskWords) → command_of said ≡ Some (Ask words) → Ran H said before now 0
      → (text : List ℕ) × IsReplyVerified H before.caller now.caller words text × Took before.sink now.sink text
  replied words is ran = let done = completed (Ask words) is ran in (done.0, done.1.links, done.2)

  pub fetched : (words : FetchWords) → command_of said ≡ Some (Checker (Fetch words)) → Ran H said before now 0
      → (text : List ℕ) × IsFetched H before.shelf.files words text × Took before.sink now.sink text
  fetched words = printed (Checker (Fetch words)) (λ files text. IsFetched H files words text) (tt, λ bytes proof files text is. is)

  pub both_checked : (words : BothWords) → command_of said ≡ Some (Checker (Both words)) → Ran H said before now 0
      → (text : List ℕ) × IsBothChecked H before.shelf.files words text × Took before.sink now.sink text
  both_checked words = printed (Checker (Both words)) (λ files text. IsBothChecked H files words text) (λ query. (tt, λ bytes proof files text is. is))

  pub growth_checked : (words : GrowthWords) → command_of said ≡ Some (Checker (Growth words)) → Ran H said before now 0
      → (text : List ℕ) × IsGrowthChecked H before.shelf.files words text × Took before.sink now.sink text
  growth_checked words = printed (Checker (Growth words)) (λ files text. IsGrowthChecked H files words text) (tt, λ bytes growth files text is. is)

  pub catalog_checked : (words : CatalogWords) → command_of said ≡ Some (Checker (Catalog words)) → Ran H said before now 0
      → (text : List ℕ) × IsCatalogChecked H before.shelf.files words text × Took before.sink now.sink text
  catalog_checked words = printed (Checker (Catalog words)) (λ files text. IsCatalogChecked H files words text) (λ query. (tt, λ bytes shards files text is. is))
