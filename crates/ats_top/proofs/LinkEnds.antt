-- How commands that use links end after their plans.
use Rattle.std.proofs.Common.{◌≡◌, ◌⊎◌, ℕ, List, IsSome, refl, inl, inr}
use Rattle.ats_base.specs.Outside.{ShelfTold, Rose}
use Rattle.ats_terms.specs.Terms.{terms}
use Rattle.ats_terms.specs.Query.{IsQueryOf, counted}
use Rattle.ats_plan.specs.Files.{Files}
use Rattle.ats_plan.specs.Plan.{Passes, ComesToShelf}
use Rattle.ats_plan.specs.Runs.{Does, Stops, IsDone, IsStopped}
use Rattle.ats_console.specs.Words.{AskWords, ServeWords, Command, Ask, Serve}
use Rattle.ats_top.specs.Outside.{Outside}
use Rattle.ats_console.specs.Steps.{AsksRanking}
use Rattle.ats_top.specs.Calling.{MayCall, MayOpen, ReplyDecides}
use Rattle.ats_top.specs.Commands.{plan_of, ask_plan, serve_plan}
use Rattle.ats_top.specs.Inner.Outcome.{HasLine}
use Rattle.ats_console.specs.Stops.{status_of_stop}
use Rattle.ats_top.specs.Run.{LinksDone, LinksStop, StepsHold, DoorFailed}
use Rattle.ats_console.specs.declared.stops.Stop.{Stop}
use Rattle.ats_console.specs.declared.stops.Stop.TheVariants.{Shelf, Memory}
use Rattle.ats_top.proofs.Linked.{serving_status, serving_line}
use Rattle.ats_top.proofs.OneReply.{accepted_decides}
use Rattle.ats_top.proofs.Replies.{decided_asks, stop_decides}

-- the question of a ranking that is asked for
asked_query : (r : ℕ) (text : List ℕ) → AsksRanking r text → IsQueryOf text (counted (terms text))
asked_query r text asks = record { has = asks.query; same = refl }

-- if the words are within the limits, the plan of `ask` is done
pub ask_done : (words : AskWords) (shelf : ShelfTold) (text : List ℕ) → AsksRanking words.r words.query → IsDone (ask_plan words) shelf shelf text
ask_done words shelf text asks = record { so = (asks.rows, (counted (terms words.query), asked_query words.r words.query asks, (refl, tt))) }

ask_passes : (words : AskWords) → AsksRanking words.r words.query → (files : Files) → Passes files (ask_plan words)
ask_passes words asks files = (asks.rows, (counted (terms words.query), asked_query words.r words.query asks, tt))

-- where its plan is done, a command that uses links could stop for out of memory, so it stored nothing
module _ (before now : ShelfTold) (text : List ℕ) where
  ask_waits : (words : AskWords) → Does (ask_plan words) before now text → Stops Shelf Memory (ask_plan words) before now Memory
  ask_waits words (rows, (query, asked, (same, is))) = inr (rows, inr (query, asked, (same, refl)))

  serve_waits : (H : List ℕ → List ℕ) (words : ServeWords) → Does (serve_plan H words) before now text → Stops Shelf Memory (serve_plan H words) before now Memory
  serve_waits H words (mid, read, calm, inl (longer, never)) = absurd never
  serve_waits H words (mid, read, calm, inr (bytes, file, (archive, spelling, (same, is)))) =
      inr (inr (mid, read, calm, inr (bytes, file, inr (archive, spelling, (same, refl)))))

-- if all steps of a command hold, its plan passes
pub steps_pass : (H : List ℕ → List ℕ) (files : Files) (command : Command) → StepsHold H files command → Passes files (plan_of H command)
steps_pass H files (Ask words) served = absurd served
steps_pass H files other served = served

module _ (H : List ℕ → List ℕ) (before now : Outside) where
  -- if memory for the line of a stop runs out, the stop is out of memory
  pub links_memory : (command : Command) (text : List ℕ) (stop : Stop) → HasLine stop → LinksStop H before now command text stop
      → LinksStop H before now command text Memory
  links_memory (Ask words) text stop has links = (links.0, tt)
  links_memory (Serve words) text stop has links = serving_line H before.shelf.files words before.door now.door text stop has links
  links_memory other text stop has links = absurd links

  pub links_wait : (command : Command) (text : List ℕ) (stop : Stop) → LinksStop H before now command text stop
      → IsDone (plan_of H command) before.shelf now.shelf text → IsStopped Shelf Memory (plan_of H command) before.shelf now.shelf Memory
  links_wait (Ask words) text stop links done = record { so = ask_waits before.shelf now.shelf text words done.so }
  links_wait (Serve words) text stop links done = record { so = serve_waits before.shelf now.shelf text H words done.so }
  links_wait other text stop links done = absurd links

  -- if all steps of the command hold, memory ran out or the door failed
  pub stopped_though_steps_hold : (command : Command) (text : List ℕ) (stop : Stop) → StepsHold H before.shelf.files command → LinksStop H before now command text stop
      → (status_of_stop stop ≡ 6) ⊎ (MayOpen command × DoorFailed before.door now.door (status_of_stop stop))
  stopped_though_steps_hold (Ask words) text stop served links = absurd served
  stopped_though_steps_hold (Serve words) text stop served links = elim (serving_status H before.shelf.files words before.door now.door text stop links) [
    | inl memory ↦ inl memory
    | inr failed ↦ inr (tt, failed)
  ]
  stopped_though_steps_hold other text stop served links = absurd links

  -- a command to which there is a reply
  module _ (k : ℕ) where
    abbrev Decided : Command → Type 0
    Decided command = ReplyDecides H before.caller now.caller command k

    pub replied_calls : (command : Command) → Decided command → MayCall command
    replied_calls (Ask words) decides = decided_asks H before.caller now.caller words k decides
    replied_calls other decides = absurd decides

    pub replied_passes : (command : Command) → Decided command → (files : Files) → Passes files (plan_of H command)
    replied_passes (Ask words) decides = ask_passes words (decided_asks H before.caller now.caller words k decides)
    replied_passes other decides = absurd decides

    pub replied_unread : (command : Command) → Decided command → ComesToShelf (plan_of H command) → ⊥
    replied_unread (Ask words) decides (rows, (query, asked, never)) = never
    replied_unread other decides comes = absurd decides

    -- the status that the reply decides is returned, unless memory runs out or the caller's count rose
    module _ (tells : IsSome before.caller.content) where
      abbrev Replies : ℕ → Type 0
      Replies status = (status ≡ k) ⊎ ((status ≡ 6) ⊎ ((status ≡ 8) × Rose before.caller.faults now.caller.faults))

      pub replied_done : (command : Command) (text : List ℕ) → Decided command → LinksDone H before now command text → Replies 0
      replied_done (Ask words) text decides answered = inl (accepted_decides H before.caller now.caller words tells k decides answered.accepted)
      replied_done other text decides links = absurd decides

      pub replied_stop : (command : Command) (text : List ℕ) (stop : Stop) → Decided command → LinksStop H before now command text stop
          → Replies (status_of_stop stop)
      replied_stop (Ask words) text stop decides links = stop_decides H before.caller now.caller words tells k decides stop links.1
      replied_stop other text stop decides links = absurd decides
