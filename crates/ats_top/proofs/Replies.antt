-- How `ask` ends, if what arrived over its link decides a status.
use Rattle.std.proofs.Common.{◌≡◌, ◌⊎◌, ℕ, List, IsSome, refl, inl, inr}
use Rattle.ats_base.specs.Outside.{Rose}
use Rattle.ats_base.specs.Links.{CallerTold}
use Rattle.ats_console.specs.Words.{AskWords}
use Rattle.ats_console.specs.Steps.{AsksRanking}
use Rattle.ats_top.specs.Asked.{CallStop, Decides}
use Rattle.ats_console.specs.Stops.{status_of_stop}
use Rattle.ats_console.specs.declared.stops.Stop.{Stop}
use Rattle.ats_console.specs.declared.stops.Stop.TheVariants.{Rejected, Memory, Link, Peer}
use Rattle.ats_top.proofs.OneReply.{rejected_decides, fault_decides}

module _ (H : List ℕ → List ℕ) (before now : CallerTold) (words : AskWords) where
  -- a question that was asked is within the limits
  pub decided_asks : (k : ℕ) → Decides H before now words k → AsksRanking words.r words.query
  decided_asks k (inl (is, accepted)) = accepted.replied.asks
  decided_asks k (inr (inl (is, (rejection, rejected)))) = rejected.replied.asks
  decided_asks k (inr (inr (is, (fault, faulty)))) = faulty.asks

  -- the status that is decided, or out of memory, or a fault of the link
  abbrev pub Comes : ℕ → ℕ → Type 0
  Comes k status = (status ≡ k) ⊎ ((status ≡ 6) ⊎ ((status ≡ 8) × Rose before.faults now.faults))

  -- a stop after the words were found good has such a status
  pub stop_decides : IsSome before.content → (k : ℕ) → Decides H before now words k → (stop : Stop) → CallStop H before now words stop
      → Comes k (status_of_stop stop)
  stop_decides tells k decides (Rejected line) stops = inl (rejected_decides H before now words tells k decides stops.0 stops.1)
  stop_decides tells k decides Memory stops = inr (inl refl)
  stop_decides tells k decides Link stops = inr (inr (refl, stops.rose))
  stop_decides tells k decides (Peer line) stops = inl (fault_decides H before now words tells k decides line stops)
  stop_decides tells k decides other stops = absurd stops
