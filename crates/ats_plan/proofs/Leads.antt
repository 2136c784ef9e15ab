-- A command that took the first steps of its plan: from how the rest goes follows how the plan goes.
use Rattle.std.proofs.Common.{◌≡◌, ℕ, List, inl, inr}
use Rattle.ats_base.specs.Outside.{ShelfTold, IsLonger}
use Rattle.ats_plan.specs.Files.{IsFile}
use Rattle.ats_plan.specs.Plan.{Plan, Tries, Gets, Makes, Reads}
use Rattle.ats_plan.specs.Runs.{HasRead, IsStopped, IsDone}

-- after the first steps, the rest of the plan is left at `mid`
pub record Leads {F : Type 0} (shelf memory : F) (plan : Plan F) (before : ShelfTold) (rest : Plan F) (mid : ShelfTold) : Type 0 where
  pub stops : (now : ShelfTold) (stop : F) → IsStopped shelf memory rest mid now stop → IsStopped shelf memory plan before now stop
  pub does : (now : ShelfTold) (text : List ℕ) → IsDone rest mid now text → IsDone plan before now text

module _ {F : Type 0} {shelf memory : F} {plan : Plan F} {before : ShelfTold} where
  -- no step was taken
  pub leads_none : Leads shelf memory plan before plan before
  leads_none = record { stops = λ now stop is. is; does = λ now text is. is }

  pub leads_try : {mid : ShelfTold} {holds : Type 0} {fault : F → Type 0} {rest : Plan F}
      → Leads shelf memory plan before (Tries holds fault rest) mid → holds → Leads shelf memory plan before rest mid
  leads_try leads is = record {
    stops = λ now stop later. leads.stops now stop (record { so = inr (is, later.so) });
    does = λ now text later. leads.does now text (record { so = (is, later.so) });
  }

  pub leads_get : {mid : ShelfTold} {A : Type 0} {is : A → Type 0} {fault : F → Type 0} {rest : A → Plan F} (a : A)
      → Leads shelf memory plan before (Gets A is fault rest) mid → is a → Leads shelf memory plan before (rest a) mid
  leads_get a leads holds = record {
    stops = λ now stop later. leads.stops now stop (record { so = inr (a, holds, later.so) });
    does = λ now text later. leads.does now text (record { so = (a, holds, later.so) });
  }

  pub leads_make : {mid : ShelfTold} {A : Type 0} {is : A → Type 0} {rest : A → Plan F} (a : A)
      → Leads shelf memory plan before (Makes A is rest) mid → is a → Leads shelf memory plan before (rest a) mid
  leads_make a leads holds = record {
    stops = λ now stop later. leads.stops now stop (record { so = inr (a, holds, later.so) });
    does = λ now text later. leads.does now text (record { so = (a, holds, later.so) });
  }

  pub leads_read : {mid next : ShelfTold} {name : List ℕ} {limit : ℕ} {long : Plan F} {rest : List ℕ → Plan F} {bytes : List ℕ}
      → Leads shelf memory plan before (Reads name limit long rest) mid → HasRead mid next name limit → next.faults ≡ mid.faults
      → IsFile mid.files name limit bytes → Leads shelf memory plan before (rest bytes) next
  leads_read {next = next} {bytes = bytes} leads read counts file = record {
    stops = λ now stop later. leads.stops now stop (record { so = inr (inr (next, read, counts, inr (bytes, file, later.so))) });
    does = λ now text later. leads.does now text (record { so = (next, read, counts, inr (bytes, file, later.so)) });
  }

  pub leads_long : {mid next : ShelfTold} {name : List ℕ} {limit : ℕ} {long : Plan F} {rest : List ℕ → Plan F}
      → Leads shelf memory plan before (Reads name limit long rest) mid → HasRead mid next name limit → next.faults ≡ mid.faults
      → IsLonger mid.files name limit → Leads shelf memory plan before long next
  leads_long {next = next} leads read counts longer = record {
    stops = λ now stop later. leads.stops now stop (record { so = inr (inr (next, read, counts, inl (longer, later.so))) });
    does = λ now text later. leads.does now text (record { so = (next, read, counts, inl (longer, later.so)) });
  }
