-- The kept digests of a query's lists.
use Rattle.std.specs.Prelude.{ℕ, List, map}
use Rattle.ats_lists.specs.KeptList.{kept_list}
use Rattle.ats_lists.specs.declared.format.Format.{Format}
use Rattle.ats_lists.specs.declared.list_keeping.ListDigests.{ListDigests}
use Rattle.ats_bound.specs.Schedule.{WholeLane}

-- of each lane the digests of its list in this format
abbrev pub list_digests : (List ℕ → List ℕ) → Format → List WholeLane → List ListDigests
list_digests H format lanes = map (λ (lane : WholeLane). kept_list H format lane.entries) lanes
