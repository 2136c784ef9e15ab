use Rattle.std.proofs.Common.{ℕ, List, MatchOption, sym, subst}
use Rattle.ats_bound.specs.declared.walk.Walk.{Walk}
use Rattle.ats_bound.specs.Floors.{IsFirstWithinBy, floors_of_share}
use Rattle.ats_bound.specs.Lookup.{looked_up}
use Rattle.ats_bound.specs.Schedule.{WholeLane, whole_lanes}
use Rattle.ats_honest.specs.Lanes.{impacts_of}
use Rattle.ats_prover.proofs.walking.walk_share.Goals as goal

-- the impacts that are looked up are those of the lanes
pub returns-clause-cut : goal.returns-clause-cut
returns-clause-cut g c =
    let lanes : List WholeLane = whole_lanes c.args.lanes.now in
    subst (λ (ls : List WholeLane). MatchOption c.in_ok-found.found ((cut : List ℕ) → ¬ IsFirstWithinBy (looked_up (impacts_of ls)) lanes (floors_of_share c.args.share) cut)
    (λ (walk : Walk). IsFirstWithinBy (looked_up (impacts_of ls)) lanes (floors_of_share c.args.share) walk.cut)) (sym c.requires.own) c.in_ok-found.ensures.cut
