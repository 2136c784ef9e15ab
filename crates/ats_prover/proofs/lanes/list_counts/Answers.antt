use Rattle.std.proofs.Common.{◌≡◌, ◌<◌, ◌+◌, ◌++◌, ℕ, List, [], ◌∷◌, length, map, take, get_or, sym, ap, ◌∙◌, arith, take_all}
use Rattle.std.proofs.lemmas.List.{get_or-map, length-map, map_more}
use Rattle.ats_bound.specs.declared.lane.Lane.{Lane}
use Rattle.ats_bound.specs.Schedule.{WholeLane, whole_lane, whole_lanes}
use Rattle.ats_bound.proofs.Public.{whole_at}
use Rattle.ats_prover.proofs.lanes.list_counts.Goals as goal

abbrev none : Lane
none = record { coefficient = 0; entries = record { ref_ptr = (0, 0); now = [] } }

pub overflow_cast-lane : goal.overflow_cast-lane
overflow_cast-lane c =
    omega (arith, (whole_at c.args.lanes.now c.loop-lane.lane-index none c.requires c.loop-lane-test.true).few)

-- the count of one list more
one_more : (lanes : List Lane) (i : ℕ) (d : Lane) → i < length lanes
    → map (λ (lane : WholeLane). length lane.entries) (take i (whole_lanes lanes)) ++ length (get_or lanes i d).entries.now ∷ []
    ≡ map (λ (lane : WholeLane). length lane.entries) (take (i + 1) (whole_lanes lanes))
one_more lanes i d inside =
    let count : WholeLane → ℕ = λ (lane : WholeLane). length lane.entries in
    let e = whole_lane d in
    let same : get_or (whole_lanes lanes) i e ≡ whole_lane (get_or lanes i d) = get_or-map whole_lane lanes i d e inside in
    sym (map_more count (whole_lanes lanes) i e (omega (arith, length-map lanes whole_lane, inside)) ∙ ap (λ (lane : WholeLane). map count (take i (whole_lanes lanes)) ++ count lane ∷ []) same)

pub loop-lane-preserved : goal.loop-lane-preserved
loop-lane-preserved c =
    let lanes = c.args.lanes.now in
    let i = c.loop-lane.lane-index in
    c.in_ok-push.ensures ∙ ap (λ (so_far : List ℕ). so_far ++ length (get_or lanes i none).entries.now ∷ []) c.loop-lane.invariant ∙ one_more lanes i none c.loop-lane-test.true

pub returns : goal.returns
returns c =
    let lanes = whole_lanes c.args.lanes.now in
    c.loop-lane.invariant
    ∙ ap (map (λ (lane : WholeLane). length lane.entries)) (take_all c.loop-lane.lane-index lanes (omega (arith, length-map c.args.lanes.now whole_lane, c.loop-lane-test.false)))
