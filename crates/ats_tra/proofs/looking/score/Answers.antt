use Rattle.std.proofs.Common.{◌≡◌, ◌<◌, ◌≤◌, ◌+◌, ◌*◌, ◌^◌, ℕ, List, length, take, get_or, ap, ◌∙◌, arith, take_all}
use Rattle.std.proofs.Math.Nat.{mul-le-mul}
use Rattle.std.proofs.lemmas.List.{get_or-map, length-map}
use Rattle.ats_bound.specs.declared.lane.Lane.{Lane}
use Rattle.ats_bound.specs.Lookup.{Table}
use Rattle.ats_bound.specs.Schedule.{IsWholeLane, WholeLane, whole_lane, whole_lanes, most_coefficient}
use Rattle.ats_bound.proofs.Public.{no_lane, whole_at}
use Rattle.ats_tra.specs.Inner.Looked.{score_by}
use Rattle.ats_tra.proofs.Exact.{score_more}
use Rattle.ats_tra.proofs.looking.score.Goals as goal

pub loop-i-preserved : goal.loop-i-preserved
loop-i-preserved g c =
    let table : Table = g.A.RandomAccess.table c.args.access.now in
    let lanes : List Lane = c.args.lanes.now in
    let all : List WholeLane = whole_lanes lanes in
    let i : ℕ = c.loop-i.i in
    let none : WholeLane = whole_lane no_lane in
    let inside : i < length lanes = omega arith in
    let lane : Lane = get_or lanes i no_lane in
    let whole : IsWholeLane (whole_lane lane) = whole_at lanes i no_lane c.requires inside in
    let weight : lane.coefficient ≤ most_coefficient = whole.weighted.1 in
    let impact : c.impact.result ≤ 2 ^ 16 = omega arith in
    let part : lane.coefficient * c.impact.result ≤ most_coefficient * 2 ^ 16 = mul-le-mul weight impact in
    let here : (get_or all i none).coefficient ≡ lane.coefficient = ap (λ (l : WholeLane). l.coefficient) (get_or-map whole_lane lanes i no_lane none inside) in
    let step : score_by table (take (i + 1) all) c.args.doc ≡ score_by table (take i all) c.args.doc + (get_or all i none).coefficient * table i c.args.doc =
    score_more table all c.args.doc i none (omega (arith, inside, length-map lanes whole_lane)) in
    record {
      sum = rw (step, here, ← c.impact.ensures) (ap (λ n. n + lane.coefficient * c.impact.result) c.loop-i.invariant.sum);
      few = omega (arith, part, c.loop-i.invariant.few);
    }

pub returns : goal.returns
returns g c =
    let table : Table = g.A.RandomAccess.table c.args.access.now in
    let all : List WholeLane = whole_lanes c.args.lanes.now in
    c.loop-i.invariant.sum ∙ ap (λ front. score_by table front c.args.doc) (take_all c.loop-i.i all (omega (arith, length-map c.args.lanes.now whole_lane)))
