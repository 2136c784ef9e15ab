use Rattle.std.proofs.Common.{◌≡◌, ℕ, List, length, refl, ap, subst, ◌∙◌, arith}
use Rattle.std.proofs.lemmas.List.{length-map}
use Rattle.ats_bound.specs.Inner.MetDocuments.{AreMetDocuments}
use Rattle.ats_bound.specs.Schedule.{WholeLane, shown, whole_lane, whole_lanes}
use Rattle.ats_bound.proofs.MetSteps.{begun_all, begun_cut, begun_none, first_known, first_space}
use Rattle.ats_bound.proofs.Shown.{no_lane, whole_at}
use Rattle.ats_bound.proofs.running.meet_first.Goals as goal

pub loop-i-init : goal.loop-i-init
loop-i-init c = record {
  known = rw c.requires.none (begun_none (whole_lanes c.args.lanes.now));
  best = rw c.requires.none c.requires.best;
  size = refl;
}

pub first_gain-requires : goal.first_gain-requires
first_gain-requires c = whole_at c.args.lanes.now c.loop-i.i no_lane c.requires.lanes (omega arith)

pub meet-requires : goal.meet-requires
meet-requires c =
    first_space c.args.lanes.now c.loop-i.i c.requires.lanes (omega arith) c.loop-i.known c.loop-i.invariant.known c.first_gain.result.doc c.first_gain.result.gain c.digit.result
    c.first_gain.ensures.doc c.first_gain.ensures.gain c.first_gain.ensures.few c.digit.ensures

pub loop-i-preserved : goal.loop-i-preserved
loop-i-preserved c = record {
  known =
      first_known c.args.lanes.now c.loop-i.i c.requires.lanes (omega arith) c.loop-i.known c.loop-i.invariant.known c.first_gain.result.doc c.first_gain.result.gain c.digit.result
      c.first_gain.ensures.doc c.first_gain.ensures.gain c.first_gain.ensures.few c.digit.ensures c.meet.new.known c.in_ok-meet.ensures.met;
  best = c.in_ok-meet.ensures.best c.loop-i.invariant.best;
  size = c.meet.ensures.size ∙ c.loop-i.invariant.size;
}

pub returns-clause-known : goal.returns-clause-known
returns-clause-known c =
    let wholes : List WholeLane = whole_lanes c.args.lanes.now in
    let end : c.loop-i.i ≡ length wholes = omega (arith, length-map c.args.lanes.now whole_lane) in
    subst (λ (cut : List ℕ). AreMetDocuments (shown wholes cut) c.loop-i.known) (ap (begun_cut wholes) end ∙ begun_all wholes) c.loop-i.invariant.known
