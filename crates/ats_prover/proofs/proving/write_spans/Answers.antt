use Rattle.std.proofs.Common.{ℕ, List, length, length-take, subst, sym, ap, ◌∙◌, arith}
use Rattle.ats_bound.specs.declared.lane.Lane.{Lane}
use Rattle.ats_bound.specs.declared.walk.Walk.{Walk}
use Rattle.ats_bound.specs.Chosen.{IsChosen}
use Rattle.ats_bound.specs.Floors.{Floors, IsFirstWithinBy, IsWithinBy}
use Rattle.ats_bound.specs.Schedule.{AreBracketsBy, AreWholeLanes, WholeLane, shown, whole_lanes}
use Rattle.ats_bound.proofs.Public.{have_entries, scheduled_is_cut}
use Rattle.ats_proof.specs.declared.record.Algorithm.TheVariants.{Tnra}
use Rattle.ats_honest.specs.Lanes.{bounding, lanes_of}
use Rattle.ats_prover.proofs.Ended.{honest_end}
use Rattle.ats_prover.proofs.proving.write_spans.Goals as goal

pub walk_within-requires : goal.walk_within-requires
walk_within-requires g c = subst (λ (ls : List Lane). AreWholeLanes (whole_lanes ls)) (sym c.deref.ensures.value) c.in_ok-terms.ensures.whole

pub write_end-requires-clause-cut : goal.write_end-requires-clause-cut
write_end-requires-clause-cut g c =
    let lanes = lanes_of c.args.index.now.texts c.args.query.now in
    let made = c.in_ok-terms.ensures in
    let cut = c.in-Some.end.cut in
    let first = subst (λ (ls : List WholeLane). IsFirstWithinBy (bounding Tnra ls) ls (record { spans = c.args.spans.now; floor = c.args.floor }) cut) (ap whole_lanes c.deref.ensures.value ∙ made.own)
    (rw c.in-Some.is at c.in_ok-found.ensures.cut) in
    scheduled_is_cut lanes first.turns cut (have_entries lanes (subst AreWholeLanes made.own made.whole)) first.scheduled

pub write_end-requires-clause-brackets : goal.write_end-requires-clause-brackets
write_end-requires-clause-brackets g c =
    subst (λ (ls : List WholeLane). AreBracketsBy (bounding Tnra ls) (shown ls c.in-Some.end.cut) c.in-Some.end.brackets)
    (ap whole_lanes c.deref.ensures.value ∙ c.in_ok-terms.ensures.own) (rw c.in-Some.is at c.in_ok-found.ensures.brackets)

pub write_end-requires-clause-rows : goal.write_end-requires-clause-rows
write_end-requires-clause-rows g c =
    let end : Walk = c.in-Some.end in
    let chosen : IsChosen end.brackets (length c.args.spans.now) end.picks = rw c.in-Some.is at c.in_ok-found.ensures.picks in
    omega (arith, ap length chosen.first, length-take (length c.args.spans.now) chosen.all, c.requires.rows)

pub returns : goal.returns
returns g c =
    let archive = c.args.index.now in
    let query = c.args.query.now in
    let lanes = lanes_of archive.texts query in
    let floors : Floors = record { spans = c.args.spans.now; floor = c.args.floor } in
    let end : Walk = c.in-Some.end in
    let own = ap whole_lanes c.deref.ensures.value ∙ c.in_ok-terms.ensures.own in
    let first = subst (λ (ls : List WholeLane). IsFirstWithinBy (bounding Tnra ls) ls floors end.cut) own (rw c.in-Some.is at c.in_ok-found.ensures.cut) in
    let bounds = subst (λ (ls : List WholeLane). AreBracketsBy (bounding Tnra ls) (shown ls end.cut) end.brackets) own (rw c.in-Some.is at c.in_ok-found.ensures.brackets) in
    let picks : IsChosen end.brackets (length c.args.spans.now) end.picks = rw c.in-Some.is at c.in_ok-found.ensures.picks in
    honest_end (IsWithinBy (bounding Tnra lanes) lanes floors) (length floors.spans) g.H.HashKind.hash archive query Tnra end c.args.writer.now c.write_end.new.writer first bounds
    picks c.in_ok-write_end.ensures.written

pub returns-in_default : goal.returns-in_default
returns-in_default g c proof honest =
    let lanes = lanes_of c.args.index.now.texts c.args.query.now in
    let own = ap whole_lanes c.deref.ensures.value ∙ c.in_ok-terms.ensures.own in
    let none = subst (λ (ls : List WholeLane). (cut : List ℕ) → ¬ IsFirstWithinBy (bounding Tnra ls) ls (record { spans = c.args.spans.now; floor = c.args.floor }) cut) own (rw c.in_default.is at c.in_ok-found.ensures.cut) in
    none honest.cut honest.first
