use Rattle.std.proofs.Common.{◌≡◌, ℕ, List, length, map, subst, sym, ap, ◌∙◌, arith}
use Rattle.std.proofs.lemmas.List.{length-replicate}
use Rattle.ats_bound.specs.declared.lane.Lane.{Lane}
use Rattle.ats_bound.specs.declared.walk.Walk.{Walk}
use Rattle.ats_bound.specs.Chosen.{IsChosen}
use Rattle.ats_bound.specs.Floors.{IsFirstWithinBy, IsWithinBy, floors_of_share}
use Rattle.ats_bound.specs.Schedule.{AreBracketsBy, AreWholeLanes, WholeLane, shown, whole_lanes}
use Rattle.ats_bound.proofs.Public.{have_entries, scheduled_is_cut}
use Rattle.ats_proof.specs.declared.record.Algorithm.TheVariants.{Tra}
use Rattle.ats_honest.specs.Lanes.{bounding, lane_of, lanes_of}
use Rattle.ats_prover.proofs.Ended.{honest_end}
use Rattle.ats_prover.proofs.proving.write_share.Goals as goal

pub walk_share-requires-clause-whole : goal.walk_share-requires-clause-whole
walk_share-requires-clause-whole g c = subst (λ (ls : List Lane). AreWholeLanes (whole_lanes ls)) (sym c.deref.ensures.value) c.in_ok-terms.ensures.whole

pub walk_share-requires-clause-own : goal.walk_share-requires-clause-own
walk_share-requires-clause-own g c =
    ap whole_lanes c.deref.ensures.value ∙ c.in_ok-terms.ensures.own ∙ ap (map (lane_of c.args.index.now.texts)) (sym c.in_ok-terms.ensures.have_lists)

pub write_end-requires-clause-cut : goal.write_end-requires-clause-cut
write_end-requires-clause-cut g c =
    let lanes = lanes_of c.args.index.now.texts c.args.query.now in
    let made = c.in_ok-terms.ensures in
    let cut = c.in-Some.end.cut in
    let first = subst (λ (ls : List WholeLane). IsFirstWithinBy (bounding Tra ls) ls (floors_of_share c.args.share) cut) (ap whole_lanes c.deref.ensures.value ∙ made.own)
    (rw c.in-Some.is at c.in_ok-found.ensures.cut) in
    scheduled_is_cut lanes first.turns cut (have_entries lanes (subst AreWholeLanes made.own made.whole)) first.scheduled

pub write_end-requires-clause-brackets : goal.write_end-requires-clause-brackets
write_end-requires-clause-brackets g c =
    subst (λ (ls : List WholeLane). AreBracketsBy (bounding Tra ls) (shown ls c.in-Some.end.cut) c.in-Some.end.brackets)
    (ap whole_lanes c.deref.ensures.value ∙ c.in_ok-terms.ensures.own) (rw c.in-Some.is at c.in_ok-found.ensures.brackets)

pub write_end-requires-clause-rows : goal.write_end-requires-clause-rows
write_end-requires-clause-rows g c = omega (arith, rw c.in-Some.is at c.in_ok-found.ensures.rows, c.requires.rows)

pub returns : goal.returns
returns g c =
    let archive = c.args.index.now in
    let query = c.args.query.now in
    let lanes = lanes_of archive.texts query in
    let floors = floors_of_share c.args.share in
    let end : Walk = c.in-Some.end in
    let own = ap whole_lanes c.deref.ensures.value ∙ c.in_ok-terms.ensures.own in
    let first = subst (λ (ls : List WholeLane). IsFirstWithinBy (bounding Tra ls) ls floors end.cut) own (rw c.in-Some.is at c.in_ok-found.ensures.cut) in
    let bounds = subst (λ (ls : List WholeLane). AreBracketsBy (bounding Tra ls) (shown ls end.cut) end.brackets) own (rw c.in-Some.is at c.in_ok-found.ensures.brackets) in
    let picks : IsChosen end.brackets c.args.share.rows end.picks = rw c.in-Some.is at c.in_ok-found.ensures.picks in
    let size : length floors.spans ≡ c.args.share.rows = length-replicate c.args.share.rows (record { lower = c.args.share.floor; upper = 0xffff_ffff_ffff_ffff }) in
    honest_end (IsWithinBy (bounding Tra lanes) lanes floors) (length floors.spans) g.H.HashKind.hash archive query Tra end c.args.writer.now c.write_end.new.writer first bounds
    (subst (λ (n : ℕ). IsChosen end.brackets n end.picks) (sym size) picks) c.in_ok-write_end.ensures.written

pub returns-in_default : goal.returns-in_default
returns-in_default g c proof honest =
    let lanes = lanes_of c.args.index.now.texts c.args.query.now in
    let own = ap whole_lanes c.deref.ensures.value ∙ c.in_ok-terms.ensures.own in
    let none = subst (λ (ls : List WholeLane). (cut : List ℕ) → ¬ IsFirstWithinBy (bounding Tra ls) ls (floors_of_share c.args.share) cut) own (rw c.in_default.is at c.in_ok-found.ensures.cut) in
    none honest.cut honest.first
