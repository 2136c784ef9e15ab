use Rattle.std.proofs.Common.{List, map, subst, sym, ap, ◌∙◌, arith}
use Rattle.std.proofs.lemmas.Result.{on_ok_weaker}
use Rattle.ats_bound.specs.declared.lane.Lane.{Lane}
use Rattle.ats_bound.specs.Schedule.{AreBracketsBy, AreWholeLanes, CanSettleBy, IsFirstSettledBy, WholeLane, shown, whole_lanes}
use Rattle.ats_bound.proofs.Public.{have_entries, scheduled_is_cut}
use Rattle.ats_proof.specs.declared.record.Algorithm.{Algorithm}
use Rattle.ats_honest.specs.Lanes.{bounding, lane_of, lanes_of}
use Rattle.ats_honest.specs.Honest.{IsHonest}
use Rattle.ats_honest.proofs.Public.{honest_short}
use Rattle.ats_prover.proofs.Ended.{honest_end}
use Rattle.ats_prover.proofs.proving.write_proof.Goals as goal

pub walk-requires-clause-whole : goal.walk-requires-clause-whole
walk-requires-clause-whole g c = subst (λ (ls : List Lane). AreWholeLanes (whole_lanes ls)) (sym c.deref.ensures.value) c.in_ok-terms.ensures.whole

pub walk-requires-clause-own : goal.walk-requires-clause-own
walk-requires-clause-own g c =
    ap whole_lanes c.deref.ensures.value ∙ c.in_ok-terms.ensures.own ∙ ap (map (lane_of c.args.index.now.texts)) (sym c.in_ok-terms.ensures.have_lists)

pub write_end-requires-clause-cut : goal.write_end-requires-clause-cut
write_end-requires-clause-cut g c =
    let lanes = lanes_of c.args.index.now.texts c.args.query.now in
    let made = c.in_ok-terms.ensures in
    let cut = c.in_ok-end.end.cut in
    let first = subst (λ (ls : List WholeLane). IsFirstSettledBy (bounding c.args.algorithm ls) ls c.args.top cut) (ap whole_lanes c.deref.ensures.value ∙ made.own) c.in_ok-end.ensures.cut in
    scheduled_is_cut lanes first.turns cut (have_entries lanes (subst AreWholeLanes made.own made.whole)) first.scheduled

pub write_end-requires-clause-brackets : goal.write_end-requires-clause-brackets
write_end-requires-clause-brackets g c =
    subst (λ (ls : List WholeLane). AreBracketsBy (bounding c.args.algorithm ls) (shown ls c.in_ok-end.end.cut) c.in_ok-end.end.brackets)
    (ap whole_lanes c.deref.ensures.value ∙ c.in_ok-terms.ensures.own) c.in_ok-end.ensures.brackets

pub returns-clause-short : goal.returns-clause-short
returns-clause-short g c proof tnra honest =
    on_ok_weaker c.write_end.result (λ are. honest_short g.H.HashKind.hash g.H.HashKind.sized c.args.index.now c.args.query.now c.args.top proof are c.len.ensures.query.few
    (omega (arith, c.get.ensures.value, c.get.ensures.few))
    (subst (λ (a : Algorithm). IsHonest g.H.HashKind.hash c.args.index.now c.args.query.now c.args.top a proof) tnra honest)) c.write_end.ensures.texts

pub returns-clause-written : goal.returns-clause-written
returns-clause-written g c =
    let H = g.H.HashKind.hash in
    let archive = c.args.index.now in
    let query = c.args.query.now in
    let algorithm = c.args.algorithm in
    let lanes = lanes_of archive.texts query in
    let end = c.in_ok-end.end in
    let own = ap whole_lanes c.deref.ensures.value ∙ c.in_ok-terms.ensures.own in
    let first = subst (λ (ls : List WholeLane). IsFirstSettledBy (bounding algorithm ls) ls c.args.top end.cut) own c.in_ok-end.ensures.cut in
    let bounds = subst (λ (ls : List WholeLane). AreBracketsBy (bounding algorithm ls) (shown ls end.cut) end.brackets) own c.in_ok-end.ensures.brackets in
    on_ok_weaker c.write_end.result
    (honest_end (CanSettleBy (bounding algorithm lanes) lanes c.args.top) c.args.top H archive query algorithm end c.args.writer.now c.write_end.new.writer first bounds c.in_ok-end.ensures.picks)
    c.write_end.ensures.written
