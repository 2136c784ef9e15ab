use Rattle.std.proofs.Common.{◌<◌, ◌∙◌, List, [], length, ap, arith}
use Rattle.ats_proof.specs.Value.{ShownEntry}
use Rattle.ats_proof.specs.declared.dict.DictView.{DictView}
use Rattle.ats_client.specs.Groups.{IsSlotRight}
use Rattle.ats_client.specs.Inner.Seen.{entries_left}
use Rattle.ats_client.proofs.Rising.{before_first, index_is, before_next}
use Rattle.ats_client.proofs.Slotted.{slot_right, slots_more}
use Rattle.ats_client.proofs.slots.slots.Goals as goal

pub loop-i-init : goal.loop-i-init
unfolding entries_left
loop-i-init c = record {
  dict = ap entries_left c.over-walk.ensures.all ∙ c.dict.ensures.entries;
  right = λ i low. absurd (omega (arith, low));
  cost = omega arith;
  before = before_first c.over-walk.result.place c.args.proof.now.slots c.over-walk.ensures.place;
  most = omega (arith, ap (λ (view : DictView). length (entries_left view)) c.over-walk.ensures.left, ap (λ (dict : List ShownEntry). length dict) c.dict.ensures.entries);
}

pub returns-then-not-shows-clause-fault : goal.returns-then-not-shows-clause-fault
returns-then-not-shows-clause-fault c =
    let query = c.args.query.now in
    let i = c.loop-i.i in
    let test = slot_right query c.args.proof.now i (entries_left c.loop-i.walk.all) c.term.result.now c.slot-slot.result c.shows.result
    c.loop-i.invariant.dict (c.term.ensures.value ([], 0)) c.slot-slot.ensures.slot c.shows.ensures.shows in
    record {
      inside = omega (arith, c.len-i-end.ensures.value);
      wrong = λ (right : IsSlotRight query c.args.proof.now i). let yes = test.1 right in absurd (cc (yes, c.if-not-shows.true));
      before = c.loop-i.invariant.right;
    }

pub returns-then-not-shows-clause-most : goal.returns-then-not-shows-clause-most
returns-then-not-shows-clause-most c =
    let slots = c.args.proof.now.slots in
    let i = c.loop-i.i in
    let at = index_is slots i c.slot-slot.result c.slot-slot.ensures.slot in
    let low : i < length slots = omega (arith, c.loop-i-test.true, c.len-i-end.ensures.value, c.requires.each) in
    omega (
      arith,
      c.shows.ensures.most (omega (arith, at, c.loop-i.invariant.before i (omega arith) low)),
      c.slot-slot.ensures.cost,
      c.loop-i.invariant.most,
      low,
    )

pub loop-i-preserved : goal.loop-i-preserved
loop-i-preserved c =
    let query = c.args.query.now in
    let i = c.loop-i.i in
    let test = slot_right query c.args.proof.now i (entries_left c.loop-i.walk.all) c.term.result.now c.slot-slot.result c.shows.result
    c.loop-i.invariant.dict (c.term.ensures.value ([], 0)) c.slot-slot.ensures.slot c.shows.ensures.shows in
    let at = index_is c.args.proof.now.slots i c.slot-slot.result c.slot-slot.ensures.slot in
    let low : i < length c.args.proof.now.slots = omega (arith, c.loop-i-test.true, c.len-i-end.ensures.value, c.requires.each) in
    record {
      dict = ap entries_left c.shows.ensures.same ∙ c.loop-i.invariant.dict;
      right = slots_more query c.args.proof.now i c.loop-i.invariant.right (test.0 c.if-not-shows.false);
      cost = omega (arith, c.shows.ensures.cost, c.slot-slot.ensures.cost, c.loop-i.invariant.cost);
      before = before_next c.shows.new.self.place c.args.proof.now.slots i c.facts.ensures.range.spots.rise (omega (arith, c.shows.ensures.place, at));
      most = omega (
        arith,
        c.shows.ensures.most (omega (arith, at, c.loop-i.invariant.before i (omega arith) low)),
        c.slot-slot.ensures.cost,
        c.loop-i.invariant.most,
      );
    }
