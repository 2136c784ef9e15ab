use Rattle.std.proofs.Common.{◌≡◌, ◌<◌, ◌≤◌, ◌∙◌, ℕ, List, length, subst, arith, refl, true, IsTrue, ◌↔◌}
use Rattle.ats_client.specs.Rows.{IsLeftByCheck}
use Rattle.ats_catalog_check.specs.declared.row.CatalogRow.{CatalogRow}
use Rattle.ats_catalog_check.specs.Merge.{AreFalling}
use Rattle.ats_catalog_check.specs.Inner.Places.{IsPlace, put_in}
use Rattle.ats_catalog_check.proofs.KeptRows.{none_taken, one_taken, not_taken, all_taken, kept_falls, more_steps}
use Rattle.ats_catalog_check.proofs.merging.merge_rows.Goals as goal

pub loop-i-init : goal.loop-i-init
loop-i-init c = record {
  room = refl;
  steps = omega arith;
  count = omega arith;
  falling = c.requires.falling;
  rows = λ query left. none_taken query c.args.proof.now c.args.work.now.marks c.args.threshold left c.args.top c.args.shard c.args.rows.now.rows c.requires.before c.requires.ordered;
}

pub returns-then-not-insert-clause-kept : goal.returns-then-not-insert-clause-kept
returns-then-not-insert-clause-kept c query left =
    let low : c.loop-i.i < length c.args.proof.now.answer = omega (arith, c.loop-i-test.true, c.answers-i-end.ensures) in
    not_taken query c.args.proof.now c.args.work.now.marks c.args.threshold left c.args.top c.args.shard c.args.rows.now.rows c.requires.before c.requires.ordered
    c.loop-i.i c.insert.new.rows.rows c.insert.result c.if-not-insert.true low
    (one_taken query c.args.proof.now c.args.work.now.marks c.args.threshold left c.args.top c.args.shard c.args.rows.now.rows c.requires.before c.requires.ordered
    c.loop-i.i c.loop-i.rows.rows c.insert.new.rows.rows c.insert.result c.row.result low (c.row.ensures.row query left) (c.loop-i.invariant.rows query left) c.loop-i.invariant.falling
    (subst (λ (x : CatalogRow). (place : ℕ) → IsPlace x c.loop-i.rows.rows place → (IsTrue c.insert.result ↔ AreFalling c.args.top (put_in x c.loop-i.rows.rows place))
    × (c.insert.result ≡ true → c.insert.new.rows.rows ≡ put_in x c.loop-i.rows.rows place)) c.in_shard-row.ensures c.insert.ensures.put))

pub loop-i-preserved : goal.loop-i-preserved
loop-i-preserved c =
    let low : c.loop-i.i < length c.args.proof.now.answer = omega (arith, c.loop-i-test.true, c.answers-i-end.ensures) in
    let taken = λ (query : List (List ℕ × ℕ)) (left : IsLeftByCheck query c.args.proof.now c.args.work.now.marks c.args.threshold).
    one_taken query c.args.proof.now c.args.work.now.marks c.args.threshold left c.args.top c.args.shard c.args.rows.now.rows c.requires.before c.requires.ordered
    c.loop-i.i c.loop-i.rows.rows c.insert.new.rows.rows c.insert.result c.row.result low (c.row.ensures.row query left) (c.loop-i.invariant.rows query left) c.loop-i.invariant.falling
    (subst (λ (x : CatalogRow). (place : ℕ) → IsPlace x c.loop-i.rows.rows place → (IsTrue c.insert.result ↔ AreFalling c.args.top (put_in x c.loop-i.rows.rows place))
    × (c.insert.result ≡ true → c.insert.new.rows.rows ≡ put_in x c.loop-i.rows.rows place)) c.in_shard-row.ensures c.insert.ensures.put) in
    let few : length c.loop-i.rows.rows ≤ c.args.top = c.loop-i.invariant.falling.most in
    record {
      room = c.insert.ensures.room ∙ c.loop-i.invariant.room;
      steps = omega (arith, more_steps c.args.top c.loop-i.i, c.loop-i.invariant.steps, c.row.ensures.cost, c.insert.ensures.most, few);
      count = omega (arith, c.loop-i.invariant.count, c.row.ensures.cost, c.insert.ensures.most, few, c.requires.small);
      falling = kept_falls c.args.top c.insert.result c.insert.new.rows.rows _ c.if-not-insert.false (taken c.requires.left.0 c.requires.left.1);
      rows = λ query left. (taken query left).rows c.if-not-insert.false;
    }

pub returns-clause-kept : goal.returns-clause-kept
returns-clause-kept c query left =
    all_taken query c.args.proof.now c.args.work.now.marks c.args.threshold left c.args.top c.args.shard c.args.rows.now.rows c.requires.before c.requires.ordered
    c.loop-i.i c.loop-i.rows.rows (omega (arith, c.loop-i-test.false, c.answers-i-end.ensures)) (c.loop-i.invariant.rows query left) c.loop-i.invariant.falling
