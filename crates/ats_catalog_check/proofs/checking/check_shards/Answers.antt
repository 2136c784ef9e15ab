use Rattle.std.proofs.Common.{◌≡◌, ◌<◌, ◌≤◌, ◌+◌, ◌++◌, ◌^◌, ◌∙◌, List, [], ◌∷◌, length, take, drop, get_or, sym, ap, subst, arith}
use Rattle.std.proofs.lemmas.List.{length-take-le, take_more, drop-drop}
use Rattle.ats_client.proofs.Public.{few_items}
use Rattle.ats_proof.specs.Value.{Proof, IsProof, items_of}
use Rattle.ats_catalog_bytes.specs.Seen.{framed_of, shards_left}
use Rattle.ats_catalog_bytes.specs.Value.{Framed, frame_at}
use Rattle.ats_catalog_check.proofs.Left.{shard_is, items_at, as_many_items, sum_more, sum_within, kept_fit, left_more}
use Rattle.ats_catalog_check.proofs.checking.check_shards.Goals as goal

pub check_shard-requires-clause-falling : goal.check_shard-requires-clause-falling
check_shard-requires-clause-falling g c fell =
    kept_fit g.H.HashKind.hash c.args.query.now c.args.top _ _ _ _ c.loop-shard.invariant.left fell c.loop-shard.shard
    (sym (length-take-le c.loop-shard.shard c.args.view.now (omega (arith, c.loop-shard-test.true, c.shards-shard-end.ensures))))

pub check_shard-requires-clause-count : goal.check_shard-requires-clause-count
check_shard-requires-clause-count g c = omega (arith, c.loop-shard.invariant.count, c.facts.ensures.few)

pub returns-in-Err-clause-steps : goal.returns-in-Err-clause-steps
returns-in-Err-clause-steps g c items each =
    let i = c.loop-shard.shard in
    let low : i < length c.args.view.now = omega (arith, c.loop-shard-test.true, c.shards-shard-end.ensures) in
    let one_is = shard_is c.args.view.now (shards_left c.loop-shard.shards) i (framed_of c.in-Some.one) c.loop-shard.invariant.shards c.in-Some.ensures.first in
    let here = c.check_shard.ensures.steps (get_or items i 0) (subst (λ (f : Framed). (proof : Proof) → IsProof f.bytes proof → items_of proof ≤ get_or items i 0) one_is (items_at c.args.view.now items each i low)) in
    omega (
      arith,
      here,
      c.loop-shard.invariant.steps items each,
      sum_more (c.args.top + 8) items i (omega (arith, low, as_many_items c.args.view.now items each)),
      sum_within (c.args.top + 8) items (i + 1),
    )

pub loop-shard-preserved : goal.loop-shard-preserved
loop-shard-preserved g c =
    let i = c.loop-shard.shard in
    let view : List Framed = c.args.view.now in
    let low : i < length view = omega (arith, c.loop-shard-test.true, c.shards-shard-end.ensures) in
    let one : Framed = framed_of c.in-Some.one in
    let one_is : frame_at view i ≡ one = shard_is view (shards_left c.loop-shard.shards) i one c.loop-shard.invariant.shards c.in-Some.ensures.first in
    record {
      left =
          left_more g.H.HashKind.hash c.args.query.now c.args.top (take i view) (take (i + 1) view) one c.loop-shard.rows.rows c.check_shard.new.rows.rows
          c.loop-shard.fall c.in-Ok.falls c.loop-shard.most c.in-Ok.rest c.greater-most.result i c.loop-shard.invariant.left
          (sym (length-take-le i view (omega (arith, low)))) c.in-Ok.ensures.left c.greater-most.ensures
          (take_more view i (record { root = []; bytes = [] }) low ∙ ap (λ (f : Framed). take i view ++ f ∷ []) one_is);
      shards = c.in-Some.ensures.passed ∙ ap (drop 1) c.loop-shard.invariant.shards ∙ drop-drop 1 i view;
      work_room = c.check_shard.ensures.work_room ∙ c.loop-shard.invariant.work_room;
      rows_room = c.check_shard.ensures.rows_room ∙ c.loop-shard.invariant.rows_room;
      steps = λ items each.
          let here = c.check_shard.ensures.steps (get_or items i 0) (subst (λ (f : Framed). (proof : Proof) → IsProof f.bytes proof → items_of proof ≤ get_or items i 0) one_is (items_at view items each i low)) in
          omega (arith, here, c.loop-shard.invariant.steps items each, sum_more (c.args.top + 8) items i (omega (arith, low, as_many_items view items each)));
      count = omega (arith, c.check_shard.ensures.steps (2 ^ 26) (λ proof is. few_items _ proof is), c.loop-shard.invariant.count, c.requires.small);
    }
