use Rattle.std.proofs.Common.{◌≡◌, ◌<◌, ◌++◌, List, [], length, map, get_or, take, subst, sym, ap, ◌∙◌, arith, append-nil, take_all, ℕ, Bor}
use Rattle.std.specs.List.{flat_map}
use Rattle.std.proofs.lemmas.List.{length-map, get_or-map}
use Rattle.ats_postings.specs.Lists.{IsList}
use Rattle.ats_lists.specs.KeptList.{kept_list}
use Rattle.ats_lists.specs.declared.format.Format.{Format}
use Rattle.ats_lists.specs.declared.list_keeping.ListDigests.{ListDigests}
use Rattle.ats_bound.specs.Schedule.{WholeLane, whole_lane, whole_lanes}
use Rattle.ats_bound.specs.declared.lane.Lane.{Lane}
use Rattle.ats_bound.proofs.Public.{count_at}
use Rattle.ats_proof.specs.Parts.{counted}
use Rattle.ats_proof.specs.Value.{Prefix, id_fields, prefix_fields}
use Rattle.ats_honest.specs.Honest.{prefixes}
use Rattle.ats_prover.specs.Inner.Nodes.{list_digests}
use Rattle.ats_prover.specs.Inner.Writing.{put}
use Rattle.ats_prover.proofs.Fronts.{lent_at, prefix_more}
use Rattle.ats_honest.proofs.Public.{prefix_each}
use Rattle.ats_prover.proofs.prefixes.write_lists.Goals as goal

pub loop-i-init : goal.loop-i-init
loop-i-init g c = record {
  fields = λ format kept. c.in_ok-write_met.ensures.fields ∙ ap (put c.args.writer.now) (sym (append-nil (counted 4 id_fields c.args.met.now)));
  size = omega (arith, c.in_ok-write_met.ensures.size);
}

abbrev none : WholeLane
none = record { coefficient = 0; entries = [] }

pub write_prefix-requires-clause-list : goal.write_prefix-requires-clause-list
write_prefix-requires-clause-list g c =
    let i = c.loop-i.i in
    let inside : i < length c.args.lanes.now = omega (arith, c.loop-i-test.true) in
    let is = c.requires.lists i none (omega (arith, inside, length-map c.args.lanes.now whole_lane)) in
    subst (λ (l : WholeLane). IsList 65536 l.entries) (get_or-map whole_lane c.args.lanes.now i _ none inside) is

pub write_prefix-requires-clause-some : goal.write_prefix-requires-clause-some
write_prefix-requires-clause-some g c =
    (c.requires.cut.each c.loop-i.i none (omega (arith, c.loop-i-test.true, length-map c.args.lanes.now whole_lane))).0

pub write_prefix-requires-clause-within : goal.write_prefix-requires-clause-within
write_prefix-requires-clause-within g c = (count_at c.args.lanes.now c.args.cut.now c.loop-i.i _ c.requires.cut (omega (arith, c.loop-i-test.true))).1

-- the digests that are lent for this list
lent_here : (H : List ℕ → List ℕ) (format : Format) (lanes : List Lane) (kept : List (Bor ListDigests)) (i : ℕ) (d : Lane) (e lent : Bor ListDigests)
    → map (λ (n : Bor ListDigests). n.now) kept ≡ list_digests H format (whole_lanes lanes) → i < length lanes → lent ≡ get_or kept i e
    → lent.now ≡ kept_list H format (get_or lanes i d).entries.now
lent_here H format lanes kept i d e lent are inside is = ap (λ (n : Bor ListDigests). n.now) is ∙ lent_at H format lanes kept i d e are inside

pub write_prefix-requires-clause-kept : goal.write_prefix-requires-clause-kept
write_prefix-requires-clause-kept g c =
    let format : Format = c.requires.kept.0 in
    (format, lent_here g.H.HashKind.hash format c.args.lanes.now c.args.kept.now c.loop-i.i _ c.index-kept-i.result c.index-kept-i.result c.requires.kept.1 (omega (arith, c.loop-i-test.true)) c.index-kept-i.is)

pub loop-i-preserved : goal.loop-i-preserved
loop-i-preserved g c =
    let inside : c.loop-i.i < length c.args.lanes.now = omega (arith, c.loop-i-test.true) in record {
      fields = λ format kept. prefix_more g.H.HashKind.hash format c.args.met.now c.args.writer.now (counted 4 id_fields c.args.met.now) c.args.lanes.now c.args.cut.now c.loop-i.i _
          c.loop-i.writer c.write_prefix.new.writer c.requires.cut.size inside (c.loop-i.invariant.fields format kept)
          (c.in_ok-write_prefix.ensures.fields format (lent_here g.H.HashKind.hash format c.args.lanes.now c.args.kept.now c.loop-i.i _ c.index-kept-i.result c.index-kept-i.result kept inside c.index-kept-i.is));
      size = omega (arith, c.in_ok-write_prefix.ensures.size, c.loop-i.invariant.size);
    }

pub returns-clause-fields : goal.returns-clause-fields
returns-clause-fields g c format kept =
    let H = g.H.HashKind.hash in
    let lanes = whole_lanes c.args.lanes.now in
    let all : List Prefix = prefixes H format c.args.met.now lanes c.args.cut.now in
    let each = prefix_each H format c.args.met.now lanes c.args.cut.now c.requires.cut.size in
    let whole : take c.loop-i.i all ≡ all = take_all c.loop-i.i all (omega (arith, each, c.loop-i-test.false, length-map c.args.lanes.now whole_lane)) in
    c.loop-i.invariant.fields format kept ∙ ap (λ (ps : List Prefix). put c.args.writer.now (counted 4 id_fields c.args.met.now ++ flat_map prefix_fields ps)) whole
