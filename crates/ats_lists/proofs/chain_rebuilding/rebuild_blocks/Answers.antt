use Rattle.std.proofs.Common.{◌≡◌, ◌+◌, ◌*◌, ◌<◌, ◌≤◌, length, drop, refl, sym, ◌∙◌, ap, arith}
use Rattle.std.proofs.lemmas.List.{length-set, take_more_set}
use Rattle.std.proofs.lemmas.List.FromFn.{map-range_with_len_more}
use Rattle.ats_tree.proofs.Public.{from-all, rises-from}
use Rattle.ats_tree.specs.Part.{RisesFrom}
use Rattle.ats_lists.specs.Blocks.{blocks_in}
use Rattle.ats_lists.proofs.Fronts.{front-rises}
use Rattle.ats_lists.proofs.BlockLemmas.{taken-none, next-root, IsNextRoot, next-short, all-roots, inner-next, inner-all}
use Rattle.ats_lists.proofs.chain_rebuilding.rebuild_blocks.Goals as goal

pub loop-j-init : goal.loop-j-init
loop-j-init g c =
    let shown = g.R.Revealed.shown c.args.revealed.now
    in let some : 0 < blocks_in (length (g.R.Revealed.shown c.args.revealed.now)) = omega (arith, c.requires.some)
    in let none = taken-none c.args.f 0 (g.R.Revealed.shown c.args.revealed.now) some
    in record {
      leaves_left = sym (from-all 0 _ (front-rises 0 _ _ c.requires.front));
      digests_left = sym (ap (λ m. drop m (g.R.Revealed.digests c.args.revealed.now)) none);
      enough = omega arith;
      size = refl;
      right = refl;
      cost = omega arith;
      by_items = omega arith;
      by_places = omega arith;
    }

pub rebuild_part-requires : goal.rebuild_part-requires
rebuild_part-requires g c κs =
    let rises : RisesFrom (64 * c.loop-j.j) (g.R.Revealed.shown c.loop-j.revealed) =
    rw c.loop-j.invariant.leaves_left (rises-from 0 (64 * c.loop-j.j) _ (front-rises 0 _ _ c.requires.front))
    in ((refl, tt), (omega arith, (omega arith, (rises, omega arith))))

pub returns-in_err-roots-clause-short : goal.returns-in_err-roots-clause-short
returns-in_err-roots-clause-short g c =
    let less : c.loop-j.j < blocks_in (length (g.R.Revealed.shown c.args.revealed.now)) = omega arith
    in rw c.from_residual.ensures
    (next-short c.args.f c.loop-j.j c.min.result _ _ _ _ c.requires.front less c.min.ensures c.loop-j.invariant.leaves_left
    c.loop-j.invariant.digests_left c.in_err-roots.ensures.short)

pub returns-in_err-roots-clause-cost : goal.returns-in_err-roots-clause-cost
returns-in_err-roots-clause-cost g c =
    let le : c.loop-j.j + 1 ≤ blocks_in (length (g.R.Revealed.shown c.args.revealed.now)) = omega arith
    in rw c.from_residual.ensures (omega (
      arith,
      c.in_err-roots.ensures.cost,
      inner-next c.args.f c.loop-j.j c.min.result (g.R.Revealed.shown c.args.revealed.now) _ c.loop-j.invariant.leaves_left c.min.ensures,
      inner-all c.args.f (c.loop-j.j + 1) (g.R.Revealed.shown c.args.revealed.now) le,
    ))

pub returns-in_err-roots-clause-by_items : goal.returns-in_err-roots-clause-by_items
returns-in_err-roots-clause-by_items g c = rw c.from_residual.ensures (omega (arith, c.in_err-roots.ensures.by_items))

pub returns-in_err-roots-clause-by_places : goal.returns-in_err-roots-clause-by_places
returns-in_err-roots-clause-by_places g c = rw c.from_residual.ensures (omega (arith, c.rebuild_part.ensures.by_places))

pub loop-j-preserved : goal.loop-j-preserved
loop-j-preserved g c =
    let less : c.loop-j.j < blocks_in (length (g.R.Revealed.shown c.args.revealed.now)) = omega arith
    in let next : IsNextRoot g.H.HashKind.hash c.args.f c.loop-j.j (g.R.Revealed.shown c.args.revealed.now) (g.R.Revealed.digests c.args.revealed.now)
    c.in_ok-roots.field-0 (g.R.Revealed.shown c.rebuild_part.new.revealed) (g.R.Revealed.digests c.rebuild_part.new.revealed) =
    next-root g.H.HashKind.hash c.args.f c.loop-j.j c.min.result _ _ _ _ _ _ _ c.requires.front c.requires.within less c.min.ensures
    c.loop-j.invariant.leaves_left c.loop-j.invariant.digests_left c.in_ok-roots.ensures.whole
    in let inside : c.loop-j.j < length c.loop-j.roots = omega arith
    in record {
      leaves_left = next.leaves_left;
      digests_left = next.digests_left;
      enough = next.enough;
      size = length-set _ _ _ ∙ c.loop-j.invariant.size;
      right = take_more_set _ _ _ inside ∙ rw (c.loop-j.invariant.right, next.value) (sym (map-range_with_len_more _ 0 c.loop-j.j c.loop-j.j (omega arith)));
      cost = omega (
        arith,
        c.in_ok-roots.ensures.cost,
        inner-next c.args.f c.loop-j.j c.min.result (g.R.Revealed.shown c.args.revealed.now) _ c.loop-j.invariant.leaves_left c.min.ensures,
      );
      by_items = omega (arith, c.in_ok-roots.ensures.by_items);
      by_places = omega (arith, c.rebuild_part.ensures.by_places);
    }

pub returns-clause-whole : goal.returns-clause-whole
returns-clause-whole g c =
    let end : c.loop-j.j ≡ blocks_in (length (g.R.Revealed.shown c.args.revealed.now)) = omega arith
    in let size : length c.loop-j.roots ≡ c.loop-j.j = omega arith
    in all-roots g.H.HashKind.hash c.args.f c.loop-j.j _ _ _ _ _ c.requires.front end size
    c.loop-j.invariant.leaves_left c.loop-j.invariant.digests_left c.loop-j.invariant.enough c.loop-j.invariant.right

pub returns-clause-cost : goal.returns-clause-cost
returns-clause-cost g c =
    let le : c.loop-j.j ≤ blocks_in (length (g.R.Revealed.shown c.args.revealed.now)) = omega arith
    in omega (arith, inner-all c.args.f c.loop-j.j (g.R.Revealed.shown c.args.revealed.now) le)
