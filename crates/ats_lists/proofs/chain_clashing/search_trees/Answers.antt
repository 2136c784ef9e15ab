use Rattle.std.proofs.Common.{◌≡◌, ◌+◌, ◌*◌, ◌<◌, ◌≤◌, length, drop, refl, sym, ◌∙◌, ap, arith, not, All}
use Rattle.std.specs.Option.{option_map}
use Rattle.std.proofs.lemmas.List.{length-set, take_more_set}
use Rattle.std.proofs.lemmas.List.FromFn.{map-range_with_len_more}
use Rattle.ats_tree.proofs.Public.{from-all, rises-from, All-from}
use Rattle.ats_tree.specs.Shown.{Shown}
use Rattle.ats_tree.specs.Part.{RisesFrom}
use Rattle.ats_lists.specs.Blocks.{blocks_in}
use Rattle.ats_lists.specs.ChainClash.{list_difference_of}
use Rattle.ats_lists.specs.Inner.ChainClash.{tree_collision, IsFirstInTrees}
use Rattle.ats_lists.proofs.Fronts.{front-rises}
use Rattle.ats_lists.proofs.BlockLemmas.{taken-none, next-root, IsNextRoot, all-roots}
use Rattle.ats_lists.proofs.ChainClashes.{first-start, first-taken, first-none, first-kept, block-enough, block-collision}
use Rattle.ats_lists.proofs.chain_clashing.search_trees.Goals as goal
use Rattle.ats_lists.proofs.chain_clashing.search_trees.Goals.{then-is_none+then-is_some, else-is_none, else-is_none-via-then-is_none+else-is_some, else-is_none-via-else-is_none}

pub loop-j-init : goal.loop-j-init
loop-j-init g c =
    let some : 0 < blocks_in (length (g.R.Revealed.shown c.args.revealed.now)) = omega (arith, c.requires.some)
    in let none = taken-none c.args.f 0 (g.R.Revealed.shown c.args.revealed.now) some
    in record {
      leaves_left = sym (from-all 0 _ (front-rises 0 _ _ c.requires.front));
      digests_left = sym (ap (λ m. drop m (g.R.Revealed.digests c.args.revealed.now)) none);
      enough = omega arith;
      size = refl;
      right = refl;
      first = first-start _ _ _ _ _ _;
      ahead = λ low. omega arith;
      cost = omega arith;
    }

pub search_tree-tree-requires : goal.search_tree-tree-requires
search_tree-tree-requires g c κs =
    let less : c.loop-j.j < blocks_in (length (g.R.Revealed.shown c.args.revealed.now)) = omega arith
    in let rises : RisesFrom (64 * c.loop-j.j) (g.R.Revealed.shown c.loop-j.revealed) =
    rw c.loop-j.invariant.leaves_left (rises-from 0 (64 * c.loop-j.j) _ (front-rises 0 _ _ c.requires.front))
    in let short : All (λ (s : Shown). length s.1 ≤ 127) (g.R.Revealed.shown c.loop-j.revealed) =
    rw c.loop-j.invariant.leaves_left (All-from (λ (s : Shown). length s.1 ≤ 127) (64 * c.loop-j.j) _ c.requires.short)
    in let enough = block-enough c.args.f c.loop-j.j c.min-n.result _ _ _ _ c.requires.front less c.min-n.ensures c.loop-j.invariant.leaves_left
    c.loop-j.invariant.digests_left c.requires.enough
    in ((refl, tt), (omega arith, (omega arith, (omega arith, (rises, (enough, (short, omega (arith, c.loop-j.invariant.cost))))))))

pub loop-j-preserved : goal.loop-j-preserved
loop-j-preserved g c =
    let less : c.loop-j.j < blocks_in (length (g.R.Revealed.shown c.args.revealed.now)) = omega arith
    in let next : IsNextRoot g.H.HashKind.hash c.args.f c.loop-j.j (g.R.Revealed.shown c.args.revealed.now) (g.R.Revealed.digests c.args.revealed.now)
    c.search_tree-tree.result.digest (g.R.Revealed.shown c.search_tree-tree.new.revealed) (g.R.Revealed.digests c.search_tree-tree.new.revealed) =
    next-root g.H.HashKind.hash c.args.f c.loop-j.j c.min-n.result _ _ _ _ _ _ _ c.requires.front c.requires.within less c.min-n.ensures
    c.loop-j.invariant.leaves_left c.loop-j.invariant.digests_left c.search_tree-tree.ensures.whole
    in let inside : c.loop-j.j < length c.loop-j.roots = omega arith
    in let here : option_map list_difference_of c.search_tree-tree.result.clash
    ≡ tree_collision g.H.HashKind.hash (g.O.OwnList.ours c.args.own.now) c.args.f (g.R.Revealed.shown c.args.revealed.now) (g.R.Revealed.digests c.args.revealed.now) c.loop-j.j =
    block-collision g.H.HashKind.hash (g.O.OwnList.ours c.args.own.now) c.args.f c.loop-j.j c.min-n.result _ _ _ _ _ less c.min-n.ensures
    c.loop-j.invariant.leaves_left c.loop-j.invariant.digests_left c.search_tree-tree.ensures.clash
    in let first : IsFirstInTrees g.H.HashKind.hash (g.O.OwnList.ours c.args.own.now) c.args.f (g.R.Revealed.shown c.args.revealed.now) (g.R.Revealed.digests c.args.revealed.now)
    (c.loop-j.j + 1) c.if-is_none.first.block (option_map list_difference_of c.if-is_none.first.clash) =
    elim c.if-is_none.branch [
      | then-is_none+then-is_some w ↦
          rw w.first-is
          (first-taken _ _ _ _ _ _ _ c.loop-j.first.clash c.search_tree-tree.result.clash (c.is_none.ensures ∙ ap not w.if-is_none.true)
          (sym w.is_some.ensures ∙ w.if-is_some.true) c.loop-j.invariant.first here)
      | else-is_none w ↦
          rw w.first-is
          (elim w.else-is_none.branch [
            | else-is_none-via-then-is_none+else-is_some v ↦
                first-none _ _ _ _ _ _ _ (length c.args.roots.now) c.loop-j.first.clash c.search_tree-tree.result.clash (c.is_none.ensures ∙ ap not v.if-is_none.true)
                (sym v.is_some.ensures ∙ v.if-is_some.false) c.loop-j-test.true c.loop-j.invariant.ahead c.loop-j.invariant.first here
            | else-is_none-via-else-is_none v ↦
                first-kept _ _ _ _ _ _ _ c.loop-j.first.clash (c.is_none.ensures ∙ ap not v.if-is_none.false) c.loop-j.invariant.first
          ])
    ]
    in let ahead : c.loop-j.j + 1 ≤ c.if-is_none.first.block → length c.args.roots.now ≤ c.if-is_none.first.block =
    elim c.if-is_none.branch [
      | then-is_none+then-is_some w ↦ rw w.first-is (λ (past : c.loop-j.j + 1 ≤ c.loop-j.j). absurd (omega arith))
      | else-is_none w ↦ rw w.first-is (λ (past : c.loop-j.j + 1 ≤ c.loop-j.first.block). c.loop-j.invariant.ahead (omega arith))
    ]
    in record {
      leaves_left = next.leaves_left;
      digests_left = next.digests_left;
      enough = next.enough;
      size = length-set _ _ _ ∙ c.loop-j.invariant.size;
      right = take_more_set _ _ _ inside ∙ rw (c.loop-j.invariant.right, next.value) (sym (map-range_with_len_more _ 0 c.loop-j.j c.loop-j.j (omega arith)));
      first = first;
      ahead = ahead;
      cost = omega (arith, c.loop-j.invariant.cost, c.search_tree-tree.ensures.cost, c.min-n.ensures);
    }

pub returns-clause-whole : goal.returns-clause-whole
returns-clause-whole g c =
    let end : c.loop-j.j ≡ blocks_in (length (g.R.Revealed.shown c.args.revealed.now)) = omega arith
    in let size : length c.loop-j.roots ≡ c.loop-j.j = omega arith
    in all-roots g.H.HashKind.hash c.args.f c.loop-j.j _ _ _ _ _ c.requires.front end size
    c.loop-j.invariant.leaves_left c.loop-j.invariant.digests_left c.loop-j.invariant.enough c.loop-j.invariant.right
