use Rattle.std.proofs.Common.{ℕ, ◌≡◌, ◌*◌, List, length, All, nat_lt, refl, sym, ◌∙◌, ap, arith}
use Rattle.std.specs.Option.{option_map}
use Rattle.std.proofs.lemmas.List.{length-take-le}
use Rattle.std.proofs.lemmas.List.Elements.{All-drop}
use Rattle.ats_lists.specs.Blocks.{blocks_in}
use Rattle.ats_lists.specs.ChainClash.{list_difference_of}
use Rattle.ats_lists.specs.ChainPrefix.{next_digest}
use Rattle.ats_lists.proofs.Fronts.{front-length}
use Rattle.ats_lists.proofs.BlockLemmas.{blocks-div_ceil, shown-front}
use Rattle.ats_lists.proofs.ChainOutcomes.{chain-fits, not-none, none-next, next-is, block-count, for-next-few, search-steps}
use Rattle.ats_lists.proofs.ChainClashes.{chain-first}
use Rattle.ats_lists.proofs.chain_clashing.chain_first_clash.Goals as goal

pub search_trees-first-requires : goal.search_trees-first-requires
search_trees-first-requires g c κs =
    let size : length (g.R.Revealed.shown c.args.revealed.now) ≡ c.args.k = front-length 0 c.args.k (g.R.Revealed.shown c.args.revealed.now) c.requires.front
    in let blocks : c.div_ceil-blocks.result ≡ blocks_in (length (g.R.Revealed.shown c.args.revealed.now)) =
    blocks-div_ceil c.args.k (g.R.Revealed.shown c.args.revealed.now) c.requires.front c.div_ceil-blocks.ensures
    in let fits = chain-fits g.H.HashKind.hash c.args.f (g.R.Revealed.shown c.args.revealed.now) (g.R.Revealed.digests c.args.revealed.now) c.requires.rebuilds
    in (
      (refl, tt),
      (
        fits.0,
        (
          shown-front c.args.k (g.R.Revealed.shown c.args.revealed.now) c.requires.front,
          (
            fits.1,
            (
              length-take-le _ _ (omega arith) ∙ blocks,
              (omega arith, (omega (arith, fits.2), (c.requires.short, omega (arith, c.requires.space)))),
            ),
          ),
        ),
      ),
    )

pub pass_next-requires : goal.pass_next-requires
pass_next-requires g c κs =
    let sized : All (λ (d : List ℕ). length d ≡ 32) (g.R.Revealed.digests c.search_trees-first.new.revealed) =
    rw c.search_trees-first.ensures.whole.digests_left (All-drop (λ (d : List ℕ). length d ≡ 32) _ _ c.position-facts.ensures.sized)
    in ((refl, tt), (sized, omega (arith, c.search_trees-first.ensures.cost, c.requires.space)))

-- the digest of the next block is there
pub unreachable-requires : goal.unreachable-requires
unreachable-requires g c =
    let blocks : c.div_ceil-blocks.result ≡ blocks_in (length (g.R.Revealed.shown c.args.revealed.now)) =
    blocks-div_ceil c.args.k (g.R.Revealed.shown c.args.revealed.now) c.requires.front c.div_ceil-blocks.ensures
    in not-none _
    (sym (none-next g.H.HashKind.hash c.args.f (g.R.Revealed.shown c.args.revealed.now) _ (g.R.Revealed.digests c.args.revealed.now) _ _
    (nat_lt (64 * c.div_ceil-blocks.result) c.args.f) c.search_trees-first.ensures.whole (ap (λ b. nat_lt (64 * b) c.args.f) blocks) c.in_default.ensures.value))
    c.requires.rebuilds

pub search_links-requires-clause-few : goal.search_links-requires-clause-few
search_links-requires-clause-few g c =
    let size : length (g.R.Revealed.shown c.args.revealed.now) ≡ c.args.k = front-length 0 c.args.k (g.R.Revealed.shown c.args.revealed.now) c.requires.front
    in omega (arith, block-count g.H.HashKind.hash c.args.f _ _ _ _ _ c.search_trees-first.ensures.whole, c.requires.few)

pub search_links-requires-clause-space : goal.search_links-requires-clause-space
search_links-requires-clause-space g c =
    omega (
      arith,
      c.search_trees-first.ensures.cost,
      c.in-Some.ensures.cost,
      for-next-few (nat_lt (64 * c.div_ceil-blocks.result) c.args.f),
      c.requires.space,
    )

pub returns-clause-clash : goal.returns-clause-clash
returns-clause-clash g c =
    let blocks : c.div_ceil-blocks.result ≡ blocks_in (length (g.R.Revealed.shown c.args.revealed.now)) =
    blocks-div_ceil c.args.k (g.R.Revealed.shown c.args.revealed.now) c.requires.front c.div_ceil-blocks.ensures
    in let next : c.in-Some.next ≡ next_digest c.args.f (g.R.Revealed.shown c.args.revealed.now) (g.R.Revealed.digests c.args.revealed.now) =
    next-is c.args.f (g.R.Revealed.shown c.args.revealed.now) (g.R.Revealed.digests c.args.revealed.now) _ c.in-Some.next
    (nat_lt (64 * c.div_ceil-blocks.result) c.args.f) c.search_trees-first.ensures.whole.digests_left (ap (λ b. nat_lt (64 * b) c.args.f) blocks) c.in-Some.ensures.value
    in chain-first g.H.HashKind.hash (g.O.OwnList.ours c.args.own.now) c.args.f (g.R.Revealed.shown c.args.revealed.now) (g.R.Revealed.digests c.args.revealed.now)
    c.search_trees-first.new.roots c.in-Some.next (length c.search_trees-first.new.roots) c.search_trees-first.result.block
    (option_map list_difference_of c.search_trees-first.result.clash) (option_map list_difference_of c.search_links.result)
    (block-count g.H.HashKind.hash c.args.f _ _ _ _ _ c.search_trees-first.ensures.whole) c.search_trees-first.ensures.whole.value next
    c.search_trees-first.ensures.first c.search_links.ensures.clash

pub returns-clause-cost : goal.returns-clause-cost
returns-clause-cost g c =
    let count = block-count g.H.HashKind.hash c.args.f _ _ _ _ _ c.search_trees-first.ensures.whole
    in let blocks : c.div_ceil-blocks.result ≡ blocks_in (length (g.R.Revealed.shown c.args.revealed.now)) =
    blocks-div_ceil c.args.k (g.R.Revealed.shown c.args.revealed.now) c.requires.front c.div_ceil-blocks.ensures
    in let many : length c.search_trees-first.new.roots ≡ c.div_ceil-blocks.result = count ∙ sym blocks
    in let same : nat_lt (64 * c.div_ceil-blocks.result) c.args.f ≡ nat_lt (64 * length c.search_trees-first.new.roots) c.args.f =
    ap (λ b. nat_lt (64 * b) c.args.f) (sym many)
    in omega (
      arith,
      c.search_links.ensures.cost,
      search-steps c.args.f (length c.search_trees-first.new.roots) c.args.steps.now c.search_trees-first.new.steps c.pass_next.new.steps
          (nat_lt (64 * c.div_ceil-blocks.result) c.args.f) same c.search_trees-first.ensures.cost c.in-Some.ensures.cost,
    )
