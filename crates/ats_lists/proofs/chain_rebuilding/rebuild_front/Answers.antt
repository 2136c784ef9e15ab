use Rattle.std.proofs.Common.{◌≡◌, ◌+◌, ◌-◌, ◌*◌, ◌≤◌, length, nat_lt, refl, sym, ◌∙◌, ap, arith}
use Rattle.std.proofs.lemmas.List.{length-drop}
use Rattle.ats_lists.specs.Blocks.{blocks_in}
use Rattle.ats_lists.proofs.ChainOutcomes.{none-short, none-next, none-left, chain-some, none-gone, next-there, some-left, steps-by_places, for-next-few, for_next, block-count}
use Rattle.ats_lists.proofs.ChainBinding.{chain-bound_to}
use Rattle.ats_lists.proofs.chain_rebuilding.rebuild_front.Goals as goal

-- the last shown block lacks digests
pub returns-in_err-rebuild_blocks-clause-value : goal.returns-in_err-rebuild_blocks-clause-value
returns-in_err-rebuild_blocks-clause-value g c =
    c.from_residual.ensures ∙ none-short g.H.HashKind.hash c.args.f (g.R.Revealed.shown c.args.revealed.now) (g.R.Revealed.digests c.args.revealed.now) c.in_err-rebuild_blocks.ensures.short

pub returns-in_err-rebuild_blocks-clause-by_items : goal.returns-in_err-rebuild_blocks-clause-by_items
returns-in_err-rebuild_blocks-clause-by_items g c =
    omega (arith, c.in_err-rebuild_blocks.ensures.by_items)

-- the digest of the next block is missing
pub returns-in_err-next-clause-value : goal.returns-in_err-next-clause-value
returns-in_err-next-clause-value g c =
    c.from_residual-in_err-next.ensures
    ∙ none-next g.H.HashKind.hash c.args.f (g.R.Revealed.shown c.args.revealed.now) _ (g.R.Revealed.digests c.args.revealed.now) _ _ (nat_lt (64 * length c.args.roots.now) c.args.f) c.in_ok-rebuild_blocks.ensures.whole (ap (λ b. nat_lt (64 * b) c.args.f) c.requires.size) c.in_err-next.ensures.value

pub returns-in_err-next-clause-by_items : goal.returns-in_err-next-clause-by_items
returns-in_err-next-clause-by_items g c =
    omega (arith, c.in_ok-rebuild_blocks.ensures.by_items, c.pass_next.ensures.cost, for-next-few (nat_lt (64 * length c.args.roots.now) c.args.f))

pub returns-in_err-next-clause-by_places : goal.returns-in_err-next-clause-by_places
returns-in_err-next-clause-by_places g c =
    let few : c.pass_next.new.steps + blocks_in (length (g.R.Revealed.shown c.args.revealed.now)) ≤ c.args.steps.now + 3 * c.args.f =
    steps-by_places c.args.f (blocks_in (length (g.R.Revealed.shown c.args.revealed.now))) c.args.steps.now c.rebuild_blocks.new.steps c.pass_next.new.steps (nat_lt (64 * length c.args.roots.now) c.args.f) (ap (λ b. nat_lt (64 * b) c.args.f) c.requires.size)
    c.in_ok-rebuild_blocks.ensures.by_places c.pass_next.ensures.cost
    in omega (arith, c.requires.some, few)

pub pass_digest-requires : goal.pass_digest-requires
pass_digest-requires g c κs = ((refl, tt), omega (arith, c.in_ok-rebuild_blocks.ensures.by_places, c.pass_next.ensures.cost, for-next-few (nat_lt (64 * length c.args.roots.now) c.args.f)))

-- a digest is left
pub returns-in-Some-clause-value : goal.returns-in-Some-clause-value
returns-in-Some-clause-value g c =
    none-left g.H.HashKind.hash c.args.f (g.R.Revealed.shown c.args.revealed.now) _ (g.R.Revealed.digests c.args.revealed.now) _ _ _ (nat_lt (64 * length c.args.roots.now) c.args.f) c.in_ok-rebuild_blocks.ensures.whole (ap (λ b. nat_lt (64 * b) c.args.f) c.requires.size) c.pass_next.ensures.digests
    (some-left _ _ c.in-Some.ensures.first)

pub returns-in-Some-clause-by_items : goal.returns-in-Some-clause-by_items
returns-in-Some-clause-by_items g c =
    omega (arith, c.requires.some, c.in_ok-rebuild_blocks.ensures.by_items, c.pass_next.ensures.cost, c.pass_digest.ensures.cost, for-next-few (nat_lt (64 * length c.args.roots.now) c.args.f))

pub returns-in-Some-clause-by_places : goal.returns-in-Some-clause-by_places
returns-in-Some-clause-by_places g c =
    let few : c.pass_next.new.steps + blocks_in (length (g.R.Revealed.shown c.args.revealed.now)) ≤ c.args.steps.now + 3 * c.args.f =
    steps-by_places c.args.f (blocks_in (length (g.R.Revealed.shown c.args.revealed.now))) c.args.steps.now c.rebuild_blocks.new.steps c.pass_next.new.steps (nat_lt (64 * length c.args.roots.now) c.args.f) (ap (λ b. nat_lt (64 * b) c.args.f) c.requires.size)
    c.in_ok-rebuild_blocks.ensures.by_places c.pass_next.ensures.cost
    in omega (arith, c.requires.some, few, c.pass_digest.ensures.cost)

-- nothing is left
pub link_blocks-requires : goal.link_blocks-requires
link_blocks-requires g c =
    let count : length c.rebuild_blocks.new.roots ≡ blocks_in (length (g.R.Revealed.shown c.args.revealed.now)) =
    block-count g.H.HashKind.hash c.args.f (g.R.Revealed.shown c.args.revealed.now) (g.R.Revealed.shown c.rebuild_blocks.new.revealed) (g.R.Revealed.digests c.args.revealed.now) (g.R.Revealed.digests c.rebuild_blocks.new.revealed) _ c.in_ok-rebuild_blocks.ensures.whole
    in record {
      space = omega (arith, count, c.in_ok-rebuild_blocks.ensures.by_places, c.pass_next.ensures.cost, c.pass_digest.ensures.cost, for-next-few (nat_lt (64 * length c.args.roots.now) c.args.f));
    }

pub returns-in-None-clause-value : goal.returns-in-None-clause-value
returns-in-None-clause-value g c =
    let some : 1 ≤ length (g.R.Revealed.shown c.args.revealed.now) = omega (arith, c.requires.some)
    in let within : length (g.R.Revealed.shown c.args.revealed.now) ≤ c.args.f = omega arith
    in chain-some g.H.HashKind.hash c.args.f (g.R.Revealed.shown c.args.revealed.now) (g.R.Revealed.shown c.rebuild_blocks.new.revealed) (g.R.Revealed.digests c.args.revealed.now) (g.R.Revealed.digests c.rebuild_blocks.new.revealed) _ _ (nat_lt (64 * length c.args.roots.now) c.args.f) c.in_ok-next.next c.link_blocks.result
    some within c.in_ok-rebuild_blocks.ensures.whole (ap (λ b. nat_lt (64 * b) c.args.f) c.requires.size) c.in_ok-next.ensures.value
    c.pass_next.ensures.digests c.in-None.ensures.first c.link_blocks.ensures.value

pub returns-in-None-clause-used : goal.returns-in-None-clause-used
returns-in-None-clause-used g c = (
  c.pass_digest.ensures.others ∙ c.pass_next.ensures.leaves ∙ c.in_ok-rebuild_blocks.ensures.whole.leaves_left,
  none-gone _ _ c.in-None.ensures.first c.pass_digest.ensures.passed,
)

-- the shown leaves are bound, or there is a collision
pub returns-in-None-clause-bound : goal.returns-in-None-clause-bound
returns-in-None-clause-bound g c =
    chain-bound_to g.H.HashKind.hash g.H.HashKind.sized c.args.f (g.R.Revealed.shown c.args.revealed.now) (g.R.Revealed.digests c.args.revealed.now) c.link_blocks.result
    c.requires.front c.position-facts.ensures.sized (sym (returns-in-None-clause-value g c))

pub returns-in-None-clause-by_items : goal.returns-in-None-clause-by_items
returns-in-None-clause-by_items g c =
    let count : length c.rebuild_blocks.new.roots ≡ blocks_in (length (g.R.Revealed.shown c.args.revealed.now)) =
    block-count g.H.HashKind.hash c.args.f (g.R.Revealed.shown c.args.revealed.now) (g.R.Revealed.shown c.rebuild_blocks.new.revealed) (g.R.Revealed.digests c.args.revealed.now) (g.R.Revealed.digests c.rebuild_blocks.new.revealed) _ c.in_ok-rebuild_blocks.ensures.whole
    in let there : for_next (nat_lt (64 * length c.args.roots.now) c.args.f) ≤ length (g.R.Revealed.digests c.rebuild_blocks.new.revealed) = next-there (g.R.Revealed.digests c.rebuild_blocks.new.revealed) c.in_ok-next.next (nat_lt (64 * length c.args.roots.now) c.args.f) c.in_ok-next.ensures.value
    in omega (
      arith,
      count,
      there,
      c.in_ok-rebuild_blocks.ensures.by_items,
      c.pass_next.ensures.cost,
      c.pass_digest.ensures.cost,
      c.link_blocks.ensures.cost,
    )

pub returns-in-None-clause-by_places : goal.returns-in-None-clause-by_places
returns-in-None-clause-by_places g c =
    let few : c.pass_next.new.steps + blocks_in (length (g.R.Revealed.shown c.args.revealed.now)) ≤ c.args.steps.now + 3 * c.args.f =
    steps-by_places c.args.f (blocks_in (length (g.R.Revealed.shown c.args.revealed.now))) c.args.steps.now c.rebuild_blocks.new.steps c.pass_next.new.steps (nat_lt (64 * length c.args.roots.now) c.args.f) (ap (λ b. nat_lt (64 * b) c.args.f) c.requires.size)
    c.in_ok-rebuild_blocks.ensures.by_places c.pass_next.ensures.cost
    in let count : length c.rebuild_blocks.new.roots ≡ blocks_in (length (g.R.Revealed.shown c.args.revealed.now)) =
    block-count g.H.HashKind.hash c.args.f (g.R.Revealed.shown c.args.revealed.now) (g.R.Revealed.shown c.rebuild_blocks.new.revealed) (g.R.Revealed.digests c.args.revealed.now) (g.R.Revealed.digests c.rebuild_blocks.new.revealed) _ c.in_ok-rebuild_blocks.ensures.whole
    in omega (arith, count, few, c.pass_digest.ensures.cost, c.link_blocks.ensures.cost)

pub returns-in_err-rebuild_blocks-clause-cost : goal.returns-in_err-rebuild_blocks-clause-cost
returns-in_err-rebuild_blocks-clause-cost g c =
    omega (arith, c.in_err-rebuild_blocks.ensures.cost)

pub returns-in_err-next-clause-cost : goal.returns-in_err-next-clause-cost
returns-in_err-next-clause-cost g c =
    let leaves : length (g.R.Revealed.shown c.pass_next.new.revealed) ≡ 0 = ap length (c.pass_next.ensures.leaves ∙ c.in_ok-rebuild_blocks.ensures.whole.leaves_left)
    in let left : length (g.R.Revealed.digests c.pass_next.new.revealed) ≡ length (g.R.Revealed.digests c.rebuild_blocks.new.revealed) - for_next (nat_lt (64 * length c.args.roots.now) c.args.f) = ap length c.pass_next.ensures.digests ∙ length-drop _ _
    in omega (arith, c.in_ok-rebuild_blocks.ensures.cost, c.pass_next.ensures.cost, for-next-few (nat_lt (64 * length c.args.roots.now) c.args.f))

pub returns-in-Some-clause-cost : goal.returns-in-Some-clause-cost
returns-in-Some-clause-cost g c =
    let leaves : length (g.R.Revealed.shown c.pass_digest.new.self) ≡ 0 = ap length (c.pass_digest.ensures.others ∙ c.pass_next.ensures.leaves ∙ c.in_ok-rebuild_blocks.ensures.whole.leaves_left)
    in let left : length (g.R.Revealed.digests c.pass_next.new.revealed) ≡ length (g.R.Revealed.digests c.rebuild_blocks.new.revealed) - for_next (nat_lt (64 * length c.args.roots.now) c.args.f) = ap length c.pass_next.ensures.digests ∙ length-drop _ _
    in let last : length (g.R.Revealed.digests c.pass_digest.new.self) ≡ length (g.R.Revealed.digests c.pass_next.new.revealed) - 1 = ap length c.pass_digest.ensures.passed ∙ length-drop _ _
    in omega (
      arith,
      some-left _ _ c.in-Some.ensures.first,
      c.in_ok-rebuild_blocks.ensures.cost,
      c.pass_next.ensures.cost,
      c.pass_digest.ensures.cost,
    )

pub returns-in-None-clause-cost : goal.returns-in-None-clause-cost
returns-in-None-clause-cost g c =
    let leaves : length (g.R.Revealed.shown c.pass_digest.new.self) ≡ 0 = ap length (c.pass_digest.ensures.others ∙ c.pass_next.ensures.leaves ∙ c.in_ok-rebuild_blocks.ensures.whole.leaves_left)
    in let left : length (g.R.Revealed.digests c.pass_next.new.revealed) ≡ length (g.R.Revealed.digests c.rebuild_blocks.new.revealed) - for_next (nat_lt (64 * length c.args.roots.now) c.args.f) = ap length c.pass_next.ensures.digests ∙ length-drop _ _
    in let last : length (g.R.Revealed.digests c.pass_digest.new.self) ≡ length (g.R.Revealed.digests c.pass_next.new.revealed) - 1 = ap length c.pass_digest.ensures.passed ∙ length-drop _ _
    in let count : length c.rebuild_blocks.new.roots ≡ blocks_in (length (g.R.Revealed.shown c.args.revealed.now)) =
    block-count g.H.HashKind.hash c.args.f (g.R.Revealed.shown c.args.revealed.now) (g.R.Revealed.shown c.rebuild_blocks.new.revealed) (g.R.Revealed.digests c.args.revealed.now) (g.R.Revealed.digests c.rebuild_blocks.new.revealed) _ c.in_ok-rebuild_blocks.ensures.whole
    in let there : for_next (nat_lt (64 * length c.args.roots.now) c.args.f) ≤ length (g.R.Revealed.digests c.rebuild_blocks.new.revealed) = next-there (g.R.Revealed.digests c.rebuild_blocks.new.revealed) c.in_ok-next.next (nat_lt (64 * length c.args.roots.now) c.args.f) c.in_ok-next.ensures.value
    in omega (
      arith,
      count,
      there,
      c.in_ok-rebuild_blocks.ensures.cost,
      c.pass_next.ensures.cost,
      c.pass_digest.ensures.cost,
      c.link_blocks.ensures.cost,
    )
