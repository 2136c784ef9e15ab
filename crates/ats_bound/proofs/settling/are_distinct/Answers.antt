use Rattle.std.proofs.Common.{◌≡◌, ◌≤◌, ℕ, List, take, take_all, get_or, refl, arith, rules}
use Rattle.ats_impact.specs.Rank.{times}
use Rattle.ats_bound.specs.Settled.{AreDistinct}
use Rattle.ats_bound.proofs.Places.{distinct_more, twice_before}
use Rattle.ats_bound.proofs.settling.are_distinct.Goals as goal

pub returns-then-is_picked : goal.returns-then-is_picked
returns-then-is_picked c =
    let picks : List ℕ = c.args.picks.now in
    let before : 1 ≤ times (get_or picks c.loop-k.k 0) (take c.loop-k.k picks) = search rules in
    let twice = twice_before picks c.loop-k.k (omega arith) before in
    (λ no. absurd (cc), λ (once : AreDistinct picks). absurd (omega (arith, once (get_or picks c.loop-k.k 0), twice)))

pub loop-k-preserved : goal.loop-k-preserved
loop-k-preserved c =
    let picks : List ℕ = c.args.picks.now in
    let none : times (get_or picks c.loop-k.k 0) (take c.loop-k.k picks) ≡ 0 = grind arith in
    distinct_more picks c.loop-k.k (omega arith) c.loop-k.invariant none

pub returns : goal.returns
returns c =
    let picks : List ℕ = c.args.picks.now in
    let whole : take c.loop-k.k picks ≡ picks = take_all c.loop-k.k picks (omega arith) in
    let once : AreDistinct picks = rw whole at c.loop-k.invariant in
    (λ yes. once, λ distinct. refl)
