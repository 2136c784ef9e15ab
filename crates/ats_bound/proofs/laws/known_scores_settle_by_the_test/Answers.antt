use Rattle.std.proofs.Common.{◌<◌, ◌≤◌, ℕ, length, arith}
use Rattle.ats_bound.specs.Chosen.{AreBrackets}
use Rattle.ats_bound.specs.Settled.{bracket_at}
use Rattle.ats_bound.proofs.Reach.{exact_settled}
use Rattle.ats_bound.proofs.laws.known_scores_settle_by_the_test.Goals as goal

pub returns : goal.returns
returns c = λ brackets r threshold picks some even chosen.
    let proper : AreBrackets brackets = λ i d inside. omega (arith, even i d inside) in
    let one : (i : ℕ) → i < length brackets → (bracket_at brackets i).hi ≤ (bracket_at brackets i).lo = λ i inside. omega (arith, even i (record { doc = 0; lo = 0; hi = 0 }) inside) in
    exact_settled brackets r threshold picks proper one chosen
