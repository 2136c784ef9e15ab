use Rattle.std.proofs.Common.{◌≡◌, ◌≤◌, ℕ, List, sym, ap, subst, ◌∙◌, arith}
use Rattle.ats_lists.specs.Inner.Gathered.{HasRun}
use Rattle.ats_lists.proofs.DocumentLemmas.{runs_joined}
use Rattle.ats_lists.proofs.building.ListsBuilder.join.Goals as goal

pub invariant_of-result : goal.invariant_of-result
invariant_of-result c =
    let texts : List (List ℕ) = c.self.inside.collection.now in
    let first : ℕ = c.self.inside.first in
    let middle : ℕ = c.self.inside.end in
    let end : ℕ = c.next.inside.end in
    let same : c.next.inside.collection.now ≡ texts =
    ap (λ (v : List (List ℕ) × ℕ × ℕ). v.0) c.next.view_is ∙ c.requires.texts ∙ sym (ap (λ (v : List (List ℕ) × ℕ × ℕ). v.0) c.self.view_is) in
    let place : c.next.inside.first ≡ middle =
    ap (λ (v : List (List ℕ) × ℕ × ℕ). v.1) c.next.view_is ∙ c.requires.place ∙ sym (ap (λ (v : List (List ℕ) × ℕ × ℕ). v.2) c.self.view_is) in
    let low : first ≤ middle = c.self.invariant.0 in
    let high : middle ≤ end = subst (λ k. k ≤ end) place c.next.invariant.0 in
    let more : HasRun middle end texts c.next.inside.gathered =
    subst (λ t. HasRun middle end t c.next.inside.gathered) same (subst (λ k. HasRun k end c.next.inside.collection.now c.next.inside.gathered) place c.next.invariant.2) in (
      omega (arith, low, high),
      c.next.invariant.1,
      rw c.in_ok-gathered.ensures (runs_joined first middle end texts c.self.inside.gathered c.next.inside.gathered low high c.self.invariant.2 more),
    )
