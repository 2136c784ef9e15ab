use Rattle.std.proofs.Common.{◌≡◌, ◌+◌, ◌-◌, ℕ, subst, sym, arith}
use Rattle.std.proofs.lemmas.List.Sorted.{IsPermutation-trans}
use Rattle.ats_bound.specs.Inner.Best.{AscendsBut}
use Rattle.ats_bound.proofs.Kept.{sifted, sifted_end}
use Rattle.ats_bound.proofs.best.sift.Goals as goal

pub returns-then-values-next-clause-ascends : goal.returns-then-values-next-clause-ascends
returns-then-values-next-clause-ascends c =
    let next : ℕ = c.loop-next.next in
    let k : ℕ = next - 1 in
    let is : k + 1 ≡ next = omega arith in
    sifted_end c.loop-next.values k (c.loop-next.invariant.others k is) (λ inside. rw is (c.if-values-next.true))

pub loop-next-preserved : goal.loop-next-preserved
loop-next-preserved c =
    let next : ℕ = c.loop-next.next in
    let k : ℕ = next - 1 in
    let is : k + 1 ≡ next = omega arith in
    let but : AscendsBut next c.swap.new.self =
    sifted c.loop-next.values c.swap.new.self k next (sym is) (omega arith) c.swap.ensures.len c.if-values-next.false c.swap.ensures.by_index (c.loop-next.invariant.others k is) in
    record {
      same = IsPermutation-trans c.args.values.now c.loop-next.values c.swap.new.self c.loop-next.invariant.same c.swap.ensures.permutation;
      inside = λ m e. omega (arith, c.swap.ensures.len);
      others = λ m e. let same : next ≡ m = omega (arith, e) in subst (λ (n : ℕ). AscendsBut n c.swap.new.self) same but;
    }

pub returns-clause-ascends : goal.returns-clause-ascends
returns-clause-ascends c =
    let next : ℕ = c.loop-next.next in
    let k : ℕ = next - 1 in
    let is : k + 1 ≡ next = omega arith in
    sifted_end c.loop-next.values k (c.loop-next.invariant.others k is) (λ inside. absurd (omega (arith, inside)))
