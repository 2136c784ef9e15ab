use Rattle.std.proofs.Common.{◌≡◌, ◌<◌, ℕ, length, sym, ap, ◌∙◌, arith}
use Rattle.ats_bound.specs.declared.work.Mark.{Mark}
use Rattle.ats_bound.specs.Work.{mark_at}
use Rattle.ats_proof.specs.Value.{Proof}
use Rattle.ats_client.proofs.Noting.{unmet_at}
use Rattle.ats_client.proofs.met.met.Goals as goal

pub returns-then-get-eq0-clause-unmet : goal.returns-then-get-eq0-clause-unmet
returns-then-get-eq0-clause-unmet c bounds lanes are =
    let proof : Proof = c.args.proof.now in
    let index : ℕ = c.loop-index.index in
    let inside : index < length proof.met = omega (arith, c.loop-index-test.true, c.met-index-end.ensures) in
    let none : (mark_at c.args.work.now.marks index).list ≡ 0 = sym (ap (λ (m : Mark). m.list) c.get.ensures.mark) ∙ c.if-get-eq0.true in
    unmet_at bounds lanes proof.met c.args.work.now.marks index are inside none c.loop-index.invariant.named
