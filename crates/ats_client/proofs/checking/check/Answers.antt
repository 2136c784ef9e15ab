use Rattle.std.proofs.Common.{◌≤◌, ◌^◌, arith}
use Rattle.ats_proof.specs.Value.{IsProof, Proof, items_of}
use Rattle.ats_client.specs.Accepts.{IsFirstRefusal}
use Rattle.ats_client.proofs.Faults.{passed_on}
use Rattle.ats_client.proofs.FewItems.{few_items}
use Rattle.ats_client.proofs.Headline.{top_or_collides}
use Rattle.ats_client.proofs.Sectioned.{refused_shown, settled_accepts}
use Rattle.ats_client.proofs.checking.check.Goals as goal

pub returns-in_err-threshold-clause-refused : goal.returns-in_err-threshold-clause-refused
returns-in_err-threshold-clause-refused g c =
    passed_on (IsFirstRefusal g.H.HashKind.hash c.args.root.now c.args.query.now c.args.top c.args.proof.now) c.from_residual.result c.in_err-threshold.field-0.0
    c.from_residual.ensures.1 (refused_shown g.H.HashKind.hash c.args.root.now c.args.query.now c.args.proof.now c.args.top c.in_err-threshold.field-0.0 c.in_err-threshold.ensures.refused)

pub settled-requires-clause-count : goal.settled-requires-clause-count
settled-requires-clause-count g c =
    let few : items_of c.args.proof.now ≤ 2 ^ 26 = few_items c.facts.ensures.spelled.0 c.args.proof.now c.facts.ensures.spelled.1 in
    omega (arith, few, c.check_shown.ensures.steps, c.requires.count)

pub returns-clause-accepts : goal.returns-clause-accepts
returns-clause-accepts g c =
    let settled = c.settled.ensures.settled _ _ c.in_ok-threshold.ensures.marks c.in_ok-threshold.ensures.threshold in
    settled_accepts g.H.HashKind.hash c.args.root.now c.args.query.now c.args.proof.now c.args.top c.in_ok-threshold.ensures.holds (settled.0 c.if-not-settled.false)

pub returns-clause-headline : goal.returns-clause-headline
returns-clause-headline g c =
    let proof : Proof = c.args.proof.now in
    let is : IsProof c.facts.ensures.spelled.0 proof = c.facts.ensures.spelled.1 in
    top_or_collides g.H.HashKind.hash g.H.HashKind.sized c.args.root.now c.args.query.now c.args.top proof c.in_ok-threshold.ensures.asked c.facts.ensures.range
    is.prefix_each is.documents (returns-clause-accepts g c)
