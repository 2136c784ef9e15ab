use Rattle.std.proofs.Common.{subst, inl, inr}
use Rattle.ats_client.specs.Accepts as client
use Rattle.ats_refusal.specs.declared.proof.Refusal.{Refusal}
use Rattle.ats_refusal.specs.declared.proof.Refusal.TheVariants.{NotSettled}
use Rattle.ats_client.proofs.Public.{never_unsettled, refused_sections}
use Rattle.ats_all_check.proofs.checking.sections.Goals as goal

-- a proof without rows that is not settled keeps all rules of what it shows
pub returns-in-NotSettled-clause-holds : goal.returns-in-NotSettled-clause-holds
returns-in-NotSettled-clause-holds g c =
    let H = g.H.HashKind.hash in
    let root = c.args.root.now in
    let query = c.args.query.now in
    let proof = c.args.proof.now in
    let refused = subst (λ (refusal : Refusal). client.IsFirstRefusal H root query c.in-Ok.top proof refusal) c.in-NotSettled.is c.in-Err.ensures.refused in
    elim (refused_sections H root query proof c.in-Ok.top c.requires.none NotSettled refused) [
      | inl first ↦ absurd (never_unsettled H root query proof first)
      | inr hold ↦ hold.0
    ]

pub returns-in_default-refusal-clause-fault : goal.returns-in_default-refusal-clause-fault
returns-in_default-refusal-clause-fault g c =
    let H = g.H.HashKind.hash in
    elim (refused_sections H c.args.root.now c.args.query.now c.args.proof.now c.in-Ok.top c.requires.none c.in-Err.refusal c.in-Err.ensures.refused) [
      | inl first ↦ first
      | inr hold ↦ absurd (c.in_default-refusal.not-NotSettled hold.1)
    ]
