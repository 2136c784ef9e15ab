use Rattle.std.proofs.Common.{◌≡◌, ◌^◌, ℕ, List, Err, sym, ap₂, subst, ◌∙◌}
use Rattle.ats_bound.specs.Schedule.{IsCut}
use Rattle.ats_proof.specs.declared.record.Algorithm.TheVariants.{Tra}
use Rattle.ats_honest.specs.Lanes.{lanes_of}
use Rattle.ats_honest.specs.Honest.{IsCutShown, length_of}
use Rattle.ats_prover.specs.Fault.{IsAnswerWithin}
use Rattle.ats_prover.specs.declared.fault.ProveFault.{ProveFault}
use Rattle.ats_prover.specs.declared.fault.ProveFault.TheVariants.{ProofTooLong}
use Rattle.ats_all_proof.specs.declared.making.BothFault.TheVariants.{TooLong}
use Rattle.ats_all_proof.specs.Made.{IsBothWithin, both_cut, entry_counts}
use Rattle.ats_all_proof.proofs.Cuts.{both_is_cut, cut_by}
use Rattle.ats_all_proof.proofs.making.prove_both.Goals as goal

pub prove_cut_within-requires-clause-cut : goal.prove_cut_within-requires-clause-cut
prove_cut_within-requires-clause-cut g c =
    let texts = c.args.index.now.texts in
    let query = c.args.query.now in
    let counts : c.as_slice.result.now ≡ entry_counts texts query = c.as_slice.ensures ∙ c.in-Ok.ensures.counts in
    let made : c.in_ok-cut.cut ≡ cut_by c.as_slice.result.now c.len.result = c.in_ok-cut.ensures in
    let same : c.as_slice-2.result.now ≡ both_cut texts query = c.as_slice-2.ensures ∙ made ∙ ap₂ cut_by counts c.len.ensures.value in
    subst (IsCut (lanes_of texts query)) (sym same) (both_is_cut texts query)

-- a proof that is too long for one is so for the other
too_long : (size long : ℕ) (fault : ProveFault) → fault ≡ ProofTooLong long → IsAnswerWithin (2 ^ 26) size (Err fault) → IsBothWithin size (Err (TooLong long))
too_long size long fault is within = subst (λ (f : ProveFault). IsAnswerWithin (2 ^ 26) size (Err f)) is within

pub returns-in-Err-ProofTooLong-clause-size : goal.returns-in-Err-ProofTooLong-clause-size
returns-in-Err-ProofTooLong-clause-size g c proof is =
    let texts = c.args.index.now.texts in
    let query = c.args.query.now in
    let counts : c.as_slice.result.now ≡ entry_counts texts query = c.as_slice.ensures ∙ c.in-Ok.ensures.counts in
    let made : c.in_ok-cut.cut ≡ cut_by c.as_slice.result.now c.len.result = c.in_ok-cut.ensures in
    let same : c.as_slice-2.result.now ≡ both_cut texts query = c.as_slice-2.ensures ∙ made ∙ ap₂ cut_by counts c.len.ensures.value in
    too_long (length_of proof) c.in-Err-ProofTooLong.length c.in-Err-ProofTooLong.field-0 c.in-Err-ProofTooLong.field-0-is
    (c.in-Err-ProofTooLong.ensures.size proof (subst (λ (ns : List ℕ). IsCutShown g.H.HashKind.hash c.args.index.now query Tra ns proof) (sym same) is))
