use Rattle.std.proofs.Common.{ap, ◌∙◌, IfOk}
use Rattle.rayon.proofs.ToStd.{slice-AllZip}
use Rattle.ats_audit.specs.Sweeps.{IsVerdictOf}
use Rattle.ats_audit.proofs.Kept.{all_there}
use Rattle.ats_audit.proofs.sweeping.sweep.Goals as goal

pub returns : goal.returns
returns g c =
    let judges = IsVerdictOf g.H.HashKind.hash c.args.index.now in
    let slice = ap (λ it. it.base.slice.now) c.map.ensures.base ∙ ap (λ it. it.slice.now) c.with_min_len.ensures.base ∙ c.par_iter.ensures in
    let found = rw c.in_ok-verdicts-2.was at c.in_ok-verdicts.ensures in
    let chain = rw c.map.ensures.f at found.1 in
    let zipped = slice-AllZip chain.0 c.args.jobs.now (chain.1 ∙ slice) (λ job answer. IfOk answer (judges job)) found.0 chain.2 in
    let answers = found.2 in
    rw answers.2 (all_there judges c.args.jobs.now answers.0 found.0 answers.1 zipped)
