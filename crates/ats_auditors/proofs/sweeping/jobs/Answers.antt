use Rattle.std.proofs.Common.{◌≡◌, ◌∙◌, ℕ, length, get_or, refl, sym, ap}
use Rattle.ats_auditors.proofs.JobSteps.{jobs_more, all_jobs_made}
use Rattle.ats_auditors.proofs.sweeping.jobs.Goals as goal

pub loop-entry-preserved : goal.loop-entry-preserved
loop-entry-preserved c =
    let many : c.len.result ≡ length c.loop-entry.jobs.items = c.len.ensures ∙ c.loop-entry.jobs.ok.0 in
    let at = c.index-proofs-len.is ∙ ap (λ (n : ℕ). get_or c.args.proofs.now n c.index-proofs-len.result) many in
    rw c.in_ok-push.ensures.items
    (jobs_more c.args.entries.items c.args.proofs.now c.loop-entry.jobs.items c.in-Some.entry _ c.index-proofs-len.result _ c.loop-entry.invariant.0
    (c.loop-entry.invariant.1 ∙ c.in-Some.ensures.steps.0) c.requires at (record { query = refl; top = refl; bytes = c.bytes-bytes.ensures }))

pub returns : goal.returns
returns c =
    let none = sym c.loop-entry.entry-iterator.rest.ok.0 ∙ c.in-None.ensures.steps.0 in
    all_jobs_made c.args.entries.items c.args.proofs.now c.loop-entry.jobs.items _ c.loop-entry.invariant.0 c.loop-entry.invariant.1 none c.requires
