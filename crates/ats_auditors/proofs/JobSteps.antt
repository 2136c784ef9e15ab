-- The audits that the entries of a list ask for, one by one, and what they find.
use Rattle.std.proofs.Common.{◌≡◌, ◌++◌, ◌∷◌, ℕ, List, [], length, drop, get_or, refl, sym, subst, ◌∙◌, arith}
use Rattle.std.specs.List.{AllZip}
use Rattle.ats_commit.specs.Archive.{Archive}
use Rattle.ats_audit.specs.Verdicts.{IsVerdict}
use Rattle.ats_audit.specs.Sweeps.{IsVerdictOf}
use Rattle.ats_audit.specs.declared.auditing.Verdict.{Verdict}
use Rattle.ats_audit.specs.declared.auditing.Verdict.TheVariants as verdict
use Rattle.ats_audit.specs.declared.sweeping.Job.{Job}
use Rattle.ats_client.proofs.Public.{collision-collides}
use Rattle.ats_terms.specs.Query.{IsQueryOf}
use Rattle.ats_plan.specs.Files.{Files}
use Rattle.ats_auditors.specs.Listed.{Listed}
use Rattle.ats_auditors.specs.Inner.Sweeping.{IsEntry, IsJobOf, AreJobs, entry_names, found_by, finding_of, findings_of}
use Rattle.ats_auditors.specs.Gathered.{IsGathered}
use Rattle.ats_auditors.specs.Findings.{IsFinding, AreFindings}
use Rattle.ats_auditors.specs.declared.gathering.Gathered.{Gathered}
use Rattle.ats_auditors.specs.declared.gathering.Gathered.TheVariants.{Whole, Long}
use Rattle.ats_auditors.specs.declared.listing.Entry.{Entry}
use Rattle.ats_auditors.proofs.ListEntries.{listed_of}

-- ---- the jobs

-- the jobs of the first entries
abbrev pub AreFirstJobs : List Entry → List Gathered → List Job → Type 0
AreFirstJobs entries proofs [] = Unit {0}
AreFirstJobs [] proofs (job ∷ jobs) = ⊥
AreFirstJobs (entry ∷ entries) [] (job ∷ jobs) = ⊥
AreFirstJobs (entry ∷ entries) (proof ∷ proofs) (job ∷ jobs) = IsJobOf entry proof job × AreFirstJobs entries proofs jobs

pub jobs_more : (entries : List Entry) (proofs : List Gathered) (jobs : List Job) (entry : Entry) (rest : List Entry) (proof : Gathered) (job : Job)
    → AreFirstJobs entries proofs jobs → drop (length jobs) entries ≡ entry ∷ rest → length entries ≡ length proofs → proof ≡ get_or proofs (length jobs) proof
    → IsJobOf entry proof job → AreFirstJobs entries proofs (jobs ++ job ∷ []) × (drop (length (jobs ++ job ∷ [])) entries ≡ rest)
jobs_more [] proofs [] entry rest proof job are left same at is = absurd (cc)
jobs_more (e ∷ entries) [] [] entry rest proof job are left same at is = absurd (omega (arith, same))
jobs_more (e ∷ entries) (p ∷ proofs) [] entry rest proof job are left same at is =
    let head : e ≡ entry = cc in
    let tails : entries ≡ rest = cc in
    let one : proof ≡ p = at in
    ((subst (λ (g : Gathered). IsJobOf e g job) one (subst (λ (x : Entry). IsJobOf x proof job) (sym head) is), tt), tails)
jobs_more [] proofs (j ∷ jobs) entry rest proof job are left same at is = absurd are
jobs_more (e ∷ entries) [] (j ∷ jobs) entry rest proof job are left same at is = absurd are
jobs_more (e ∷ entries) (p ∷ proofs) (j ∷ jobs) entry rest proof job are left same at is =
    let later = jobs_more entries proofs jobs entry rest proof job are.1 left (omega (arith, same)) at is in
    ((are.0, later.0), later.1)

pub all_jobs : (entries : List Entry) (proofs : List Gathered) (jobs : List Job) → AreFirstJobs entries proofs jobs → drop (length jobs) entries ≡ []
    → length entries ≡ length proofs → AreJobs entries proofs jobs
all_jobs [] [] [] are left same = tt
all_jobs [] (p ∷ proofs) [] are left same = absurd (omega (arith, same))
all_jobs (e ∷ entries) proofs [] are left same = absurd (cc)
all_jobs [] proofs (j ∷ jobs) are left same = absurd are
all_jobs (e ∷ entries) [] (j ∷ jobs) are left same = absurd are
all_jobs (e ∷ entries) (p ∷ proofs) (j ∷ jobs) are left same = (are.0, all_jobs entries proofs jobs are.1 left (omega (arith, same)))

pub all_jobs_made : (entries : List Entry) (proofs : List Gathered) (jobs : List Job) (rest : List Entry) → AreFirstJobs entries proofs jobs → drop (length jobs) entries ≡ rest
    → length rest ≡ 0 → length entries ≡ length proofs → AreJobs entries proofs jobs
all_jobs_made entries proofs jobs [] are left none same = all_jobs entries proofs jobs are left same
all_jobs_made entries proofs jobs (entry ∷ rest) are left none same = absurd (omega (arith, none))

-- ---- what they find

module _ (H : List ℕ → List ℕ) (archive : Archive) where
  -- by the verdict on the bytes of a proof
  whole_is : (line : Listed) (query : List (List ℕ × ℕ)) → IsQueryOf line.query query → (bytes : List ℕ) (found : Verdict) → IsVerdict H archive query line.r bytes found
      → IsFinding H archive line (Whole bytes) (found_by found)
  whole_is line query asked bytes (verdict.BadShape fault) is = (query, asked, is)
  whole_is line query asked bytes (verdict.Refused refusal) is = (query, asked, is)
  whole_is line query asked bytes (verdict.Right rows) is = (query, asked, is)
  whole_is line query asked bytes (verdict.Collision place ours theirs) is =
      let two = collision-collides H archive query is.proof _ is.found in (query, asked, is, two.0, two.1)

  found_is : (line : List ℕ) (entry : Entry) (is : IsEntry line entry) (proof : Gathered) (job : Job) (found : Verdict) → IsJobOf entry proof job
      → IsVerdictOf H archive job found → IsFinding H archive is.listed proof (finding_of proof found)
  found_is line entry is Long job found its judged = refl
  found_is line entry is (Whole bytes) job found its judged =
      whole_is is.listed entry.query is.query bytes found
      (subst (λ (r : ℕ). IsVerdict H archive entry.query r bytes found) (its.top ∙ is.top)
      (subst (λ (query : List (List ℕ × ℕ)). IsVerdict H archive query job.top bytes found) its.query
      (subst (λ (content : List ℕ). IsVerdict H archive job.query job.top content found) its.bytes judged)))

  -- of each line
  pub found_each : (lines : List (List ℕ)) (entries : List Entry) (proofs : List Gathered) (jobs : List Job) (verdicts : List Verdict)
      (are : AllZip IsEntry lines entries) → AreJobs entries proofs jobs → AllZip (IsVerdictOf H archive) jobs verdicts
      → AreFindings H archive (listed_of lines entries are) proofs (findings_of proofs verdicts)
  found_each [] (entry ∷ entries) proofs jobs verdicts are its found = absurd are
  found_each (line ∷ lines) [] proofs jobs verdicts are its found = absurd are
  found_each [] [] proofs (job ∷ jobs) verdicts are its found = absurd its
  found_each [] [] proofs [] (v ∷ verdicts) are its found = absurd found
  found_each [] [] [] [] [] are its found = tt
  found_each [] [] (proof ∷ proofs) [] [] are its found = tt
  found_each (line ∷ lines) (entry ∷ entries) [] jobs verdicts are its found = tt
  found_each (line ∷ lines) (entry ∷ entries) (proof ∷ proofs) [] verdicts are its found = absurd its
  found_each (line ∷ lines) (entry ∷ entries) (proof ∷ proofs) (job ∷ jobs) [] are its found = absurd found
  found_each (line ∷ lines) (entry ∷ entries) (proof ∷ proofs) (job ∷ jobs) (v ∷ verdicts) are its found =
      (found_is line entry are.0 proof job v its.0 found.0, found_each lines entries proofs jobs verdicts are.1 its.1 found.1)

-- ---- how many there are

pub as_many : (entries : List Entry) (proofs : List Gathered) (files : Files) → AllZip (IsGathered files) (entry_names entries) proofs → length entries ≡ length proofs
as_many [] [] files are = refl
as_many [] (proof ∷ proofs) files are = absurd are
as_many (entry ∷ entries) [] files are = absurd are
as_many (entry ∷ entries) (proof ∷ proofs) files are = let later = as_many entries proofs files are.1 in omega (arith, later)

pub as_many_verdicts : (entries : List Entry) (proofs : List Gathered) (jobs : List Job) (verdicts : List Verdict) (H : List ℕ → List ℕ) (archive : Archive)
    → length entries ≡ length proofs → AreJobs entries proofs jobs → AllZip (IsVerdictOf H archive) jobs verdicts → length verdicts ≡ length proofs
as_many_verdicts [] [] [] [] H archive same its found = refl
as_many_verdicts [] [] [] (v ∷ verdicts) H archive same its found = absurd found
as_many_verdicts [] [] (job ∷ jobs) verdicts H archive same its found = absurd its
as_many_verdicts [] (proof ∷ proofs) jobs verdicts H archive same its found = absurd (omega (arith, same))
as_many_verdicts (entry ∷ entries) [] jobs verdicts H archive same its found = absurd (omega (arith, same))
as_many_verdicts (entry ∷ entries) (proof ∷ proofs) [] verdicts H archive same its found = absurd its
as_many_verdicts (entry ∷ entries) (proof ∷ proofs) (job ∷ jobs) [] H archive same its found = absurd found
as_many_verdicts (entry ∷ entries) (proof ∷ proofs) (job ∷ jobs) (v ∷ verdicts) H archive same its found =
    let later = as_many_verdicts entries proofs jobs verdicts H archive (omega (arith, same)) its.1 found.1 in omega (arith, later)
