-- The results of the steps of `sweep`: for the list, its proofs, the audits, and the lines.
use Rattle.std.specs.Prelude.{◌≡◌, ◌^◌, ℕ, true, false, List, map}
use Rattle.std.specs.List.{AllZip, list_any, zip}
use Rattle.ats_refusal.specs.declared.proof.Rejection.TheVariants.{Shape, Check}
use Rattle.ats_grammar.specs.declared.fault.ShapeKind.TheVariants as kind
use Rattle.ats_audit.specs.declared.auditing.Verdict.{Verdict}
use Rattle.ats_audit.specs.declared.auditing.Verdict.TheVariants as verdict
use Rattle.ats_audit.specs.declared.sweeping.Job.{Job}
use Rattle.ats_auditors.specs.Listed.{IsSpelled, IsListed, Listed}
use Rattle.ats_auditors.specs.Gathered.{content}
use Rattle.ats_auditors.specs.Findings.{Finding, FoundRight, FoundRefused, FoundCollision, is_refused, is_collision, lines_of_findings}
use Rattle.ats_auditors.specs.declared.gathering.Gathered.{Gathered}
use Rattle.ats_auditors.specs.declared.gathering.Gathered.TheVariants.{Whole, Long}
use Rattle.ats_auditors.specs.declared.listing.Entry.{Entry}
use Rattle.ats_auditors.specs.declared.sweeping.Report.{Report}
use Rattle.ats_console.specs.declared.stops.Stop.{Stop}
use Rattle.ats_console.specs.declared.stops.Stop.TheVariants.{Rejected, Collision}
use Rattle.ats_terms.specs.Query.{IsQueryOf}

-- the line spells this number, this name and this query
abbrev pub IsSpelledAs : List ℕ → ℕ → List ℕ → List ℕ → Type 0
IsSpelledAs line r proof query = IsSpelled line (record { r = r; proof = proof; query = query })

-- the files of the proofs that entries name
abbrev pub entry_names : List Entry → List (List ℕ)
entry_names entries = map (λ (entry : Entry). entry.proof.now) entries

-- a job is that of its entry, over the bytes of its proof
pub record IsJobOf (entry : Entry) (proof : Gathered) (job : Job) : Type 0 where
  pub query : job.query ≡ entry.query
  pub top : job.top ≡ entry.top
  pub bytes : job.bytes.now ≡ content proof

abbrev pub AreJobs : List Entry → List Gathered → List Job → Type 0
AreJobs entries proofs jobs = AllZip (λ pair job. IsJobOf pair.0 pair.1 job) (zip entries proofs) jobs

-- the finding for a proof with this verdict
abbrev pub found_by : Verdict → Finding
found_by (verdict.BadShape fault) = FoundRefused (Shape fault)
found_by (verdict.Refused refusal) = FoundRefused (Check refusal)
found_by (verdict.Right rows) = FoundRight rows
found_by (verdict.Collision place ours theirs) =
    FoundCollision (record { place = place; ours = ours; theirs = theirs })

-- the finding for a proof; if its file is too long, the verdict is ignored
abbrev pub finding_of : Gathered → Verdict → Finding
finding_of Long found = FoundRefused (Shape (record { at = 2 ^ 26; kind = kind.Long }))
finding_of (Whole bytes) found = found_by found

abbrev pub findings_of : List Gathered → List Verdict → List Finding
findings_of proofs verdicts = map (λ found. finding_of found.0 found.1) (zip proofs verdicts)

-- the lines of all findings, whether one refuses a proof, and whether one is a collision
pub record IsReport (proofs : List Gathered) (verdicts : List Verdict) (report : Report) : Type 0 where
  pub lines : report.lines.items ≡ lines_of_findings (findings_of proofs verdicts)
  pub refused : report.refused ≡ list_any is_refused (findings_of proofs verdicts)
  pub collides : report.collides ≡ list_any is_collision (findings_of proofs verdicts)

-- one collides, or one is refused and none collides; and the lines are those of the report
abbrev pub ConclusionStop : Report → Stop → Type 0
ConclusionStop report (Collision lines) = (report.collides ≡ true) × (lines ≡ report.lines.items)
ConclusionStop report (Rejected lines) = (report.collides ≡ false) × (report.refused ≡ true)
    × (lines ≡ report.lines.items)
ConclusionStop report _ = ⊥

-- a line as it was read
pub record IsEntry (line : List ℕ) (entry : Entry) : Type 0 where
  pub listed : Listed
  pub is : IsListed line listed
  pub top : entry.top ≡ listed.r
  pub proof : entry.proof.now ≡ listed.proof
  pub query : IsQueryOf listed.query entry.query
