-- How `sweep` goes on and stops, from the results of its steps.
use Rattle.std.proofs.Common.{◌≡◌, ◌⊎◌, ◌∙◌, ◌≤◌, ◌^◌, ℕ, false, List, [], length, Vec, Global, Result, Ok, Err, sym, ap, subst}
use Rattle.std.specs.Prelude.{IfOk, IfErr}
use Rattle.std.specs.List.{AllZip}
use Rattle.ats_base.specs.Outside.{ShelfTold}
use Rattle.ats_commit.specs.Archive.{Archive}
use Rattle.ats_audit.specs.Sweeps.{IsVerdictOf}
use Rattle.ats_audit.specs.declared.auditing.Verdict.{Verdict}
use Rattle.ats_audit.specs.declared.sweeping.Job.{Job}
use Rattle.ats_plan.specs.Files.{Files, IsFile}
use Rattle.ats_plan.specs.Plan.{Plan, Finishes}
use Rattle.ats_plan.specs.Runs.{IsDone, IsStopped}
use Rattle.ats_plan.proofs.Public.{Leads, leads_none, leads_try, leads_get, leads_make, at_try, done_end}
use Rattle.ats_console.specs.Words.{SweepWords}
use Rattle.ats_console.specs.Read.{HasIndex}
use Rattle.ats_console.specs.Lists.{lines_of, IsListOf, IsListStop}
use Rattle.ats_auditors.specs.Listed.{Listed, IsListed, names_of}
use Rattle.ats_auditors.specs.Inner.Sweeping.{IsEntry, AreJobs, entry_names, findings_of, IsReport, ConclusionStop}
use Rattle.ats_auditors.specs.Gathered.{AreGathered}
use Rattle.ats_auditors.specs.Findings.{Finding, AreFound, AreFindings, IsSwept}
use Rattle.ats_console.specs.Steps.{no_more, comes_to}
use Rattle.ats_auditors.specs.Commands.{gathers, concludes, audits, sweeps}
use Rattle.ats_auditors.specs.declared.gathering.Gathered.{Gathered}
use Rattle.ats_auditors.specs.declared.listing.Entry.{Entry}
use Rattle.ats_auditors.specs.declared.sweeping.Report.{Report}
use Rattle.ats_console.specs.declared.stops.Stop.{Stop}
use Rattle.ats_console.specs.declared.stops.Stop.TheVariants.{Shelf, Rejected, Memory, Collision}
use Rattle.ats_console.proofs.Public.{memory_stops, get_stops}
use Rattle.ats_auditors.proofs.ListEntries.{listed_of, listed_names, list_is}
use Rattle.ats_auditors.proofs.Gathers.{leads_gathers, at_gathers, has_gathers, same_gathers}
use Rattle.ats_auditors.proofs.JobSteps.{found_each}

-- ---- the same for equal lists

pub done_of : (before now : ShelfTold) (proofs : List Gathered) (es entries : List Entry) → es ≡ entries
    → IsDone (gathers [] (entry_names es) (comes_to proofs)) before now [] → IsDone (gathers [] (entry_names entries) (comes_to proofs)) before now []
done_of before now proofs es entries same done =
    subst (λ (all : List Entry). IsDone (gathers [] (entry_names all) (comes_to proofs)) before now []) same done

pub jobs_of : (entries : List Entry) (ps proofs : List Gathered) (jobs : List Job) → ps ≡ proofs → AreJobs entries ps jobs → AreJobs entries proofs jobs
jobs_of entries ps proofs jobs same its = subst (λ (all : List Gathered). AreJobs entries all jobs) same its

pub verdicts_of : (H : List ℕ → List ℕ) (archive : Archive) (js jobs : List Job) (verdicts vs : List Verdict) → js ≡ jobs → vs ≡ verdicts
    → AllZip (IsVerdictOf H archive) js verdicts → AllZip (IsVerdictOf H archive) jobs vs
verdicts_of H archive js jobs verdicts vs same also found =
    subst (λ (all : List Verdict). AllZip (IsVerdictOf H archive) jobs all) (sym also)
    (subst (λ (all : List Job). AllZip (IsVerdictOf H archive) all verdicts) same found)

-- ---- the list and its proofs

module _ (H : List ℕ → List ℕ) (words : SweepWords) (archive : Archive) (bytes : List ℕ) where
  -- a list of which no entries were read
  pub list_stops : (before : ShelfTold) (stop : Stop) → (stop ≡ Memory) ⊎ IsListStop IsListed 1000 bytes stop → IsStopped Shelf Memory (sweeps H words archive bytes) before before stop
  list_stops before stop is = get_stops {rest = λ (listed : List Listed). gathers [] (names_of listed) (audits H words archive listed)} leads_none is

  module _ (entries : List Entry) (are : AllZip IsEntry (lines_of bytes) entries) (some : 1 ≤ length entries) (few : length entries ≤ 1000) where
    abbrev listed : List Listed
    listed = listed_of (lines_of bytes) entries are

    list : IsListOf IsListed 1000 bytes listed
    list = list_is bytes entries are some few

    names : names_of listed ≡ entry_names entries
    names = listed_names (lines_of bytes) entries are

    leads_list : (before : ShelfTold) → Leads Shelf Memory (sweeps H words archive bytes) before (gathers [] (entry_names entries) (audits H words archive listed)) before
    leads_list before =
        subst (λ (all : List (List ℕ)). Leads Shelf Memory (sweeps H words archive bytes) before (gathers [] all (audits H words archive listed)) before) names
        (leads_get {rest = λ (lines : List Listed). gathers [] (names_of lines) (audits H words archive lines)} listed leads_none list)

    -- proofs that were not gathered
    pub gather_stops : (before now : ShelfTold) (stop : Stop) → IsStopped Shelf Memory (gathers [] (entry_names entries) (λ proofs. no_more)) before now stop
        → IsStopped Shelf Memory (sweeps H words archive bytes) before now stop
    gather_stops before now stop stops = (leads_list before).stops now stop (at_gathers (audits H words archive listed) before now stop (entry_names entries) stops)

    module _ (before now : ShelfTold) (proofs : List Gathered) (done : IsDone (gathers [] (entry_names entries) (comes_to proofs)) before now []) where
      leads_audits : Leads Shelf Memory (sweeps H words archive bytes) before (audits H words archive listed proofs) now
      leads_audits = leads_gathers (audits H words archive listed) (sweeps H words archive bytes) before before now (entry_names entries) proofs (leads_list before) done

      -- memory ran out after the proofs were gathered
      pub runs_out : {stop : Stop} → stop ≡ Memory → IsStopped Shelf Memory (sweeps H words archive bytes) before now stop
      runs_out is = memory_stops leads_audits is

      module _ (jobs : List Job) (verdicts : List Verdict) (its : AreJobs entries proofs jobs) (found : AllZip (IsVerdictOf H archive) jobs verdicts) where
        each : AreFindings H archive listed proofs (findings_of proofs verdicts)
        each = found_each H archive (lines_of bytes) entries proofs jobs verdicts are its found

        abbrev end : Plan Stop
        end = Finishes (λ files text. IsSwept H files words text)

        leads_findings : Leads Shelf Memory (sweeps H words archive bytes) before (concludes (findings_of proofs verdicts) end) now
        leads_findings = leads_make {rest = λ (findings : List Finding). concludes findings end} (findings_of proofs verdicts) leads_audits each

        module _ (report : Report) (is : IsReport proofs verdicts report) where
          -- not all is right
          swept_stop : (stop : Stop) → ConclusionStop report stop → IsStopped Shelf Memory (sweeps H words archive bytes) before now stop
          swept_stop (Collision lines) (collides, printed) =
              leads_findings.stops now (Collision lines) (at_try (sym is.collides ∙ collides, ap Collision (printed ∙ is.lines)))
          swept_stop (Rejected lines) (none, refused, printed) =
              (leads_try leads_findings (sym is.collides ∙ none)).stops now (Rejected lines) (at_try (sym is.refused ∙ refused, ap Rejected (printed ∙ is.lines)))
          swept_stop other stops = absurd stops

          pub swept_stops : (result : Result (Vec ℕ Global) Stop) → IfErr result (ConclusionStop report)
              → IfErr result (IsStopped Shelf Memory (sweeps H words archive bytes) before now)
          swept_stops (Ok text) none = tt
          swept_stops (Err stop) stops = swept_stop stop stops

          module _ (index : HasIndex H before.files words.index archive) (file : IsFile before.files words.list (2 ^ 20) bytes) where
            are_found : AreFound H before.files words (findings_of proofs verdicts)
            are_found = record {
              archive = archive;
              index = index;
              listed = listed;
              list = record { bytes = bytes; file = file; list = list };
              proofs = proofs;
              there = subst (λ (all : List (List ℕ)). AreGathered before.files all proofs) (sym names) (has_gathers (entry_names entries) proofs before now done);
              each = each;
            }

            -- all is right
            swept_all : (text : List ℕ) → (text ≡ report.lines.items) × (report.collides ≡ false) × (report.refused ≡ false)
                → IsDone (sweeps H words archive bytes) before now text
            swept_all text (printed, collides, refused) =
                let clear = sym is.collides ∙ collides in
                let accepted = sym is.refused ∙ refused in
                let swept : IsSwept H before.files words text = record {
                  findings = findings_of proofs verdicts;
                  found = are_found;
                  clear = clear;
                  accepted = accepted;
                  printed = printed ∙ is.lines;
                } in
                let same = same_gathers (entry_names entries) proofs before now done in
                (leads_try (leads_try leads_findings clear) accepted).does now text
                (done_end (subst (λ (files : Files). IsSwept H files words text) (sym same) swept))

            pub swept_right : (result : Result (Vec ℕ Global) Stop)
                → IfOk result (λ text. (text.items ≡ report.lines.items) × (report.collides ≡ false) × (report.refused ≡ false))
                → IfOk result (λ text. IsDone (sweeps H words archive bytes) before now text.items)
            swept_right (Ok text) right = swept_all text.items right
            swept_right (Err stop) none = tt
