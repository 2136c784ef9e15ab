-- The lines of all proofs, one after another, and whether one is refused or collides.
use Rattle.std.proofs.Common.{◌≡◌, ◌++◌, ◌∷◌, ◌||◌, ◌<◌, ◌≤◌, ◌+◌, ℕ, zero, suc, Bool, true, false, List, [], length, drop, get_or, refl, sym, ap, ◌∙◌, arith, append-nil, append_assoc}
use Rattle.std.specs.List.{list_any}
use Rattle.ats_audit.specs.declared.auditing.Verdict.{Verdict}
use Rattle.ats_auditors.specs.Findings.{Finding, is_refused, is_collision, line_of_finding, finding_lines, lines_of_findings}
use Rattle.ats_auditors.specs.Inner.Sweeping.{finding_of, findings_of, IsReport}
use Rattle.ats_auditors.specs.declared.gathering.Gathered.{Gathered}
use Rattle.ats_auditors.specs.declared.sweeping.Report.{Report}

-- what is left from a place on
left_at : (proofs : List Gathered) (verdicts : List Verdict) (i : ℕ) (proof : Gathered) (found : Verdict) → length verdicts ≡ length proofs → i < length proofs
    → proof ≡ get_or proofs i proof → found ≡ get_or verdicts i found
    → drop i (findings_of proofs verdicts) ≡ finding_of proof found ∷ drop (suc i) (findings_of proofs verdicts)
left_at [] verdicts i proof found same less is also = absurd (omega (arith, less))
left_at (p ∷ proofs) [] i proof found same less is also = absurd (omega (arith, same))
left_at (p ∷ proofs) (v ∷ verdicts) zero proof found same less is also =
    ap (λ (one : Gathered). finding_of one v ∷ findings_of proofs verdicts) (sym is)
    ∙ ap (λ (one : Verdict). finding_of proof one ∷ findings_of proofs verdicts) (sym also)
left_at (p ∷ proofs) (v ∷ verdicts) (suc i) proof found same less is also = left_at proofs verdicts i proof found (omega (arith, same)) (omega (arith, less)) is also

none_left : (proofs : List Gathered) (verdicts : List Verdict) (i : ℕ) → length verdicts ≡ length proofs → length proofs ≤ i → drop i (findings_of proofs verdicts) ≡ []
none_left [] verdicts zero same past = refl
none_left [] verdicts (suc i) same past = refl
none_left (p ∷ proofs) [] i same past = absurd (omega (arith, same))
none_left (p ∷ proofs) (v ∷ verdicts) zero same past = absurd (omega (arith, past))
none_left (p ∷ proofs) (v ∷ verdicts) (suc i) same past = none_left proofs verdicts i (omega (arith, same)) (omega (arith, past))

or_same : (a b c : Bool) → ((a || b) || c) ≡ (a || (b || c))
or_same true b c = refl
or_same false b c = refl

or_none : (a : Bool) → (a || false) ≡ a
or_none true = refl
or_none false = refl

-- a report of the first findings, with what is left
pub record IsReportSoFar (proofs : List Gathered) (verdicts : List Verdict) (i : ℕ) (report : Report) : Type 0 where
  pub lines : report.lines.items ++ finding_lines (i + 1) (drop i (findings_of proofs verdicts)) ≡ lines_of_findings (findings_of proofs verdicts)
  pub refused : (report.refused || list_any is_refused (drop i (findings_of proofs verdicts))) ≡ list_any is_refused (findings_of proofs verdicts)
  pub collides : (report.collides || list_any is_collision (drop i (findings_of proofs verdicts))) ≡ list_any is_collision (findings_of proofs verdicts)

-- one more finding
pub record IsAdded (before now : Report) (number : ℕ) (finding : Finding) : Type 0 where
  pub lines : now.lines.items ≡ before.lines.items ++ line_of_finding number finding
  pub refused : now.refused ≡ (before.refused || is_refused finding)
  pub collides : now.collides ≡ (before.collides || is_collision finding)

module _ (proofs : List Gathered) (verdicts : List Verdict) (same : length verdicts ≡ length proofs) (i : ℕ) where
  pub report_more : (proof : Gathered) (found : Verdict) → i < length proofs → proof ≡ get_or proofs i proof → found ≡ get_or verdicts i found
      → (before now : Report) → IsReportSoFar proofs verdicts i before → IsAdded before now (i + 1) (finding_of proof found)
      → IsReportSoFar proofs verdicts (i + 1) now
  report_more proof found less is also before now so_far added =
      let next : suc i ≡ i + 1 = omega arith in
      let rest : List Finding = drop (i + 1) (findings_of proofs verdicts) in
      let left = left_at proofs verdicts i proof found same less is also
      ∙ ap (λ (n : ℕ). finding_of proof found ∷ drop n (findings_of proofs verdicts)) next in
      record {
        lines = ap (λ (text : List ℕ). text ++ finding_lines ((i + 1) + 1) rest) added.lines
            ∙ append_assoc before.lines.items (line_of_finding (i + 1) (finding_of proof found)) (finding_lines ((i + 1) + 1) rest)
            ∙ ap (λ (fs : List Finding). before.lines.items ++ finding_lines (i + 1) fs) (sym left)
            ∙ so_far.lines;
        refused = ap (λ (b : Bool). b || list_any is_refused rest) added.refused
            ∙ or_same before.refused (is_refused (finding_of proof found)) (list_any is_refused rest)
            ∙ ap (λ (fs : List Finding). before.refused || list_any is_refused fs) (sym left)
            ∙ so_far.refused;
        collides = ap (λ (b : Bool). b || list_any is_collision rest) added.collides
            ∙ or_same before.collides (is_collision (finding_of proof found)) (list_any is_collision rest)
            ∙ ap (λ (fs : List Finding). before.collides || list_any is_collision fs) (sym left)
            ∙ so_far.collides;
      }

  pub report_whole : length proofs ≤ i → (report : Report) → IsReportSoFar proofs verdicts i report → IsReport proofs verdicts report
  report_whole past report so_far =
      let none = none_left proofs verdicts i same past in
      record {
        lines = sym (append-nil report.lines.items)
            ∙ ap (λ (fs : List Finding). report.lines.items ++ finding_lines (i + 1) fs) (sym none)
            ∙ so_far.lines;
        refused = sym (or_none report.refused) ∙ ap (λ (fs : List Finding). report.refused || list_any is_refused fs) (sym none) ∙ so_far.refused;
        collides = sym (or_none report.collides) ∙ ap (λ (fs : List Finding). report.collides || list_any is_collision fs) (sym none) ∙ so_far.collides;
      }
