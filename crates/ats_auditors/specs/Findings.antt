-- What a sweep finds for the listed proofs: for each what `audit` finds, and a line.
use Rattle.std.specs.Prelude.{◌≡◌, ◌≢◌, ◌+◌, ◌^◌, ◌++◌, ◌∷◌, ℕ, Bool, true, false, List, [], length, codes, decimal}
use Rattle.std.specs.List.{AllZip, list_any, zip}
use Rattle.ats_terms.specs.Query.{IsQuery, IsQueryOf}
use Rattle.ats_impact.specs.declared.rank.Row.{Row}
use Rattle.ats_tree.specs.Differences.{Difference}
use Rattle.ats_tree.specs.declared.places.Place.{Place}
use Rattle.ats_commit.specs.Archive.{Archive}
use Rattle.ats_commit.specs.Root.{root_of}
use Rattle.ats_proof.specs.declared.record.Algorithm.{Algorithm}
use Rattle.ats_honest.specs.Honest.{IsProved}
use Rattle.ats_client.specs.Bytes.{IsRejectedBytes}
use Rattle.ats_refusal.specs.declared.proof.Rejection.{Rejection}
use Rattle.ats_audit.specs.Verdicts.{IsFoundRight, IsFoundCollision}
use Rattle.ats_plan.specs.Files.{Files, IsFile}
use Rattle.ats_console.specs.Words.{SweepWords}
use Rattle.ats_console.specs.Read.{HasIndex}
use Rattle.ats_refusal.specs.Words.{rejection_words}
use Rattle.ats_auditors.specs.Listed.{Listed, IsList, names_of}
use Rattle.ats_auditors.specs.Gathered.{AreGathered}
use Rattle.ats_console.specs.Steps.{too_long}
use Rattle.ats_auditors.specs.declared.gathering.Gathered.{Gathered}
use Rattle.ats_auditors.specs.declared.gathering.Gathered.TheVariants.{Whole, Long}

pub data Finding : Type 0 where
  FoundRight : List Row → Finding
  FoundRefused : Rejection → Finding
  FoundCollision : Difference Place → Finding

-- What `audit` finds for the proof of a line: the rows of the answer, which are right for the archive's texts; why the
-- proof is refused; or its first collision with the archive, which is two different strings with the same digest. A file
-- that is too long is refused.
abbrev pub IsFinding : (List ℕ → List ℕ) → Archive → Listed → Gathered → Finding → Type 0
IsFinding H archive line (Whole bytes) (FoundRight rows) = (query : List (List ℕ × ℕ))
    × IsQueryOf line.query query × IsFoundRight H archive query line.r bytes rows
IsFinding H archive line (Whole bytes) (FoundRefused rejection) = (query : List (List ℕ × ℕ))
    × IsQueryOf line.query query × IsRejectedBytes H (root_of H archive) query line.r bytes rejection
IsFinding H archive line (Whole bytes) (FoundCollision collision) = (query : List (List ℕ × ℕ))
    × IsQueryOf line.query query × IsFoundCollision H archive query line.r bytes collision
    × (collision.ours ≢ collision.theirs) × (H collision.ours ≡ H collision.theirs)
IsFinding H archive line Long (FoundRefused rejection) = rejection ≡ too_long (2 ^ 26)
IsFinding H archive line Long _ = ⊥

-- the findings for these proofs, in the order of their lines
abbrev pub AreFindings : (List ℕ → List ℕ) → Archive → List Listed → List Gathered → List Finding → Type 0
AreFindings H archive listed proofs findings =
    AllZip (λ pair finding. IsFinding H archive pair.0 pair.1 finding) (zip listed proofs) findings

-- the named files are an index and a list whose proofs are all there, and these are the findings in the order of the
-- lines
pub record AreFound (H : List ℕ → List ℕ) (files : Files) (words : SweepWords) (findings : List Finding) : Type 0 where
  pub archive : Archive
  pub index : HasIndex H files words.index archive
  pub listed : List Listed
  pub list : IsList files words.list listed
  pub proofs : List Gathered
  pub there : AreGathered files (names_of listed) proofs
  pub each : AreFindings H archive listed proofs findings

abbrev pub is_refused : Finding → Bool
is_refused (FoundRefused rejection) = true
is_refused _ = false

abbrev pub is_collision : Finding → Bool
is_collision (FoundCollision collision) = true
is_collision _ = false

-- I right ROWS, where ROWS is how many there are; I refused REFUSAL; or I collision
abbrev pub line_of_finding : ℕ → Finding → List ℕ
line_of_finding number (FoundRight rows) = decimal number ++ (codes " right " ++ (decimal (length rows) ++ codes "\n"))
line_of_finding number (FoundRefused rejection) =
    decimal number ++ (codes " refused " ++ (rejection_words rejection ++ codes "\n"))
line_of_finding number (FoundCollision collision) = decimal number ++ codes " collision\n"

-- a line for each, from this number on
abbrev pub finding_lines : ℕ → List Finding → List ℕ
finding_lines number [] = []
finding_lines number (finding ∷ findings) = line_of_finding number finding ++ finding_lines (number + 1) findings

abbrev pub lines_of_findings : List Finding → List ℕ
lines_of_findings findings = finding_lines 1 findings

-- no proof is refused and none has a collision, and the text is the lines of the findings
pub record IsSwept (H : List ℕ → List ℕ) (files : Files) (words : SweepWords) (text : List ℕ) : Type 0 where
  pub findings : List Finding
  pub found : AreFound H files words findings
  pub clear : list_any is_collision findings ≡ false
  pub accepted : list_any is_refused findings ≡ false
  pub printed : text ≡ lines_of_findings findings

-- the file of a line is the honest proof, by one of the algorithms, of what the line asks for; each query that is read
-- satisfies `IsQuery`
pub record IsHonestLine (H : List ℕ → List ℕ) (files : Files) (archive : Archive) (line : Listed) : Type 0 where
  pub algorithm : Algorithm
  pub query : List (List ℕ × ℕ)
  pub is_query : IsQuery query
  pub asked : IsQueryOf line.query query
  pub bytes : List ℕ
  pub proved : IsProved H archive query line.r algorithm bytes
  pub file : IsFile files line.proof (2 ^ 26) bytes
