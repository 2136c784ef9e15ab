-- The results of the steps of a trial.
use Rattle.std.specs.Prelude.{◌≡◌, ◌⊎◌, ◌+◌, ◌*◌, ◌<◌, ◌≤◌, ◌^◌, ℕ, Bool, true, false, List, length, sum_by, slice_index_or}
use Rattle.ats_terms.specs.Query.{IsQueryOf}
use Rattle.ats_impact.specs.Trial.{trial_query}
use Rattle.ats_commit.specs.Archive.{Archive}
use Rattle.ats_commit.specs.Root.{root_of}
use Rattle.ats_proof.specs.declared.record.Algorithm.{Algorithm}
use Rattle.ats_proof.specs.declared.record.Algorithm.TheVariants.{Tra, Tnra}
use Rattle.ats_proof.specs.Value.{Proof}
use Rattle.ats_audit.specs.declared.auditing.Verdict.{Verdict}
use Rattle.ats_audit.specs.declared.auditing.Verdict.TheVariants.{Right}
use Rattle.ats_honest.specs.Honest.{length_of}
use Rattle.ats_console.specs.Inner.Making.{MakingStop}
use Rattle.ats_console.specs.declared.stops.Stop.{Stop}
use Rattle.ats_console.specs.declared.stops.Stop.TheVariants.{Memory}
use Rattle.ats_auditors.specs.declared.trials.Tally.{Tally}
use Rattle.ats_auditors.specs.Trial.{IsTried, RefusesTrial, lines_of_trial, shown_entries, turn}

-- each query has such a proof of its own, in order
pub record AreTried (H : List ℕ → List ℕ) (archive : Archive) (queries : List (List (List ℕ × ℕ)))
    (algorithm : Algorithm) (proofs : List Proof) : Type 0 where
  pub many : length proofs ≡ length queries
  pub each : (i : ℕ) (d : List (List ℕ × ℕ)) (e : Proof) → i < length proofs
      → IsTried H archive (slice_index_or queries i d) algorithm (slice_index_or proofs i e)

-- an audit finds the rows right
abbrev pub is_right : Verdict → Bool
is_right (Right rows) = true
is_right _ = false

-- the totals of some proofs, each of which is accepted and found right by an audit
abbrev pub tally_of : List Proof → Tally
tally_of proofs = record {
  accepted = length proofs;
  entries = sum_by shown_entries proofs;
  bytes = sum_by length_of proofs;
  right = length proofs;
}

-- the totals with one more such proof
abbrev pub counted : Proof → Tally → Tally
counted proof tally = record {
  accepted = tally.accepted + 1;
  entries = tally.entries + shown_entries proof;
  bytes = tally.bytes + length_of proof;
  right = tally.right + 1;
}

-- few enough proofs that all can be counted
pub record IsSmall (tally : Tally) : Type 0 where
  pub accepted : tally.accepted ≤ 20
  pub entries : tally.entries ≤ 2 ^ 48 * tally.accepted
  pub bytes : tally.bytes ≤ 2 ^ 26 * tally.accepted
  pub right : tally.right ≤ tally.accepted

-- the texts are the trial's queries, in order
abbrev pub AreTrialQueries : ℕ → List (List (List ℕ × ℕ)) → Type 0
AreTrialQueries number queries = (i : ℕ) (d : List (List ℕ × ℕ)) → i < length queries
    → IsQueryOf (trial_query number i) (slice_index_or queries i d)

-- a query's proof is not made
abbrev pub IsTryStop : (List ℕ → List ℕ) → Archive → List (List ℕ × ℕ) → Algorithm → Stop → Type 0
IsTryStop H archive query algorithm stop = MakingStop H archive query 10 algorithm stop

-- the first proof that is not made; each earlier one in the order of the trial is
pub record IsTriesStop (H : List ℕ → List ℕ) (archive : Archive) (queries : List (List (List ℕ × ℕ)))
    (stop : Stop) : Type 0 where
  pub i : ℕ
  pub algorithm : Algorithm
  pub inside : i < length queries
  pub stopped : (d : List (List ℕ × ℕ)) → IsTryStop H archive (slice_index_or queries i d) algorithm stop
  pub before : (k : ℕ) (a : Algorithm) → turn k a < turn i algorithm
      → (d : List (List ℕ × ℕ)) → (proof : Proof) × IsTried H archive (slice_index_or queries k d) a proof

-- the lines are those of the proofs of the queries by each algorithm
pub record AreTriedLines (H : List ℕ → List ℕ) (archive : Archive) (queries : List (List (List ℕ × ℕ))) (text : List ℕ) : Type 0 where
  pub tra : List Proof
  pub tnra : List Proof
  pub by_tra : AreTried H archive queries Tra tra
  pub by_tnra : AreTried H archive queries Tnra tnra
  pub printed : text ≡ lines_of_trial (root_of H archive) tra tnra

-- why a trial ends before it is done: its refusal, or memory ran out
abbrev pub IsTrialStop : (List ℕ → List ℕ) → ℕ → Stop → Type 0
IsTrialStop H number stop = (stop ≡ Memory) ⊎ RefusesTrial H number stop
