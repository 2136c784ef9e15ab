-- The trial of a number: the honest proofs of its queries over its texts, and what is printed for them.
use Rattle.std.specs.Prelude.{◌≡◌, ◌⊎◌, ◌+◌, ◌*◌, ◌<◌, ◌≤◌, ◌^◌, ◌++◌, ℕ, List, None, length, sum_by, slice_index_or, codes, decimal}
use Rattle.ats_terms.specs.Query.{HasQuery, IsQueryOf}
use Rattle.ats_terms.specs.Faults.{IsFirstFault}
use Rattle.ats_terms.specs.declared.query.QueryFault.{QueryFault}
use Rattle.ats_impact.specs.Trial.{trial_texts, trial_query}
use Rattle.ats_commit.specs.Archive.{Archive, archive_of}
use Rattle.ats_commit.specs.Root.{root_of}
use Rattle.ats_proof.specs.declared.record.Algorithm.{Algorithm}
use Rattle.ats_proof.specs.declared.record.Algorithm.TheVariants.{Tra, Tnra}
use Rattle.ats_proof.specs.Value.{Prefix, Proof}
use Rattle.ats_client.specs.Accepts.{Accepts}
use Rattle.ats_client.specs.Strings.{proof_collision}
use Rattle.ats_honest.specs.Honest.{IsHonest, IsTooLong, length_of}
use Rattle.ats_console.specs.Print.{line_of_root}
use Rattle.ats_console.specs.Stops.{line_of_long_proof, stop_of_query}
use Rattle.ats_console.specs.declared.stops.Stop.{Stop}
use Rattle.ats_console.specs.declared.stops.Stop.TheVariants.{Input}

-- how many entries of the lists a proof shows
abbrev pub shown_entries : Proof → ℕ
shown_entries proof = sum_by (λ (prefix : Prefix). length prefix.entries) proof.lists

abbrev pub trial_archive : ℕ → Archive
trial_archive number = archive_of (trial_texts number)

-- The proof is the honest one of a query for 10 rows, and at most as long as a proof may be. It is accepted under the
-- root of its archive, and has no collision with the archive.
pub record IsTried (H : List ℕ → List ℕ) (archive : Archive) (query : List (List ℕ × ℕ))
    (algorithm : Algorithm) (proof : Proof) : Type 0 where
  pub honest : IsHonest H archive query 10 algorithm proof
  pub short : length_of proof ≤ 2 ^ 26
  pub accepted : Accepts H (root_of H archive) query 10 proof
  pub right : proof_collision H archive query proof ≡ None

-- the proof is such a one for the trial's query with this number
pub record IsTrialProof (H : List ℕ → List ℕ) (number : ℕ)
    (algorithm : Algorithm) (i : ℕ) (proof : Proof) : Type 0 where
  pub query : List (List ℕ × ℕ)
  pub asked : IsQueryOf (trial_query number i) query
  pub tried : IsTried H (trial_archive number) query algorithm proof

-- the proofs are such ones for the first queries, in order
abbrev pub AreTrialProofs : (List ℕ → List ℕ) → ℕ → Algorithm → List Proof → Type 0
AreTrialProofs H number algorithm proofs =
    (i : ℕ) (d : Proof) → i < length proofs → IsTrialProof H number algorithm i (slice_index_or proofs i d)

-- NAME accepted A entries E bytes B
abbrev pub line_of_proofs : List ℕ → List Proof → List ℕ
line_of_proofs name proofs =
    name ++ (codes " accepted " ++ (decimal (length proofs)
    ++ (codes " entries " ++ (decimal (sum_by shown_entries proofs)
    ++ (codes " bytes " ++ (decimal (sum_by length_of proofs) ++ codes "\n"))))))

-- the five lines: of the root, and of the accepted proofs by each algorithm, all of which an audit finds right
abbrev pub lines_of_trial : List ℕ → List Proof → List Proof → List ℕ
lines_of_trial root tra tnra =
    codes "documents 2000 terms 100000 queries 20\nroot " ++ (line_of_root root
    ++ (line_of_proofs (codes "tra") tra ++ (line_of_proofs (codes "tnra") tnra
    ++ (codes "audit right " ++ (decimal (length tra + length tnra) ++ codes "\n")))))

-- the text is that of the trial: 20 queries, each proved by both algorithms
pub record IsTrial (H : List ℕ → List ℕ) (number : ℕ) (text : List ℕ) : Type 0 where
  pub tra : List Proof
  pub tnra : List Proof
  pub tra_each : length tra ≡ 20
  pub tnra_each : length tnra ≡ 20
  pub tra_are : AreTrialProofs H number Tra tra
  pub tnra_are : AreTrialProofs H number Tnra tnra
  pub printed : text ≡ lines_of_trial (root_of H (trial_archive number)) tra tnra

-- ---- why there is none

-- the first `count` queries of the trial are queries
abbrev pub AreQueries : ℕ → ℕ → Type 0
AreQueries number count = (i : ℕ) → i < count → HasQuery (trial_query number i)

-- the first of the 20 texts that is no query, with its fault
pub record IsTrialQueryRefused (number : ℕ) (line : List ℕ) : Type 0 where
  pub i : ℕ
  pub inside : i < 20
  pub before : AreQueries number i
  pub fault : QueryFault
  pub first : IsFirstFault (trial_query number i) fault
  pub same : stop_of_query fault ≡ Input line

-- the place of a proof in the order of the trial: query after query, TRA first
abbrev pub turn : ℕ → Algorithm → ℕ
turn i Tra = 2 * i
turn i Tnra = 2 * i + 1

-- the first honest proof that is longer than a proof may be, with its length, if all texts are queries
pub record IsTrialTooLong (H : List ℕ → List ℕ) (number bytes : ℕ) : Type 0 where
  pub i : ℕ
  pub algorithm : Algorithm
  pub inside : i < 20
  pub asked : AreQueries number 20
  pub before : (k : ℕ) (a : Algorithm) → turn k a < turn i algorithm → (proof : Proof) × IsTrialProof H number a k proof
  pub query : List (List ℕ × ℕ)
  pub own : IsQueryOf (trial_query number i) query
  pub long : IsTooLong H (trial_archive number) query 10 algorithm (2 ^ 26) bytes

-- the queries first, then the proofs
abbrev pub IsTrialRefused : (List ℕ → List ℕ) → ℕ → (line : List ℕ) → Type 0
IsTrialRefused H number line = IsTrialQueryRefused number line
    ⊎ ((bytes : ℕ) × IsTrialTooLong H number bytes × (line ≡ line_of_long_proof bytes))

-- all of its texts are queries, and no honest proof of one is too long
abbrev pub IsTrialAccepted : (List ℕ → List ℕ) → ℕ → Type 0
IsTrialAccepted H number = AreQueries number 20 × ((bytes : ℕ) → IsTrialTooLong H number bytes → ⊥)

-- the line is that of the first text that is no query, or of the first proof that is too long
abbrev pub RefusesTrial : (List ℕ → List ℕ) → (number : ℕ) → Stop → Type 0
RefusesTrial H number stop = (line : List ℕ) × IsTrialRefused H number line × (stop ≡ Input line)
