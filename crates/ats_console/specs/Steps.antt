-- The steps that commands share: words that ask for a ranking, a file that is read in one of its forms, and the check of
-- a proof's bytes.
use Rattle.std.specs.Prelude.{◌≡◌, ◌≢◌, ◌⊎◌, ◌≤◌, ◌^◌, ℕ, List}
use Rattle.ats_terms.specs.Query.{HasQuery, IsQueryOf}
use Rattle.ats_terms.specs.Faults.{IsFirstFault}
use Rattle.ats_grammar.specs.declared.fault.ShapeFault.{ShapeFault}
use Rattle.ats_grammar.specs.declared.fault.ShapeKind.TheVariants.{Long}
use Rattle.ats_impact.specs.Limits.{AreWithin}
use Rattle.ats_impact.specs.CollectionFaults.{IsFirstCollectionFault}
use Rattle.ats_commit.specs.Archive.{Archive}
use Rattle.ats_index.specs.Spelling.{IsSpelling}
use Rattle.ats_index.specs.LoadFaults.{IsLoadFault}
use Rattle.ats_client.specs.Bytes.{IsRejectedBytes}
use Rattle.ats_refusal.specs.declared.proof.Rejection.{Rejection}
use Rattle.ats_refusal.specs.declared.proof.Rejection.TheVariants.{Shape}
use Rattle.ats_plan.specs.Plan.{Plan, Finishes, Fails, Tries, Gets, Reads}
use Rattle.ats_console.specs.Input.{AreJsonTexts, IsFirstJsonFault}
use Rattle.ats_console.specs.RejectionLines.{refused_line, line_of_rejection}
use Rattle.ats_console.specs.Stops.{line_of_rows, line_of_limit, stop_of_query, stop_of_json, stop_of_collection, stop_of_load}
use Rattle.ats_console.specs.declared.stops.Stop.{Stop}
use Rattle.ats_console.specs.declared.stops.Stop.TheVariants.{Input, Rejected, Memory}

-- the stop is that of a fault that is the first; out of memory, which needs no cause, is none of these
abbrev pub StopsBy : {E : Type 0} → (first : E → Type 0) → (stop_of : E → Stop) → Stop → Type 0
StopsBy {E} first stop_of stop = (fault : E) × first fault × (stop ≡ stop_of fault) × (stop ≢ Memory)

-- an answer may have 1 to 1,000 rows
pub record IsRowCount (r : ℕ) : Type 0 where
  pub some : 1 ≤ r
  pub few : r ≤ 1000

-- the number of rows and the query are within the limits
pub record AsksRanking (r : ℕ) (text : List ℕ) : Type 0 where
  pub rows : IsRowCount r
  pub query : HasQuery text

-- the query of a text
abbrev pub asks_query : (text : List ℕ) → (List (List ℕ × ℕ) → Plan Stop) → Plan Stop
asks_query text rest = Gets (List (List ℕ × ℕ)) (IsQueryOf text) (StopsBy (IsFirstFault text) stop_of_query) rest

-- the rows, then the query
abbrev pub asks_ranking : (r : ℕ) → (text : List ℕ) → (List (List ℕ × ℕ) → Plan Stop) → Plan Stop
asks_ranking r text rest =
    Tries (IsRowCount r) (λ stop. (IsRowCount r → ⊥) × (stop ≡ Input (line_of_rows r)))
    (asks_query text rest)

-- a file of at most so many bytes
abbrev pub reads_file : (name : List ℕ) → (limit : ℕ) → (List ℕ → Plan Stop) → Plan Stop
reads_file name limit rest = Reads name limit (Fails (Input (line_of_limit limit))) rest

-- the texts of a collection: its length, its JSON text, its texts
abbrev pub reads_collection : (name : List ℕ) → (List (List ℕ) → Plan Stop) → Plan Stop
reads_collection name rest = reads_file name (2 ^ 26) (λ bytes.
    Gets (List (List ℕ)) (AreJsonTexts bytes) (StopsBy (IsFirstJsonFault bytes) stop_of_json) (λ texts.
    Tries (AreWithin texts) (StopsBy (IsFirstCollectionFault texts) stop_of_collection)
    (rest texts)))

-- the archive of an index: its length, and the place where it is the index of no archive
abbrev pub reads_index : (List ℕ → List ℕ) → (name : List ℕ) → (Archive → Plan Stop) → Plan Stop
reads_index H name rest = reads_file name (2 ^ 29) (λ bytes.
    Gets Archive (IsSpelling H bytes) (StopsBy (IsLoadFault H bytes) stop_of_load) rest)

-- a file of more bytes than its form allows is refused for its shape, at the first byte too many
abbrev pub too_long : (limit : ℕ) → Rejection
too_long limit = Shape (record { at = limit; kind = Long })

-- the bytes of a file that is checked for its shape
abbrev pub reads_shaped : (name : List ℕ) → (limit : ℕ) → (List ℕ → Plan Stop) → Plan Stop
reads_shaped name limit rest = Reads name limit (Fails (Rejected (line_of_rejection (too_long limit)))) rest

-- the bytes of a proof
abbrev pub reads_proof : (name : List ℕ) → (List ℕ → Plan Stop) → Plan Stop
reads_proof name rest = reads_shaped name (2 ^ 26) rest

-- the line is that of the first reason for which the bytes are no accepted proof
abbrev pub RejectsBytes : (List ℕ → List ℕ) → (root : List ℕ) → List (List ℕ × ℕ) → (r : ℕ) → (bytes : List ℕ) → Stop
    → Type 0
RejectsBytes H root query r bytes stop = (rejection : Rejection)
    × IsRejectedBytes H root query r bytes rejection × (stop ≡ Rejected (line_of_rejection rejection))

-- ---- files of other kinds, which are checked like proofs

-- the line is that of the first reason for which bytes are not accepted: a fault of their shape, or a rule
abbrev pub RejectsFile : {F : Type 0} → (bad : ShapeFault → Type 0) → (refused : F → Type 0) → (words_of : F → List ℕ)
    → Stop → Type 0
RejectsFile {F} bad refused words_of stop =
    ((fault : ShapeFault) × bad fault × (stop ≡ Rejected (line_of_rejection (Shape fault))))
    ⊎ ((fault : F) × refused fault × (stop ≡ Rejected (refused_line (words_of fault))))

-- ---- of a step that is a call of its own

-- nothing comes after it
abbrev pub no_more : Plan Stop
no_more = Finishes (λ files text. ⊥)

-- it comes to this value
abbrev pub comes_to : {A : Type 0} → (value found : A) → Plan Stop
comes_to value found = Finishes (λ files text. found ≡ value)
