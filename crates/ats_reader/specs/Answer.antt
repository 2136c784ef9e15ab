-- What `ats_check` shows, and why it shows nothing.
use Rattle.std.specs.Prelude.{◌≡◌, ℕ, List, length, map}
use Rattle.sha2.specs.Sha256.{sha256}
use Rattle.ats_terms.specs.Query.{IsQueryOf}
use Rattle.ats_proof.specs.Value.{Proof}
use Rattle.ats_client.specs.Bytes.{IsAcceptedBytes, IsRejectedBytes}
use Rattle.ats_client.specs.Headline.{IsTopOrCollides}
use Rattle.ats_client.specs.Rows.{rows_of}
use Rattle.ats_refusal.specs.declared.proof.Rejection.TheVariants.{Shape, Check}
use Rattle.ats_reader.specs.Asked.{IsAsked, IsAskedFault}
use Rattle.ats_reader.specs.Shown.{IsShown}
use Rattle.ats_reader.specs.Verdicts.{shown_row, accepted}
use Rattle.ats_reader.specs.declared.fault.Fault.{Fault}
use Rattle.ats_reader.specs.declared.fault.Fault.TheVariants.{BadShape, Refused, OutOfMemory}
use Rattle.ats_reader.specs.declared.shown.ShownRow.{ShownRow}
use Rattle.ats_reader.specs.declared.shown.Verdict.{Verdict}

-- the bytes spell an accepted proof under the root for the terms of the text, so that for every archive with the root its
-- rows are right or strings collide; these rows are shown
pub record IsAnswer (root text : List ℕ) (r : ℕ) (bytes : List ℕ) (before after : List ShownRow) (verdict : Verdict) : Type 0 where
  pub asked : IsAsked text r (length before)
  pub query : List (List ℕ × ℕ)
  pub terms : IsQueryOf text query
  pub proof : Proof
  pub proved : IsAcceptedBytes sha256 root query r bytes proof
  pub headline : IsTopOrCollides sha256 root query r proof
  pub shown : IsShown ShownRow (map shown_row (rows_of query proof)) before after
  pub counted : verdict ≡ accepted (length (rows_of query proof)) 0 0

-- why nothing is shown, in the order in which it is found; out of memory needs no cause
abbrev pub IsFault : List ℕ → List ℕ → ℕ → List ℕ → ℕ → Fault → Type 0
IsFault root text r bytes room (BadShape fault) =
    IsAsked text r room × (query : List (List ℕ × ℕ)) × IsQueryOf text query × IsRejectedBytes sha256 root query r bytes (Shape fault)
IsFault root text r bytes room (Refused refusal) =
    IsAsked text r room × (query : List (List ℕ × ℕ)) × IsQueryOf text query × IsRejectedBytes sha256 root query r bytes (Check refusal)
IsFault root text r bytes room OutOfMemory = Unit {0}
IsFault root text r bytes room fault = IsAskedFault text r room fault
