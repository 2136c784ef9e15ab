-- What `ats_both` shows, and why it shows nothing.
use Rattle.std.specs.Prelude.{◌≡◌, ◌<◌, ℕ, List, length}
use Rattle.sha2.specs.Sha256.{sha256}
use Rattle.ats_terms.specs.Query.{IsQueryOf}
use Rattle.ats_grammar.specs.Front.{IsBad}
use Rattle.ats_grammar.specs.Grammar.{proof_schema}
use Rattle.ats_proof.specs.Value.{Proof}
use Rattle.ats_all_check.specs.Bytes.{AreAcceptedBytes, AreRefusedBytes}
use Rattle.ats_all_check.specs.Documents.{documents_shown}
use Rattle.ats_all_check.specs.Headline.{AreBothOrCollide}
use Rattle.ats_reader.specs.Asked.{IsReadFault}
use Rattle.ats_reader.specs.Shown.{IsShown}
use Rattle.ats_reader.specs.Verdicts.{accepted}
use Rattle.ats_reader.specs.declared.fault.Fault.{Fault}
use Rattle.ats_reader.specs.declared.fault.Fault.TheVariants.{NoText, NoQuery, BadShape, BothRefused, FewDocuments, OutOfMemory}
use Rattle.ats_reader.specs.declared.shown.Verdict.{Verdict}

-- The bytes spell an accepted proof of all documents with every term of the text, under the root, and it shows these
-- documents. So for every archive with the root they are all that have every term, or strings collide.
pub record AreDocuments (root text bytes documents : List ℕ) : Type 0 where
  pub query : List (List ℕ × ℕ)
  pub terms : IsQueryOf text query
  pub proof : Proof
  pub proved : AreAcceptedBytes sha256 root query bytes proof
  pub headline : AreBothOrCollide sha256 root query proof
  pub all : documents ≡ documents_shown proof

-- such documents are shown
pub record IsBothAnswer (root text bytes before after : List ℕ) (verdict : Verdict) : Type 0 where
  pub documents : List ℕ
  pub proved : AreDocuments root text bytes documents
  pub shown : IsShown ℕ documents before after
  pub counted : verdict ≡ accepted (length documents) 0 0

-- why nothing is shown, in the order in which it is found; out of memory needs no cause
abbrev pub IsBothFault : List ℕ → List ℕ → List ℕ → ℕ → Fault → Type 0
IsBothFault root text bytes room NoText = IsReadFault text NoText
IsBothFault root text bytes room (NoQuery fault) = IsReadFault text (NoQuery fault)
IsBothFault root text bytes room (BadShape fault) =
    (query : List (List ℕ × ℕ)) × IsQueryOf text query × IsBad proof_schema bytes fault
IsBothFault root text bytes room (BothRefused refusal) =
    (query : List (List ℕ × ℕ)) × IsQueryOf text query × AreRefusedBytes sha256 root query bytes refusal
IsBothFault root text bytes room (FewDocuments told many) =
    (told ≡ room) × (room < many) × (documents : List ℕ) × AreDocuments root text bytes documents × (many ≡ length documents)
IsBothFault root text bytes room OutOfMemory = Unit {0}
IsBothFault root text bytes room _ = ⊥
