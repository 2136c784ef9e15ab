-- The kinds of files that are checked against roots. What is checked against one root or two, accepted, printed and audited
-- differs from kind to kind; that a file is read, checked and then accepted or rejected is stated once.
use Rattle.std.specs.Prelude.{◌≡◌, ◌⊎◌, ◌^◌, ◌++◌, ℕ, List, codes, decimal}
use Rattle.ats_grammar.specs.Front.{IsBad}
use Rattle.ats_grammar.specs.Grammar.{proof_schema}
use Rattle.ats_proof.specs.Value.{Proof}
use Rattle.ats_client.specs.Bytes.{IsAcceptedBytes}
use Rattle.ats_all_check.specs.Bytes.{AreAcceptedBytes, AreRefusedBytes}
use Rattle.ats_text_check.specs.Grammar.{text_schema}
use Rattle.ats_text_check.specs.Value.{TextProof}
use Rattle.ats_text_check.specs.Bytes.{IsAcceptedText, IsRefusedText}
use Rattle.ats_growth_check.specs.Grammar.{growth_schema}
use Rattle.ats_growth_check.specs.Value.{Growth}
use Rattle.ats_growth_check.specs.Bytes.{IsAcceptedGrowth, IsRefusedGrowth}
use Rattle.ats_catalog_bytes.specs.Grammar.{catalog_schema}
use Rattle.ats_catalog_bytes.specs.Value.{Framed}
use Rattle.ats_catalog_check.specs.Bytes.{IsAcceptedCatalog, IsRefusedCatalog}
use Rattle.ats_refusal.specs.Words.{text_refusal_words, both_refusal_words, growth_refusal_words, catalog_refusal_words}
use Rattle.ats_plan.specs.Files.{Files, IsFile}
use Rattle.ats_plan.specs.Plan.{Plan, Gets}
use Rattle.ats_console.specs.Steps.{RejectsBytes, RejectsFile, reads_shaped}
use Rattle.ats_console.specs.declared.stops.Stop.{Stop}
use Rattle.ats_console.specs.declared.stops.Stop.TheVariants.{Memory}

-- V is what the bytes of such a file say: the most bytes of a file, when bytes are accepted and as what, and by which stops
-- they are rejected
pub record Kind (V : Type 0) : Type 1 where
  pub limit : ℕ
  pub accepted : (bytes : List ℕ) → V → Type 0
  pub rejects : (bytes : List ℕ) → Stop → Type 0

-- the proof of a query's best documents
abbrev pub proof_kind : (List ℕ → List ℕ) → (root : List ℕ) → List (List ℕ × ℕ) → (r : ℕ) → Kind Proof
proof_kind H root query r = record {
  limit = 2 ^ 26;
  accepted = IsAcceptedBytes H root query r;
  rejects = RejectsBytes H root query r;
}

-- the proof of all documents with every term of a query
abbrev pub both_kind : (List ℕ → List ℕ) → (root : List ℕ) → List (List ℕ × ℕ) → Kind Proof
both_kind H root query = record {
  limit = 2 ^ 26;
  accepted = AreAcceptedBytes H root query;
  rejects = λ bytes. RejectsFile (IsBad proof_schema bytes) (AreRefusedBytes H root query bytes) both_refusal_words;
}

-- what gives the text of a document
abbrev pub text_kind : (List ℕ → List ℕ) → (root : List ℕ) → (doc : ℕ) → Kind TextProof
text_kind H root doc = record {
  limit = 2 ^ 21;
  accepted = IsAcceptedText H root doc;
  rejects = λ bytes. RejectsFile (IsBad text_schema bytes) (IsRefusedText H root doc bytes) text_refusal_words;
}

-- what shows that nothing was withdrawn between two roots
abbrev pub growth_kind : (List ℕ → List ℕ) → (old new : List ℕ) → Kind Growth
growth_kind H old new = record {
  limit = 4096;
  accepted = IsAcceptedGrowth H old new;
  rejects = λ bytes. RejectsFile (IsBad growth_schema bytes) (IsRefusedGrowth H old new bytes) growth_refusal_words;
}

-- the proof of a catalog's answer to a query
abbrev pub catalog_kind : (List ℕ → List ℕ) → (root : List ℕ) → List (List ℕ × ℕ) → (r : ℕ) → Kind (List Framed)
catalog_kind H root query r = record {
  limit = 2 ^ 28;
  accepted = IsAcceptedCatalog H root query r;
  rejects = λ bytes. RejectsFile (IsBad catalog_schema bytes) (IsRefusedCatalog H root query r bytes) catalog_refusal_words;
}

-- the named file is read, and what its bytes say is accepted
abbrev pub checks_named : {V : Type 0} → Kind V → (name : List ℕ) → (V → Plan Stop) → Plan Stop
checks_named {V} kind name rest =
    reads_shaped name kind.limit (λ bytes. Gets V (kind.accepted bytes) (kind.rejects bytes) rest)

-- the bytes of the named file, which are at most so many, are accepted as this value
pub record IsChecked {V : Type 0} (limit : ℕ) (accepts : List ℕ → V → Type 0) (files : Files) (name : List ℕ) : Type 0 where
  pub bytes : List ℕ
  pub file : IsFile files name limit bytes
  pub value : V
  pub accepted : accepts bytes value

-- why bytes are not accepted: memory ran out, or they are rejected
abbrev pub CheckStop : {V : Type 0} → Kind V → (bytes : List ℕ) → Stop → Type 0
CheckStop kind bytes stop = (stop ≡ Memory) ⊎ kind.rejects bytes stop

-- ---- what is printed of them

-- the bytes of a text as they are, and a line feed
abbrev pub printed_text : List ℕ → List ℕ
printed_text text = text ++ codes "\n"

-- grown M N: the numbers of documents of the old and of the new archive
abbrev pub line_of_grown : ℕ → ℕ → List ℕ
line_of_grown old new = codes "grown " ++ (decimal old ++ (codes " " ++ (decimal new ++ codes "\n")))
