-- When bytes are accepted under a root as the text of a document, and by which rule they are refused otherwise.
use Rattle.std.specs.Prelude.{ℕ, List}
use Rattle.ats_text_check.specs.Accepts.{AcceptsText, IsFirstTextRefusal}
use Rattle.ats_text_check.specs.Value.{TextProof, IsTextProof}
use Rattle.ats_refusal.specs.declared.text.TextRefusal.{TextRefusal}

-- the bytes spell this, and it is accepted under the root for the document
pub record IsAcceptedText (H : List ℕ → List ℕ) (root : List ℕ) (doc : ℕ) (bytes : List ℕ) (proof : TextProof) : Type 0 where
  pub says : IsTextProof bytes proof
  pub accepts : AcceptsText H root doc proof

-- the bytes spell what is refused under the root for the document, by this rule first
pub record IsRefusedText (H : List ℕ → List ℕ) (root : List ℕ) (doc : ℕ) (bytes : List ℕ) (refusal : TextRefusal) : Type 0 where
  pub proof : TextProof
  pub says : IsTextProof bytes proof
  pub refused : IsFirstTextRefusal H root doc proof refusal
