-- What `ats_text` says, and why it says nothing.
use Rattle.std.specs.Prelude.{◌≡◌, ◌+◌, ◌≤◌, ℕ, List, length, take, drop}
use Rattle.sha2.specs.Sha256.{sha256}
use Rattle.ats_grammar.specs.Front.{IsBad}
use Rattle.ats_text_check.specs.Bytes.{IsAcceptedText, IsRefusedText}
use Rattle.ats_text_check.specs.Grammar.{text_schema}
use Rattle.ats_text_check.specs.Strings.{IsOwnOrCollides}
use Rattle.ats_text_check.specs.Value.{TextProof}
use Rattle.ats_reader.specs.Verdicts.{accepted}
use Rattle.ats_reader.specs.declared.answers.TextAt.{TextAt}
use Rattle.ats_reader.specs.declared.fault.Fault.{Fault}
use Rattle.ats_reader.specs.declared.fault.Fault.TheVariants.{BadShape, TextRefused}
use Rattle.ats_reader.specs.declared.shown.Verdict.{Verdict}

-- The bytes are accepted under the root as the text of the document, and the text is this part of them. So for every
-- archive with the root it is the archive's text of the document, or strings collide.
pub record IsTextAt (root : List ℕ) (doc : ℕ) (bytes : List ℕ) (at : TextAt) : Type 0 where
  pub proof : TextProof
  pub proved : IsAcceptedText sha256 root doc bytes proof
  pub headline : IsOwnOrCollides sha256 root doc proof
  pub inside : at.first + at.size ≤ length bytes
  pub lies : take at.size (drop at.first bytes) ≡ proof.text

-- the verdict says where such a text lies
pub record IsTextAnswer (root : List ℕ) (doc : ℕ) (bytes : List ℕ) (verdict : Verdict) : Type 0 where
  pub at : TextAt
  pub proved : IsTextAt root doc bytes at
  pub told : verdict ≡ accepted 0 at.first at.size

-- why no text is shown
abbrev pub IsTextFault : List ℕ → ℕ → List ℕ → Fault → Type 0
IsTextFault root doc bytes (BadShape fault) = IsBad text_schema bytes fault
IsTextFault root doc bytes (TextRefused refusal) = IsRefusedText sha256 root doc bytes refusal
IsTextFault root doc bytes _ = ⊥
