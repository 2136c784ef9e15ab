-- What `ask` does, and why it stops.
use Rattle.std.specs.Prelude.{◌≡◌, ◌⊎◌, ℕ, List, Ok}
use Rattle.ats_base.specs.Links.{CallerTold}
use Rattle.ats_terms.specs.Query.{IsQueryOf}
use Rattle.ats_proof.specs.Value.{Proof}
use Rattle.ats_wire.specs.Requests.{Question}
use Rattle.ats_client.specs.Bytes.{IsAcceptedBytes, IsRejectedBytes}
use Rattle.ats_client.specs.Headline.{IsTopOrCollides}
use Rattle.ats_client.specs.Rows.{rows_of}
use Rattle.ats_audit.specs.Verdicts.{IsTopOrTold}
use Rattle.ats_refusal.specs.declared.proof.Rejection.{Rejection}
use Rattle.ats_console.specs.Words.{AskWords}
use Rattle.ats_console.specs.Print.{lines}
use Rattle.ats_top.specs.Conversation.{Converses, LosesLink, HearsFault}
use Rattle.ats_console.specs.Steps.{AsksRanking}
use Rattle.ats_console.specs.RejectionLines.{IsRejectionLine}
use Rattle.ats_console.specs.declared.stops.Stop.{Stop}
use Rattle.ats_console.specs.declared.stops.Stop.TheVariants.{Rejected, Memory, Link, Peer}

-- the question of these words
abbrev pub question_of : AskWords → Question
question_of words = record { algorithm = words.algorithm; top = words.r; query = words.query }

-- the question of the words was put to their address, and the reply has these bytes of a proof
pub record IsReplyRead (before now : CallerTold) (words : AskWords)
    (query : List (List ℕ × ℕ)) (bytes : List ℕ) : Type 0 where
  pub asks : AsksRanking words.r words.query
  pub asked : IsQueryOf words.query query
  pub conversation : Converses words.address (question_of words) before now (Ok bytes)

-- the bytes of the reply are accepted as this proof, under the root and for the query of the words
pub record IsReplyAccepted (H : List ℕ → List ℕ) (before now : CallerTold) (words : AskWords) : Type 0 where
  pub query : List (List ℕ × ℕ)
  pub bytes : List ℕ
  pub replied : IsReplyRead before now words query bytes
  pub proof : Proof
  pub accepted : IsAcceptedBytes H words.root query words.r bytes proof

-- the bytes of the reply are rejected for this reason
pub record IsReplyRejected (H : List ℕ → List ℕ) (before now : CallerTold)
    (words : AskWords) (rejection : Rejection) : Type 0 where
  pub query : List (List ℕ × ℕ)
  pub bytes : List ℕ
  pub replied : IsReplyRead before now words query bytes
  pub rejected : IsRejectedBytes H words.root query words.r bytes rejection

-- the reply is no proof, and the line is that of its fault
pub record IsReplyFault (before now : CallerTold) (words : AskWords) (line : List ℕ) : Type 0 where
  pub asks : AsksRanking words.r words.query
  pub heard : HearsFault words.address (question_of words) before now line

-- The reply is an accepted proof, and the text is the lines of the rows of its answer. For every archive with the root,
-- either these rows are right, or the proof and the archive contain two different strings with equal digests, and an
-- audit of the bytes against that archive returns two such strings.
pub record IsReplyVerified (H : List ℕ → List ℕ) (before now : CallerTold) (words : AskWords) (text : List ℕ) : Type 0 where
  pub accepted : IsReplyAccepted H before now words
  pub headline : IsTopOrCollides H words.root accepted.query words.r accepted.proof
  pub audited : IsTopOrTold H words.root accepted.query words.r accepted.bytes accepted.proof
  pub printed : text ≡ lines (rows_of accepted.query accepted.proof)

-- why the call, or what came of it, stopped it; out of memory needs no cause
abbrev pub CallStop : (List ℕ → List ℕ) → (before now : CallerTold) → AskWords → Stop → Type 0
CallStop H before now words (Rejected line) = IsRejectionLine (IsReplyRejected H before now words) line
CallStop H before now words Memory = Unit {0}
CallStop H before now words Link = LosesLink words.address (question_of words) before now
CallStop H before now words (Peer line) = IsReplyFault before now words line
CallStop H before now words _ = ⊥

-- The status that a reply decides: that of an accepted proof, of one that is rejected, or of a reply that is no proof.
abbrev pub Decides : (List ℕ → List ℕ) → (before now : CallerTold) → AskWords → (status : ℕ) → Type 0
Decides H before now words status =
    ((status ≡ 0) × IsReplyAccepted H before now words)
    ⊎ (((status ≡ 1) × ((rejection : Rejection) × IsReplyRejected H before now words rejection))
    ⊎ ((status ≡ 9) × ((line : List ℕ) × IsReplyFault before now words line)))
