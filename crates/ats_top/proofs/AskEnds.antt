-- How `ask` ends, from the results of its steps.
use Rattle.std.proofs.Common.{◌≡◌, ◌⊎◌, ◌<◌, ◌∙◌, ℕ, List, length, Result, Ok, Err, refl, sym, ap, subst, inl, inr, arith}
use Rattle.std.specs.Prelude.{IfOk, IfErr}
use Rattle.ats_base.specs.Links.{CallerTold}
use Rattle.ats_terms.specs.Query.{IsQuery, IsQueryOf}
use Rattle.ats_terms.specs.Faults.{IsFirstFault}
use Rattle.ats_terms.specs.declared.query.QueryFault.{QueryFault}
use Rattle.ats_impact.specs.declared.rank.Row.{Row}
use Rattle.ats_client.specs.Bytes.{AreVerifiedRows}
use Rattle.ats_refusal.specs.declared.proof.Rejection.TheVariants.{Shape}
use Rattle.ats_audit.proofs.Public.{told}
use Rattle.ats_grammar.specs.declared.fault.ShapeFault.{ShapeFault}
use Rattle.ats_wire.specs.Requests.{Question}
use Rattle.ats_wire.specs.declared.feeding.Fed.{Fed}
use Rattle.ats_wire.specs.declared.feeding.Fed.TheVariants.{Whole, Refused}
use Rattle.ats_console.specs.Words.{AskWords}
use Rattle.ats_console.specs.Print.{lines}
use Rattle.ats_console.specs.RejectionLines.{line_of_rejection}
use Rattle.ats_top.specs.Conversation.{Converses}
use Rattle.ats_top.specs.Inner.Conversation.{ConversesFed, ConversationStop}
use Rattle.ats_top.specs.Asked.{question_of, IsReplyRead, IsReplyRejected, IsReplyVerified, CallStop}
use Rattle.ats_top.specs.Inner.Stops.{AskStop}
use Rattle.ats_console.specs.Steps.{IsRowCount, AsksRanking, RejectsBytes}
use Rattle.ats_console.specs.Stops.{line_of_rows, stop_of_query}
use Rattle.ats_console.specs.declared.stops.Stop.{Stop}
use Rattle.ats_console.specs.declared.stops.Stop.TheVariants.{Input, Rejected, Memory, Link, Peer}
use Rattle.ats_console.proofs.Public.{stops_by}

module _ (address : List ℕ) (question : Question) (before now : CallerTold) where
  kept : (bytes : List ℕ) → ConversesFed address question before now (Whole bytes) → Converses address question before now (Ok bytes)
  kept bytes (came, conversation, (same, spelled)) = subst (λ (b : List ℕ). Converses address question before now (Ok b)) (sym same) conversation

  -- bytes that are kept are those of the reply
  pub whole_reply : (fed : Fed) (bytes : List ℕ) → fed ≡ Whole bytes → ConversesFed address question before now fed
      → Converses address question before now (Ok bytes)
  whole_reply fed bytes is brought = kept bytes (subst (ConversesFed address question before now) is brought)

module _ (H : List ℕ → List ℕ) (before now : CallerTold) (words : AskWords) where
  -- a reply whose bytes have this fault, which is reported before they are kept
  refused_reply : (query : List (List ℕ × ℕ)) (fault : ShapeFault) → AsksRanking words.r words.query → IsQueryOf words.query query
      → ConversesFed words.address (question_of words) before now (Refused fault) → IsReplyRejected H before now words (Shape fault)
  refused_reply query fault asks asked (bytes, conversation, bad) = record {
    query = query;
    bytes = bytes;
    replied = record { asks = asks; asked = asked; conversation = conversation };
    rejected = bad;
  }

  pub refused_stops : (query : List (List ℕ × ℕ)) (fed : Fed) (fault : ShapeFault) → fed ≡ Refused fault → AsksRanking words.r words.query → IsQueryOf words.query query
      → ConversesFed words.address (question_of words) before now fed → AskStop H before now words (Rejected (line_of_rejection (Shape fault)))
  refused_stops query fed fault is asks asked brought =
      inr (asks, (Shape fault, refused_reply query fault asks asked (subst (ConversesFed words.address (question_of words) before now) is brought), refl))

  module _ (query : List (List ℕ × ℕ)) (bytes : List ℕ) (replied : IsReplyRead before now words query bytes) where
    rejected_stop : (stop : Stop) → RejectsBytes H words.root query words.r bytes stop → CallStop H before now words stop
    rejected_stop stop (rejection, bad, is) =
        subst (CallStop H before now words) (sym is) (rejection, record { query = query; bytes = bytes; replied = replied; rejected = bad }, refl)

    -- bytes that were refused
    pub bytes_stops : {T : Type 0} (result : Result T Stop) → IfErr result (λ stop. (stop ≡ Memory) ⊎ RejectsBytes H words.root query words.r bytes stop)
        → IfErr result (AskStop H before now words)
    bytes_stops (Ok text) stops = tt
    bytes_stops (Err stop) (inl memory) = inl (inl memory)
    bytes_stops (Err stop) (inr rejects) = inr (replied.asks, rejected_stop stop rejects)

    -- bytes that were accepted
    pub bytes_end : ((m : List ℕ) → length (H m) ≡ 32) → IsQuery query → {T : Type 0} (bytes_of : T → List ℕ) (result : Result T Stop)
        → IfOk result (λ text. (rows : List Row) × AreVerifiedRows H words.root query words.r bytes rows × (bytes_of text ≡ lines rows))
        → IfOk result (λ text. IsReplyVerified H before now words (bytes_of text))
    bytes_end sized is_query bytes_of (Ok text) is =
        let verified = is.1 in
        record {
          accepted = record { query = query; bytes = bytes; replied = replied; proof = verified.proof; accepted = verified.accepted };
          headline = verified.headline;
          audited = told H sized words.root query words.r bytes verified.proof is_query verified.accepted;
          printed = is.2 ∙ ap lines verified.answer;
        }
    bytes_end sized is_query bytes_of (Err stop) is = tt

  -- the words are out of range, or their query is none
  pub rows_refused : (out : ℕ) → (out ≡ words.r) × ((words.r ≡ 0) ⊎ (1000 < words.r)) → AskStop H before now words (Input (line_of_rows out))
  rows_refused out (same, range) =
      inl (inr (inl ((λ (rows : IsRowCount words.r). omega (arith, rows.some, rows.few, range)), ap (λ (n : ℕ). Input (line_of_rows n)) same)))

  pub query_refused : IsRowCount words.r → (fault : QueryFault) → IsFirstFault words.query fault → AskStop H before now words (stop_of_query fault)
  query_refused rows fault is = elim (stops_by (IsFirstFault words.query) stop_of_query fault (stop_of_query fault) is refl) [
    | inl memory ↦ inl (inl memory)
    | inr by ↦ inl (inr (inr (rows, inl by)))
  ]

  -- there was no reply that may be a proof
  unheard_stop : AsksRanking words.r words.query → (stop : Stop) → ConversationStop words.address (question_of words) before now stop → CallStop H before now words stop
  unheard_stop asks Memory stops = tt
  unheard_stop asks Link stops = stops
  unheard_stop asks (Peer line) stops = record { asks = asks; heard = stops }
  unheard_stop asks other stops = absurd stops

  pub unheard_stops : AsksRanking words.r words.query → (stop : Stop) → ConversationStop words.address (question_of words) before now stop → AskStop H before now words stop
  unheard_stops asks stop stops = inr (asks, unheard_stop asks stop stops)
