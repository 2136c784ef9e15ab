-- A connection, turn after turn.
use Rattle.std.proofs.Common.{◌≡◌, ◌<◌, ◌+◌, ◌∙◌, ◌++◌, ◌∷◌, ◌↔◌, inl, inr, ℕ, true, false, List, [], length, take, refl, sym, subst, ap, arith, append-nil, length-append, Result, Ok, Err, OnOk, OnErr}
use Rattle.std.specs.Prelude.{is_err}
use Rattle.std.specs.List.{All}
use Rattle.std.proofs.lemmas.Grind.{flat_map-append}
use Rattle.std.proofs.lemmas.List.Elements.{All-append, All-cons, All-nil}
use Rattle.ats_base.specs.Links.{LinkTold}
use Rattle.ats_wire.specs.Requests.{Question, framed}
use Rattle.ats_wire.specs.Replies.{Answers, reply_bytes}
use Rattle.ats_wire.specs.Moving.{Moves}
use Rattle.ats_wire.specs.Connections.{IsFrameLength, IsAnswered, IsServed, Ends, EndsReading, frames, replies}
use Rattle.ats_wire.specs.Inner.Connections.{IsReplied, IsCutReply}
use Rattle.ats_wire.specs.declared.reply.Reply.{Reply}
use Rattle.ats_wire.specs.declared.serving.ConnectionEnd.{ConnectionEnd}
use Rattle.ats_wire.specs.declared.serving.ConnectionEnd.TheVariants.{Ended, CutFrame, BadFrame, RequestLimit, ReadFault, WriteFault}
use Rattle.ats_wire.proofs.Moved.{moves_then}

-- what holds for a failure holds if there was one
pub err_part : {T E P : Type 0} (result : Result T E) → is_err result ≡ true → OnErr result P → P
err_part (Ok done) is part = absurd (cc)
err_part (Err fault) is part = part

pub ok_part : {T E P : Type 0} (result : Result T E) → is_err result ≡ false → OnOk result P → P
ok_part (Ok done) is part = part
ok_part (Err fault) is part = absurd (cc)

-- an answerer with the same relation gives the same replies
pub answers_same : (now was : Question → Reply → Type 0) (body : List ℕ) (reply : Reply)
    → ((question : Question) (reply : Reply) → (now question reply ↔ was question reply)) → Answers now body reply → Answers was body reply
answers_same now was body reply same (inl (question, asks, given)) = inl (question, asks, (same question reply).0 given)
answers_same now was body reply same (inr refused) = inr refused

-- if reading ended, the connection ended
pub ends_reading : (gives : Question → Reply → Type 0) (now : LinkTold) (requests : ℕ) (tail : List ℕ) (end : ConnectionEnd)
    → requests < 65536 → EndsReading now tail end → Ends gives now requests tail [] end
ends_reading gives now requests tail Ended few ends = (few, refl, ends)
ends_reading gives now requests tail (CutFrame left) few ends = (few, refl, ends)
ends_reading gives now requests tail (BadFrame n) few ends = (few, refl, ends)
ends_reading gives now requests tail RequestLimit few ends = absurd ends
ends_reading gives now requests tail ReadFault few ends = (few, refl, ends)
ends_reading gives now requests tail WriteFault few ends = absurd ends

frame_more : (turns : List (List ℕ × Reply)) (turn : List ℕ × Reply) → frames (turns ++ turn ∷ []) ≡ frames turns ++ (framed turn.0 ++ [])
frame_more turns turn = flat_map-append (λ (t : List ℕ × Reply). framed t.0) turns (turn ∷ [])

reply_more : (turns : List (List ℕ × Reply)) (turn : List ℕ × Reply) → replies (turns ++ turn ∷ []) ≡ replies turns ++ reply_bytes turn.1
reply_more turns turn =
    flat_map-append (λ (t : List ℕ × Reply). reply_bytes t.1) turns (turn ∷ [])
    ∙ ap (λ (x : List ℕ). replies turns ++ x) (append-nil (reply_bytes turn.1))

-- one more frame was read and answered
pub one_more : (gives : Question → Reply → Type 0) (before mid read now : LinkTold) (turns : List (List ℕ × Reply)) (body : List ℕ) (requests : ℕ)
    → requests ≡ length turns → All (IsAnswered gives) turns → Moves before mid (frames turns) (replies turns) 0 false
    → IsFrameLength (length body) → Moves mid read (framed body) [] 0 false → IsReplied gives read now body
    → (all : List (List ℕ × Reply)) × (requests + 1 ≡ length all) × All (IsAnswered gives) all × Moves before now (frames all) (replies all) 0 false
one_more gives before mid read now turns body requests count answered moved good came (reply, answers, sent) =
    let turn : List ℕ × Reply = (body, reply) in
    let is : IsAnswered gives turn = record { frame = good; reply = answers } in
    let step = moves_then mid read now (framed body) [] [] (reply_bytes reply) 0 came sent in
    let both = moves_then before mid now (frames turns) (replies turns) (framed body ++ []) (reply_bytes reply) 0 moved step in (
      turns ++ turn ∷ [],
      omega (arith, count, length-append turns (turn ∷ [])),
      All-append (IsAnswered gives) turns (turn ∷ []) answered (All-cons (IsAnswered gives) turn [] is (All-nil (IsAnswered gives))),
      subst (λ (x : List ℕ). Moves before now x (replies (turns ++ turn ∷ [])) 0 false) (sym (frame_more turns turn))
          (subst (λ (x : List ℕ). Moves before now (frames turns ++ (framed body ++ [])) x 0 false) (sym (reply_more turns turn)) both),
    )

-- there was a fault before one more reply was written whole
pub cut_turn : (gives : Question → Reply → Type 0) (before mid read now : LinkTold) (turns : List (List ℕ × Reply)) (body : List ℕ) (requests : ℕ)
    → requests ≡ length turns → requests < 65536 → All (IsAnswered gives) turns → Moves before mid (frames turns) (replies turns) 0 false
    → IsFrameLength (length body) → Moves mid read (framed body) [] 0 false → IsCutReply gives read now body
    → IsServed gives before now (record { requests = requests; end = WriteFault })
cut_turn gives before mid read now turns body requests count few answered moved good came (reply, answers, (n, short, sent)) =
    let step = moves_then mid read now (framed body) [] [] (take n (reply_bytes reply)) 1 came sent in
    let both = moves_then before mid now (frames turns) (replies turns) (framed body ++ []) (take n (reply_bytes reply)) 1 moved step in
    record {
      turns = turns;
      tail = framed body;
      part = take n (reply_bytes reply);
      answered = answered;
      count = count;
      moved = subst (λ (x : List ℕ). Moves before now (frames turns ++ x) (replies turns ++ take n (reply_bytes reply)) 1 true) (append-nil (framed body)) both;
      ends = (
        few,
        (body, reply, record { frame = good; reply = answers }, refl, n, short, refl),
      );
    }
