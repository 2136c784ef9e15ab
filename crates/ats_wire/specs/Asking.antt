-- One request over a link, and what its reply says.
use Rattle.std.specs.Prelude.{◌≡◌, ◌⊎◌, ◌<◌, ◌≤◌, ◌+◌, ◌^◌, ℕ, Bool, true, false, List, [], ◌∷◌, ◌++◌, length, take, Result, Ok, Err}
use Rattle.std.specs.Int.{to_be_bytes, w32}
use Rattle.ats_base.specs.Links.{LinkTold, IsAtEnd}
use Rattle.ats_wire.specs.Requests.{Question, framed, request_body}
use Rattle.ats_wire.specs.Moving.{Moves}
use Rattle.ats_wire.specs.declared.asking.AskFault.{AskFault}
use Rattle.ats_wire.specs.declared.asking.AskFault.TheVariants.{ShortReply, LongReply, BadReply, PeerRefused, ReadFault, WriteFault, OutOfMemory}

-- the whole frame of a question
abbrev pub request_frame : Question → List ℕ
request_frame question = framed (request_body question.algorithm question.top question.query)

-- a length that a reply may have: room for its kind, and at most for the longest proof
abbrev pub IsReplyLength : ℕ → Type 0
IsReplyLength n = (1 ≤ n) × (n ≤ 2 ^ 26 + 1)

-- the kind of a reply of this length: 0 for a proof, or 1 for a code, which needs the length 2
abbrev pub IsKind : ℕ → ℕ → Type 0
IsKind n kind = (kind ≡ 0) ⊎ ((kind ≡ 1) × (n ≡ 2))

-- the kind is valid, if it was read
abbrev pub BeginsWithKind : ℕ → List ℕ → Type 0
BeginsWithKind n [] = Unit {0}
BeginsWithKind n (kind ∷ _) = IsKind n kind

-- A reply of which not all bytes were read, with nothing wrong in those that were: `wanted` is 4 until its length n is
-- whole, and then n + 4.
abbrev pub IsBegun : List ℕ → (wanted : ℕ) → Type 0
IsBegun read wanted =
    ((length read < 4) × (wanted ≡ 4))
    ⊎ ((n : ℕ) × (body : List ℕ) × IsReplyLength n × (read ≡ to_be_bytes w32 n ++ body)
    × (length body < n) × BeginsWithKind n body × (wanted ≡ n + 4))

-- What was read if there is no proof, by the fault that is returned. Nothing is read after a whole reply, a length that
-- is too long, or a kind that is wrong.
abbrev pub ReplyFault : LinkTold → List ℕ → AskFault → Type 0
ReplyFault now read (ShortReply got wanted) = (got ≡ length read) × IsBegun read wanted × IsAtEnd now.traffic
ReplyFault now read (LongReply n) = (read ≡ to_be_bytes w32 n) × (2 ^ 26 + 1 < n)
ReplyFault now read (BadReply n kind) =
    ((n ≡ 0) × (kind ≡ 0) × (read ≡ to_be_bytes w32 0))
    ⊎ (IsReplyLength n × (IsKind n kind → ⊥) × (read ≡ to_be_bytes w32 n ++ kind ∷ []))
ReplyFault now read (PeerRefused code) = read ≡ framed (1 ∷ code ∷ [])
ReplyFault now read ReadFault = (wanted : ℕ) × IsBegun read wanted
ReplyFault now read WriteFault = ⊥
ReplyFault now read OutOfMemory = ((wanted : ℕ) × IsBegun read wanted) ⊎ ((body : List ℕ) × (read ≡ framed body))

-- what was read, by the result: a whole reply with these bytes of a proof, or a fault
abbrev pub Says : LinkTold → List ℕ → Result (List ℕ) AskFault → Type 0
Says now read (Ok bytes) = (read ≡ framed (0 ∷ bytes)) × (length bytes ≤ 2 ^ 26)
Says now read (Err fault) = ReplyFault now read fault

-- What was written and read, by the result: either the request's whole frame and then a reply; or a part of the frame,
-- and nothing was read; or nothing at all, because memory ran out.
abbrev pub Exchanges : (frame : List ℕ) → LinkTold
    → (read written : List ℕ) → Result (List ℕ) AskFault → Type 0
Exchanges frame now read written (Err WriteFault) =
    (read ≡ []) × ((n : ℕ) × (n < length frame) × (written ≡ take n frame))
Exchanges frame now read written (Err OutOfMemory) =
    ((read ≡ []) × (written ≡ [])) ⊎ ((written ≡ frame) × ReplyFault now read OutOfMemory)
Exchanges frame now read written result = (written ≡ frame) × Says now read result

-- the fault is the link's
abbrev pub breaks_link : AskFault → Bool
breaks_link ReadFault = true
breaks_link WriteFault = true
breaks_link _ = false

-- the question ended by a fault of the link
abbrev pub is_broken : {T : Type 0} → Result T AskFault → Bool
is_broken (Ok _) = false
is_broken (Err fault) = breaks_link fault

-- one question was asked over the link, with this result
pub record IsAsked (question : Question) (before now : LinkTold) (result : Result (List ℕ) AskFault) : Type 0 where
  pub read : List ℕ
  pub written : List ℕ
  pub moved : Moves before now read written 1 (is_broken result)
  pub says : Exchanges (request_frame question) now read written result

-- the result depends only on what the peer sent: no call failed, and memory sufficed; a length has 4 bytes
abbrev pub IsHeard : Result (List ℕ) AskFault → Type 0
IsHeard (Ok bytes) = Unit {0}
IsHeard (Err (ShortReply got wanted)) = Unit {0}
IsHeard (Err (LongReply n)) = n < 2 ^ 32
IsHeard (Err (BadReply n kind)) = n < 2 ^ 32
IsHeard (Err (PeerRefused code)) = Unit {0}
IsHeard (Err ReadFault) = ⊥
IsHeard (Err WriteFault) = ⊥
IsHeard (Err OutOfMemory) = ⊥
