-- A whole connection: the frames that were read, the replies that were written, and how it ended.
use Rattle.std.specs.Prelude.{◌≡◌, ◌⊎◌, ◌<◌, ◌≤◌, ◌^◌, ℕ, Bool, true, false, List, [], ◌++◌, length, take}
use Rattle.std.specs.Int.{to_be_bytes, w32}
use Rattle.std.specs.List.{All, flat_map}
use Rattle.ats_base.specs.Links.{LinkTold, IsAtEnd}
use Rattle.ats_wire.specs.Requests.{Question, framed}
use Rattle.ats_wire.specs.Replies.{Answers, reply_bytes}
use Rattle.ats_wire.specs.Moving.{Moves}
use Rattle.ats_wire.specs.declared.reply.Reply.{Reply}
use Rattle.ats_wire.specs.declared.serving.ConnectionEnd.{ConnectionEnd}
use Rattle.ats_wire.specs.declared.serving.ConnectionEnd.TheVariants.{Ended, CutFrame, BadFrame, RequestLimit, ReadFault, WriteFault}
use Rattle.ats_wire.specs.declared.serving.Served.{Served}

-- a length that a request's frame may have
abbrev pub IsFrameLength : ℕ → Type 0
IsFrameLength n = (6 ≤ n) × (n ≤ 4096)

-- the body of a whole frame, and the reply to it
pub record IsAnswered (gives : Question → Reply → Type 0) (turn : List ℕ × Reply) : Type 0 where
  pub frame : IsFrameLength (length turn.0)
  pub reply : Answers gives turn.0 turn.1

-- the bytes of the frames, and those of the replies, each one after another
abbrev pub frames : List (List ℕ × Reply) → List ℕ
frames turns = flat_map (λ turn. framed turn.0) turns

abbrev pub replies : List (List ℕ × Reply) → List ℕ
replies turns = flat_map (λ turn. reply_bytes turn.1) turns

-- bytes after whole frames that are no whole frame, nor a bad length: fewer than the 4 of a length, or fewer than a
-- good length names
abbrev pub IsUnfinished : List ℕ → Type 0
IsUnfinished tail = (length tail < 4)
    ⊎ ((n : ℕ) × (body : List ℕ) × IsFrameLength n × (length body < n) × (tail ≡ to_be_bytes w32 n ++ body))

-- How reading ends after whole frames: what was read there, and what the link reports at that moment.
abbrev pub EndsReading : LinkTold → List ℕ → ConnectionEnd → Type 0
EndsReading now tail Ended = (tail ≡ []) × IsAtEnd now.traffic
EndsReading now tail (CutFrame left) = (left ≡ length tail) × (0 < left)
    × IsUnfinished tail × IsAtEnd now.traffic
EndsReading now tail (BadFrame n) = (tail ≡ to_be_bytes w32 n) × ((n < 6) ⊎ (4096 < n))
EndsReading now tail RequestLimit = ⊥
EndsReading now tail ReadFault = IsUnfinished tail
EndsReading now tail WriteFault = ⊥

-- How a connection ends after `requests` whole replies: `tail` was read after their frames, and `part` written after
-- the replies. At the limit nothing more was read; every other end is before the limit. A write fault leaves the front
-- of one more reply.
abbrev pub Ends : (Question → Reply → Type 0) → LinkTold
    → (requests : ℕ) → (tail part : List ℕ) → ConnectionEnd → Type 0
Ends gives now requests tail part RequestLimit = (requests ≡ 65536) × (tail ≡ []) × (part ≡ [])
Ends gives now requests tail part WriteFault =
    (requests < 65536) × ((body : List ℕ) × (reply : Reply) × IsAnswered gives (body, reply) × (tail ≡ framed body)
    × (n : ℕ) × (n < length (reply_bytes reply)) × (part ≡ take n (reply_bytes reply)))
Ends gives now requests tail part end = (requests < 65536) × (part ≡ []) × EndsReading now tail end

-- the connection ended by a fault of the link
abbrev pub is_fault : ConnectionEnd → Bool
is_fault Ended = false
is_fault (CutFrame left) = false
is_fault (BadFrame n) = false
is_fault RequestLimit = false
is_fault ReadFault = true
is_fault WriteFault = true

-- A connection was served: whole frames were read and answered, each by one whole reply, in order, and the count is
-- theirs; then it ended.
pub record IsServed (gives : Question → Reply → Type 0) (before now : LinkTold) (served : Served) : Type 0 where
  pub turns : List (List ℕ × Reply)
  pub tail : List ℕ
  pub part : List ℕ
  pub answered : All (IsAnswered gives) turns
  pub count : served.requests ≡ length turns
  pub moved : Moves before now (frames turns ++ tail) (replies turns ++ part) 1 (is_fault served.end)
  pub ends : Ends gives now served.requests tail part served.end

-- an end without a fault; a length has 4 bytes
abbrev pub IsClean : ConnectionEnd → Type 0
IsClean (BadFrame n) = n < 2 ^ 32
IsClean ReadFault = ⊥
IsClean WriteFault = ⊥
IsClean end = Unit {0}
