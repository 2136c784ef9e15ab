-- What the frames of replies say, and which reply answers a frame.
use Rattle.std.specs.Prelude.{◌≡◌, ◌⊎◌, ◌≤◌, ◌^◌, ℕ, List, [], ◌∷◌, length}
use Rattle.ats_wire.specs.Requests.{Question, Asks, IsRefused, framed}
use Rattle.ats_wire.specs.declared.reply.Reply.{Reply}
use Rattle.ats_wire.specs.declared.reply.Reply.TheVariants.{Proof, Code}

-- the body of a reply's frame: kind 0 and the bytes of a proof, or kind 1 and a code
abbrev pub reply_body : Reply → List ℕ
reply_body (Proof bytes) = 0 ∷ bytes
reply_body (Code code) = 1 ∷ code ∷ []

abbrev pub reply_bytes : Reply → List ℕ
reply_bytes reply = framed (reply_body reply)

-- a reply whose proof is no longer than the longest
abbrev pub IsShort : Reply → Type 0
IsShort (Proof bytes) = length bytes ≤ 2 ^ 26
IsShort (Code _) = Unit {0}

-- The reply to a body, if `gives` relates questions to replies: either one of the replies to what the body asks, or the
-- code of its refusal.
abbrev pub Answers : (Question → Reply → Type 0) → List ℕ → Reply → Type 0
Answers gives body reply =
    ((question : Question) × Asks body question × gives question reply)
    ⊎ ((code : ℕ) × IsRefused body code × (reply ≡ Code code))
