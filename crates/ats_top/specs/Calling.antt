-- Which commands call, which open the door, and what they leave of the caller and of the door.
use Rattle.std.specs.Prelude.{ℕ, List}
use Rattle.ats_base.specs.Links.{CallerTold, DoorTold}
use Rattle.ats_console.specs.Words.{Command, Ask, Serve}
use Rattle.ats_console.specs.Steps.{AsksRanking}
use Rattle.ats_top.specs.Conversation.{Calls}
use Rattle.ats_top.specs.Asked.{question_of, Decides}
use Rattle.ats_top.specs.Served.{Opens}

-- The command may call: its words are within the limits, and name an address to call.
abbrev pub MayCall : Command → Type 0
MayCall (Ask words) = AsksRanking words.r words.query
MayCall _ = ⊥

-- the command may open the door
abbrev pub MayOpen : Command → Type 0
MayOpen (Serve words) = Unit {0}
MayOpen _ = ⊥

-- what a command that calls leaves of the caller
abbrev pub HasCalled : (before now : CallerTold) → Command → Type 0
HasCalled before now (Ask words) = AsksRanking words.r words.query × Calls words.address (question_of words) before now
HasCalled before now _ = ⊥

-- what a command that opens the door leaves of it
abbrev pub HasOpened : (before now : DoorTold) → Command → Type 0
HasOpened before now (Serve words) = Opens words before now
HasOpened before now _ = ⊥

-- the status that the reply to a command decides
abbrev pub ReplyDecides : (List ℕ → List ℕ) → (before now : CallerTold) → Command → (status : ℕ) → Type 0
ReplyDecides H before now (Ask words) status = Decides H before now words status
ReplyDecides H before now _ status = ⊥
