-- The results of the steps of a conversation.
use Rattle.std.specs.Prelude.{◌≡◌, ◌<◌, ◌^◌, ℕ, List, Result, Ok, Err, ◌≢◌}
use Rattle.ats_base.specs.Links.{CallerTold}
use Rattle.ats_wire.specs.Requests.{Question}
use Rattle.ats_wire.specs.Feeding.{IsFed}
use Rattle.ats_wire.specs.declared.asking.AskFault.{AskFault}
use Rattle.ats_wire.specs.declared.asking.AskFault.TheVariants.{LongReply, BadReply}
use Rattle.ats_wire.specs.declared.feeding.Fed.{Fed}
use Rattle.ats_console.specs.declared.stops.Stop.{Stop}
use Rattle.ats_console.specs.declared.stops.Stop.TheVariants.{Memory, Link, Peer}
use Rattle.ats_top.specs.Conversation.{Converses, HearsFault, LosesLink}

-- a whole reply with the bytes of a proof was read, with this verdict
abbrev pub ConversesFed : (address : List ℕ) → Question → (before now : CallerTold) → Fed → Type 0
ConversesFed address question before now fed = (bytes : List ℕ)
    × Converses address question before now (Ok bytes) × IsFed fed bytes

-- why there are no bytes of a proof; out of memory needs no cause
abbrev pub ConversationStop : (address : List ℕ) → Question → (before now : CallerTold) → Stop → Type 0
ConversationStop address question before now Memory = Unit {0}
ConversationStop address question before now Link = LosesLink address question before now
ConversationStop address question before now (Peer line) = HearsFault address question before now line
ConversationStop address question before now _ = ⊥

-- the reported length has 4 bytes
abbrev pub IsRanged : AskFault → Type 0
IsRanged (LongReply size) = size < 2 ^ 32
IsRanged (BadReply size kind) = size < 2 ^ 32
IsRanged _ = Unit {0}

-- the caller's count is as before, unless a fault of the caller or of its link stops the command
abbrev pub KeepsCallerCount : {T : Type 0} → (before now : CallerTold) → Result T Stop → Type 0
KeepsCallerCount before now (Ok _) = now.faults ≡ before.faults
KeepsCallerCount before now (Err stop) = stop ≢ Link → now.faults ≡ before.faults
