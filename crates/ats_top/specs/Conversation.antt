-- A conversation: an address is called, one question is asked over the link, and the link is given back.
use Rattle.std.specs.Prelude.{◌≡◌, ◌⊎◌, ◌++◌, ℕ, true, List, codes, decimal, is_some, option_map, Result, Err}
use Rattle.ats_base.specs.Outside.{Rose}
use Rattle.ats_base.specs.Links.{LinkTold, CallerTold, IsNew, IsCalledAt, MayNoteCall, calling_out, called_back, counted_broken}
use Rattle.ats_wire.specs.Requests.{Question}
use Rattle.ats_wire.specs.Asking.{IsAsked, IsHeard}
use Rattle.ats_wire.specs.declared.asking.AskFault.{AskFault}
use Rattle.ats_wire.specs.declared.asking.AskFault.TheVariants.{ReadFault, WriteFault}
use Rattle.ats_wire.specs.declared.asking.AskFault.TheVariants as asking
use Rattle.ats_console.specs.Stops.{peer_line}
use Rattle.ats_console.specs.declared.stops.Stop.{Stop}
use Rattle.ats_console.specs.declared.stops.Stop.TheVariants.{Memory, Link, Peer}

-- the stop of each fault of asking, with its line
abbrev pub stop_of_asking : AskFault → Stop
stop_of_asking (asking.ShortReply got wanted) =
    Peer (peer_line (codes "short " ++ (decimal got ++ (codes " " ++ decimal wanted))))
stop_of_asking (asking.LongReply size) = Peer (peer_line (codes "long " ++ decimal size))
stop_of_asking (asking.BadReply size kind) =
    Peer (peer_line (codes "bad " ++ (decimal size ++ (codes " " ++ decimal kind))))
stop_of_asking (asking.PeerRefused code) = Peer (peer_line (codes "refused " ++ decimal code))
stop_of_asking asking.ReadFault = Link
stop_of_asking asking.WriteFault = Link
stop_of_asking asking.OutOfMemory = Memory

-- The address was called, the question was asked over the link, with this result, and the link was given back. The
-- record has the link as it was received and as it was given back.
pub record Converses (address : List ℕ) (question : Question) (before now : CallerTold)
    (result : Result (List ℕ) AskFault) : Type 0 where
  pub link : LinkTold
  pub back : LinkTold
  pub new : IsNew (is_some before.content) link
  pub at_address : IsCalledAt address link.traffic
  pub asked : IsAsked question link back result
  pub content : now.content ≡ option_map (called_back back) (option_map (calling_out address) before.content)
  pub counted : now.faults ≡ counted_broken back.faults before.faults

-- the address was called, and there was no link
pub record FailsToConnect (address : List ℕ) (before now : CallerTold) : Type 0 where
  pub noted : MayNoteCall address before.content now.content
  pub rose : Rose before.faults now.faults
  pub last : now.last_failed ≡ true

-- the caller's count rose: either there was no link, or a fault kept the question from being written or its reply from
-- being read
pub record LosesLink (address : List ℕ) (question : Question) (before now : CallerTold) : Type 0 where
  pub rose : Rose before.faults now.faults
  pub way : FailsToConnect address before now
      ⊎ (Converses address question before now (Err ReadFault) ⊎ Converses address question before now (Err WriteFault))

-- the reply is no proof, and the line is that of its fault
pub record HearsFault (address : List ℕ) (question : Question) (before now : CallerTold)
    (line : List ℕ) : Type 0 where
  pub fault : AskFault
  pub heard : IsHeard (Err fault)
  pub conversation : Converses address question before now (Err fault)
  pub same : stop_of_asking fault ≡ Peer line

-- the address was called once, and the link, if there was one, is back
abbrev pub Calls : (address : List ℕ) → Question → (before now : CallerTold) → Type 0
Calls address question before now = FailsToConnect address before now
    ⊎ ((result : Result (List ℕ) AskFault) × Converses address question before now result)
