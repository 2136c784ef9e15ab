-- A question whose proof is checked while it arrives.
use Rattle.std.specs.Prelude.{◌≡◌, ℕ, List, Result, Ok, Err}
use Rattle.ats_base.specs.Links.{LinkTold}
use Rattle.ats_grammar.specs.Front.{IsSpelling, IsBad}
use Rattle.ats_grammar.specs.Grammar.{proof_schema}
use Rattle.ats_wire.specs.Requests.{Question}
use Rattle.ats_wire.specs.Asking.{IsAsked}
use Rattle.ats_wire.specs.declared.asking.AskFault.{AskFault}
use Rattle.ats_wire.specs.declared.feeding.Fed.{Fed}
use Rattle.ats_wire.specs.declared.feeding.Fed.TheVariants.{Whole, Refused}

-- the verdict on bytes that arrived: they spell a proof and are kept, or this is their first fault
abbrev pub IsFed : Fed → List ℕ → Type 0
IsFed (Whole kept) bytes = (kept ≡ bytes) × IsSpelling proof_schema bytes
IsFed (Refused fault) bytes = IsBad proof_schema bytes fault

-- one question was asked over the link: either a whole reply with the bytes of a proof was read, with this verdict, or
-- there is none because of this fault
abbrev pub IsAskedFed : Question → LinkTold → LinkTold → Result Fed AskFault → Type 0
IsAskedFed question before now (Ok fed) = (bytes : List ℕ) × IsAsked question before now (Ok bytes) × IsFed fed bytes
IsAskedFed question before now (Err fault) = IsAsked question before now (Err fault)
