-- Beside specs/Asking: what only the functions of this room promise one another.
use Rattle.std.specs.Prelude.{◌≡◌, ◌<◌, ◌≤◌, ◌+◌, ℕ, List, length}
use Rattle.ats_base.specs.Links.{LinkTold, IsAtEnd}
use Rattle.ats_wire.specs.declared.asking.AskFault.{AskFault}
use Rattle.ats_wire.specs.declared.asking.AskFault.TheVariants.{ShortReply, ReadFault, OutOfMemory}

-- What was read after the head of a reply, if it was not all of `size` bytes, by the fault that is returned; the head
-- has 5 bytes. Out of memory may also be returned after all bytes.
abbrev pub RestFault : LinkTold → (size : ℕ) → List ℕ → AskFault → Type 0
RestFault now size came (ShortReply got wanted) = (length came < size) × (got ≡ length came + 5)
    × (wanted ≡ size + 5) × IsAtEnd now.traffic
RestFault now size came ReadFault = length came < size
RestFault now size came OutOfMemory = length came ≤ size
RestFault now size came fault = ⊥
