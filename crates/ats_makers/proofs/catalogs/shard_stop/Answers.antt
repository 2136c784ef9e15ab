use Rattle.std.proofs.Common.{◌∙◌, ℕ, inl, inr, ap}
use Rattle.ats_console.specs.declared.stops.Stop.TheVariants.{Input}
use Rattle.ats_makers.specs.Lines.{line_of_other_shard, line_of_long_shard}
use Rattle.ats_makers.proofs.catalogs.shard_stop.Goals as goal

pub returns-in-OtherIndex : goal.returns-in-OtherIndex
returns-in-OtherIndex c = λ H catalog query ranking r archive state told.
    let fault = rw c.in-OtherIndex.is at told in
    let line = c.other_shard.ensures ∙ ap (λ (shard : ℕ). Input (line_of_other_shard shard)) fault.0 in
    elim fault.1 [
      | inl other ↦ inr (inl (other, line))
      | inr none ↦ inr (inr (none.0, inl (none.1, line)))
    ]

pub returns-in-ProofTooLong : goal.returns-in-ProofTooLong
returns-in-ProofTooLong c = λ H catalog query ranking r archive state told.
    let fault = rw c.in-ProofTooLong.is at told in
    let bytes : ℕ = c.in-ProofTooLong.length in
    let line = c.long_shard.ensures ∙ ap (λ (shard : ℕ). Input (line_of_long_shard shard bytes)) fault.0 in
    inr (inr (fault.1, inr (bytes, fault.2, line)))
