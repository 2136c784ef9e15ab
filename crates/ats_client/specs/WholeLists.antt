-- Whether a proof shows a whole list.
use Rattle.std.specs.Prelude.{◌==◌, ℕ, Bool, List, length}
use Rattle.std.specs.List.{list_any}
use Rattle.ats_proof.specs.Value.{Proof}
use Rattle.ats_client.specs.Presented.{Presented, presented}

-- as many entries of a present term's list are shown as there are documents that have the term
abbrev pub is_whole : Presented → Bool
is_whole one = length one.prefix.entries == one.entry.f

-- the list of some present term is shown whole
abbrev pub shows_whole : List (List ℕ × ℕ) → Proof → Bool
shows_whole query proof = list_any is_whole (presented query proof)
