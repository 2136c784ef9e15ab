-- The numbers, roots and digests of a growth that bytes spell are in their ranges.
use Rattle.std.proofs.Common.{ℕ, List, ◌∷◌, ◌++◌, length}
use Rattle.ats_grammar.specs.Table.{spelled}
use Rattle.ats_proof.specs.SharedTables.{last_digests}
use Rattle.ats_proof.specs.Value.{archive_fields}
use Rattle.ats_proof.proofs.Public.{header_first, last_first}
use Rattle.ats_growth_check.specs.Grammar.{after_old}
use Rattle.ats_growth_check.specs.Value.{Growth, IsGrowth, AreInRange}

pub growth_range : (bytes : List ℕ) (g : Growth) → IsGrowth bytes g → AreInRange g
growth_range bytes g is =
    let last : List (List ℕ) = spelled 1 (length g.digests) ∷ g.digests
    in let old = header_first g.old (archive_fields g.new_format g.new ++ last) after_old is.whole.come.1.1
    in let new = header_first g.new last (last_digests 64) old.after.1
    in let shown = last_first 64 g.digests new.after
    in record { old = old.range; new = new.range; few = shown.0; sized = shown.1 }
