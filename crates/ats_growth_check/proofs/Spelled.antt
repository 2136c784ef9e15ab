-- The fields of a growth in range are a front of the table, and their join is short.
use Rattle.std.proofs.Common.{◌≡◌, ℕ, ◌+◌, ◌*◌, List, ◌∷◌, ◌++◌, length, length-append, refl, sym, ap, arith, append-nil}
use Rattle.std.specs.List.{concat}
use Rattle.std.proofs.lemmas.List.Folds.{concat-append}
use Rattle.ats_grammar.specs.Table.{End, spelled}
use Rattle.ats_proof.specs.SharedTables.{last_digests}
use Rattle.ats_proof.specs.Value.{archive_fields}
use Rattle.ats_proof.proofs.Public.{archive_comes, length-archive, last_comes, length_digests}
use Rattle.ats_growth_check.specs.Grammar.{after_old}
use Rattle.ats_growth_check.specs.Value.{Growth, fields_of, IsGrowth, AreInRange}

pub spells : (g : Growth) → AreInRange g → IsGrowth (concat (fields_of g)) g
spells g range =
    let last : List (List ℕ) = spelled 1 (length g.digests) ∷ g.digests
    in let old : List (List ℕ) = archive_fields g.old_format g.old
    in let new : List (List ℕ) = archive_fields g.new_format g.new
    in let new_comes = archive_comes g.new_format g.new last (last_digests 64) End range.new (last_comes 64 g.digests range.few range.sized)
    in let size : length (concat (fields_of g)) ≡ 4 + (106 + (106 + (1 + 32 * length g.digests))) =
    omega (
      arith,
      ap length (concat-append old (new ++ last)),
      ap length (concat-append new last),
      length-append (concat old) (concat (new ++ last)),
      length-append (concat new) (concat last),
      length-archive g.old_format g.old range.old,
      length-archive g.new_format g.new range.new,
      length_digests g.digests range.sized,
    )
    in record {
      whole = record {
        come = ((refl, omega arith, omega arith), archive_comes g.old_format g.old (new ++ last) after_old End range.old new_comes);
        parts = sym (append-nil (concat (fields_of g)));
      };
      few = omega (arith, range.few, size);
    }
