use Rattle.std.proofs.Common.{◌≡◌, ◌∙◌, sym, ap}
use Rattle.ats_commit.specs.Archive.{Archive}
use Rattle.ats_index.specs.Spelling.{index_bytes}
use Rattle.ats_index.proofs.Public.{one_archive}
use Rattle.ats_makers.specs.Commands.{in_blocks}
use Rattle.ats_top.proofs.laws.migrated_indexes_stay.Goals as goal

pub returns : goal.returns
returns g c archive bytes again other first second third =
    let H = g.H.HashKind.hash in
    let same : in_blocks archive ≡ other = one_archive H bytes (in_blocks archive) other first second in
    third.same ∙ sym (ap (λ (a : Archive). index_bytes H (in_blocks a)) same) ∙ sym first.same
