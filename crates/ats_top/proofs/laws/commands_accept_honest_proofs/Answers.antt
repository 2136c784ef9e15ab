use Rattle.std.proofs.Common.{inr}
use Rattle.ats_commit.specs.Root.{root_of}
use Rattle.ats_console.specs.Words.{Verify, Checker}
use Rattle.ats_top.proofs.HonestAccepted.{bytes_accepted}
use Rattle.ats_top.proofs.SaidWords.{verify_said}
use Rattle.ats_top.proofs.laws.commands_accept_honest_proofs.Goals as goal

pub returns : goal.returns
returns g c archive asked rows algorithm bytes files root r query name proved file is_root is_rows within is_query =
    let H = g.H.HashKind.hash in (
      Checker (Verify (record { root = root_of H archive; r = rows; query = query; proof = name })),
      verify_said root (root_of H archive) r query name rows is_root is_rows,
      (within, (asked, is_query, inr (bytes, file, (proved.proof, bytes_accepted H archive asked rows algorithm bytes proved, tt)))),
    )
