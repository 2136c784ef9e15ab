use Rattle.std.proofs.Common.{inr}
use Rattle.ats_commit.specs.Root.{root_of}
use Rattle.ats_console.specs.Words.{Both, Checker}
use Rattle.ats_makers.proofs.Public.{both_short}
use Rattle.ats_top.proofs.BothAccepted.{bytes_accepted, made_unclashing}
use Rattle.ats_top.proofs.SaidWords.{both_said}
use Rattle.ats_top.proofs.laws.commands_accept_made_boths.Goals as goal

pub returns-clause-prove : goal.returns-clause-prove
returns-clause-prove g c archive asked bytes files words index is_query proved short =
    (asked, is_query, inr (index.bytes, index.file, (archive, index.spelling, (both_short g.H.HashKind.hash archive asked bytes proved short, λ made is. tt))))

pub returns-clause-both : goal.returns-clause-both
returns-clause-both g c archive asked bytes files root query name is_query proved file is_root =
    let H = g.H.HashKind.hash in (
      Checker (Both (record { root = root_of H archive; query = query; proof = name })),
      both_said root (root_of H archive) query name is_root,
      (asked, is_query, inr (bytes, file, (proved.proof, bytes_accepted H archive asked bytes proved, tt))),
    )

pub returns-clause-audit : goal.returns-clause-audit
returns-clause-audit g c archive asked bytes files words index is_query proved file =
    let accepted = bytes_accepted g.H.HashKind.hash archive asked bytes proved in
    let none = made_unclashing g.H.HashKind.hash archive asked proved.proof proved.shows in
    (asked, is_query, inr (index.bytes, index.file, (archive, index.spelling, inr (bytes, file, (proved.proof, accepted, (none, tt))))))
