use Rattle.std.proofs.Common.{inr}
use Rattle.ats_commit.specs.Root.{root_of}
use Rattle.ats_growth_proof.specs.Honest.{honest}
use Rattle.ats_growth_proof.proofs.Public.{honest_accepted, honest-none}
use Rattle.ats_console.specs.Words.{Growth, Checker}
use Rattle.ats_console.proofs.Public.{texts_of}
use Rattle.ats_top.proofs.SaidWords.{growth_said}
use Rattle.ats_top.proofs.laws.commands_accept_shown_growths.Goals as goal

pub returns-clause-grow : goal.returns-clause-grow
returns-clause-grow g c older newer files words old new kept =
    inr (old.bytes, old.file, (older, old.spelling, inr (new.bytes, new.file, (newer, new.spelling, (kept, λ made is. tt)))))

pub returns-clause-growth : goal.returns-clause-growth
returns-clause-growth g c older newer bytes files old new name old_texts new_texts kept shown file is_old is_new =
    let H = g.H.HashKind.hash in (
      Checker (Growth (record { old = root_of H older; new = root_of H newer; file = name })),
      growth_said old (root_of H older) new (root_of H newer) name is_old is_new,
      inr (bytes, file, (honest H older newer, record { says = shown; accepts = honest_accepted H older newer kept old_texts.within.some }, tt)),
    )

pub returns-clause-audit : goal.returns-clause-audit
returns-clause-audit g c older newer bytes files words old new kept shown file =
    let H = g.H.HashKind.hash in
    let some = (texts_of old).within.some in
    let accepted = honest_accepted H older newer kept some in
    let none = honest-none H older newer kept some in
    inr (old.bytes, old.file, (older, old.spelling, inr (new.bytes, new.file, (newer, new.spelling, inr (bytes, file, (honest H older newer, record { says = shown; accepts = accepted }, (none, tt)))))))
