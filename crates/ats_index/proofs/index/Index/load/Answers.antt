use Rattle.std.proofs.Common.{ℕ, List, subst, ap, ◌∙◌}
use Rattle.ats_commit.specs.Archive.{Archive}
use Rattle.ats_commit.specs.Own.{AreTexts}
use Rattle.ats_index.specs.LoadFaults.{BeginWith}
use Rattle.ats_index.specs.Parts.{archive_in}
use Rattle.ats_index.proofs.OneArchive.{one_beginning, spelled_begins}
use Rattle.ats_index.proofs.index.Index.load.Goals as goal

pub returns-in-None-clause-ok : goal.returns-in-None-clause-ok
returns-in-None-clause-ok g c =
    let same = rw c.in-None.is at c.in_ok-at.ensures in
    let texts = subst (λ (archive : Archive). AreTexts archive.texts) c.index.view_is c.index.invariant.0.texts_within in
    record {
      utf8 = texts.utf8;
      within = texts.within;
      same = same;
    }

pub returns-in-None-clause-only : goal.returns-in-None-clause-only
returns-in-None-clause-only g c archive spelling =
    let bytes : List ℕ = c.args.bytes.now in
    let begins : BeginWith bytes c.in-Ok.read.0 c.in-Ok.read.1 = rw c.in-Ok.is at c.in_ok-read.ensures in
    c.in_ok-index.ensures ∙ ap (archive_in c.in-Ok.read.0) c.in-Ok-new.ensures.same
    ∙ one_beginning bytes c.in-Ok.read.0 archive.format c.in-Ok.read.1 archive.texts begins (spelled_begins g.H.HashKind.hash bytes archive spelling)
