use Rattle.std.proofs.Common.{inr}
use Rattle.ats_commit.specs.Root.{root_of}
use Rattle.ats_text_proof.specs.Given.{given_text}
use Rattle.ats_text_proof.proofs.Public.{given-accepted, given-none}
use Rattle.ats_console.specs.Words.{Fetch, Checker}
use Rattle.ats_console.proofs.Public.{texts_of}
use Rattle.ats_top.proofs.SaidWords.{fetch_said}
use Rattle.ats_top.proofs.laws.commands_accept_given_texts.Goals as goal

pub returns-clause-fetch : goal.returns-clause-fetch
returns-clause-fetch g c archive doc bytes files root word name texts inside given file is_root is_doc =
    let H = g.H.HashKind.hash in
    let accepted = given-accepted H g.H.HashKind.sized archive doc texts inside in (
      Checker (Fetch (record { root = root_of H archive; doc = doc; file = name })),
      fetch_said root (root_of H archive) word name doc is_root is_doc,
      inr (bytes, file, (given_text H archive doc, record { says = given; accepts = accepted }, tt)),
    )

pub returns-clause-audit : goal.returns-clause-audit
returns-clause-audit g c archive bytes files words index inside given file =
    let H = g.H.HashKind.hash in
    let accepted = given-accepted H g.H.HashKind.sized archive words.doc (texts_of index) inside in
    let none = given-none H g.H.HashKind.sized archive words.doc (texts_of index) inside in
    inr (index.bytes, index.file, (archive, index.spelling, inr (bytes, file, (given_text H archive words.doc, record { says = given; accepts = accepted }, (none, tt)))))
