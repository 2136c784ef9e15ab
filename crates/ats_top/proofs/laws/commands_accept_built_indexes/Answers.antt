use Rattle.std.proofs.Common.{codes, refl, inr}
use Rattle.ats_proof.specs.declared.record.Algorithm.TheVariants.{Tnra}
use Rattle.ats_terms.specs.Terms.{terms}
use Rattle.ats_terms.specs.Query.{IsQueryOf, counted}
use Rattle.ats_console.specs.Words.{Prove, Root, Migrate, Maker}
use Rattle.ats_console.proofs.Public.{made_short}
use Rattle.ats_top.proofs.BuiltAccepted.{has_index, none_too_long}
use Rattle.ats_top.proofs.HonestAccepted.{audit_steps_hold}
use Rattle.ats_top.proofs.SaidWords.{prove_said}
use Rattle.ats_top.proofs.laws.commands_accept_built_indexes.Goals as goal

pub returns-clause-root : goal.returns-clause-root
returns-clause-root g c archive bytes files name spelling held =
    let index = has_index g.H.HashKind.hash g.H.HashKind.sized files archive bytes name spelling held in
    (Maker (Root (record { index = name })), refl, inr (index.bytes, index.file, (archive, index.spelling, tt)))

pub returns-clause-prove : goal.returns-clause-prove
returns-clause-prove g c archive bytes files name spelling held rows r query proof is_rows asks =
    let H = g.H.HashKind.hash in
    let index = has_index H g.H.HashKind.sized files archive bytes name spelling held in
    let asked : IsQueryOf query (counted (terms query)) = record { has = asks.query; same = refl } in
    let none = none_too_long H g.H.HashKind.sized files archive bytes name spelling held query (counted (terms query)) rows asked asks.rows.few in (
      Maker (Prove (record { index = name; algorithm = Tnra; r = rows; query = query; proof = proof })),
      prove_said name (codes "tnra") r query proof Tnra rows refl is_rows,
      (asks.rows, (counted (terms query), asked, inr (index.bytes, index.file, (archive, index.spelling, (none, λ made is. tt))))),
    )

pub returns-clause-either : goal.returns-clause-either
returns-clause-either g c archive bytes files name spelling held algorithm asked rows honest proved short word r query proof is_algorithm is_rows within is_query =
    let H = g.H.HashKind.hash in
    let index = has_index H g.H.HashKind.sized files archive bytes name spelling held in
    let none = made_short H archive asked rows algorithm honest (record { proved = proved; short = short }) in (
      Maker (Prove (record { index = name; algorithm = algorithm; r = rows; query = query; proof = proof })),
      prove_said name word r query proof algorithm rows is_algorithm is_rows,
      (within, (asked, is_query, inr (index.bytes, index.file, (archive, index.spelling, (none, λ made is. tt))))),
    )

pub returns-clause-migrate : goal.returns-clause-migrate
returns-clause-migrate g c archive bytes files name migrated spelling held =
    let index = has_index g.H.HashKind.hash g.H.HashKind.sized files archive bytes name spelling held in
    (Maker (Migrate (record { index = name; migrated = migrated })), refl, inr (index.bytes, index.file, (archive, index.spelling, λ made is. tt)))

pub returns-clause-serve : goal.returns-clause-serve
returns-clause-serve g c archive bytes files words spelling held =
    let index = has_index g.H.HashKind.hash g.H.HashKind.sized files archive bytes words.index spelling held in
    inr (index.bytes, index.file, (archive, index.spelling, tt))

pub returns-clause-audit : goal.returns-clause-audit
returns-clause-audit g c archive bytes files words asked algorithm honest spelling held =
    audit_steps_hold g.H.HashKind.hash archive files words asked algorithm honest (has_index g.H.HashKind.hash g.H.HashKind.sized files archive bytes words.index spelling held)

pub returns-clause-give : goal.returns-clause-give
returns-clause-give g c archive bytes files words spelling held inside =
    let index = has_index g.H.HashKind.hash g.H.HashKind.sized files archive bytes words.index spelling held in
    inr (index.bytes, index.file, (archive, index.spelling, (inside, λ made is. tt)))
