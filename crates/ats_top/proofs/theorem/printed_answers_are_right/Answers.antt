use Rattle.std.proofs.Common.{◌⊎◌, List, [], ◌∷◌, IsSome, codes, sym, subst}
use Rattle.ats_client.specs.Rows.{rows_of}
use Rattle.ats_all_check.specs.Documents.{documents_shown}
use Rattle.ats_catalog_check.specs.Headline.{AreRightIn}
use Rattle.ats_catalog_check.specs.Strings.{catalog_collision}
use Rattle.ats_catalog_check.specs.declared.row.CatalogRow.{CatalogRow}
use Rattle.ats_console.specs.Words.{verify_words, fetch_words, both_words, growth_words, catalog_words}
use Rattle.ats_top.specs.Serving.{Took}
use Rattle.ats_top.proofs.Caught.{or_caught, proof_caught, text_caught, both_caught, growth_caught, catalog_caught}
use Rattle.ats_top.proofs.Printed.{verified, replied, fetched, both_checked, growth_checked, catalog_checked}
use Rattle.ats_top.proofs.SaidWords.{verify_said, ask_said, fetch_said, both_said, growth_said, catalog_said}
use Rattle.ats_top.proofs.theorem.printed_answers_are_right.Goals as goal

pub returns-clause-verify : goal.returns-clause-verify
returns-clause-verify g c root r query proof digest n before now is_root is_rows ran =
    let H = g.H.HashKind.hash in
    let done = verified H (verify_words root r query proof) before now (record { root = digest; r = n; query = query; proof = proof })
    (verify_said root digest r query proof n is_root is_rows) ran in
    let is = done.1 in
    let own = is.checked in (
      is.query,
      is.asked,
      own.bytes,
      own.file,
      rows_of is.query own.value,
      subst (Took before.sink now.sink) is.printed done.2,
      λ archive are same. or_caught (is.headline archive are same)
          (proof_caught H digest own.bytes archive same n query is.query own.value is.asks is.asked own.accepted),
    )

pub returns-clause-ask : goal.returns-clause-ask
returns-clause-ask g c root algorithm r query address digest by n before now is_root is_algorithm is_rows ran =
    let H = g.H.HashKind.hash in
    let done = replied H (codes "ask" ∷ root ∷ algorithm ∷ r ∷ query ∷ address ∷ []) before now
    (record { root = digest; algorithm = by; r = n; query = query; address = address })
    (ask_said root digest algorithm r query address by n is_root is_algorithm is_rows) ran in
    let is = done.1 in
    let own = is.accepted in (
      own.query,
      own.replied.asked,
      own.bytes,
      own.replied.conversation,
      rows_of own.query own.proof,
      subst (Took before.sink now.sink) is.printed done.2,
      λ archive are same. or_caught (is.headline archive are same)
          (proof_caught H digest own.bytes archive same n query own.query own.proof own.replied.asks own.replied.asked own.accepted),
    )

pub returns-clause-fetch : goal.returns-clause-fetch
returns-clause-fetch g c root doc file digest n before now is_root is_doc ran =
    let H = g.H.HashKind.hash in
    let done = fetched H (fetch_words root doc file) before now (record { root = digest; doc = n; file = file })
    (fetch_said root digest doc file n is_root is_doc) ran in
    let is = done.1 in
    let own = is.checked in (
      own.bytes,
      own.file,
      own.value.text,
      subst (Took before.sink now.sink) is.printed done.2,
      λ archive are same. or_caught (is.headline archive are same) (text_caught H digest own.bytes archive same n own.value own.accepted),
    )

pub returns-clause-both : goal.returns-clause-both
returns-clause-both g c root query proof digest before now is_root ran =
    let H = g.H.HashKind.hash in
    let done = both_checked H (both_words root query proof) before now (record { root = digest; query = query; proof = proof })
    (both_said root digest query proof is_root) ran in
    let is = done.1 in
    let own = is.checked in (
      is.query,
      is.asked,
      own.bytes,
      own.file,
      documents_shown own.value,
      subst (Took before.sink now.sink) is.printed done.2,
      λ archive are same. or_caught (is.headline archive are same)
          (both_caught H digest own.bytes archive same query is.query own.value is.asked own.accepted),
    )

pub returns-clause-growth : goal.returns-clause-growth
returns-clause-growth g c old new file older_root newer_root before now is_old is_new ran =
    let H = g.H.HashKind.hash in
    let done = growth_checked H (growth_words old new file) before now (record { old = older_root; new = newer_root; file = file })
    (growth_said old older_root new newer_root file is_old is_new) ran in
    let is = done.1 in
    let own = is.checked in (
      own.bytes,
      own.file,
      own.value.old.documents,
      own.value.new.documents,
      subst (Took before.sink now.sink) is.printed done.2,
      λ older newer are too same also. or_caught (is.headline older newer are too same also)
          (growth_caught H older_root newer_root own.bytes own.value own.accepted older newer same also),
    )

pub returns-clause-catalog : goal.returns-clause-catalog
returns-clause-catalog g c root r query file digest n before now is_root is_rows ran =
    let H = g.H.HashKind.hash in
    let done = catalog_checked H (catalog_words root r query file) before now (record { root = digest; r = n; query = query; file = file })
    (catalog_said root digest r query file n is_root is_rows) ran in
    let is = done.1 in
    let own = is.checked in (
      is.query,
      is.asked,
      own.bytes,
      own.file,
      is.rows,
      subst (Took before.sink now.sink) is.printed done.2,
      λ catalog are same. or_caught (subst (λ (rows : List CatalogRow). AreRightIn catalog is.query n rows ⊎ IsSome (catalog_collision H catalog is.query own.value is.answer.proofs)) (sym is.answer.are) (is.headline catalog are same is.answer.proofs is.answer.say))
          (catalog_caught H digest own.bytes catalog same n query is.query (record { frames = own.value; proofs = is.answer.proofs }) is.asks is.asked (record { accepted = own.accepted; say = is.answer.say })),
    )
