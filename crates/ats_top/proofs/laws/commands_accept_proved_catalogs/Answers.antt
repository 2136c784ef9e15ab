use Rattle.std.proofs.Common.{List, [], inr}
use Rattle.ats_commit.specs.Archive.{Archive}
use Rattle.ats_catalog_bytes.specs.Catalog.{catalog_root}
use Rattle.ats_catalog_audit.specs.Verdicts.{Shards, AreAcceptedShards}
use Rattle.ats_plan.specs.Plan.{Plan, Finishes}
use Rattle.ats_console.specs.Words.{Catalog, Checker}
use Rattle.ats_console.specs.declared.stops.Stop.{Stop}
use Rattle.ats_auditors.specs.Audited.{audits_bytes, catalog_audit}
use Rattle.ats_auditors.specs.Commands.{IsCatalogAudited}
use Rattle.ats_top.proofs.CatalogAccepted.{one_catalog, passes_archives}
use Rattle.ats_top.proofs.SaidWords.{catalog_said}
use Rattle.ats_top.proofs.laws.commands_accept_proved_catalogs.Goals as goal

pub returns-clause-prove : goal.returns-clause-prove
returns-clause-prove g c before now words text told stored =
    let file = stored.file in
    file.proved (one_catalog g.H.HashKind.hash before told stored.names file.again file.catalog file.reread file.indexes)

pub returns-clause-catalog : goal.returns-clause-catalog
returns-clause-catalog g c catalog asked rows by bytes files root r query name proved file is_root is_rows within is_query =
    let digest = catalog_root g.H.HashKind.hash catalog in
    let accepts = c.honest_catalogs_are_accepted.ensures.bytes catalog asked rows by bytes within.some proved proved.shards proved.spells in (
      Checker (Catalog (record { root = digest; r = rows; query = query; file = name })),
      catalog_said root digest r query name rows is_root is_rows,
      (within, (asked, is_query, inr (bytes, file, (proved.shards, record { says = proved.spells; accepts = accepts }, tt)))),
    )

pub returns-clause-audit : goal.returns-clause-audit
returns-clause-audit g c catalog asked by bytes files words names listed have within is_query proved file =
    let H = g.H.HashKind.hash in
    let accepts = c.honest_catalogs_are_accepted.ensures.bytes catalog asked words.r by bytes within.some proved proved.shards proved.spells in
    let shards : Shards = record { frames = proved.shards; proofs = proved.honest.proofs } in
    let say = proved.honest.frames.say in
    let accepted : AreAcceptedShards H (catalog_root H catalog) asked words.r bytes shards =
    record { accepted = record { says = proved.spells; accepts = accepts }; say = say } in
    let none = c.honest_catalogs_have_no_clash.ensures.bytes catalog asked words.r by bytes proved proved.shards proved.honest.proofs proved.spells say in
    let rest : List Archive → Plan Stop = λ all. audits_bytes H (catalog_audit H all asked words.r) bytes (λ shown. Finishes (λ files text. IsCatalogAudited H files words text)) in (
      within,
      (
        asked,
        is_query,
        inr (
          listed.bytes,
          listed.file,
          (
            names,
            listed.list,
            inr (bytes, file, (proved.shards, proved.spells, passes_archives H files rest [] names catalog have (shards, accepted, (none, tt)))),
          ),
        ),
      ),
    )
