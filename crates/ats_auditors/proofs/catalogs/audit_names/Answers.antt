use Rattle.std.proofs.Common.{vec_items, ◌^◌, ◌∙◌, [], sym, ap, subst}
use Rattle.ats_catalog_check.specs.Headline.{AreRightIn}
use Rattle.ats_console.specs.Names.{HasNames}
use Rattle.ats_console.specs.Print.{lines_of_catalog}
use Rattle.ats_console.specs.Words.{AuditCatalogWords}
use Rattle.ats_console.proofs.Public.{passed, get_stops, has_archives, same_archives}
use Rattle.ats_plan.specs.Files.{Files, IsFile}
use Rattle.ats_plan.proofs.Public.{leads_none}
use Rattle.ats_auditors.specs.Audited.{catalog_audit}
use Rattle.ats_auditors.specs.Commands.{IsCatalogAudited}
use Rattle.ats_auditors.proofs.Archives.{some_roots}
use Rattle.ats_auditors.proofs.AuditEnds.{audit_stops, audit_end}
use Rattle.ats_auditors.proofs.CatalogSteps.{archives_stop, leads_audited}
use Rattle.ats_auditors.proofs.catalogs.audit_names.Goals as goal

pub returns-in_err-audit-clause-stop : goal.returns-in_err-audit-clause-stop
returns-in_err-audit-clause-stop g c list text file =
    passed _ c.from_residual.result c.from_residual.ensures.1 (get_stops leads_none c.in_err-audit.ensures.stop)

pub audit_to_lines-requires : goal.audit_to_lines-requires
audit_to_lines-requires g c =
    let done = c.in-Ok.ensures.ok in
    record { some = some_roots g.H.HashKind.hash c.args.names.now done.0 c.in_ok-audit.audit c.take_all.new.audit done.1 done.2 c.requires.some }

pub returns-in-Err-clause-stop : goal.returns-in-Err-clause-stop
returns-in-Err-clause-stop g c list text file =
    let words : AuditCatalogWords = record { list = list; r = c.args.top; query = text; file = file } in
    archives_stop g.H.HashKind.hash words c.args.names.now c.args.query.now c.args.bytes.now (g.S.Shelf.told c.args.shelf.now) (g.S.Shelf.told c.take_all.new.shelf) c.in-Err.stop
    c.in_ok-audit.audit.shown c.in_ok-audit.ensures.ok.says c.in-Err.ensures.stop

pub returns-in-Ok-clause-stop : goal.returns-in-Ok-clause-stop
returns-in-Ok-clause-stop g c list text file =
    let H = g.H.HashKind.hash in
    let words : AuditCatalogWords = record { list = list; r = c.args.top; query = text; file = file } in
    let query = c.args.query.now in
    let bytes = c.args.bytes.now in
    let begun = c.in_ok-audit.ensures.ok in
    let done = c.in-Ok.ensures.ok in
    audit_stops H (catalog_audit H done.0 query words.r) bytes
    (leads_audited H words c.args.names.now query bytes (g.S.Shelf.told c.args.shelf.now) (g.S.Shelf.told c.take_all.new.shelf) c.in_ok-audit.audit.shown begun.says done.0 done.2)
    c.audit_to_lines.result (c.audit_to_lines.ensures.stop done.0 query words.r bytes (done.1.goes [] query words.r bytes begun))

pub returns-in-Ok-clause-ok : goal.returns-in-Ok-clause-ok
returns-in-Ok-clause-ok g c list text file asks asked listed shown =
    let H = g.H.HashKind.hash in
    let words : AuditCatalogWords = record { list = list; r = c.args.top; query = text; file = file } in
    let names = c.args.names.now in
    let query = c.args.query.now in
    let bytes = c.args.bytes.now in
    let begun = c.in_ok-audit.ensures.ok in
    let done = c.in-Ok.ensures.ok in
    let same = same_archives H names done.0 done.2 in
    audit_end H (catalog_audit H done.0 query words.r) bytes (λ files printed. IsCatalogAudited H files words printed)
    (leads_audited H words names query bytes (g.S.Shelf.told c.args.shelf.now) (g.S.Shelf.told c.take_all.new.shelf) c.in_ok-audit.audit.shown begun.says done.0 done.2)
    vec_items c.audit_to_lines.result (c.audit_to_lines.ensures.ok done.0 query words.r bytes (done.1.goes [] query words.r bytes begun))
    (λ printed is. let found = is.1 in (
      found.shards,
      found.accepted,
      found.none,
      record {
        asks = asks;
        query = query;
        asked = asked;
        names = names;
        listed = subst (λ (files : Files). HasNames files list names) (sym same) listed;
        catalog = done.0;
        indexes = has_archives H names done.0 done.2;
        clear = record {
          checked = record { bytes = bytes; file = subst (λ (files : Files). IsFile files file (2 ^ 28) bytes) (sym same) shown; value = found.shards; accepted = found.accepted };
          none = found.none;
        };
        right = subst (AreRightIn done.0 query words.r) found.answer found.right;
        printed = is.2 ∙ ap lines_of_catalog found.answer;
      },
    ))
