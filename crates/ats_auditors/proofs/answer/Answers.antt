use Rattle.std.proofs.Common.{refl}
use Rattle.ats_auditors.proofs.answer.Goals as goal

-- Each arm is a call whose contract is that of this function at the arm's command. Those that ask for a query first are not
-- found by a search.

pub returns-in-Audit : goal.returns-in-Audit
returns-in-Audit g c = rw c.in-Audit.is (record { ok = c.audit.ensures.ok; stop = c.audit.ensures.stop; unread = c.audit.ensures.unread })

pub returns-in-AuditBoth : goal.returns-in-AuditBoth
returns-in-AuditBoth g c = rw c.in-AuditBoth.is (record { ok = c.audit_both.ensures.ok; stop = c.audit_both.ensures.stop; unread = c.audit_both.ensures.unread })

pub returns-in-AuditCatalog : goal.returns-in-AuditCatalog
returns-in-AuditCatalog g c =
    rw c.in-AuditCatalog.is (record { ok = c.audit_catalog.ensures.ok; stop = c.audit_catalog.ensures.stop; unread = c.audit_catalog.ensures.unread })

pub returns-in-Trial : goal.returns-in-Trial
returns-in-Trial g c = rw c.in-Trial.is (record { ok = c.trial.ensures.ok (g.S.Shelf.told c.args.shelf.now); stop = c.trial.ensures.stop (g.S.Shelf.told c.args.shelf.now); unread = λ none. refl })
