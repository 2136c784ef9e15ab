use Rattle.ats_checkers.proofs.answer.Goals as goal

-- Each arm is a call whose contract is that of this function at the arm's command. Those that ask for a query first are not
-- found by a search.

pub returns-in-Verify : goal.returns-in-Verify
returns-in-Verify g c = rw c.in-Verify.is (record { ok = c.verify.ensures.ok; stop = c.verify.ensures.stop; unread = c.verify.ensures.unread })

pub returns-in-Both : goal.returns-in-Both
returns-in-Both g c = rw c.in-Both.is (record { ok = c.both.ensures.ok; stop = c.both.ensures.stop; unread = c.both.ensures.unread })

pub returns-in-Catalog : goal.returns-in-Catalog
returns-in-Catalog g c = rw c.in-Catalog.is (record { ok = c.catalog.ensures.ok; stop = c.catalog.ensures.stop; unread = c.catalog.ensures.unread })
