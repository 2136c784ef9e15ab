use Rattle.ats_makers.proofs.answer.Goals as goal

-- Each arm is a call whose contract is that of this function at the arm's command. Those that ask for a query first are not
-- found by a search.

pub returns-in-Rank : goal.returns-in-Rank
returns-in-Rank g c = rw c.in-Rank.is (record { ok = c.rank.ensures.ok; stop = c.rank.ensures.stop; unread = c.rank.ensures.unread })

pub returns-in-Prove : goal.returns-in-Prove
returns-in-Prove g c = rw c.in-Prove.is (record { ok = c.prove.ensures.ok; stop = c.prove.ensures.stop; unread = c.prove.ensures.unread })

pub returns-in-ProveCatalog : goal.returns-in-ProveCatalog
returns-in-ProveCatalog g c =
    rw c.in-ProveCatalog.is (record { ok = c.prove_catalog.ensures.ok; stop = c.prove_catalog.ensures.stop; unread = c.prove_catalog.ensures.unread })

pub returns-in-ProveBoth : goal.returns-in-ProveBoth
returns-in-ProveBoth g c = rw c.in-ProveBoth.is (record { ok = c.prove_both.ensures.ok; stop = c.prove_both.ensures.stop; unread = c.prove_both.ensures.unread })
