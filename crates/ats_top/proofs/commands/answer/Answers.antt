use Rattle.ats_top.proofs.commands.answer.Goals as goal

pub returns-in-Maker : goal.returns-in-Maker
returns-in-Maker g c = rw c.in-Maker.is (record { ok = c.answer.ensures.ok; stop = c.answer.ensures.stop; unread = c.answer.ensures.unread })

pub returns-in-Checker : goal.returns-in-Checker
returns-in-Checker g c = rw c.in-Checker.is (record { ok = c.answer-in-Checker.ensures.ok; stop = c.answer-in-Checker.ensures.stop; unread = c.answer-in-Checker.ensures.unread })

pub returns-in-Auditor : goal.returns-in-Auditor
returns-in-Auditor g c = rw c.in-Auditor.is (record { ok = c.answer-in-Auditor.ensures.ok; stop = c.answer-in-Auditor.ensures.stop; unread = c.answer-in-Auditor.ensures.unread })
