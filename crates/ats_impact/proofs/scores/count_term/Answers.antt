use Rattle.ats_impact.proofs.Occurrences.{counted_one}
use Rattle.ats_impact.proofs.scores.count_term.Goals as goal

pub returns-in-Some : goal.returns-in-Some
returns-in-Some c k within =
    counted_one c.args.query.now c.args.counts.now c.args.term.now c.in-Some.k k c.requires.query.rises c.requires.same
    c.in-Some.ensures.found.0 c.in-Some.ensures.found.1 within
