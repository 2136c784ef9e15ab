use Rattle.std.proofs.Common.{rules}
use Rattle.ats_lists.proofs.NumberLemmas.{rises_push}
use Rattle.ats_lists.proofs.numbering.place_of.Goals as goal

pub returns-clause-rises : goal.returns-clause-rises
returns-clause-rises c = rw c.in_ok-push.ensures.items
    (rises_push c.args.terms.now.items c.args.term c.requires.rises c.requires.above
    (λ some same. search rules))
