use Rattle.std.proofs.Common.{◌≤◌, ◌++◌, length-append, inr, subst, arith}
use Rattle.ats_grammar.specs.declared.feeder.Place.{Place}
use Rattle.ats_grammar.specs.FeederPosition.{came_in}
use Rattle.ats_grammar.proofs.Pieces.{stand_of, still_refused, at_more, only_cut, wrong_is_first}
use Rattle.ats_grammar.proofs.feeder.Feeder.feed.Goals as goal

pub returns-in-Refused-clause-stands : goal.returns-in-Refused-clause-stands
returns-in-Refused-clause-stands c bytes stands =
    let feeder = c.args.self.now in
    let piece = c.args.piece.now in (
      omega (arith, stands.0, length-append bytes piece),
      still_refused feeder.place c.in-Refused.fault bytes piece c.in-Refused.is stands.1 (omega (arith, stands.0, c.requires, feeder.within.1)),
    )

pub returns-in-Refused-clause-refused : goal.returns-in-Refused-clause-refused
returns-in-Refused-clause-refused c bytes stands =
    let feeder = c.args.self.now in
    let there = still_refused feeder.place c.in-Refused.fault bytes c.args.piece.now c.in-Refused.is stands.1 (omega (arith, stands.0, c.requires, feeder.within.1)) in
    (inr there.0, there.1)

pub returns-in-Ok-clause-fine : goal.returns-in-Ok-clause-fine
returns-in-Ok-clause-fine c bytes fault stands bad =
    let feeder = c.args.self.now in
    let piece = c.args.piece.now in
    let before = stand_of feeder.place c.in-Reading.stand bytes c.in-Reading.is stands.1 in
    let at = c.in-Ok.ensures.on (bytes ++ piece) (at_more bytes piece c.in-Reading.stand before.0) in
    only_cut (bytes ++ piece) c.read_on.new.self fault (omega (arith, stands.0, c.requires, feeder.within.1, length-append bytes piece)) at c.in-Ok.ensures.wait bad

pub returns-in-Err-clause-stands : goal.returns-in-Err-clause-stands
returns-in-Err-clause-stands c bytes stands =
    let feeder = c.args.self.now in
    let piece = c.args.piece.now in
    let before = stand_of feeder.place c.in-Reading.stand bytes c.in-Reading.is stands.1 in
    let wrong = c.in-Err.ensures.wrong (bytes ++ piece) (at_more bytes piece c.in-Reading.stand before.0) in
    let long = length-append bytes piece in
    let inside : c.in-Reading.stand.came ≤ feeder.fed = subst (λ (p : Place). came_in p ≤ feeder.fed) c.in-Reading.is feeder.inside in (
      omega (arith, stands.0, long),
      (
        wrong_is_first (bytes ++ piece) _ c.in-Err.wrong.left (omega (arith, stands.0, c.requires, feeder.within.1, long)) wrong
            (omega (arith, stands.0, long, c.in-Err.ensures.few, inside)),
        wrong.here,
      ),
    )

pub returns-in-Err-clause-refused : goal.returns-in-Err-clause-refused
returns-in-Err-clause-refused c bytes stands =
    let there = returns-in-Err-clause-stands c bytes stands in
    (inr there.1.0, there.1.1)
