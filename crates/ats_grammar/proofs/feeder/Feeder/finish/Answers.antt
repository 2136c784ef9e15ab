use Rattle.std.proofs.Common.{◌∙◌, ◌≤◌, refl, subst, arith}
use Rattle.ats_grammar.specs.declared.feeder.Place.{Place}
use Rattle.ats_grammar.specs.FeederPosition.{came_in}
use Rattle.ats_grammar.proofs.Pieces.{stand_of, cut_off}
use Rattle.ats_grammar.proofs.feeder.Feeder.finish.Goals as goal

pub returns-in_default : goal.returns-in_default
returns-in_default c = record {
  spelled = tt;
  refused = λ bytes stands.
      let feeder = c.args.self.now in
      let stand = c.in-Reading.stand in
      let at = stand_of feeder.place stand bytes c.in-Reading.is stands.1 in
      let inside : stand.came ≤ feeder.fed = subst (λ (p : Place). came_in p ≤ feeder.fed) c.in-Reading.is feeder.inside in
      cut_off bytes stand _ (omega (arith, stands.0, feeder.within)) at.0 at.1 (λ e. c.in_default.not-End (c.next.ensures.next ∙ e)) refl
      (omega (arith, stands.0, c.from.ensures, inside));
}
