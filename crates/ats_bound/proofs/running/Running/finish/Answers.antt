use Rattle.std.proofs.Common.{ℕ, List, subst}
use Rattle.ats_bound.specs.declared.bracket.Bracket.{Bracket}
use Rattle.ats_bound.specs.declared.walk.Walk.{Walk}
use Rattle.ats_bound.specs.Chosen.{IsChosen}
use Rattle.ats_bound.specs.Cut.{bracket}
use Rattle.ats_bound.specs.Cursors.{Stage, shown_on}
use Rattle.ats_bound.specs.Running.{Standing}
use Rattle.ats_bound.specs.Stopped.{IsStoppedAt}
use Rattle.ats_bound.proofs.Chain.{chosen_are_picks, chosen_is_settled}
use Rattle.ats_bound.proofs.One.{risen_are_distinct}
use Rattle.ats_bound.proofs.RunningSettled.{proper_of}
use Rattle.ats_bound.proofs.running.Running.finish.Goals as goal

pub choose_rows-requires : goal.choose_rows-requires
choose_rows-requires c = rw c.as_slice.ensures (risen_are_distinct c.in_ok-brackets.brackets c.in_ok-brackets.ensures.rise)

pub returns : goal.returns
returns c =
    let stage : Stage = c.self.inside.cursors in
    let brackets : List Bracket = c.in_ok-brackets.brackets in
    let picks : List ℕ = c.in_ok-picks.picks in
    let walk : Walk = record { cut = c.cut.result; brackets = brackets; picks = picks; threshold = c.threshold-threshold.result } in
    let chosen : IsChosen brackets c.self.inside.rows picks = rw c.as_slice.ensures at c.in_ok-picks.ensures in
    let stopped : IsStoppedAt bracket stage.lanes c.self.inside.rows stage.cut walk = record {
      cut = c.cut.ensures;
      brackets = c.in_ok-brackets.ensures;
      threshold = c.threshold-threshold.ensures;
      chosen = chosen;
      inside = chosen_are_picks brackets c.self.inside.rows picks chosen;
      best = λ answer inside settled. chosen_is_settled brackets walk.threshold c.self.inside.rows answer picks (proper_of (shown_on stage) brackets c.in_ok-brackets.ensures) inside settled chosen;
    } in
    subst (λ (s : Standing). IsStoppedAt bracket s.lanes s.rows s.cut walk) c.self.view_is stopped
