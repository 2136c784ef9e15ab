use Rattle.std.proofs.Common.{◌<◌, ℕ, length, sym, subst, ◌∙◌}
use Rattle.ats_bound.specs.Cursors.{Stage}
use Rattle.ats_bound.specs.Running.{Standing}
use Rattle.ats_bound.specs.Schedule.{IsOpen}
use Rattle.ats_bound.proofs.MetSteps.{next_known, next_space, next_stage}
use Rattle.ats_bound.proofs.running.Running.advance.Goals as goal

pub meet-requires : goal.meet-requires
meet-requires c =
    let stage : Stage = c.self.inside.cursors in
    let i : ℕ = c.args.lane in
    let inside : i < length stage.lanes = subst (λ (s : Standing). i < length s.lanes) (sym c.self.view_is) c.requires.inside in
    let more : IsOpen stage.lanes stage.cut i = subst (λ (s : Standing). IsOpen s.lanes s.cut i) (sym c.self.view_is) c.requires.more in
    next_space stage i c.self.invariant.stands inside more c.self.inside.known c.self.invariant.known c.gain-gain.result.doc c.gain-gain.result.gain c.digit.result
    c.gain-gain.ensures.doc c.gain-gain.ensures.gain c.gain-gain.ensures.few c.digit.ensures

pub look-requires : goal.look-requires
look-requires c =
    let stage : Stage = c.self.inside.cursors in
    let i : ℕ = c.args.lane in
    let inside : i < length stage.lanes = subst (λ (s : Standing). i < length s.lanes) (sym c.self.view_is) c.requires.inside in
    let more : IsOpen stage.lanes stage.cut i = subst (λ (s : Standing). IsOpen s.lanes s.cut i) (sym c.self.view_is) c.requires.more in
    next_known stage i c.self.invariant.stands inside more c.self.inside.known c.self.invariant.known c.gain-gain.result.doc c.gain-gain.result.gain c.digit.result
    c.gain-gain.ensures.doc c.gain-gain.ensures.gain c.gain-gain.ensures.few c.digit.ensures c.meet.new.known c.advance.new.self c.advance.ensures.lanes c.advance.ensures.cut c.in_ok-meet.ensures.met

pub invariant_of-self-2 : goal.invariant_of-self-2
invariant_of-self-2 c =
    let stage : Stage = c.self.inside.cursors in
    let i : ℕ = c.args.lane in
    let inside : i < length stage.lanes = subst (λ (s : Standing). i < length s.lanes) (sym c.self.view_is) c.requires.inside in
    let more : IsOpen stage.lanes stage.cut i = subst (λ (s : Standing). IsOpen s.lanes s.cut i) (sym c.self.view_is) c.requires.more in
    record {
      stands = next_stage stage i c.advance.new.self c.self.invariant.stands inside more c.advance.ensures.lanes c.advance.ensures.cut;
      known =
          next_known stage i c.self.invariant.stands inside more c.self.inside.known c.self.invariant.known c.gain-gain.result.doc c.gain-gain.result.gain c.digit.result
          c.gain-gain.ensures.doc c.gain-gain.ensures.gain c.gain-gain.ensures.few c.digit.ensures c.meet.new.known c.advance.new.self c.advance.ensures.lanes c.advance.ensures.cut c.in_ok-meet.ensures.met;
      size = λ some. c.meet.ensures.size ∙ c.self.invariant.size some;
      greatest = c.in_ok-meet.ensures.best c.self.invariant.greatest;
    }
