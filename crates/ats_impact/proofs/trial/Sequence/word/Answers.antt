use Rattle.std.proofs.Common.{◌≡◌, ◌*◌, ◌/◌, ◌%◌, ℕ, sym, ap, ap₂, ◌∙◌}
use Rattle.ats_impact.specs.Trial.{next, number_at, drawn}
use Rattle.ats_impact.proofs.Drawing.{number_at-one, number_at-two}
use Rattle.ats_impact.proofs.trial.Sequence.word.Goals as goal

pub returns-clause-value : goal.returns-clause-value
returns-clause-value c =
    let x = c.args.self.now in
    let first : c.draw-a.new.self ≡ number_at x 1 = c.draw-a.ensures.moved ∙ sym (number_at-one x) in
    let second : c.draw-b.new.self ≡ number_at x 2 = c.draw-b.ensures.moved ∙ ap next c.draw-a.ensures.moved ∙ sym (number_at-two x) in
    ap₂ (λ (a b : ℕ). a % 1000 * (b % 1000) / 1000) (c.draw-a.ensures.value ∙ ap drawn first) (c.draw-b.ensures.value ∙ ap drawn second)

pub returns-clause-moved : goal.returns-clause-moved
returns-clause-moved c = c.draw-b.ensures.moved ∙ ap next c.draw-a.ensures.moved ∙ sym (number_at-two c.args.self.now)
