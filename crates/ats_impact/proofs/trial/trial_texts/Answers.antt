use Rattle.std.proofs.Common.{[], ◌∷◌, ◌++◌, List, ℕ, sym, ap₂, ◌∙◌}
use Rattle.ats_impact.proofs.Drawing.{drawn_text, number_at-zero, texts_more, texts_none, trial_within}
use Rattle.ats_impact.proofs.trial.trial_texts.Goals as goal

pub loop-i-init : goal.loop-i-init
loop-i-init c = (c.new-texts.ensures ∙ sym (texts_none c.args.number), c.new-sequence.ensures ∙ sym (number_at-zero c.args.number))

pub loop-i-preserved : goal.loop-i-preserved
loop-i-preserved c =
    let number = c.args.number in
    let i = c.loop-i.i in
    let drawn = drawn_text number i c.loop-i.sequence c.words.new.self c.as_str.result.now c.loop-i.invariant.1 c.in_ok-text.ensures.moved (c.as_str.ensures.value ∙ c.in_ok-text.ensures.value) in
    (c.in_ok-push.ensures ∙ ap₂ (λ (texts : List (List ℕ)) (text : List ℕ). texts ++ text ∷ []) c.loop-i.invariant.0 drawn.0 ∙ sym (texts_more number i), drawn.1)

pub returns-in_err-text-clause-within : goal.returns-in_err-text-clause-within
returns-in_err-text-clause-within c = trial_within c.args.number

pub returns-in_err-push-clause-within : goal.returns-in_err-push-clause-within
returns-in_err-push-clause-within c = trial_within c.args.number

pub returns-clause-within : goal.returns-clause-within
returns-clause-within c = trial_within c.args.number
