use Rattle.std.proofs.Common.{◌≡◌, ◌+◌, ◌++◌, codes, string_bytes, sym, ap, ◌∙◌}
use Rattle.ats_impact.specs.Trial.{joined_words}
use Rattle.ats_impact.proofs.Drawing.{number_at-zero, moved_more, word_next, joined_none, joined_first, joined_later}
use Rattle.ats_impact.proofs.trial.Sequence.words.Goals as goal
use Rattle.ats_impact.proofs.trial.Sequence.words.Goals.{then-i-eq0+in_ok-word, else-i-eq0+in_ok-word-2}

pub loop-i-init : goal.loop-i-init
loop-i-init c = (c.new-text.ensures.bytes ∙ sym (joined_none c.args.self.now 0), sym (number_at-zero c.args.self.now))

pub loop-i-preserved : goal.loop-i-preserved
loop-i-preserved c =
    let x = c.args.self.now in
    let i = c.loop-i.i in
    let own = word_next x i c.loop-i.self c.word-number.result c.loop-i.invariant.1 c.word-number.ensures.value in
    let more : string_bytes c.loop-i.text ++ string_bytes c.if-i-eq0.word ≡ joined_words x 0 (i + 1) =
    elim c.if-i-eq0.branch [
      | then-i-eq0+in_ok-word w ↦ joined_first x i (string_bytes c.loop-i.text) (string_bytes c.if-i-eq0.word) w.if-i-eq0.true c.loop-i.invariant.0 (ap string_bytes w.word-is ∙ w.in_ok-word.ensures.ok ∙ own)
      | else-i-eq0+in_ok-word-2 w ↦ joined_later x i (string_bytes c.loop-i.text) (string_bytes c.if-i-eq0.word) w.if-i-eq0.false c.loop-i.invariant.0 (ap string_bytes w.word-is ∙ w.in_ok-word-2.ensures.ok ∙ ap (λ ws. codes " " ++ ws) own)
    ] in
    (c.in_ok-push_str.ensures.bytes ∙ ap (λ ws. string_bytes c.loop-i.text ++ ws) c.as_str.ensures.value ∙ more, moved_more x i c.loop-i.self c.word-number.new.self c.loop-i.invariant.1 c.word-number.ensures.moved)
