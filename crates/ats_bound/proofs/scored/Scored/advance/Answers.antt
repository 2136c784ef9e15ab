use Rattle.std.proofs.Common.{◌≡◌, ◌<◌, ℕ, List, length, false, sym, ap, subst, ◌∙◌}
use Rattle.std.specs.Option.{is_some}
use Rattle.std.specs.List.{All}
use Rattle.ats_bound.specs.declared.bracket.Bracket.{Bracket}
use Rattle.ats_bound.specs.Cursors.{Stage, entry_on, shown_on}
use Rattle.ats_bound.specs.Schedule.{IsOpen, has_bracket}
use Rattle.ats_bound.specs.Scored.{ScoredStanding, exactly}
use Rattle.ats_bound.specs.Inner.Scored.{exact_brackets, score_in}
use Rattle.ats_bound.proofs.Exactly.{given_scores, has_exact, scored_after, scored_brackets}
use Rattle.ats_bound.proofs.scored.Scored.advance.Goals as goal

pub invariant_of-self-2 : goal.invariant_of-self-2
invariant_of-self-2 c =
    let before : Stage = c.self.inside.cursors in
    let same : before ≡ c.args.self.now.stage = ap (λ (s : ScoredStanding). s.stage) c.self.view_is in
    let inside : c.args.lane < length before.lanes = subst (λ (s : Stage). c.args.lane < length s.lanes) (sym same) c.requires.inside in
    let more : IsOpen before.lanes before.cut c.args.lane = subst (λ (s : Stage). IsOpen s.lanes s.cut c.args.lane) (sym same) c.requires.more in
    scored_after before c.advance.new.self c.self.inside.rows c.self.inside.scores.entries c.meet.new.scores.entries c.self.inside.best c.meet.new.best c.args.lane c.gain-doc.result.doc
    c.self.invariant inside more c.gain-doc.ensures.doc c.advance.ensures.lanes c.advance.ensures.cut c.meet.ensures.rise c.meet.ensures.small c.meet.ensures.best c.meet.ensures.size c.in_ok-meet.ensures.met

pub returns-clause-brackets : goal.returns-clause-brackets
returns-clause-brackets c = λ given were one.
    let before : Stage = c.self.inside.cursors in
    let scores : List (ℕ × ℕ) = c.self.inside.scores.entries in
    let same : before ≡ c.args.self.now.stage = ap (λ (s : ScoredStanding). s.stage) c.self.view_is in
    let brackets : exact_brackets scores ≡ c.args.self.now.brackets = ap (λ (s : ScoredStanding). s.brackets) c.self.view_is in
    let doc : c.gain-doc.result.doc ≡ (entry_on c.args.self.now.stage c.args.lane).doc = c.gain-doc.ensures.doc ∙ ap (λ (s : Stage). (entry_on s c.args.lane).doc) same in
    let all : All (λ (b : Bracket). b ≡ exactly given (shown_on c.args.self.now.stage) b.doc) (exact_brackets scores) =
    subst (λ (bs : List Bracket). All (λ (b : Bracket). b ≡ exactly given (shown_on c.args.self.now.stage) b.doc) bs) (sym brackets) were.each in
    let new : is_some (score_in scores c.gain-doc.result.doc) ≡ false → given c.gain-doc.result.doc ≡ c.args.score = λ unmet.
    let gone : has_bracket (entry_on c.args.self.now.stage c.args.lane).doc c.args.self.now.brackets ≡ false =
    subst (λ (bs : List Bracket). has_bracket (entry_on c.args.self.now.stage c.args.lane).doc bs ≡ false) brackets
    (subst (λ (d : ℕ). has_bracket d (exact_brackets scores) ≡ false) doc (has_exact c.gain-doc.result.doc scores ∙ unmet)) in
    ap given doc ∙ one gone in
    scored_brackets given c.advance.new.self c.self.inside.rows c.meet.new.scores.entries c.meet.new.best (invariant_of-self-2 c)
    (c.in_ok-meet.ensures.scores given (given_scores given (shown_on c.args.self.now.stage) scores all) new)
