use Rattle.std.proofs.Common.{◌≡◌, ℕ, List, sym, ◌∙◌}
use Rattle.ats_bound.specs.Inner.Scored.{score_in}
use Rattle.ats_bound.proofs.Exactly.{score_matches}
use Rattle.ats_bound.proofs.scored.Scored.score_of.Goals as goal

pub returns : goal.returns
returns c =
    let scores : List (ℕ × ℕ) = c.self.inside.scores.entries in
    let found : score_in scores c.args.doc ≡ c.copied.result = sym (c.copied.ensures ∙ c.get.ensures.value) in
    rw (← c.self.view_is) (rw found at (score_matches scores c.args.doc))
