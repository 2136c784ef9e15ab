use Rattle.std.proofs.Common.{◌≡◌, ◌<◌, ◌^◌, ℕ, List, false, sym, ◌∙◌, arith}
use Rattle.std.specs.Option.{is_some}
use Rattle.std.specs.Map.{values_of}
use Rattle.ats_bound.specs.Inner.Scored.{score_in}
use Rattle.ats_bound.proofs.Exactly.{inserted_keeps, inserted_values}
use Rattle.ats_bound.proofs.scored.meet.Goals as goal

pub returns-clause-best : goal.returns-clause-best
returns-clause-best c =
    let scores : List (ℕ × ℕ) = c.args.scores.now.entries in
    let after : List (ℕ × ℕ) = c.insert.new.self.entries in
    let new : is_some (score_in scores c.args.doc) ≡ false = sym c.contains_key.ensures ∙ c.if-contains_key.false in
    c.add.ensures.best (values_of scores) (values_of after) c.requires.best
    (inserted_values scores after c.args.doc c.args.score new c.in_ok-insert.ensures.entries)

pub returns-clause-small : goal.returns-clause-small
returns-clause-small c =
    let scores : List (ℕ × ℕ) = c.args.scores.now.entries in
    let new : is_some (score_in scores c.args.doc) ≡ false = sym c.contains_key.ensures ∙ c.if-contains_key.false in
    inserted_keeps (λ (pair : ℕ × ℕ). pair.1 < 2 ^ 64) scores c.insert.new.self.entries c.args.doc c.args.score new c.in_ok-insert.ensures.entries c.requires.small (omega arith)

pub returns-clause-scores : goal.returns-clause-scores
returns-clause-scores c = λ given all one.
    let scores : List (ℕ × ℕ) = c.args.scores.now.entries in
    let new : is_some (score_in scores c.args.doc) ≡ false = sym c.contains_key.ensures ∙ c.if-contains_key.false in
    inserted_keeps (λ (pair : ℕ × ℕ). given pair.0 ≡ pair.1) scores c.insert.new.self.entries c.args.doc c.args.score new c.in_ok-insert.ensures.entries all (one new)
