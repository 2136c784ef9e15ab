use Rattle.std.proofs.Common.{◌≡◌, ◌⊎◌, ◌≤◌, ℕ, true, leb, List, length, inl, inr, sym, subst, ◌∙◌, arith}
use Rattle.std.proofs.lemmas.Bool.{false≢true}
use Rattle.std.proofs.lemmas.Bool.Decides.{nat_tests}
use Rattle.ats_bound.specs.declared.work.Mark.{Mark}
use Rattle.ats_proof.specs.Value.{Proof}
use Rattle.ats_client.specs.Inner.Bounds.{lower_before, AreOthersWithin}
use Rattle.ats_client.proofs.Bounding.{below, settles, says_whole, says_falling, says_unmet, says_others}
use Rattle.ats_client.proofs.settled.settled.Goals as goal

at_most_if : (a b : ℕ) → leb a b ≡ true → a ≤ b
at_most_if a b seen = grind (arith, nat_tests)

-- the rule on the number of rows, for equal numbers
whole_as : (n r m n' r' m' threshold : ℕ) → n' ≡ n → r' ≡ r → m' ≡ m → ((n ≡ r) ⊎ ((m ≤ n) × (threshold ≡ 0))) → (n' ≡ r') ⊎ ((m' ≤ n') × (threshold ≡ 0))
whole_as n r m n' r' m' threshold same_n same_r same_m whole = elim whole [
  | inl full ↦ inl (omega (arith, same_n, same_r, full))
  | inr all ↦ inr (omega (arith, same_n, same_m, all.0), all.1)
]

pub last_lower-requires-clause-below : goal.last_lower-requires-clause-below
last_lower-requires-clause-below c =
    below c.requires.marks.0 c.requires.marks.1 c.args.proof.now.met c.args.work.now.marks c.args.threshold c.requires.marks.2 c.requires.marks.3 c.requires.small

pub others_are_within-requires-clause-below : goal.others_are_within-requires-clause-below
others_are_within-requires-clause-below c =
    below c.requires.marks.0 c.requires.marks.1 c.args.proof.now.met c.args.work.now.marks c.args.threshold c.requires.marks.2 c.requires.marks.3 c.requires.small

pub returns-then-not-is_whole-clause-settled : goal.returns-then-not-is_whole-clause-settled
returns-then-not-is_whole-clause-settled c bounds lanes are rests =
    let proof : Proof = c.args.proof.now in (
      λ seen. absurd (false≢true seen),
      λ settled. absurd (false≢true (sym c.if-not-is_whole.true ∙ c.is_whole.ensures.1 (
        omega (arith, settled.most, c.answers.ensures, c.get.ensures.value),
        whole_as (length proof.answer) c.args.top (length proof.met) c.answers.result c.get.result c.met-met.result c.args.threshold c.answers.ensures c.get.ensures.value c.met-met.ensures
            (says_whole bounds lanes proof.met c.args.work.now.marks c.args.threshold are rests proof.answer c.requires.rows c.requires.noted c.requires.small c.args.top settled),
      ))),
    )

pub returns-in-None-clause-settled : goal.returns-in-None-clause-settled
returns-in-None-clause-settled c bounds lanes are rests =
    let proof : Proof = c.args.proof.now in (
      λ seen. absurd (false≢true seen),
      λ settled. absurd (c.in-None.ensures.falling (says_falling bounds lanes proof.met c.args.work.now.marks c.args.threshold are rests proof.answer c.requires.rows c.requires.noted c.requires.small c.args.top settled)),
    )

pub returns-then-threshold-score-clause-settled : goal.returns-then-threshold-score-clause-settled
returns-then-threshold-score-clause-settled c bounds lanes are rests =
    let proof : Proof = c.args.proof.now in
    let marks : List Mark = c.args.work.now.marks in
    let score : c.in-Some.score ≡ lower_before marks proof.answer (length proof.answer) = c.in-Some.ensures.falling.1 in
    let whole = c.is_whole.ensures.0 c.if-not-is_whole.false in (
      λ seen. settles bounds lanes proof.met marks c.args.threshold are rests proof.answer c.requires.rows c.requires.noted c.requires.small c.args.top
          (omega (arith, whole.0, c.answers.ensures, c.get.ensures.value))
          (whole_as c.answers.result c.get.result c.met-met.result (length proof.answer) c.args.top (length proof.met) c.args.threshold (sym c.answers.ensures) (sym c.get.ensures.value) (sym c.met-met.ensures) whole.1)
          c.in-Some.ensures.falling.0
          (omega (arith, c.if-threshold-score.true, score))
          (subst (λ (s : ℕ). AreOthersWithin c.args.threshold marks s) score (c.others_are_within.ensures.within.0 seen)),
      λ settled. c.others_are_within.ensures.within.1
          (subst (λ (s : ℕ). AreOthersWithin c.args.threshold marks s) (sym score) (says_others bounds lanes proof.met marks c.args.threshold are rests proof.answer c.requires.rows c.requires.noted c.requires.small c.args.top settled)),
    )

pub returns-else-threshold-score-clause-settled : goal.returns-else-threshold-score-clause-settled
returns-else-threshold-score-clause-settled c bounds lanes are rests =
    let proof : Proof = c.args.proof.now in
    let marks : List Mark = c.args.work.now.marks in
    let score : c.in-Some.score ≡ lower_before marks proof.answer (length proof.answer) = c.in-Some.ensures.falling.1 in (
      λ seen.
          let less : c.args.threshold ≤ c.in-Some.score = at_most_if c.args.threshold c.in-Some.score seen in
          absurd (omega (arith, c.if-threshold-score.false, less)),
      λ settled.
          let le : c.args.threshold ≤ lower_before marks proof.answer (length proof.answer) =
          says_unmet bounds lanes proof.met marks c.args.threshold are rests proof.answer c.requires.rows c.requires.noted c.requires.small c.args.top settled in
          absurd (omega (arith, c.if-threshold-score.false, le, score)),
    )
