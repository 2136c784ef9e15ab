-- A trial is accepted or refused, in one way.
use Rattle.std.proofs.Common.{◌≡◌, ◌≢◌, ◌∙◌, ◌^◌, ℕ, List, refl, sym, ap, subst, inl, inr, arith}
use Rattle.std.proofs.lemmas.Bool.{cases_order}
use Rattle.ats_terms.specs.Query.{IsQueryOf}
use Rattle.ats_terms.specs.Faults.{IsFirstFault}
use Rattle.ats_impact.specs.Trial.{trial_query}
use Rattle.ats_proof.specs.Value.{Proof}
use Rattle.ats_proof.specs.declared.record.Algorithm.{Algorithm}
use Rattle.ats_proof.specs.declared.record.Algorithm.TheVariants.{Tra, Tnra}
use Rattle.ats_honest.specs.Honest.{IsHonest, IsTooLong}
use Rattle.ats_auditors.specs.Trial.{trial_archive, turn, IsTrialProof, AreQueries, IsTrialQueryRefused, IsTrialTooLong, IsTrialRefused, IsTrialAccepted, RefusesTrial}
use Rattle.ats_console.specs.Stops.{line_of_long_proof, stop_of_query}
use Rattle.ats_console.specs.declared.stops.Stop.{Stop}
use Rattle.ats_console.specs.declared.stops.Stop.TheVariants.{Input, Memory}
use Rattle.ats_console.proofs.Public.{no_query_fault, one_query_fault, honest_short, one_length}

-- lines of one stop are one
same_line : (a b : List ℕ) (first second : Stop) → first ≡ Input a → second ≡ Input b → first ≡ second → a ≡ b
same_line a b first second is also same = let both : Input a ≡ Input b = sym is ∙ same ∙ also in cc

-- a stop with a line is not for out of memory
line_free : (line : List ℕ) (stop : Stop) → stop ≡ Input line → stop ≢ Memory
line_free line stop is memory = let both : Input line ≡ Memory = sym is ∙ memory in cc

-- a turn is that of one query and one algorithm
same_query : (i k : ℕ) (a b : Algorithm) → turn i a ≡ turn k b → i ≡ k
same_query i k Tra Tra same = omega (arith, same)
same_query i k Tra Tnra same = omega (arith, same)
same_query i k Tnra Tra same = omega (arith, same)
same_query i k Tnra Tnra same = omega (arith, same)

same_algorithm : (i k : ℕ) (a b : Algorithm) → turn i a ≡ turn k b → a ≡ b
same_algorithm i k Tra Tra same = refl
same_algorithm i k Tra Tnra same = absurd (omega (arith, same))
same_algorithm i k Tnra Tra same = absurd (omega (arith, same))
same_algorithm i k Tnra Tnra same = refl

module _ (number : ℕ) where
  -- texts that are queries are not refused
  queries_not_refused : AreQueries number 20 → (line : List ℕ) → IsTrialQueryRefused number line → ⊥
  queries_not_refused asks line refused =
      no_query_fault (trial_query number refused.i) refused.fault (asks refused.i refused.inside) (line_free line _ refused.same) refused.first

  one_of_queries : (a b : List ℕ) → IsTrialQueryRefused number a → IsTrialQueryRefused number b → a ≡ b
  one_of_queries a b is also =
      let free = line_free a (stop_of_query is.fault) is.same in
      let other = line_free b (stop_of_query also.fault) also.same in
      elim (cases_order is.i also.i) [
        | inl same ↦
            let first : IsFirstFault (trial_query number is.i) also.fault = subst (λ (i : ℕ). IsFirstFault (trial_query number i) also.fault) (sym same) also.first in
            same_line a b _ _ is.same also.same (ap stop_of_query (one_query_fault (trial_query number is.i) is.fault also.fault free other is.first first))
        | inr (inl less) ↦ absurd (no_query_fault (trial_query number is.i) is.fault (also.before is.i less) free is.first)
        | inr (inr less) ↦ absurd (no_query_fault (trial_query number also.i) also.fault (is.before also.i less) other also.first)
      ]

module _ (H : List ℕ → List ℕ) (number : ℕ) where
  -- a proof that was tried is not too long
  pub tried_short : (algorithm : Algorithm) (i : ℕ) (proof : Proof) → IsTrialProof H number algorithm i proof
      → (query : List (List ℕ × ℕ)) (bytes : ℕ) → IsQueryOf (trial_query number i) query → IsTooLong H (trial_archive number) query 10 algorithm (2 ^ 26) bytes → ⊥
  tried_short algorithm i proof is query bytes own long =
      let same : is.query ≡ query = is.asked.same ∙ sym own.same in
      let honest : IsHonest H (trial_archive number) query 10 algorithm proof =
      subst (λ (q : List (List ℕ × ℕ)). IsHonest H (trial_archive number) q 10 algorithm proof) same is.tried.honest in
      honest_short H (trial_archive number) query 10 algorithm proof (2 ^ 26) bytes honest is.tried.short long

  -- the honest proof of a query by an algorithm has one length
  one_of_turn : (i k : ℕ) (m n : Algorithm) (q s : List (List ℕ × ℕ)) (a b : ℕ) → i ≡ k → m ≡ n → IsQueryOf (trial_query number i) q → IsQueryOf (trial_query number k) s
      → IsTooLong H (trial_archive number) q 10 m (2 ^ 26) a → IsTooLong H (trial_archive number) s 10 n (2 ^ 26) b → a ≡ b
  one_of_turn i k m n q s a b here alike own theirs is also =
      let query : q ≡ s = (subst (λ (j : ℕ). IsQueryOf (trial_query number j) q) here own).same ∙ sym theirs.same in
      let long : IsTooLong H (trial_archive number) s 10 n (2 ^ 26) a = subst (λ (by : Algorithm). IsTooLong H (trial_archive number) s 10 by (2 ^ 26) a) alike
      (subst (λ (asked : List (List ℕ × ℕ)). IsTooLong H (trial_archive number) asked 10 m (2 ^ 26) a) query is) in
      one_length H (trial_archive number) s 10 n (2 ^ 26) a b long also

  one_too_long : (a b : ℕ) → IsTrialTooLong H number a → IsTrialTooLong H number b → a ≡ b
  one_too_long a b is also = elim (cases_order (turn is.i is.algorithm) (turn also.i also.algorithm)) [
    | inl same ↦
        one_of_turn is.i also.i is.algorithm also.algorithm is.query also.query a b (same_query is.i also.i is.algorithm also.algorithm same)
        (same_algorithm is.i also.i is.algorithm also.algorithm same) is.own also.own is.long also.long
    | inr (inl less) ↦
        let made = also.before is.i is.algorithm less in
        absurd (tried_short is.algorithm is.i made.0 made.1 is.query a is.own is.long)
    | inr (inr less) ↦
        let made = is.before also.i also.algorithm less in
        absurd (tried_short also.algorithm also.i made.0 made.1 also.query b also.own also.long)
  ]

  one_line : (a b : List ℕ) → IsTrialRefused H number a → IsTrialRefused H number b → a ≡ b
  one_line a b (inl is) (inl also) = one_of_queries number a b is also
  one_line a b (inl is) (inr (size, also, same)) = absurd (queries_not_refused number also.asked a is)
  one_line a b (inr (size, is, same)) (inl also) = absurd (queries_not_refused number is.asked b also)
  one_line a b (inr (size, is, same)) (inr (other, also, like)) = same ∙ ap line_of_long_proof (one_too_long size other is also) ∙ sym like

  -- a trial that is accepted is not refused
  pub trial_not_refused : (stop : Stop) → RefusesTrial H number stop → IsTrialAccepted H number → ⊥
  trial_not_refused stop (line, inl refused, same) (asks, fits) = queries_not_refused number asks line refused
  trial_not_refused stop (line, inr (size, long, printed), same) (asks, fits) = fits size long

  -- it is refused in one way
  pub one_trial : (a b : Stop) → RefusesTrial H number a → RefusesTrial H number b → a ≡ b
  one_trial a b (line, is, same) (other, also, like) = same ∙ ap Input (one_line line other is also) ∙ sym like
