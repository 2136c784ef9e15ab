use Rattle.std.proofs.Common.{◌≡◌, ◌+◌, ◌++◌, ◌∷◌, [], ℕ, List, length, sym, ap, subst, ◌∙◌, arith}
use Rattle.std.proofs.lemmas.List.{length-append}
use Rattle.ats_terms.specs.Query.{IsQueryOf}
use Rattle.ats_impact.specs.Trial.{trial_query}
use Rattle.ats_auditors.specs.Inner.Trial.{AreTrialQueries}
use Rattle.ats_console.proofs.Public.{passed}
use Rattle.ats_auditors.proofs.Tried.{are_queries, queries_more, query_stops}
use Rattle.ats_auditors.proofs.trials.queries.Goals as goal

pub returns-in_err-query-clause-stop : goal.returns-in_err-query-clause-stop
returns-in_err-query-clause-stop c H =
    let number = c.args.number in
    let i : ℕ = c.loop-i.i in
    let fault = c.in_err-query.field-0.0 in
    let stops = query_stops H number i fault (omega arith) (are_queries number c.loop-i.queries.items i c.loop-i.invariant.0 c.loop-i.invariant.1) c.in_err-query.ensures.fault in
    passed _ c.from_residual.result c.from_residual.ensures.1 stops

pub loop-i-preserved : goal.loop-i-preserved
loop-i-preserved c =
    let number = c.args.number in
    let items : List (List (List ℕ × ℕ)) = c.loop-i.queries.items in
    let query : List (List ℕ × ℕ) = c.in_ok-query.query in
    let more : c.push.new.self.items ≡ items ++ query ∷ [] = grind (arith, c.push.ensures.items, c.is_err.ensures.value, c.if-is_err.false) in
    let own : IsQueryOf (trial_query number (length items)) query = subst (λ (k : ℕ). IsQueryOf (trial_query number k) query) (sym c.loop-i.invariant.0) c.in_ok-query.ensures.ok in (
      ap (λ (qs : List (List (List ℕ × ℕ))). length qs) more ∙ length-append items (query ∷ []) ∙ ap (λ (n : ℕ). n + 1) c.loop-i.invariant.0,
      subst (AreTrialQueries number) (sym more) (queries_more number items query c.loop-i.invariant.1 own),
    )
