use Rattle.std.proofs.Common.{◌≡◌, ◌⊎◌, List, ℕ, subst, ◌∙◌, IfErr, IfOk}
use Rattle.ats_terms.specs.Terms.{terms}
use Rattle.ats_terms.specs.Counted.{Counts}
use Rattle.ats_terms.specs.Faults.{IsFirstFault}
use Rattle.ats_terms.specs.Query.{HasQuery, IsQueryOf}
use Rattle.ats_terms.specs.declared.query.QueryFault.{QueryFault}
use Rattle.ats_terms.specs.declared.query.QueryFault.TheVariants.{OutOfMemory}
use Rattle.ats_impact.proofs.Drawing.{drawn_query}
use Rattle.ats_impact.proofs.trial.trial_query.Goals as goal

pub returns-in-Ok-clause-ok : goal.returns-in-Ok-clause-ok
returns-in-Ok-clause-ok c =
    let text = drawn_query c.args.number c.args.i c.new-sequence.result c.pass.new.self c.as_str.result.now c.new-sequence.ensures c.pass.ensures (c.as_str.ensures.value ∙ c.in-Ok.ensures.value) in
    subst (λ (t : List ℕ). IfOk c.read.result (IsQueryOf t)) text c.read.ensures.ok

pub returns-in-Ok-clause-counts : goal.returns-in-Ok-clause-counts
returns-in-Ok-clause-counts c =
    let text = drawn_query c.args.number c.args.i c.new-sequence.result c.pass.new.self c.as_str.result.now c.new-sequence.ensures c.pass.ensures (c.as_str.ensures.value ∙ c.in-Ok.ensures.value) in
    subst (λ (t : List ℕ). IfOk c.read.result (Counts (terms t))) text c.read.ensures.counts

pub returns-in-Ok-clause-fault : goal.returns-in-Ok-clause-fault
returns-in-Ok-clause-fault c =
    let text = drawn_query c.args.number c.args.i c.new-sequence.result c.pass.new.self c.as_str.result.now c.new-sequence.ensures c.pass.ensures (c.as_str.ensures.value ∙ c.in-Ok.ensures.value) in
    subst (λ (t : List ℕ). IfErr c.read.result (IsFirstFault t)) text c.read.ensures.fault

pub returns-in-Ok-clause-out : goal.returns-in-Ok-clause-out
returns-in-Ok-clause-out c =
    let text = drawn_query c.args.number c.args.i c.new-sequence.result c.pass.new.self c.as_str.result.now c.new-sequence.ensures c.pass.ensures (c.as_str.ensures.value ∙ c.in-Ok.ensures.value) in
    subst (λ (t : List ℕ). IfErr c.read.result (λ (fault : QueryFault). (fault ≡ OutOfMemory) ⊎ (¬ HasQuery t))) text c.read.ensures.out
