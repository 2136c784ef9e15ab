use Rattle.std.proofs.Common.{◌≡◌, ◌∙◌, ℕ, List, [], map}
use Rattle.ats_lists.specs.Inner.Gathered.{renumbered}
use Rattle.ats_lists.specs.declared.gathering.Logged.{Logged}
use Rattle.ats_lists.proofs.LogLemmas.{no_log, log_joined, pairs_joined}
use Rattle.ats_lists.proofs.gathering.placed.Goals as goal

pub returns-clause-log : goal.returns-clause-log
returns-clause-log c =
    let old : List (List ℕ) = c.gathered.inside.numbering in
    let log : List Logged = c.gathered.inside.log.items in
    let places : List ℕ = c.in_ok-terms.field-0.places.items in
    let items : c.replace_numbers.new.log.items ≡ map (renumbered places) log = rw c.deref.ensures.value at c.replace_numbers.ensures in
    rw items (log_joined [] old c.in_ok-terms.field-0.terms.items places c.in_ok-terms.ensures.places [] log no_log c.gathered.invariant)

pub returns-clause-pairs : goal.returns-clause-pairs
returns-clause-pairs c =
    let old : List (List ℕ) = c.gathered.inside.numbering in
    let log : List Logged = c.gathered.inside.log.items in
    let places : List ℕ = c.in_ok-terms.field-0.places.items in
    let items : c.replace_numbers.new.log.items ≡ map (renumbered places) log = rw c.deref.ensures.value at c.replace_numbers.ensures in
    rw items (pairs_joined [] old c.in_ok-terms.field-0.terms.items places c.in_ok-terms.ensures.places [] log no_log c.gathered.invariant
    ∙ c.gathered.view_is)
