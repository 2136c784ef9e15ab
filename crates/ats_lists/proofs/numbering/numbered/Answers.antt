use Rattle.std.proofs.Common.{◌≡◌, ◌++◌, ℕ, List, [], map, append-nil, sym, ap, ◌∙◌}
use Rattle.std.specs.Vec.Iter.{into_iter_items}
use Rattle.std.proofs.lemmas.List.{nil_from_length}
use Rattle.ats_lists.proofs.NumberLemmas.{numbered_all}
use Rattle.ats_lists.proofs.numbering.numbered.Goals as goal

pub returns : goal.returns
returns c =
    let terms : List (List ℕ) = map (λ (pair : List ℕ × ℕ). pair.0) c.loop-term.all.items in
    let none : into_iter_items c.loop-term.term-iterator ≡ [] =
    nil_from_length (into_iter_items c.loop-term.term-iterator) (sym c.loop-term.term-iterator.rest.ok.0 ∙ c.in-None.ensures.steps.0) in
    numbered_all c.args.terms.items c.loop-term.all.items
    (sym (append-nil terms) ∙ ap (λ (rest : List (List ℕ)). terms ++ rest) (sym none) ∙ c.loop-term.invariant.terms) c.loop-term.invariant.places
