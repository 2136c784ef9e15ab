use Rattle.std.proofs.Common.{◌≡◌, ◌∷◌, ◌++◌, ◌∙◌, ℕ, List, [], length, take_all, drop, sym, ap, ap₂, arith}
use Rattle.std.specs.Vec.Iter.{into_iter_items}
use Rattle.std.proofs.lemmas.List.{length-drop, length-map}
use Rattle.ats_terms.specs.Query.{counted}
use Rattle.ats_terms.specs.Terms.{terms}
use Rattle.ats_doctree.specs.Impacts.{text_terms}
use Rattle.ats_index.specs.Inner.Parts.{all_counts, all_terms}
use Rattle.ats_index.proofs.Whole.{next_inside, next_counts, next_left, next_terms}
use Rattle.ats_index.proofs.parallel.terms_of_documents.Goals as goal

pub from_counts-requires-clause-counts : goal.from_counts-requires-clause-counts
from_counts-requires-clause-counts c =
    next_counts c.args.collection.now c.loop-counts.doc c.in-Some.counts (into_iter_items c.next.new.self)
    (sym c.in-Some.ensures.steps.0 ∙ c.loop-counts.invariant.left)

pub loop-counts-preserved : goal.loop-counts-preserved
loop-counts-preserved c =
    let texts : List (List ℕ) = c.args.collection.now in
    let rest : List (List (List ℕ × ℕ)) = into_iter_items c.next.new.self in
    let left : c.in-Some.counts ∷ rest ≡ drop c.loop-counts.doc (all_counts texts) = sym c.in-Some.ensures.steps.0 ∙ c.loop-counts.invariant.left in
    record {
      made =
          c.in_ok-push.ensures.items
          ∙ ap₂ (λ (front : List (List (List ℕ × ℕ))) (own : List (List ℕ × ℕ)). front ++ own ∷ []) c.loop-counts.invariant.made c.from_counts.ensures
          ∙ next_terms texts c.loop-counts.doc c.in-Some.counts rest left;
      left = next_left texts c.loop-counts.doc c.in-Some.counts rest left;
      within = omega (arith, next_inside texts c.loop-counts.doc c.in-Some.counts rest left);
    }

pub returns : goal.returns
returns c =
    let texts : List (List ℕ) = c.args.collection.now in
    let none : length (drop c.loop-counts.doc (all_counts texts)) ≡ 0 =
    ap length (sym c.loop-counts.invariant.left) ∙ sym c.loop-counts.counts-iterator.rest.ok.0 ∙ c.in-None.ensures.steps.0 in
    c.loop-counts.invariant.made
    ∙ take_all c.loop-counts.doc (all_terms texts) (omega (
      arith,
      none,
      length-drop c.loop-counts.doc (all_counts texts),
      length-map texts (λ text. counted (terms text)),
      length-map texts (text_terms texts),
    ))
