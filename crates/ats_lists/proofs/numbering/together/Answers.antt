use Rattle.std.proofs.Common.{◌≡◌, ◌<◌, ◌∷◌, ◌∙◌, ℕ, List, [], length, arith, rules, sym}
use Rattle.std.specs.List.{All}
use Rattle.std.specs.Ordering.{is_lt}
use Rattle.std.specs.Vec.Iter.{into_iter_items}
use Rattle.std.proofs.lemmas.Cmp.{nat_list_cmp_total}
use Rattle.std.proofs.lemmas.List.{length-set, nil_from_length}
use Rattle.std.proofs.lemmas.List.Elements.{All-tail}
use Rattle.std.proofs.lemmas.List.Sorted.{ranks_by, sorted_far}
use Rattle.ats_terms.specs.Query.{byte_cmp}
use Rattle.ats_lists.proofs.NumberLemmas.{Ascend, NoneBelow, ascend_less, below_more, nothing_rises, none_placed, one_placed, all_placed}
use Rattle.ats_lists.proofs.numbering.together.Goals as goal

pub loop-term-init : goal.loop-term-init
loop-term-init c =
    let all : List (List ℕ × ℕ) = c.args.sorted.items in
    let start : into_iter_items c.into_iter-term-iterator.result ≡ all = c.into_iter-term-iterator.ensures.into_iter_gives.0 in
    let size : length c.resize.new.self.items ≡ length all = search rules in
    rw (start, c.in_ok-terms.ensures.items) (record {
      rises = nothing_rises;
      up = λ i j d low inside. sorted_far (λ x y. is_lt (byte_cmp x.0 y.0)) (ranks_by nat_list_cmp_total (λ (pair : List ℕ × ℕ). pair.0)) all c.requires.order i j d low inside;
      below = λ k d inside. absurd (omega arith);
      inside = rw size c.requires.inside;
      placed = λ old are. none_placed old all c.resize.new.self.items size are;
    })

pub place_of-requires-clause-above : goal.place_of-requires-clause-above
place_of-requires-clause-above c k d inside =
    let rest : List (List ℕ × ℕ) = into_iter_items c.next.new.self in
    let step : into_iter_items c.loop-term.term-iterator ≡ (c.in-Some.term, c.in-Some.number) ∷ rest = c.in-Some.ensures.steps.0 in
    let below : All (NoneBelow ((c.in-Some.term, c.in-Some.number) ∷ rest)) c.loop-term.terms.items = rw step at c.loop-term.invariant.below in
    below k d inside 0 ([], 0) (omega arith)

pub index_mut-requires : goal.index_mut-requires
index_mut-requires c =
    let rest : List (List ℕ × ℕ) = into_iter_items c.next.new.self in
    let step : into_iter_items c.loop-term.term-iterator ≡ (c.in-Some.term, c.in-Some.number) ∷ rest = c.in-Some.ensures.steps.0 in
    let inside : All (λ (pair : List ℕ × ℕ). pair.1 < length c.loop-term.places.items) ((c.in-Some.term, c.in-Some.number) ∷ rest) = rw step at c.loop-term.invariant.inside in
    omega (arith, inside 0 ([], 0) (omega arith), c.loop-term.places.ok.0)

pub loop-term-preserved : goal.loop-term-preserved
loop-term-preserved c =
    let rest : List (List ℕ × ℕ) = into_iter_items c.next.new.self in
    let pair : List ℕ × ℕ = (c.in-Some.term, c.in-Some.number) in
    let terms : List (List ℕ) = c.loop-term.terms.items in
    let more : List (List ℕ) = c.place_of.new.terms.items in
    let places : List ℕ = c.loop-term.places.items in
    let n : ℕ = c.in_ok-places.field-0 in
    let step : into_iter_items c.loop-term.term-iterator ≡ pair ∷ rest = c.in-Some.ensures.steps.0 in
    let up : Ascend (pair ∷ rest) = rw step at c.loop-term.invariant.up in
    let inside : All (λ (other : List ℕ × ℕ). other.1 < length places) (pair ∷ rest) = rw step at c.loop-term.invariant.inside in
    let place = c.in_ok-places.ensures.place in
    record {
      rises = c.in_ok-places.ensures.rises;
      up = ascend_less pair rest up;
      below = below_more terms more pair rest n c.in_ok-places.ensures.more up (rw step at c.loop-term.invariant.below);
      inside = rw (length-set places pair.1 n) (All-tail (λ (other : List ℕ × ℕ). other.1 < length places) pair rest inside);
      placed = λ old are.
          one_placed old pair rest terms more places n (rw step at (c.loop-term.invariant.placed old are)) (inside 0 ([], 0) (omega arith))
          c.in_ok-places.ensures.more place.0 place.1;
    }

pub returns-clause-places : goal.returns-clause-places
returns-clause-places c old are =
    let none : into_iter_items c.loop-term.term-iterator ≡ [] =
    nil_from_length (into_iter_items c.loop-term.term-iterator) (sym c.loop-term.term-iterator.rest.ok.0 ∙ c.in-None.ensures.steps.0) in
    all_placed old c.loop-term.terms.items c.loop-term.places.items c.loop-term.invariant.rises (rw none at (c.loop-term.invariant.placed old are))
