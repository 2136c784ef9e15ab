use Rattle.std.proofs.Common.{◌≡◌, ◌∙◌, ℕ, ◌==◌, ◌+◌, drop, ap, ap₂, arith}
use Rattle.std.proofs.lemmas.List.{length-drop}
use Rattle.ats_proof.specs.Parts.{number_in, total_size}
use Rattle.ats_proof.specs.Reading.{prefix_size, lists_place}
use Rattle.ats_proof.proofs.view.ProofView.of.Goals as goal

pub split_at-requires : goal.split_at-requires
split_at-requires c = omega (arith, c.are_a_proof.ensures.space.docs)

pub number_1-tra-requires : goal.number_1-tra-requires
number_1-tra-requires c = rw c.split_at.ensures.back (omega (arith, c.are_a_proof.ensures.space.docs, length-drop 5 c.args.bytes.now))

pub split_at-requires-2 : goal.split_at-requires-2
split_at-requires-2 c = omega (arith, c.of-begun.ensures.lists, c.are_a_proof.ensures.space.docs)

pub lists_size-requires : goal.lists_size-requires
lists_size-requires c =
    let bytes = c.args.bytes.now in
    let begun = c.of-begun.ensures in
    let there : c.split_at-2.result.1.now ≡ drop (lists_place bytes) bytes = c.split_at-2.ensures.back ∙ ap (λ (n : ℕ). drop n bytes) begun.lists in
    rw (there, begun.present) (omega (arith, c.are_a_proof.ensures.space.docs, length-drop (lists_place bytes) bytes))

pub overflow_add-docs : goal.overflow_add-docs
overflow_add-docs c =
    let bytes = c.args.bytes.now in
    let begun = c.of-begun.ensures in
    let there = c.split_at-2.ensures.back ∙ ap (λ (n : ℕ). drop n bytes) begun.lists in
    let size = c.lists_size.ensures ∙ ap₂ (λ n xs. total_size prefix_size n xs) begun.present there in
    omega (arith, begun.lists, size, c.are_a_proof.ensures.space.docs, c.are_a_proof.ensures.space.few)

pub of-ended-requires-clause-docs : goal.of-ended-requires-clause-docs
of-ended-requires-clause-docs c =
    let begun = c.of-begun.ensures in
    let there = c.split_at-2.ensures.back ∙ ap (λ (n : ℕ). drop n c.args.bytes.now) begun.lists in
    ap₂ (λ (m n : ℕ). m + n) begun.lists (c.lists_size.ensures ∙ ap₂ (λ n xs. total_size prefix_size n xs) begun.present there)

pub invariant_of-result : goal.invariant_of-result
invariant_of-result c =
    let bytes = c.args.bytes.now in
    let begun = c.of-begun.ensures in
    let there = c.split_at-2.ensures.back ∙ ap (λ (n : ℕ). drop n bytes) begun.lists in
    record {
      space = c.are_a_proof.ensures.space;
      same = ap (λ (n : ℕ). n == 1) (c.number_1-tra.ensures ∙ ap (number_in 1) c.split_at.ensures.back);
      first = begun;
      rest = c.of-ended.ensures;
      docs_at = ap₂ (λ (m n : ℕ). m + n) begun.lists (c.lists_size.ensures ∙ ap₂ (λ n xs. total_size prefix_size n xs) begun.present there);
      spelled = c.are_a_proof.ensures.proof;
    }
