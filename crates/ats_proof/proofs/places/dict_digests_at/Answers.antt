use Rattle.std.proofs.Common.{◌∙◌, ℕ, ◌+◌, ap, arith}
use Rattle.std.proofs.lemmas.List.{length-drop}
use Rattle.ats_proof.specs.Parts.{counted_size}
use Rattle.ats_proof.specs.Reading.{entry_size}
use Rattle.ats_proof.proofs.places.dict_digests_at.Goals as goal

pub counted_leaves_size-requires : goal.counted_leaves_size-requires
counted_leaves_size-requires c = rw c.split_at.ensures.back (omega (arith, c.requires.docs, length-drop 113 c.args.bytes.now))

pub overflow_add-result : goal.overflow_add-result
overflow_add-result c =
    let size = c.counted_leaves_size.ensures ∙ ap (counted_size 2 entry_size) c.split_at.ensures.back in
    omega (arith, size, c.requires.docs, c.requires.few)

pub returns : goal.returns
returns c = ap (λ (n : ℕ). 113 + n) (c.counted_leaves_size.ensures ∙ ap (counted_size 2 entry_size) c.split_at.ensures.back)
