use Rattle.std.proofs.Common.{◌∙◌, ℕ, ◌+◌, drop, ap, ap₂, arith}
use Rattle.std.proofs.lemmas.List.{length-drop}
use Rattle.ats_proof.specs.Parts.{counted_size}
use Rattle.ats_proof.specs.Reading.{digest_size, dict_digests_place}
use Rattle.ats_proof.proofs.places.slots_at.Goals as goal

pub split_at-requires : goal.split_at-requires
split_at-requires c = omega (arith, c.requires.at, c.requires.space.docs)

pub counted_digests_size_2-requires : goal.counted_digests_size_2-requires
counted_digests_size_2-requires c =
    let bytes = c.args.bytes.now in
    rw (c.split_at.ensures.back, c.requires.at) (omega (arith, c.requires.space.docs, length-drop (dict_digests_place bytes) bytes))

pub overflow_add-result : goal.overflow_add-result
overflow_add-result c =
    let bytes = c.args.bytes.now in
    let size = c.counted_digests_size_2.ensures ∙ ap (counted_size 2 digest_size) (c.split_at.ensures.back ∙ ap (λ (n : ℕ). drop n bytes) c.requires.at) in
    omega (arith, c.requires.at, size, c.requires.space.docs, c.requires.space.few)

pub returns : goal.returns
returns c =
    let bytes = c.args.bytes.now in
    let size = c.counted_digests_size_2.ensures ∙ ap (counted_size 2 digest_size) (c.split_at.ensures.back ∙ ap (λ (n : ℕ). drop n bytes) c.requires.at) in
    ap₂ (λ (m n : ℕ). m + n) c.requires.at size
