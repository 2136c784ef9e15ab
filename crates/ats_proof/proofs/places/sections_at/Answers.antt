use Rattle.std.proofs.Common.{◌∙◌, ℕ, ◌+◌, drop, ap, ap₂, arith}
use Rattle.std.proofs.lemmas.List.{length-drop}
use Rattle.ats_proof.specs.Parts.{counted_size}
use Rattle.ats_proof.specs.Reading.{digest_size, doc_digests_place}
use Rattle.ats_proof.proofs.places.sections_at.Goals as goal

pub split_at-requires : goal.split_at-requires
split_at-requires c = omega (arith, c.requires.at, c.requires.space)

pub counted_digests_size_4-requires : goal.counted_digests_size_4-requires
counted_digests_size_4-requires c =
    let bytes = c.args.bytes.now in
    rw (c.split_at.ensures.back, c.requires.at) (omega (arith, c.requires.space, length-drop (doc_digests_place bytes) bytes))

pub overflow_add-result : goal.overflow_add-result
overflow_add-result c =
    let bytes = c.args.bytes.now in
    let size = c.counted_digests_size_4.ensures ∙ ap (counted_size 4 digest_size) (c.split_at.ensures.back ∙ ap (λ (n : ℕ). drop n bytes) c.requires.at) in
    omega (arith, c.requires.at, size, c.requires.space, c.requires.few)

pub returns : goal.returns
returns c =
    let bytes = c.args.bytes.now in
    let size = c.counted_digests_size_4.ensures ∙ ap (counted_size 4 digest_size) (c.split_at.ensures.back ∙ ap (λ (n : ℕ). drop n bytes) c.requires.at) in
    ap₂ (λ (m n : ℕ). m + n) c.requires.at size
