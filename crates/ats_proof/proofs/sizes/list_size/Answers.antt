use Rattle.std.proofs.Common.{◌≡◌, ◌∙◌, drop, ap, arith}
use Rattle.ats_proof.specs.Parts.{counted_size}
use Rattle.ats_proof.specs.Reading.{posting_size, digest_size}
use Rattle.ats_proof.proofs.sizes.list_size.Goals as goal

pub returns : goal.returns
returns c =
    let bytes = c.args.bytes.now in
    let entries : c.counted_postings_size-entries.result ≡ counted_size 4 posting_size bytes = c.counted_postings_size-entries.ensures in
    let digests = c.counted_digests_size_2.ensures ∙ ap (counted_size 2 digest_size) (c.split_at.ensures.back ∙ ap (λ n. drop n bytes) entries) in
    omega (arith, entries, digests)
