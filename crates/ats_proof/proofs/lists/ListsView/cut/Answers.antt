use Rattle.std.proofs.Common.{◌≡◌, ◌∙◌, ◌*◌, drop, ap, ap₂, arith}
use Rattle.std.proofs.lemmas.List.{length-drop, drop-drop}
use Rattle.ats_proof.specs.Parts.{number_in, parts_in, counted_in, counted_size}
use Rattle.ats_proof.specs.Value.{Prefix}
use Rattle.ats_proof.specs.Reading.{prefix_size, posting_size, posting_in, digest_size, digest_in}
use Rattle.ats_proof.proofs.Taking.{first_fits, total_fixed, after_postings}
use Rattle.ats_proof.proofs.lists.ListsView.cut.Goals as goal

pub split_at-requires-2 : goal.split_at-requires-2
split_at-requires-2 c =
    let view = c.args.self.now in
    let bytes = view.bytes.now in
    let fits = first_fits prefix_size view.left bytes c.requires view.fits in
    let all = total_fixed 6 (λ b. b) (number_in 4 bytes) (drop 4 bytes) in
    rw (c.split_at.ensures.back, c.number_4-count.ensures) (omega (arith, fits, all, length-drop 4 bytes))

pub counted_digests_2-requires : goal.counted_digests_2-requires
counted_digests_2-requires c =
    let view = c.args.self.now in
    let bytes = view.bytes.now in
    let fits = first_fits prefix_size view.left bytes c.requires view.fits in
    let place : c.split_at-2.result.1.now ≡ drop (counted_size 4 posting_size bytes) bytes =
    c.split_at-2.ensures.back ∙ ap₂ (λ n xs. drop (n * 6) xs) c.number_4-count.ensures c.split_at.ensures.back ∙ after_postings bytes in
    rw place (omega (arith, fits, length-drop (counted_size 4 posting_size bytes) bytes))

pub returns-clause-list : goal.returns-clause-list
returns-clause-list c =
    let bytes = c.args.self.now.bytes.now in
    let place : c.split_at-2.result.1.now ≡ drop (counted_size 4 posting_size bytes) bytes =
    c.split_at-2.ensures.back ∙ ap₂ (λ n xs. drop (n * 6) xs) c.number_4-count.ensures c.split_at.ensures.back ∙ after_postings bytes in
    ap₂ (λ xs ys. let p : Prefix = record { entries = xs; digests = ys } in p)
    (ap₂ (λ n xs. parts_in posting_size posting_in n xs) c.number_4-count.ensures c.split_at.ensures.back)
    (c.counted_digests_2.ensures.digests ∙ ap (counted_in 2 digest_size digest_in) place)

pub returns-clause-rest : goal.returns-clause-rest
returns-clause-rest c =
    let bytes = c.args.self.now.bytes.now in
    let place : c.split_at-2.result.1.now ≡ drop (counted_size 4 posting_size bytes) bytes =
    c.split_at-2.ensures.back ∙ ap₂ (λ n xs. drop (n * 6) xs) c.number_4-count.ensures c.split_at.ensures.back ∙ after_postings bytes in
    c.counted_digests_2.ensures.rest ∙ ap (λ xs. drop (counted_size 2 digest_size xs) xs) place
    ∙ drop-drop (counted_size 2 digest_size (drop (counted_size 4 posting_size bytes) bytes)) (counted_size 4 posting_size bytes) bytes
