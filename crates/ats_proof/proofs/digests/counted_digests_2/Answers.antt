use Rattle.std.proofs.Common.{◌∙◌, ◌+◌, ◌*◌, drop, sym, ap, ap₂, arith}
use Rattle.std.proofs.lemmas.List.{length-drop, drop-drop}
use Rattle.ats_proof.specs.Parts.{number_in}
use Rattle.ats_proof.proofs.Taking.{total_fixed}
use Rattle.ats_proof.proofs.digests.counted_digests_2.Goals as goal

pub cut_digests-requires : goal.cut_digests-requires
cut_digests-requires c =
    let bytes = c.args.bytes.now in
    let all = total_fixed 32 (λ b. b) (number_in 2 bytes) (drop 2 bytes) in
    let left = c.from-left.ensures ∙ c.number_2.ensures in rw c.split_at.ensures.back (omega (arith, c.requires, all, left, length-drop 2 bytes))

pub returns-clause-rest : goal.returns-clause-rest
returns-clause-rest c =
    let bytes = c.args.bytes.now in
    let all = total_fixed 32 (λ b. b) (number_in 2 bytes) (drop 2 bytes) in
    let left = c.from-left.ensures ∙ c.number_2.ensures in c.cut_digests.ensures.rest ∙ ap₂ (λ n xs. drop (n * 32) xs) left c.split_at.ensures.back ∙ drop-drop (number_in 2 bytes * 32) 2 bytes
    ∙ ap (λ n. drop (2 + n) bytes) (sym all)
