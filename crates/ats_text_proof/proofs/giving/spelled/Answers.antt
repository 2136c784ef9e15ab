use Rattle.std.proofs.Common.{◌++◌, ◌∷◌, [], ◌≡◌, ◌∙◌, ◌<◌, ◌^◌, ℕ, List, length, refl, ap, sym, subst, arith}
use Rattle.std.specs.List.{concat}
use Rattle.ats_proof.specs.Parts.{spelled}
use Rattle.ats_proof.specs.Value.{archive_fields}
use Rattle.ats_proof.proofs.Public.{spelled_1, spelled_4, joined_more, joined_field}
use Rattle.ats_text_check.specs.Value.{TextProof, fields_of, IsTextProof}
use Rattle.ats_text_check.proofs.Public.{spells}
use Rattle.ats_text_proof.proofs.giving.spelled.Goals as goal

pub put_archive-requires : goal.put_archive-requires
put_archive-requires c = c.requires.header

pub returns : goal.returns
returns c =
    let proof : TextProof = record { format = c.args.format; header = c.args.header.now; text = c.args.text.now; digests = c.args.digests.now } in
    let size : length proof.text < 2 ^ 32 = omega (arith, c.requires.short) in
    let f0 : List (List ℕ) = spelled 4 0x41545346 ∷ [] in
    let f1 = f0 ++ archive_fields proof.format proof.header in
    let f2 = f1 ++ spelled 4 (length proof.text) ∷ [] in
    let f3 = f2 ++ proof.text ∷ [] in
    let f4 = f3 ++ spelled 1 (length proof.digests) ∷ [] in
    let magic = c.in_ok-extend.ensures ∙ ap (λ (xs : List ℕ). xs ++ spelled 4 0x41545346) c.in_ok-bytes.ensures in
    let archive = joined_more f0 (archive_fields proof.format proof.header) c.extend.new.self c.put_archive.new.bytes _ magic c.in_ok-put_archive.ensures refl in
    let wide = joined_field f1 c.put_archive.new.bytes c.extend-2.new.self _ (spelled 4 (length proof.text)) archive c.in_ok-extend-2.ensures (c.to_be_bytes.ensures ∙ spelled_4 (length proof.text) size) in
    let text = joined_field f2 c.extend-2.new.self c.extend-3.new.self proof.text proof.text wide c.in_ok-extend-3.ensures refl in
    let count = joined_field f3 c.extend-3.new.self c.push.new.self _ (spelled 1 (length proof.digests)) text c.in_ok-push.ensures
    (ap (λ (n : ℕ). n ∷ []) c.len-2.ensures ∙ sym (spelled_1 (length proof.digests))) in
    let whole : c.put_digests.new.bytes ≡ concat (fields_of proof) = joined_more f4 proof.digests c.push.new.self c.put_digests.new.bytes _ count c.in_ok-put_digests.ensures refl in
    subst (λ (bytes : List ℕ). IsTextProof bytes proof) (sym whole) (spells proof c.requires)
