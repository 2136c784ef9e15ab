use Rattle.std.proofs.Common.{◌≡◌, ◌≤◌, ◌∙◌, ◌++◌, [], ◌∷◌, ℕ, List, length, refl, subst, sym, ap, ap₂, arith}
use Rattle.std.specs.List.{concat}
use Rattle.ats_dict.specs.declared.header.Header.{Header}
use Rattle.ats_lists.specs.declared.format.Format.{Format}
use Rattle.ats_proof.specs.Parts.{spelled}
use Rattle.ats_proof.specs.Value.{archive_fields}
use Rattle.ats_proof.proofs.Public.{joined_more, joined_field}
use Rattle.ats_growth_check.specs.Value.{IsInRange, IsGrowth, fields_of}
use Rattle.ats_growth_check.proofs.Public.{spells}
use Rattle.ats_growth_proof.specs.Honest.{honest}
use Rattle.ats_growth_proof.proofs.Completeness.{prefix-shorter}
use Rattle.ats_growth_proof.proofs.Made.{own_header_range, need_small, honest_in_range, count_put, digests_put}
use Rattle.ats_growth_proof.proofs.growing.bytes_of.Goals as goal

pub put_archive-requires : goal.put_archive-requires
put_archive-requires g c =
    subst (λ (h : Header). IsInRange h) (sym c.header.ensures.parts) (own_header_range g.H.HashKind.hash g.H.HashKind.sized c.args.old.now c.header.ensures.texts)

pub put_archive-requires-2 : goal.put_archive-requires-2
put_archive-requires-2 g c =
    subst (λ (h : Header). IsInRange h) (sym c.header-2.ensures.parts) (own_header_range g.H.HashKind.hash g.H.HashKind.sized c.args.new.now c.header-2.ensures.texts)

pub overflow_cast-digests_needed : goal.overflow_cast-digests_needed
overflow_cast-digests_needed g c =
    let within : c.documents-m.result ≤ c.documents-n.result = omega (
      arith,
      prefix-shorter c.args.old.now.texts c.args.new.now.texts c.requires,
      c.documents-m.ensures.value ∙ ap length c.collection.ensures.same,
      c.documents-n.ensures.value ∙ ap length c.collection-2.ensures.same,
    ) in
    omega (arith, c.digests_needed.ensures.number, need_small c.documents-m.result c.documents-n.result c.documents-m.ensures.some within c.documents-n.ensures.few)

pub returns : goal.returns
returns g c =
    let H = g.H.HashKind.hash in
    let older = c.args.old.now in
    let newer = c.args.new.now in
    let growth = honest H older newer in
    let old_are = c.header.ensures.texts in
    let new_are = c.header-2.ensures.texts in
    let m = c.documents-m.ensures.value ∙ ap length c.collection.ensures.same in
    let n = c.documents-n.ensures.value ∙ ap length c.collection-2.ensures.same in
    let same_fields = λ (f : Format) (h : Header). concat (archive_fields f h) in
    let f0 : List (List ℕ) = spelled 4 0x41545347 ∷ [] in
    let f1 = f0 ++ archive_fields growth.old_format growth.old in
    let f2 = f1 ++ archive_fields growth.new_format growth.new in
    let f3 = f2 ++ spelled 1 (length growth.digests) ∷ [] in
    let magic = c.in_ok-extend.ensures ∙ ap₂ (λ (a b : List ℕ). a ++ b) c.new-bytes.ensures c.to_be_bytes.ensures in
    let old = joined_more f0 (archive_fields growth.old_format growth.old) c.extend.new.self c.put_archive.new.bytes _ magic c.in_ok-put_archive.ensures (ap₂ same_fields c.format.ensures c.header.ensures.parts) in
    let new = joined_more f1 (archive_fields growth.new_format growth.new) c.put_archive.new.bytes c.put_archive-2.new.bytes _ old c.in_ok-put_archive-2.ensures (ap₂ same_fields c.format-2.ensures c.header-2.ensures.parts) in
    let count = joined_field f2 c.put_archive-2.new.bytes c.push.new.self _ (spelled 1 (length growth.digests)) new c.in_ok-push.ensures
    (count_put H g.H.HashKind.sized older newer old_are new_are c.requires c.documents-m.result c.documents-n.result newer.texts m n refl c.digests_needed.result c.digests_needed.ensures.number) in
    let whole : c.put_digests.new.bytes ≡ concat (fields_of growth) = joined_more f3 growth.digests c.push.new.self c.put_digests.new.bytes _ count c.in_ok-put_digests.ensures.put
    (digests_put H g.H.HashKind.sized older newer old_are new_are c.requires c.documents-m.result c.documents-n.result _ m n c.collection-3.ensures.same) in
    subst (λ (bytes : List ℕ). IsGrowth bytes growth) (sym whole) (spells growth (honest_in_range H g.H.HashKind.sized older newer old_are new_are c.requires))
