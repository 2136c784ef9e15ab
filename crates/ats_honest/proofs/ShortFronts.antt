-- Over an archive whose lists stand in blocks, an honest proof shows each list with few digests.
use Rattle.std.proofs.Common.{◌≡◌, ◌≤◌, ℕ, List, length, map, sym, subst, arith}
use Rattle.std.specs.List.{All}
use Rattle.std.proofs.lemmas.List.{length-map}
use Rattle.ats_lists.specs.Formats.{prefix_digests}
use Rattle.ats_lists.specs.Leaf.{leaf_bytes}
use Rattle.ats_postings.specs.declared.entry.Entry.{Entry}
use Rattle.ats_lists.specs.declared.format.Format.{Format}
use Rattle.ats_lists.specs.declared.format.Format.TheVariants.{Two}
use Rattle.ats_lists.proofs.Public.{elided-few}
use Rattle.ats_commit.specs.Archive.{Archive}
use Rattle.ats_proof.specs.declared.record.Algorithm.{Algorithm}
use Rattle.ats_proof.specs.Value.{Prefix, Proof}
use Rattle.ats_honest.specs.Lanes.{lanes_of}
use Rattle.ats_honest.specs.Honest.{IsHonest}
use Rattle.ats_honest.proofs.Fronts.{fronts_all}
use Rattle.ats_honest.proofs.Present.{lanes_have_lists}
use Rattle.ats_honest.proofs.ShownCut.{honest_cut}

in_blocks : (H : List ℕ → List ℕ) (format : Format) (entries : List Entry) (count : ℕ) → format ≡ Two → 1 ≤ count → count ≤ length entries
    → length (prefix_digests H format entries count) ≤ 7
in_blocks H format entries count blocks some within =
    let leaves : List (List ℕ) = map leaf_bytes entries in
    subst (λ (f : Format). length (prefix_digests H f entries count) ≤ 7) (sym blocks)
    (elided-few H leaves count some (omega (arith, within, length-map entries leaf_bytes)))

pub fronts_short : (H : List ℕ → List ℕ) (archive : Archive) (query : List (List ℕ × ℕ)) (r : ℕ) (algorithm : Algorithm) (proof : Proof)
    → archive.format ≡ Two → IsHonest H archive query r algorithm proof → All (λ (prefix : Prefix). length prefix.digests ≤ 7) proof.lists
fronts_short H archive query r algorithm proof blocks honest =
    let HasFew : Prefix → Type 0 = λ prefix. length prefix.digests ≤ 7 in
    subst (All HasFew) (sym honest.shows.lists)
    (fronts_all H archive.format proof.met (length archive.texts) HasFew (lanes_of archive.texts query) honest.cut (lanes_have_lists archive.texts query) (honest_cut _ _ H archive query algorithm proof honest)
    (λ entries count list. in_blocks H archive.format entries count blocks))
