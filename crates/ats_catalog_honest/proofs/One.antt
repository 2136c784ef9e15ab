-- A catalog has one honest file.
use Rattle.std.proofs.Common.{◌≡◌, ◌∙◌, ℕ, List, [], ◌∷◌, length, get_or, ap₂, sym, refl, subst, arith}
use Rattle.std.proofs.lemmas.List.{same_lists}
use Rattle.ats_commit.specs.Archive.{Archive}
use Rattle.ats_proof.specs.declared.record.Algorithm.{Algorithm}
use Rattle.ats_proof.specs.Value.{Proof, IsProof}
use Rattle.ats_honest.proofs.Public.{one_honest}
use Rattle.ats_catalog_bytes.specs.Value.{Framed, IsCatalogProof, shown_roots}
use Rattle.ats_catalog_bytes.proofs.Public.{one_catalog, one_join}
use Rattle.ats_catalog_check.specs.Accepts.{AreProofs}
use Rattle.ats_catalog_check.specs.Headline.{score_in, size_in}
use Rattle.ats_catalog_honest.specs.Honest.{AreHonestProofs, AreProofsOfShares, IsHonestFile, IsProvedCatalog}
use Rattle.ats_catalog_honest.specs.Ranking.{Ranked, shares_of}
use Rattle.ats_catalog_honest.specs.Shares.{Shares}
use Rattle.ats_catalog_honest.proofs.Rankings.{one_ranking}

-- two spellings of one proof
one_spelling : (bytes others : List ℕ) (proof : Proof) → IsProof bytes proof → IsProof others proof → bytes ≡ others
one_spelling bytes others proof is also = is.spells.whole.parts ∙ sym also.spells.whole.parts

-- roots, and bytes that spell some proofs
one_frames : (a b : List Framed) (proofs : List Proof) → shown_roots a ≡ shown_roots b → AreProofs a proofs → AreProofs b proofs → a ≡ b
one_frames [] [] proofs roots is also = refl
one_frames [] (y ∷ b) proofs roots is also = absurd (cc)
one_frames (x ∷ a) [] proofs roots is also = absurd (cc)
one_frames (x ∷ a) (y ∷ b) [] roots is also = absurd is
one_frames (x ∷ a) (y ∷ b) (p ∷ proofs) roots is also =
    let root : x.root ≡ y.root = cc in
    let others : shown_roots a ≡ shown_roots b = cc in
    let bytes : x.bytes ≡ y.bytes = one_spelling x.bytes y.bytes p is.0 also.0 in
    let same : x ≡ y = λ i. record { root = root i; bytes = bytes i } in
    ap₂ (λ (one : Framed) (more : List Framed). one ∷ more) same (one_frames a b proofs others is.1 also.1)

module _ (H : List ℕ → List ℕ) (catalog : List Archive) (query : List (List ℕ × ℕ)) (by : ℕ → Algorithm) where
  one_of_shares : (shares : Shares) (a b : List Proof) → AreProofsOfShares H catalog query by shares a → AreProofsOfShares H catalog query by shares b → a ≡ b
  one_of_shares shares a b first second =
      let size : length a ≡ length b = first.many ∙ sym second.many in
      same_lists a b size (λ i d low. one_honest _ _ H _ query (by i) (get_or a i d) (get_or b i d) (first.each i d low) (second.each i d (omega (arith, low, size))))

  module _ (r : ℕ) where
    pub one_proofs : (a b : List Proof) → AreHonestProofs H catalog query r by a → AreHonestProofs H catalog query r by b → a ≡ b
    one_proofs a b first second =
        let same : first.ranking ≡ second.ranking = one_ranking (size_in catalog) (score_in catalog query) first.ranking second.ranking first.ranked second.ranked in
        one_of_shares (shares_of by r second.ranking) a b
        (subst (λ (all : List Ranked). AreProofsOfShares H catalog query by (shares_of by r all) a) same first.honest) second.honest

    pub one_file : (a b : List Framed) → IsHonestFile H catalog query r by a → IsHonestFile H catalog query r by b → a ≡ b
    one_file a b first second =
        let same : first.proofs ≡ second.proofs = one_proofs first.proofs second.proofs first.honest second.honest in
        one_frames a b second.proofs (first.frames.roots ∙ sym second.frames.roots) (subst (AreProofs a) same first.frames.say) second.frames.say

    pub one_bytes : (bytes others : List ℕ) → IsProvedCatalog H catalog query r by bytes → IsProvedCatalog H catalog query r by others → bytes ≡ others
    one_bytes bytes others first second =
        let same : second.shards ≡ first.shards = one_file second.shards first.shards second.honest first.honest in
        one_join bytes others first.shards first.spells (subst (IsCatalogProof others) same second.spells)

    -- what the bytes of the honest file spell is the honest file
    pub spells_file : (bytes : List ℕ) → IsProvedCatalog H catalog query r by bytes → (shards : List Framed) → IsCatalogProof bytes shards → IsHonestFile H catalog query r by shards
    spells_file bytes is shards says = subst (IsHonestFile H catalog query r by) (one_catalog bytes is.shards shards is.spells says) is.honest
