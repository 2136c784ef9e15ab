-- What shows the honest proofs of all shards is accepted.
use Rattle.std.proofs.Common.{◌≡◌, ◌⊎◌, ◌<◌, ◌≤◌, ◌+◌, ◌++◌, ℕ, zero, suc, List, [], ◌∷◌, length, map, get_or, sym, ap, subst, ◌∙◌, arith}
use Rattle.std.specs.List.{All, AllZip}
use Rattle.std.specs.List.Sorted.{IsStrictlySortedBy}
use Rattle.std.proofs.lemmas.List.{length-map}
use Rattle.ats_base.specs.Rules.{Group, AllHold}
use Rattle.ats_dict.specs.declared.header.Header.{Header}
use Rattle.ats_commit.specs.Archive.{Archive}
use Rattle.ats_commit.specs.Root.{root_of}
use Rattle.ats_bound.specs.Floors.{Floors}
use Rattle.ats_proof.specs.declared.record.Algorithm.{Algorithm}
use Rattle.ats_proof.specs.declared.record.Algorithm.TheVariants.{Tra}
use Rattle.ats_proof.specs.Value.{Proof, IsProof}
use Rattle.ats_proof.proofs.Public.{in_range}
use Rattle.ats_refusal.specs.declared.catalog.CatalogRefusal.{CatalogRefusal}
use Rattle.ats_client.specs.Accepts.{AcceptsShown}
use Rattle.ats_honest.specs.Honest.{IsHonestWithin}
use Rattle.ats_accepts.proofs.Public.{walk_rows, walk_sections}
use Rattle.ats_catalog_bytes.specs.Catalog.{archive_at, catalog_root, root_over, roots_of}
use Rattle.ats_catalog_bytes.specs.Value.{Framed, shown_roots}
use Rattle.ats_catalog_check.specs.Accepts.{AcceptsCatalog, AreProofs, shard_rules, shown_of}
use Rattle.ats_catalog_check.specs.Merge.{Shown, shown_at, IsSettled}
use Rattle.ats_catalog_honest.specs.Honest.{AreFramesOf, AreProofsOfShares, IsHonestFile}
use Rattle.ats_catalog_honest.specs.Ranking.{Ranked, ranked_cmp, shares_of}
use Rattle.ats_catalog_honest.specs.Shares.{AreEdges, AreShared, Shares, ShowsWithin, floors_of}
use Rattle.ats_catalog_honest.proofs.Edges.{edges_fall, few_rows, owners_there, whole_rows}
use Rattle.ats_catalog_honest.proofs.Shared.{shared_are_settled}
use Rattle.ats_catalog_honest.proofs.Within.{shows_within}

-- the proof is the honest one of some share
pub record IsOfShare (H : List ℕ → List ℕ) (query : List (List ℕ × ℕ)) (archive : Archive) (proof : Proof) : Type 0 where
  pub floors : Floors
  pub algorithm : Algorithm
  pub honest : IsHonestWithin H archive query floors algorithm proof

-- it keeps all rules before the settling; a TRA proof needs a document
pub share_accepted : (H : List ℕ → List ℕ) (archive : Archive) (query : List (List ℕ × ℕ)) (floors : Floors) (algorithm : Algorithm) (proof : Proof)
    → (algorithm ≡ Tra → 1 ≤ length archive.texts) → IsHonestWithin H archive query floors algorithm proof → AcceptsShown H (root_of H archive) query proof
share_accepted H archive query floors algorithm proof some honest =
    let hold = walk_sections _ _ H archive query algorithm proof honest some in
    record {
      holds = (hold.0, (hold.1.0, (hold.1.1.0, (hold.1.1.1.0, (hold.1.1.1.1.0, (hold.1.1.1.1.1.0, (hold.1.1.1.1.1.1.0, (walk_rows _ _ H archive query algorithm proof honest, tt))))))));
    }

module _ (H : List ℕ → List ℕ) (query : List (List ℕ × ℕ)) where
  -- an archive whose proof is spelled has a document
  spelled_accepted : (archive : Archive) (one : Framed) (proof : Proof) → root_of H archive ≡ one.root → IsProof one.bytes proof → IsOfShare H query archive proof
      → AcceptsShown H one.root query proof
  spelled_accepted archive one proof root says is =
      let documents : proof.header.documents ≡ length archive.texts = ap (λ (h : Header). h.documents) is.honest.shows.header in
      let some : 1 ≤ length archive.texts = omega (arith, documents, (in_range one.bytes proof says).front.numbers.some) in
      subst (λ (root : List ℕ). AcceptsShown H root query proof) root (share_accepted H archive query is.floors is.algorithm proof (λ tra. some) is.honest)

  rules_hold : (number : ℕ) (catalog : List Archive) (shards : List Framed) (proofs : List Proof) (later : List (Group CatalogRefusal))
      → roots_of H catalog ≡ shown_roots shards → AreProofs shards proofs → AllZip (IsOfShare H query) catalog proofs → AllHold later
      → AllHold (shard_rules H query number shards ++ later)
  rules_hold number catalog [] proofs later roots say each hold = hold
  rules_hold number catalog (one ∷ shards) [] later roots say each hold = absurd say
  rules_hold number [] (one ∷ shards) (p ∷ proofs) later roots say each hold = absurd each
  rules_hold number (archive ∷ catalog) (one ∷ shards) (p ∷ proofs) later roots say each hold =
      let root : root_of H archive ≡ one.root = cc in
      let others : roots_of H catalog ≡ shown_roots shards = cc in (
        record { proof = p; says = say.0; accepts = spelled_accepted archive one p root say.0 each.0 },
        rules_hold (number + 1) catalog shards proofs later others say.1 each.1 hold,
      )

module _ (H : List ℕ → List ℕ) (query : List (List ℕ × ℕ)) (by : ℕ → Algorithm) (shares : Shares) where
  -- the proofs of the shards from this number on are honest
  abbrev AreFrom : ℕ → List Archive → List Proof → Type 0
  AreFrom first catalog proofs = (i : ℕ) (d : Proof) → i < length proofs
      → IsHonestWithin H (archive_at catalog i) query (floors_of shares (first + i)) (by (first + i)) (get_or proofs i d)

  head_from : (first : ℕ) (archive : Archive) (catalog : List Archive) (p : Proof) (proofs : List Proof) → AreFrom first (archive ∷ catalog) (p ∷ proofs)
      → IsHonestWithin H archive query (floors_of shares first) (by first) p
  head_from first archive catalog p proofs each =
      let here : first + 0 ≡ first = omega arith in
      subst (λ (n : ℕ). IsHonestWithin H archive query (floors_of shares n) (by n) p) here (each 0 p (omega arith))

  tail_from : (first : ℕ) (archive : Archive) (catalog : List Archive) (p : Proof) (proofs : List Proof) → AreFrom first (archive ∷ catalog) (p ∷ proofs)
      → AreFrom (first + 1) catalog proofs
  tail_from first archive catalog p proofs each i d low =
      let next : first + suc i ≡ (first + 1) + i = omega arith in
      subst (λ (n : ℕ). IsHonestWithin H (archive_at catalog i) query (floors_of shares n) (by n) (get_or proofs i d)) next (each (suc i) d (omega (arith, low)))

  of_shares : (first : ℕ) (catalog : List Archive) (proofs : List Proof) → length proofs ≡ length catalog → AreFrom first catalog proofs → AllZip (IsOfShare H query) catalog proofs
  of_shares first [] [] many each = tt
  of_shares first [] (p ∷ proofs) many each = absurd (omega (arith, many))
  of_shares first (archive ∷ catalog) [] many each = absurd (omega (arith, many))
  of_shares first (archive ∷ catalog) (p ∷ proofs) many each = (
    record { floors = floors_of shares first; algorithm = by first; honest = head_from first archive catalog p proofs each },
    of_shares (first + 1) catalog proofs (omega (arith, many)) (tail_from first archive catalog p proofs each),
  )

  show_within : (first : ℕ) (catalog : List Archive) (proofs : List Proof) → length proofs ≡ length catalog → AreFrom first catalog proofs
      → (i : ℕ) → i < length proofs → ShowsWithin (floors_of shares (first + i)) (shown_at (map (shown_of query) proofs) i)
  show_within first catalog [] many each i low = absurd (omega (arith, low))
  show_within first [] (p ∷ proofs) many each i low = absurd (omega (arith, many))
  show_within first (archive ∷ catalog) (p ∷ proofs) many each zero low =
      let here : first ≡ first + 0 = omega arith in
      subst (λ (n : ℕ). ShowsWithin (floors_of shares n) (shown_of query p)) here
      (shows_within H archive query (floors_of shares first) (by first) p (head_from first archive catalog p proofs each))
  show_within first (archive ∷ catalog) (p ∷ proofs) many each (suc i) low =
      let next : (first + 1) + i ≡ first + suc i = omega arith in
      subst (λ (n : ℕ). ShowsWithin (floors_of shares n) (shown_at (map (shown_of query) proofs) i)) next
      (show_within (first + 1) catalog proofs (omega (arith, many)) (tail_from first archive catalog p proofs each) i (omega (arith, low)))

  module _ (catalog : List Archive) (proofs : List Proof) (honest : AreProofsOfShares H catalog query by shares proofs) where
    from_none : AreFrom 0 catalog proofs
    from_none i d low =
        let here : i ≡ 0 + i = omega arith in
        subst (λ (n : ℕ). IsHonestWithin H (archive_at catalog i) query (floors_of shares n) (by n) (get_or proofs i d)) here (honest.each i d low)

    pub all_of_shares : AllZip (IsOfShare H query) catalog proofs
    all_of_shares = of_shares 0 catalog proofs honest.many from_none

    module _ (r : ℕ) (edges : AreEdges shares) (owned : All (λ owner. owner < length catalog) shares.owners) (most : length shares.owners ≤ r)
        (whole : ((1 ≤ r) × (length shares.owners ≡ r)) ⊎ (shares.edges (length shares.owners) ≡ 0)) where
      abbrev all : List Shown
      all = map (shown_of query) proofs

      size : length all ≡ length proofs
      size = length-map proofs (shown_of query)

      shared : AreShared shares r all
      shared = record {
        edges = edges;
        owned = subst (λ (n : ℕ). All (λ owner. owner < n) shares.owners) (sym (size ∙ honest.many)) owned;
        most = most;
        whole = whole;
        each = λ i low.
            let here : 0 + i ≡ i = omega arith in
            subst (λ (n : ℕ). ShowsWithin (floors_of shares n) (shown_at all i)) here (show_within 0 catalog proofs honest.many from_none i (omega (arith, low, size)));
      }

      pub shares_accepted : (shards : List Framed) → AreFramesOf H catalog proofs shards → AcceptsCatalog H (catalog_root H catalog) query r shards
      shares_accepted shards frames =
          let settled : IsSettled r all = shared_are_settled shares r all shared in
          record {
            holds = (
              ap (root_over H) frames.roots,
              rules_hold H query 0 catalog shards proofs _ (sym frames.roots) frames.say all_of_shares
                  (record { proofs = proofs; say = frames.say; settled = settled }, tt),
            );
          }

-- the honest file is that of the shares of the plain ranking
pub file_accepted : (H : List ℕ → List ℕ) (catalog : List Archive) (query : List (List ℕ × ℕ)) (r : ℕ) (by : ℕ → Algorithm) (shards : List Framed)
    → 1 ≤ r → IsHonestFile H catalog query r by shards → AcceptsCatalog H (catalog_root H catalog) query r shards
file_accepted H catalog query r by shards some is =
    let all : List Ranked = is.honest.ranking in
    let sorted : IsStrictlySortedBy ranked_cmp all = is.honest.ranked.ordered in
    shares_accepted H query by (shares_of by r all) catalog is.proofs is.honest.honest r (edges_fall by r all sorted)
    (owners_there catalog query r all is.honest.ranked) (few_rows by r all sorted) (whole_rows by r all sorted some) shards is.frames
