-- An accepted answer is right for each catalog with the root, or there is a collision.
use Rattle.std.proofs.Common.{◌≡◌, ◌⊎◌, ◌<◌, ◌+◌, ◌++◌, ℕ, zero, suc, List, [], ◌∷◌, length, map, get_or, Option, Some, None, IsSome, refl, sym, ap, ◌∙◌, subst, inl, inr, arith}
use Rattle.std.specs.List.{All, AllZip}
use Rattle.std.specs.Option.{option_or, option_map}
use Rattle.std.proofs.lemmas.List.{get_or-map, get_or_past, length-map}
use Rattle.std.proofs.lemmas.List.Elements.{All-head, All-tail}
use Rattle.ats_base.specs.Rules.{Group, AllHold}
use Rattle.ats_terms.specs.Query.{IsQuery}
use Rattle.ats_tree.specs.Differences.{Difference}
use Rattle.ats_impact.specs.Score.{score}
use Rattle.ats_impact.specs.declared.rank.Row.{Row}
use Rattle.ats_commit.specs.Archive.{Archive, archive_of}
use Rattle.ats_commit.specs.Own.{AreTexts}
use Rattle.ats_commit.specs.Root.{root_of}
use Rattle.ats_proof.specs.Value.{Proof, IsProof}
use Rattle.ats_proof.proofs.Public.{one_value, in_range}
use Rattle.ats_client.specs.Bounded.{AreBounded as Bounded, AreBoundedOrCollide, rest_of}
use Rattle.ats_client.specs.Rows.{rows_of}
use Rattle.ats_client.proofs.Public.{bounded_or_collides as bounded_or_collide}
use Rattle.ats_refusal.specs.declared.catalog.CatalogRefusal.{CatalogRefusal}
use Rattle.ats_client.specs.Strings.{proof_collision}
use Rattle.ats_catalog_bytes.specs.Catalog.{roots_of, root_over}
use Rattle.ats_catalog_bytes.specs.Strings.{roots_collision}
use Rattle.ats_catalog_bytes.specs.Value.{Framed, AreFrames, shown_roots}
use Rattle.ats_catalog_bytes.proofs.Public.{roots_bound}
use Rattle.ats_catalog_check.specs.Accepts.{AreProofs, IsShardRight, shown_of, shard_rules, AcceptsCatalog}
use Rattle.ats_catalog_check.specs.Headline.{size_in, score_in, IsCatalogTopOrCollides}
use Rattle.ats_catalog_check.specs.Merge.{shown_at, IsSettled}
use Rattle.ats_catalog_check.specs.Strings.{CatalogPlace, in_proof, over_roots, difference_at, proofs_collision}
use Rattle.ats_catalog_check.specs.Inner.Rests.{IsBounded, AreBounded}
use Rattle.ats_catalog_check.specs.Inner.Checked.{IsChecked}
use Rattle.ats_catalog_check.proofs.RestsAreTop.{rests_are_right}

-- ---- an option that is there

some_first : {A : Type 0} (a b : Option A) → IsSome a → IsSome (option_or a b)
some_first None b is = absurd (cc)
some_first (Some x) b is = refl

some_second : {A : Type 0} (a b : Option A) → IsSome b → IsSome (option_or a b)
some_second None b is = is
some_second (Some x) b is = refl

some_mapped : {A B : Type 0} (f : A → B) (a : Option A) → IsSome a → IsSome (option_map f a)
some_mapped f None is = absurd (cc)
some_mapped f (Some x) is = refl

-- ---- the proofs that bytes spell

pub one_proofs : (shards : List Framed) (a b : List Proof) → AreProofs shards a → AreProofs shards b → a ≡ b
one_proofs [] [] [] is also = refl
one_proofs [] (p ∷ a) b is also = absurd is
one_proofs [] [] (q ∷ b) is also = absurd also
one_proofs (one ∷ shards) [] b is also = absurd is
one_proofs (one ∷ shards) (p ∷ a) [] is also = absurd also
one_proofs (one ∷ shards) (p ∷ a) (q ∷ b) is also =
    ap (λ (x : Proof). x ∷ a) (one_value one.bytes p q is.0 also.0) ∙ ap (λ (l : List Proof). q ∷ l) (one_proofs shards a b is.1 also.1)

-- the bytes of a shard spell this proof, and its rows are bounded
abbrev pub SaysBounded : (List ℕ → List ℕ) → List (List ℕ × ℕ) → Framed → Proof → Type 0
SaysBounded H query one proof = IsProof one.bytes proof × AreBoundedOrCollide H one.root query proof

pub checked_bounded : (H : List ℕ → List ℕ) (query : List (List ℕ × ℕ)) (shards : List Framed) (proofs : List Proof) → AllZip (IsChecked H query) shards proofs → AllZip (SaysBounded H query) shards proofs
checked_bounded H query [] [] checked = tt
checked_bounded H query [] (p ∷ proofs) checked = absurd checked
checked_bounded H query (one ∷ shards) [] checked = absurd checked
checked_bounded H query (one ∷ shards) (p ∷ proofs) checked = ((checked.0.says, checked.0.bounded), checked_bounded H query shards proofs checked.1)

pub bounded_say : (H : List ℕ → List ℕ) (query : List (List ℕ × ℕ)) (shards : List Framed) (proofs : List Proof) → AllZip (SaysBounded H query) shards proofs → AreProofs shards proofs
bounded_say H query [] [] bounded = tt
bounded_say H query [] (p ∷ proofs) bounded = absurd bounded
bounded_say H query (one ∷ shards) [] bounded = absurd bounded
bounded_say H query (one ∷ shards) (p ∷ proofs) bounded = (bounded.0.0, bounded_say H query shards proofs bounded.1)

pub checked_say : (H : List ℕ → List ℕ) (query : List (List ℕ × ℕ)) (shards : List Framed) (proofs : List Proof) → AllZip (IsChecked H query) shards proofs → AreProofs shards proofs
checked_say H query shards proofs checked = bounded_say H query shards proofs (checked_bounded H query shards proofs checked)

-- ---- shard by shard

module _ (H : List ℕ → List ℕ) (query : List (List ℕ × ℕ)) where
  -- the rows of each proof are bounded in its archive
  abbrev EachBounded : List Archive → List Proof → Type 0
  EachBounded catalog proofs = AllZip (λ (archive : Archive) (proof : Proof). Bounded archive.texts query (rows_of query proof) (rest_of query proof)) catalog proofs

  bounded_or_collides : (shard : ℕ) (catalog : List Archive) (shards : List Framed) (proofs : List Proof) → All (λ (archive : Archive). AreTexts archive.texts) catalog
      → roots_of H catalog ≡ shown_roots shards → AllZip (SaysBounded H query) shards proofs
      → EachBounded catalog proofs ⊎ IsSome (proofs_collision H query shard catalog proofs)
  bounded_or_collides shard [] [] [] are same bounded = inl tt
  bounded_or_collides shard [] [] (p ∷ proofs) are same bounded = absurd bounded
  bounded_or_collides shard [] (one ∷ shards) proofs are same bounded = absurd (cc)
  bounded_or_collides shard (archive ∷ catalog) [] proofs are same bounded = absurd (cc)
  bounded_or_collides shard (archive ∷ catalog) (one ∷ shards) [] are same bounded = absurd bounded
  bounded_or_collides shard (archive ∷ catalog) (one ∷ shards) (p ∷ proofs) are same bounded =
      let root : root_of H archive ≡ one.root = cc in
      let roots : roots_of H catalog ≡ shown_roots shards = cc in
      let first : Option (Difference CatalogPlace) = option_map (difference_at (in_proof shard)) (proof_collision H archive query p) in
      let others : Option (Difference CatalogPlace) = proofs_collision H query (shard + 1) catalog proofs in
      elim (bounded.0.1 archive (All-head (λ (archive : Archive). AreTexts archive.texts) archive catalog are) root) [
        | inr some ↦ inr (some_first first others (some_mapped (difference_at (in_proof shard)) (proof_collision H archive query p) some))
        | inl here ↦ elim (bounded_or_collides (shard + 1) catalog shards proofs (All-tail (λ (archive : Archive). AreTexts archive.texts) archive catalog are) roots bounded.1) [
          | inr some ↦ inr (some_second first others some)
          | inl later ↦ inl (here, later)
        ]
      ]

  one_bounded : (texts : List (List ℕ)) (proof : Proof) → Bounded texts query (rows_of query proof) (rest_of query proof)
      → IsBounded (length texts) (λ doc. score texts query (get_or texts doc [])) (shown_of query proof)
  one_bounded texts proof own = record {
    once = own.once;
    scoring = λ k e low.
        let rows : List Row = rows_of query proof in
        let inside : k < length (map (λ (row : Row). row.doc) rows) = omega (arith, low, length-map rows (λ (row : Row). row.doc)) in
        subst (λ (doc : ℕ). (doc < length texts) × (0 < score texts query (get_or texts doc []))) (get_or-map (λ (row : Row). row.doc) rows k e 0 low)
        (own.scoring k 0 inside);
    bounds = λ k d low. ((own.bounds k d low).least, (own.bounds k d low).most);
    others = own.others;
  }

  bounded_at : (catalog : List Archive) (proofs : List Proof) → EachBounded catalog proofs → (i : ℕ) → i < length (map (shown_of query) proofs)
      → IsBounded (size_in catalog i) (score_in catalog query i) (shown_at (map (shown_of query) proofs) i)
  bounded_at [] [] each i low = absurd (omega (arith, low))
  bounded_at [] (p ∷ proofs) each i low = absurd each
  bounded_at (archive ∷ catalog) [] each i low = absurd each
  bounded_at (archive ∷ catalog) (p ∷ proofs) each zero low = one_bounded archive.texts p each.0
  bounded_at (archive ∷ catalog) (p ∷ proofs) each (suc i) low = bounded_at catalog proofs each.1 i (omega (arith, low))

  as_many : (catalog : List Archive) (proofs : List Proof) → EachBounded catalog proofs → length (map (shown_of query) proofs) ≡ length catalog
  as_many [] [] each = refl
  as_many [] (p ∷ proofs) each = absurd each
  as_many (archive ∷ catalog) [] each = absurd each
  as_many (archive ∷ catalog) (p ∷ proofs) each = omega (arith, as_many catalog proofs each.1)

  all_bounded : (catalog : List Archive) (proofs : List Proof) → EachBounded catalog proofs
      → AreBounded (size_in catalog) (score_in catalog query) (map (shown_of query) proofs)
  all_bounded catalog proofs each = record {
    each = bounded_at catalog proofs each;
    only = λ i past. ap (λ (archive : Archive). length archive.texts) (get_or_past catalog i (archive_of []) (omega (arith, past, as_many catalog proofs each)));
  }

pub top_or_collides : (H : List ℕ → List ℕ) → ((m : List ℕ) → length (H m) ≡ 32) → (root : List ℕ) (query : List (List ℕ × ℕ)) (r : ℕ) (shards : List Framed) (proofs : List Proof)
    → AreFrames shards → root_over H (shown_roots shards) ≡ root → AllZip (SaysBounded H query) shards proofs → IsSettled r (map (shown_of query) proofs)
    → IsCatalogTopOrCollides H root query r shards
top_or_collides H sized root query r shards proofs range root_is bounded settled catalog are is others say =
    let same : proofs ≡ others = one_proofs shards proofs others (bounded_say H query shards proofs bounded) say in
    let ours : length (roots_of H catalog) ≡ length catalog = length-map catalog (root_of H) in
    let theirs : length (shown_roots shards) ≡ length shards = length-map shards (λ (one : Framed). one.root) in
    let over : Option (Difference CatalogPlace) = option_map (difference_at over_roots) (roots_collision H (roots_of H catalog) (shown_roots shards)) in
    elim (roots_bound H sized (roots_of H catalog) (shown_roots shards) (omega (arith, ours, are.few)) (omega (arith, theirs, range.some)) (omega (arith, theirs, range.few)) (is ∙ sym root_is)) [
      | inr some ↦ inr (some_first over (proofs_collision H query 0 catalog others)
          (some_mapped (difference_at over_roots) (roots_collision H (roots_of H catalog) (shown_roots shards)) some))
      | inl roots ↦ elim (bounded_or_collides H query 0 catalog shards others are.texts roots (subst (λ (ps : List Proof). AllZip (SaysBounded H query) shards ps) same bounded)) [
        | inr some ↦ inr (some_second over (proofs_collision H query 0 catalog others) some)
        | inl each ↦ inl (rests_are_right (size_in catalog) (score_in catalog query) (map (shown_of query) others) r
            (all_bounded H query catalog others each) (subst (λ (ps : List Proof). IsSettled r (map (shown_of query) ps)) same settled))
      ]
    ]

-- ---- from the rules

module _ (H : List ℕ → List ℕ) (sized : (m : List ℕ) → length (H m) ≡ 32) (query : List (List ℕ × ℕ)) (asked : IsQuery query) where
  right_bounded : (one : Framed) (right : IsShardRight H query one) → SaysBounded H query one right.proof
  right_bounded one right = (
    right.says,
    bounded_or_collide H sized one.root query right.proof asked (in_range one.bytes right.proof right.says) right.says.prefix_each right.says.documents right.accepts,
  )

  -- the proofs of shards that keep their rules, and what holds after these
  rules_bounded : (number : ℕ) (shards : List Framed) (later : List (Group CatalogRefusal)) → AllHold (shard_rules H query number shards ++ later)
      → ((proofs : List Proof) × AllZip (SaysBounded H query) shards proofs) × AllHold later
  rules_bounded number [] later hold = (([], tt), hold)
  rules_bounded number (one ∷ shards) later hold =
      let rest = rules_bounded (number + 1) shards later hold.1 in
      ((hold.0.proof ∷ rest.0.0, (right_bounded one hold.0, rest.0.1)), rest.1)

  pub accepted_top : (root : List ℕ) (r : ℕ) (shards : List Framed) → AreFrames shards → AcceptsCatalog H root query r shards → IsCatalogTopOrCollides H root query r shards
  accepted_top root r shards range accepts =
      let all = rules_bounded 0 shards _ accepts.holds.1 in
      let settled = all.1.0 in
      let same : settled.proofs ≡ all.0.0 = one_proofs shards settled.proofs all.0.0 settled.say (bounded_say H query shards all.0.0 all.0.1) in
      top_or_collides H sized root query r shards all.0.0 range accepts.holds.0 all.0.1 (subst (λ (ps : List Proof). IsSettled r (map (shown_of query) ps)) same settled.settled)
