-- Each catalog has a plain ranking, and only one.
use Rattle.std.proofs.Common.{◌≡◌, ◌<◌, ◌≤◌, ◌++◌, ◌∙◌, ℕ, zero, suc, true, cond, nat_lt, List, [], ◌∷◌, get_or, ap, sym, refl, subst, inl, inr, arith}
use Rattle.std.specs.List.{All, Contains, dedup}
use Rattle.std.specs.Cmp.{IsTotalOrder}
use Rattle.std.specs.Ordering.{nat_cmp, eq_by_cmp, is_eq, is_lt, ordering_then}
use Rattle.std.specs.declared.cmp.Ordering.{Ordering}
use Rattle.std.specs.declared.cmp.Ordering.TheVariants.{Less, Equal, Greater}
use Rattle.std.proofs.lemmas.Bool.{cases_Bool, cases_order}
use Rattle.std.proofs.lemmas.Bool.Decides.{nat_tests}
use Rattle.std.proofs.lemmas.Cmp.{nat_cmp_total, on_total, then_total, back_total, eq_by_cmp_equiv}
use Rattle.std.proofs.lemmas.List.Elements.{All-nil, All-cons, All-append, Contains-append_left, Contains-append_right}
use Rattle.std.proofs.lemmas.List.Filters.{All-dedup}
use Rattle.std.proofs.lemmas.List.Kept.{Contains-dedup, IsStrictlySortedBy-dedup}
use Rattle.std.proofs.lemmas.List.Sorted.{All-permutation, Contains-permutation, ranks_by}
use Rattle.std.proofs.lemmas.Map.Lookups.{CmpEqualImpliesEq, exact_unsigned}
use Rattle.ats_bound.proofs.Public.{sorts}
use Rattle.ats_catalog_honest.specs.Ranking.{IsRankedBy, IsScored, Ranked, ranked_cmp}
use Rattle.ats_catalog_honest.proofs.Sorted.{same_elements}

-- ---- the order

pub ranked_cmp_total : IsTotalOrder ranked_cmp
ranked_cmp_total =
    then_total (then_total (on_total (λ (one : Ranked). one.score) (back_total nat_cmp_total)) (on_total (λ (one : Ranked). one.shard) nat_cmp_total))
    (on_total (λ (one : Ranked). one.doc) nat_cmp_total)

both_equal : (p q : Ordering) → ordering_then p q ≡ Equal → (p ≡ Equal) × (q ≡ Equal)
both_equal Less q is = absurd (cc)
both_equal Equal q is = (refl, is)
both_equal Greater q is = absurd (cc)

abbrev ranked_of : ℕ → ℕ → ℕ → Ranked
ranked_of shard doc score = record { shard = shard; doc = doc; score = score }

pub ranked_cmp_exact : CmpEqualImpliesEq ranked_cmp
ranked_cmp_exact a b is =
    let all = both_equal (ordering_then (nat_cmp b.score a.score) (nat_cmp a.shard b.shard)) (nat_cmp a.doc b.doc) is in
    let both = both_equal (nat_cmp b.score a.score) (nat_cmp a.shard b.shard) all.0 in
    let score : b.score ≡ a.score = exact_unsigned b.score a.score both.0 in
    let shard : a.shard ≡ b.shard = exact_unsigned a.shard b.shard both.1 in
    let doc : a.doc ≡ b.doc = exact_unsigned a.doc b.doc all.1 in
    ap (λ n. ranked_of n a.doc a.score) shard ∙ ap (λ n. ranked_of b.shard n a.score) doc ∙ ap (λ n. ranked_of b.shard b.doc n) (sym score)

equal_from : (p : Ordering) → is_eq p ≡ true → p ≡ Equal
equal_from Less is = absurd (cc)
equal_from Equal is = refl
equal_from Greater is = absurd (cc)

-- ---- the documents that score

module _ (size : ℕ → ℕ) (score_of : ℕ → ℕ → ℕ) where
  -- the one with this number
  abbrev one_of : ℕ → ℕ → Ranked
  one_of shard doc = ranked_of shard doc (score_of shard doc)

  -- those of the first documents of a shard
  abbrev scored : ℕ → ℕ → List Ranked
  scored shard zero = []
  scored shard (suc doc) = cond (nat_lt 0 (score_of shard doc)) (one_of shard doc ∷ scored shard doc) (scored shard doc)

  -- those of the first shards
  abbrev all_scored : ℕ → List Ranked
  all_scored zero = []
  all_scored (suc shard) = scored shard (size shard) ++ all_scored shard

  abbrev Is : Ranked → Type 0
  Is = IsScored size score_of

  are_scored : (shard n : ℕ) → n ≤ size shard → All Is (scored shard n)
  are_scored shard zero few = All-nil Is
  are_scored shard (suc doc) few =
      let later = are_scored shard doc (omega (arith, few)) in
      elim (cases_Bool (nat_lt 0 (score_of shard doc))) [
        | inl is ↦ subst (All Is) (sym (ap (λ b. cond b (one_of shard doc ∷ scored shard doc) (scored shard doc)) is))
            (All-cons Is (one_of shard doc) (scored shard doc) (record { inside = omega (arith, few); some = grind (arith, nat_tests); score = refl }) later)
        | inr not ↦ subst (All Is) (sym (ap (λ b. cond b (one_of shard doc ∷ scored shard doc) (scored shard doc)) not)) later
      ]

  all_are_scored : (shards : ℕ) → All Is (all_scored shards)
  all_are_scored zero = All-nil Is
  all_are_scored (suc shard) = All-append Is (scored shard (size shard)) (all_scored shard) (are_scored shard (size shard) (omega arith)) (all_are_scored shard)

  contained : (shard n doc : ℕ) → doc < n → 0 < score_of shard doc → Contains (scored shard n) (one_of shard doc)
  contained shard zero doc low some = absurd (omega (arith, low))
  contained shard (suc next) doc low some = elim (cases_order doc next) [
    | inl same ↦
        let is : nat_lt 0 (score_of shard doc) ≡ true = grind (arith, nat_tests) in
        subst (λ (n : ℕ). Contains (scored shard (suc n)) (one_of shard doc)) same
        (subst (λ (l : List Ranked). Contains l (one_of shard doc)) (sym (ap (λ b. cond b (one_of shard doc ∷ scored shard doc) (scored shard doc)) is)) (0, omega arith, refl))
    | inr (inr more) ↦ absurd (omega (arith, more, low))
    | inr (inl less) ↦
        let later : Contains (scored shard next) (one_of shard doc) = contained shard next doc less some in
        elim (cases_Bool (nat_lt 0 (score_of shard next))) [
          | inl is ↦ subst (λ (l : List Ranked). Contains l (one_of shard doc)) (sym (ap (λ b. cond b (one_of shard next ∷ scored shard next) (scored shard next)) is))
              (suc later.0, omega (arith, later.1), later.2)
          | inr not ↦ subst (λ (l : List Ranked). Contains l (one_of shard doc)) (sym (ap (λ b. cond b (one_of shard next ∷ scored shard next) (scored shard next)) not)) later
        ]
  ]

  all_contained : (shards shard doc : ℕ) → shard < shards → doc < size shard → 0 < score_of shard doc → Contains (all_scored shards) (one_of shard doc)
  all_contained zero shard doc there low some = absurd (omega (arith, there))
  all_contained (suc next) shard doc there low some = elim (cases_order shard next) [
    | inl same ↦
        subst (λ (n : ℕ). Contains (scored n (size n) ++ all_scored n) (one_of shard doc)) same
        (Contains-append_left (scored shard (size shard)) (all_scored shard) (one_of shard doc) (contained shard (size shard) doc low some))
    | inr (inr more) ↦ absurd (omega (arith, more, there))
    | inr (inl less) ↦ Contains-append_right (scored next (size next)) (all_scored next) (one_of shard doc) (all_contained next shard doc less low some)
  ]

  -- no shard after the first ones has a document
  pub ranking_exists : (shards : ℕ) → ((shard doc : ℕ) → doc < size shard → shard < shards) → (all : List Ranked) × IsRankedBy size score_of all
  ranking_exists shards only =
      let order = ranks_by ranked_cmp_total (λ (one : Ranked). one) in
      let sorted = sorts (λ (a : Ranked) (b : Ranked). is_lt (ranked_cmp a b)) order.one_way (all_scored shards) in (
        dedup (eq_by_cmp ranked_cmp) sorted.0,
        record {
          ordered = IsStrictlySortedBy-dedup ranked_cmp_total (λ x y. refl) sorted.0 sorted.2;
          each = All-dedup (eq_by_cmp ranked_cmp) Is sorted.0 (All-permutation Is (all_scored shards) sorted.0 sorted.1 (all_are_scored shards));
          whole = λ one is.
              let same : one_of one.shard one.doc ≡ one = ap (ranked_of one.shard one.doc) (sym is.score) in
              let there : Contains (all_scored shards) (one_of one.shard one.doc) =
              all_contained shards one.shard one.doc (only one.shard one.doc is.inside) is.inside (omega (arith, is.some, is.score)) in
              Contains-dedup (eq_by_cmp_equiv ranked_cmp_total) (λ x y tied. ranked_cmp_exact x y (equal_from (ranked_cmp x y) tied)) sorted.0 one
              (Contains-permutation (all_scored shards) sorted.0 one sorted.1 (subst (Contains (all_scored shards)) same there));
        },
      )

  pub one_ranking : (xs ys : List Ranked) → IsRankedBy size score_of xs → IsRankedBy size score_of ys → xs ≡ ys
  one_ranking xs ys first second =
      same_elements ranked_cmp ranked_cmp_total ranked_cmp_exact xs ys first.ordered second.ordered
      (λ k d low. second.whole (get_or xs k d) (first.each k d low)) (λ k d low. first.whole (get_or ys k d) (second.each k d low))
