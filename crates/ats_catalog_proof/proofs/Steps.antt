-- One shard more: the first rows of a catalog with it are the first of its own and of those before.
use Rattle.std.proofs.Common.{◌≡◌, ◌∙◌, ◌⊎◌, ◌+◌, ◌-◌, ◌<◌, ◌≤◌, ◌++◌, ◌∷◌, ℕ, Bool, true, false, cond, nat_eq, List, [], length, take, get_or, refl, sym, ap, subst, inl, inr, arith}
use Rattle.std.specs.List.{All, Contains, IsDistinct, count_by}
use Rattle.std.specs.List.Sorted.{IsPermutation, IsSorted, IsStrictlySortedBy}
use Rattle.std.specs.Ordering.{eq_by_cmp, is_eq, is_lt, nat_cmp, ordering_then}
use Rattle.std.specs.declared.cmp.Ordering.{Ordering}
use Rattle.std.specs.declared.cmp.Ordering.TheVariants.{Less, Equal, Greater}
use Rattle.std.proofs.lemmas.Bool.{cases_Bool, cases_lt}
use Rattle.std.proofs.lemmas.Bool.Decides.{nat_tests}
use Rattle.std.proofs.lemmas.Cmp.{eq_by_cmp_equiv}
use Rattle.std.proofs.lemmas.List.{get_or-append_right, get_or-map, get_or_append_left, length-append, length-map, map-append, take-map, take_all}
use Rattle.std.proofs.lemmas.List.Elements.{All-append, All-map, All-nil, All-push, All-take, All-weaker, Contains-append_left, Contains-append_right}
use Rattle.std.proofs.lemmas.List.Sorted.{All-permutation, Contains-permutation, sum_by-IsPermutation}
use Rattle.std.proofs.lemmas.List.Sums.{sum_by-append}
use Rattle.std.proofs.lemmas.Map.Keys.{IsDistinct-IsPermutation, IsDistinct-from_apart, IsDistinct-from_sorted, apart_from_distinct}
use Rattle.ats_terms.specs.Query.{IsQuery}
use Rattle.ats_impact.specs.declared.rank.Row.{Row}
use Rattle.ats_impact.specs.Rank.{IsRanking, row_cmp, row_of, scored}
use Rattle.ats_impact.specs.Score.{score}
use Rattle.ats_commit.specs.Archive.{Archive, archive_of}
use Rattle.ats_commit.specs.Own.{AreTexts}
use Rattle.ats_commit.specs.Root.{root_of}
use Rattle.ats_catalog_bytes.specs.Catalog.{archive_at}
use Rattle.ats_catalog_check.specs.Headline.{score_in, size_in}
use Rattle.ats_catalog_honest.specs.Ranking.{IsRankedBy, IsScored, Ranked, ranked_cmp}
use Rattle.ats_catalog_honest.proofs.Public.{is_there, ranked_cmp_exact, ranked_cmp_total, ranking_exists, strictly_sorted}
use Rattle.ats_catalog_proof.specs.Inner.First.{AreFirst, in_shard, ranked_in}
use Rattle.ats_catalog_proof.specs.Ranking.{HasRanked, IsRankingOf}
use Rattle.ats_catalog_proof.specs.RankingState.{RankingState}
use Rattle.ats_catalog_proof.proofs.Scoring.{IsRowScored, all_scored, same_doc, scored_apart, scored_there}
use Rattle.ats_catalog_proof.proofs.Taking.{Reach, ahead, distinct_both, distinct_take, reached, same_first}

none : Ranked
none = record { shard = 0; doc = 0; score = 0 }

no_row : Row
no_row = row_of 0 0

-- ---- the order of rows

equal_from : (p : Ordering) → is_eq p ≡ true → p ≡ Equal
equal_from Less is = absurd (cc)
equal_from Equal is = refl
equal_from Greater is = absurd (cc)

differ : (x y : Ranked) → (x ≡ y → ⊥) → eq_by_cmp ranked_cmp x y ≡ false
differ x y not = elim (cases_Bool (eq_by_cmp ranked_cmp x y)) [
  | inl is ↦ absurd (not (ranked_cmp_exact x y (equal_from (ranked_cmp x y) is)))
  | inr other ↦ other
]

then_equal : (p q : Ordering) → q ≡ Equal → ordering_then p q ≡ p
then_equal Less q is = refl
then_equal Equal q is = is
then_equal Greater q is = refl

level : (n : ℕ) → nat_cmp n n ≡ Equal
level n = grind (arith, nat_tests)

-- rows of one shard are in the order of its own ranking
same_order : (n : ℕ) (a b : Row) → ranked_cmp (ranked_in n a) (ranked_in n b) ≡ row_cmp a b
same_order n a b =
    ap (λ (p : Ordering). ordering_then p (nat_cmp a.doc b.doc)) (then_equal (nat_cmp b.lower a.lower) (nat_cmp n n) (level n))

other_rows : (n : ℕ) (a b : Row) → same_doc a b ≡ false → eq_by_cmp ranked_cmp (ranked_in n a) (ranked_in n b) ≡ false
other_rows n a b apart = differ (ranked_in n a) (ranked_in n b) (λ same.
    let doc : a.doc ≡ b.doc = ap (λ (one : Ranked). one.doc) same in
    let yes : nat_eq a.doc b.doc ≡ true = grind (arith, nat_tests) in
    absurd (cc))

-- ---- lists

contains_map : (n : ℕ) (rows : List Row) (row : Row) → Contains rows row → Contains (in_shard n rows) (ranked_in n row)
contains_map n rows row (k, low, is) =
    (k, omega (arith, low, length-map rows (ranked_in n)), get_or-map (ranked_in n) rows k row (ranked_in n row) low ∙ ap (ranked_in n) is)

count_both : (p : Ranked → Bool) (a b all : List Ranked) → IsPermutation (a ++ b) all → count_by p all ≡ count_by p a + count_by p b
count_both p a b all same = sum_by-IsPermutation (λ y. cond (p y) 1 0) (a ++ b) all same ∙ sum_by-append (λ y. cond (p y) 1 0) a b

-- ---- the rows of one shard

module _ (n : ℕ) (texts : List (List ℕ)) (query : List (List ℕ × ℕ)) (all : List Row) (same : IsPermutation (scored texts query 0 texts) all) (ordered : IsSorted row_cmp all) where
  own_at : (k : ℕ) (d : Ranked) → k < length all → get_or (in_shard n all) k d ≡ ranked_in n (get_or all k no_row)
  own_at k d low = get_or-map (ranked_in n) all k no_row d low

  own_distinct : IsDistinct (eq_by_cmp ranked_cmp) (in_shard n all)
  own_distinct =
      let flips : (x y : Row) → same_doc x y ≡ same_doc y x = λ x y. grind (arith, nat_tests) in
      let docs : IsDistinct same_doc all = IsDistinct-IsPermutation same_doc flips (scored texts query 0 texts) all same (scored_apart texts query) in
      IsDistinct-from_apart (eq_by_cmp ranked_cmp) (in_shard n all) (λ i j d low inside.
      let there : j < length all = omega (arith, inside, length-map all (ranked_in n)) in
      let first : get_or (in_shard n all) i d ≡ ranked_in n (get_or all i no_row) = own_at i d (omega (arith, low, there)) in
      let second : get_or (in_shard n all) j d ≡ ranked_in n (get_or all j no_row) = own_at j d there in
      ap (λ (x : Ranked). eq_by_cmp ranked_cmp x (get_or (in_shard n all) j d)) first
      ∙ ap (λ (y : Ranked). eq_by_cmp ranked_cmp (ranked_in n (get_or all i no_row)) y) second
      ∙ other_rows n (get_or all i no_row) (get_or all j no_row) (apart_from_distinct same_doc all i j no_row docs low there))

  own_rises : IsStrictlySortedBy ranked_cmp (in_shard n all)
  own_rises = strictly_sorted ranked_cmp ranked_cmp_total (in_shard n all) none own_distinct (λ k d low inside.
      let there : k + 1 < length all = omega (arith, inside, length-map all (ranked_in n)) in
      let first : get_or (in_shard n all) (k + 1) d ≡ ranked_in n (get_or all (k + 1) no_row) = own_at (k + 1) d there in
      let second : get_or (in_shard n all) k d ≡ ranked_in n (get_or all k no_row) = own_at k d (omega (arith, there)) in
      ap (λ (x : Ranked). is_lt (ranked_cmp x (get_or (in_shard n all) k d))) first
      ∙ ap (λ (y : Ranked). is_lt (ranked_cmp (ranked_in n (get_or all (k + 1) no_row)) y)) second
      ∙ ap is_lt (same_order n (get_or all (k + 1) no_row) (get_or all k no_row))
      ∙ ordered k no_row low there)

  own_each : (P : Ranked → Type 0) → ((row : Row) → IsRowScored texts query row → P (ranked_in n row)) → All P (in_shard n all)
  own_each P each =
      All-map P (ranked_in n) all
      (All-weaker (IsRowScored texts query) (λ row. P (ranked_in n row)) each all (All-permutation (IsRowScored texts query) (scored texts query 0 texts) all same (all_scored texts query)))

  own_there : (doc : ℕ) → doc < length texts → 0 < score texts query (get_or texts doc []) → Contains (in_shard n all) (ranked_in n (row_of doc (score texts query (get_or texts doc []))))
  own_there doc low some =
      let row : Row = row_of doc (score texts query (get_or texts doc [])) in
      contains_map n all row (Contains-permutation (scored texts query 0 texts) all row same (scored_there texts query doc low some))

-- ---- the rows of a catalog with one shard more

module _ (catalog : List Archive) (archive : Archive) (query : List (List ℕ × ℕ)) where
  abbrev more : List Archive
  more = catalog ++ archive ∷ []

  abbrev n : ℕ
  n = length catalog

  abbrev Old : Ranked → Type 0
  Old = IsScored (size_in catalog) (score_in catalog query)

  abbrev New : Ranked → Type 0
  New = IsScored (size_in more) (score_in more query)

  old_archive : (shard : ℕ) → shard < n → archive_at more shard ≡ archive_at catalog shard
  old_archive shard low = get_or_append_left catalog (archive ∷ []) (archive_of []) shard low

  new_archive : archive_at more n ≡ archive
  new_archive =
      let start : n - n ≡ 0 = omega arith in
      get_or-append_right catalog (archive ∷ []) n n (archive_of []) refl (omega arith) ∙ ap (λ (k : ℕ). get_or (archive ∷ []) k (archive_of [])) start

  scored_on : (one : Ranked) → Old one → New one
  scored_on one is =
      let same = old_archive one.shard (is_there catalog one.shard one.doc is.inside) in record {
        inside = omega (arith, is.inside, ap (λ (a : Archive). length a.texts) same);
        some = is.some;
        score = is.score ∙ ap (λ (a : Archive). score a.texts query (get_or a.texts one.doc [])) (sym same);
      }

  scored_back : (one : Ranked) → one.shard < n → New one → Old one
  scored_back one low is =
      let same = old_archive one.shard low in record {
        inside = omega (arith, is.inside, ap (λ (a : Archive). length a.texts) same);
        some = is.some;
        score = is.score ∙ ap (λ (a : Archive). score a.texts query (get_or a.texts one.doc [])) same;
      }

  own_on : (row : Row) → IsRowScored archive.texts query row → New (ranked_in n row)
  own_on row is = record {
    inside = omega (arith, is.inside, ap (λ (a : Archive). length a.texts) new_archive);
    some = is.some;
    score = is.score ∙ ap (λ (a : Archive). score a.texts query (get_or a.texts row.doc [])) (sym new_archive);
  }

  -- the row of a document of the new shard
  own_row : (one : Ranked) → one.shard ≡ n → New one
      → (one.doc < length archive.texts) × (0 < score archive.texts query (get_or archive.texts one.doc []))
      × (ranked_in n (row_of one.doc (score archive.texts query (get_or archive.texts one.doc []))) ≡ one)
  own_row one own is =
      let at : archive_at more one.shard ≡ archive = ap (archive_at more) own ∙ new_archive in
      let points : one.score ≡ score archive.texts query (get_or archive.texts one.doc []) =
      is.score ∙ ap (λ (a : Archive). score a.texts query (get_or a.texts one.doc [])) at in (
        omega (arith, is.inside, ap (λ (a : Archive). length a.texts) at),
        omega (arith, is.some, points),
        λ i. record { shard = sym own i; doc = one.doc; score = sym points i },
      )

  module _ (r : ℕ) (found : List Row) (whole : List Ranked) (ranked : IsRankedBy (size_in catalog) (score_in catalog query) whole)
      (own : IsRanking archive.texts query r found) (rows : List Ranked) (first : AreFirst r (take r whole ++ in_shard n found) rows) where
    abbrev mine : List Ranked
    mine = in_shard n own.all

    abbrev some : List Ranked
    some = first.all

    shown : in_shard n found ≡ take r mine
    shown = ap (in_shard n) own.first ∙ sym (take-map (ranked_in n) r own.all)

    same : IsPermutation (take r whole ++ take r mine) some
    same = subst (λ (xs : List Ranked). IsPermutation (take r whole ++ xs) some) shown first.same

    next : (all : List Ranked) × IsRankedBy (size_in more) (score_in more query) all
    next = ranking_exists (size_in more) (score_in more query) (length more) (is_there more)

    mine_rises : IsStrictlySortedBy ranked_cmp mine
    mine_rises = own_rises n archive.texts query own.all own.same own.ordered

    each : All (Contains next.0) some
    each =
        All-permutation (Contains next.0) (take r whole ++ take r mine) some same
        (All-append (Contains next.0) (take r whole) (take r mine)
        (All-take (Contains next.0) r whole (λ k d low. next.1.whole (get_or whole k d) (scored_on (get_or whole k d) (ranked.each k d low))))
        (All-take (Contains next.0) r mine (own_each n archive.texts query own.all own.same own.ordered (Contains next.0) (λ row is. next.1.whole (ranked_in n row) (own_on row is)))))

    apart : All (λ (x : Ranked). All (λ (y : Ranked). eq_by_cmp ranked_cmp x y ≡ false) (take r mine)) (take r whole)
    apart =
        let before : All (λ (x : Ranked). x.shard < n) (take r whole) =
        All-take (λ (x : Ranked). x.shard < n) r whole (λ k d low. is_there catalog (get_or whole k d).shard (get_or whole k d).doc (ranked.each k d low).inside) in
        let here : All (λ (y : Ranked). y.shard ≡ n) (take r mine) =
        All-take (λ (y : Ranked). y.shard ≡ n) r mine (own_each n archive.texts query own.all own.same own.ordered (λ (y : Ranked). y.shard ≡ n) (λ row is. refl)) in
        λ k d low i e inside.
        let x : Ranked = get_or (take r whole) k d in
        let y : Ranked = get_or (take r mine) i e in
        differ x y (λ equal. absurd (omega (arith, before k d low, here i e inside, ap (λ (one : Ranked). one.shard) equal)))

    some_rises : IsStrictlySortedBy ranked_cmp some
    some_rises =
        let given : IsDistinct (eq_by_cmp ranked_cmp) (take r whole ++ take r mine) =
        distinct_both (eq_by_cmp ranked_cmp) (take r whole) (take r mine)
        (distinct_take (eq_by_cmp ranked_cmp) whole r (IsDistinct-from_sorted ranked_cmp whole ranked.ordered))
        (distinct_take (eq_by_cmp ranked_cmp) mine r (own_distinct n archive.texts query own.all own.same own.ordered)) apart in
        strictly_sorted ranked_cmp ranked_cmp_total some none
        (IsDistinct-IsPermutation (eq_by_cmp ranked_cmp) (eq_by_cmp_equiv ranked_cmp_total).symm (take r whole ++ take r mine) some same given) first.ordered

    left : (x : Ranked) → Contains (take r whole) x ⊎ (r ≤ count_by (ahead ranked_cmp ranked_cmp_total x) (take r whole))
        → Contains some x ⊎ (r ≤ count_by (ahead ranked_cmp ranked_cmp_total x) some)
    left x either = elim either [
      | inl there ↦ inl (Contains-permutation (take r whole ++ take r mine) some x same (Contains-append_left (take r whole) (take r mine) x there))
      | inr many ↦ inr (omega (arith, many, count_both (ahead ranked_cmp ranked_cmp_total x) (take r whole) (take r mine) some same))
    ]

    right : (x : Ranked) → Contains (take r mine) x ⊎ (r ≤ count_by (ahead ranked_cmp ranked_cmp_total x) (take r mine))
        → Contains some x ⊎ (r ≤ count_by (ahead ranked_cmp ranked_cmp_total x) some)
    right x either = elim either [
      | inl there ↦ inl (Contains-permutation (take r whole ++ take r mine) some x same (Contains-append_right (take r whole) (take r mine) x there))
      | inr many ↦ inr (omega (arith, many, count_both (ahead ranked_cmp ranked_cmp_total x) (take r whole) (take r mine) some same))
    ]

    reach : Reach ranked_cmp ranked_cmp_total next.0 some r
    reach x (k, low, is) =
        let new : New x = subst New is (next.1.each k x low) in
        elim (cases_lt x.shard n) [
          | inl old ↦ left x (reached ranked_cmp ranked_cmp_total whole r ranked.ordered x (ranked.whole x (scored_back x old new)))
          | inr past ↦
              let inside : x.shard < length more = is_there more x.shard x.doc new.inside in
              let row = own_row x (omega (arith, past, inside, length-append catalog (archive ∷ []))) new in
              right x (reached ranked_cmp ranked_cmp_total mine r mine_rises x
              (subst (Contains mine) row.2 (own_there n archive.texts query own.all own.same own.ordered x.doc row.0 row.1)))
        ]

    pub first_more : (all : List Ranked) × IsRankedBy (size_in more) (score_in more query) all × (rows ≡ take r all)
    first_more = (next.0, next.1, first.first ∙ same_first ranked_cmp ranked_cmp_total next.0 some r next.1.ordered some_rises each reach)

-- ---- a ranking that takes an index

module _ (H : List ℕ → List ℕ) where
  -- no shard yet
  pub none_ranked : (query : List (List ℕ × ℕ)) (r : ℕ) → IsQuery query → IsRankingOf H [] query r (record { query = query; r = r; roots = []; rows = [] })
  unfolding IsStrictlySortedBy
  none_ranked query r valid = record {
    asked = refl;
    valid = valid;
    most = refl;
    texts = All-nil (λ (archive : Archive). AreTexts archive.texts);
    roots = refl;
    ranking = [];
    ranked = record {
      ordered = tt;
      each = All-nil (IsScored (size_in []) (score_in [] query));
      whole = λ one is. absurd (omega (arith, is_there [] one.shard one.doc is.inside));
    };
    rows = sym (take_all (r + 1) [] (omega arith));
  }

  abbrev pub taken : RankingState → List (List ℕ) → List Ranked → RankingState
  taken old roots rows = record { query = old.query; r = old.r; roots = roots; rows = rows }

  pub one_ranked : (archive : Archive) (old : RankingState) (root : List ℕ) (roots : List (List ℕ)) (rows : List Ranked) (found : List Row) → AreTexts archive.texts
      → root ≡ root_of H archive → roots ≡ old.roots ++ root ∷ [] → IsRanking archive.texts old.query (old.r + 1) found
      → AreFirst (old.r + 1) (old.rows ++ in_shard (length old.roots) found) rows → HasRanked H archive old (taken old roots rows)
  one_ranked archive old root roots rows found texts is_root pushed found_is first = record {
    roots = pushed ∙ ap (λ (d : List ℕ). old.roots ++ d ∷ []) is_root;
    goes = λ catalog query r is.
        let size : length old.roots ≡ length catalog = ap length is.roots ∙ length-map catalog (root_of H) in
        let own : IsRanking archive.texts query (r + 1) found =
        subst (λ (q : List (List ℕ × ℕ)). IsRanking archive.texts q (r + 1) found) is.asked (subst (λ (t : ℕ). IsRanking archive.texts old.query (t + 1) found) is.most found_is) in
        let front : AreFirst (r + 1) (take (r + 1) is.ranking ++ in_shard (length catalog) found) rows =
        subst (λ (xs : List Ranked). AreFirst (r + 1) (xs ++ in_shard (length catalog) found) rows) is.rows
        (subst (λ (n : ℕ). AreFirst (r + 1) (old.rows ++ in_shard n found) rows) size
        (subst (λ (t : ℕ). AreFirst (t + 1) (old.rows ++ in_shard (length old.roots) found) rows) is.most first)) in
        let next = first_more catalog archive query (r + 1) found is.ranking is.ranked own rows front in record {
          asked = is.asked;
          valid = is.valid;
          most = is.most;
          texts = All-push (λ (a : Archive). AreTexts a.texts) catalog archive is.texts texts;
          roots = pushed ∙ ap (λ (d : List ℕ). old.roots ++ d ∷ []) is_root ∙ ap (λ (rs : List (List ℕ)). rs ++ root_of H archive ∷ []) is.roots ∙ sym (map-append (root_of H) catalog (archive ∷ []));
          ranking = next.0;
          ranked = next.1;
          rows = next.2;
        };
  }
