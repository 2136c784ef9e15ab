-- The rows of the documents of one shard that score: one for each, with its score.
use Rattle.std.proofs.Common.{◌≡◌, ◌∙◌, ◌+◌, ◌<◌, ℕ, zero, suc, Bool, true, false, cond, nat_eq, nat_lt, List, [], ◌∷◌, length, get_or, refl, sym, ap, subst, arith}
use Rattle.std.specs.List.{All, Contains, IsDistinct}
use Rattle.std.proofs.lemmas.Bool.Decides.{nat_tests}
use Rattle.std.proofs.lemmas.List.Elements.{All-cons, All-nil, All-weaker, recursion_from_All}
use Rattle.std.proofs.lemmas.Map.Keys.{IsDistinct-cons}
use Rattle.ats_impact.specs.declared.rank.Row.{Row}
use Rattle.ats_impact.specs.Rank.{row_of, scored}
use Rattle.ats_impact.specs.Score.{score}

-- ---- one document more, which is there if it scores

kept_each : (P : Row → Type 0) (b : Bool) (row : Row) (more : List Row) → (b ≡ true → P row) → All P more → All P (cond b (row ∷ more) more)
kept_each P true row more is each = All-cons P row more (is refl) each
kept_each P false row more is each = each

kept_here : (b : Bool) (row : Row) (more : List Row) → b ≡ true → Contains (cond b (row ∷ more) more) row
kept_here true row more is = (0, omega arith, refl)
kept_here false row more is = absurd (cc)

kept_later : (b : Bool) (row : Row) (more : List Row) (x : Row) → Contains more x → Contains (cond b (row ∷ more) more) x
kept_later true row more x (k, low, same) = (suc k, omega (arith, low), same)
kept_later false row more x there = there

-- whether two rows are of one document
abbrev pub same_doc : Row → Row → Bool
same_doc a b = nat_eq a.doc b.doc

kept_distinct : (b : Bool) (row : Row) (more : List Row) → All (λ y. same_doc row y ≡ false) more → IsDistinct same_doc more → IsDistinct same_doc (cond b (row ∷ more) more)
kept_distinct true row more apart distinct = IsDistinct-cons same_doc row more (recursion_from_All (λ y. same_doc row y ≡ false) more apart) distinct
kept_distinct false row more apart distinct = distinct

module _ (texts : List (List ℕ)) (query : List (List ℕ × ℕ)) where
  abbrev score_at : List (List ℕ) → ℕ → ℕ
  score_at rest j = score texts query (get_or rest j [])

  -- the row of a document, if documents from k on are left
  abbrev IsRowFrom : ℕ → List (List ℕ) → Row → Type 0
  IsRowFrom k rest row = (j : ℕ) × (j < length rest) × (0 < score_at rest j) × (row ≡ row_of (k + j) (score_at rest j))

  row_on : (k : ℕ) (text : List ℕ) (rest : List (List ℕ)) (row : Row) → IsRowFrom (k + 1) rest row → IsRowFrom k (text ∷ rest) row
  row_on k text rest row (j, low, some, is) =
      let on : (k + 1) + j ≡ k + suc j = omega arith in
      (suc j, omega (arith, low), some, is ∙ ap (λ (n : ℕ). row_of n (score_at rest j)) on)

  rows_from : (k : ℕ) (rest : List (List ℕ)) → All (IsRowFrom k rest) (scored texts query k rest)
  rows_from k [] = All-nil (IsRowFrom k [])
  rows_from k (text ∷ rest) =
      let none : k ≡ k + 0 = omega arith in
      kept_each (IsRowFrom k (text ∷ rest)) (nat_lt 0 (score texts query text)) (row_of k (score texts query text)) (scored texts query (k + 1) rest)
      (λ is. (0, omega arith, grind (arith, nat_tests), ap (λ (n : ℕ). row_of n (score texts query text)) none))
      (All-weaker (IsRowFrom (k + 1) rest) (IsRowFrom k (text ∷ rest)) (row_on k text rest) (scored texts query (k + 1) rest) (rows_from (k + 1) rest))

  rows_there : (k : ℕ) (rest : List (List ℕ)) (j : ℕ) → j < length rest → 0 < score_at rest j → Contains (scored texts query k rest) (row_of (k + j) (score_at rest j))
  rows_there k [] j low some = absurd (omega (arith, low))
  rows_there k (text ∷ rest) zero low some =
      let is : nat_lt 0 (score texts query text) ≡ true = grind (arith, nat_tests) in
      let none : k ≡ k + 0 = omega arith in
      subst (λ (n : ℕ). Contains (scored texts query k (text ∷ rest)) (row_of n (score texts query text))) none
      (kept_here (nat_lt 0 (score texts query text)) (row_of k (score texts query text)) (scored texts query (k + 1) rest) is)
  rows_there k (text ∷ rest) (suc j) low some =
      let on : (k + 1) + j ≡ k + suc j = omega arith in
      kept_later (nat_lt 0 (score texts query text)) (row_of k (score texts query text)) (scored texts query (k + 1) rest) (row_of (k + suc j) (score_at rest j))
      (subst (λ (n : ℕ). Contains (scored texts query (k + 1) rest) (row_of n (score_at rest j))) on (rows_there (k + 1) rest j (omega (arith, low)) some))

  docs_apart : (k : ℕ) (rest : List (List ℕ)) → IsDistinct same_doc (scored texts query k rest)
  unfolding IsDistinct
  docs_apart k [] = tt
  docs_apart k (text ∷ rest) =
      let row : Row = row_of k (score texts query text) in
      kept_distinct (nat_lt 0 (score texts query text)) row (scored texts query (k + 1) rest)
      (All-weaker (IsRowFrom (k + 1) rest) (λ y. same_doc row y ≡ false) (λ y from.
      let doc : y.doc ≡ (k + 1) + from.0 = ap (λ (one : Row). one.doc) from.3 in
      grind (arith, nat_tests)) (scored texts query (k + 1) rest) (rows_from (k + 1) rest))
      (docs_apart (k + 1) rest)

  -- a row with its document's score, which is above 0
  pub record IsRowScored (row : Row) : Type 0 where
    pub inside : row.doc < length texts
    pub some : 0 < row.lower
    pub score : row.lower ≡ score_at texts row.doc

  pub all_scored : All IsRowScored (scored texts query 0 texts)
  all_scored =
      All-weaker (IsRowFrom 0 texts) IsRowScored (λ row from.
      let doc : row.doc ≡ from.0 = ap (λ (one : Row). one.doc) from.3 ∙ (omega arith) in
      let lower : row.lower ≡ score_at texts from.0 = ap (λ (one : Row). one.lower) from.3 in record {
        inside = omega (arith, doc, from.1);
        some = omega (arith, lower, from.2);
        score = lower ∙ ap (score_at texts) (sym doc);
      }) (scored texts query 0 texts) (rows_from 0 texts)

  pub scored_there : (doc : ℕ) → doc < length texts → 0 < score_at texts doc → Contains (scored texts query 0 texts) (row_of doc (score_at texts doc))
  scored_there doc low some =
      let same : 0 + doc ≡ doc = omega arith in
      subst (λ (n : ℕ). Contains (scored texts query 0 texts) (row_of n (score_at texts doc))) same (rows_there 0 texts doc low some)

  pub scored_apart : IsDistinct same_doc (scored texts query 0 texts)
  scored_apart = docs_apart 0 texts
