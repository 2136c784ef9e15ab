-- A cut has one list of brackets by document ascending.
use Rattle.std.proofs.Common.{◌≡◌, ◌≢◌, ◌<◌, ◌≤◌, ◌||◌, ℕ, zero, suc, true, false, nat_eq, List, [], ◌∷◌, length, map, get_or, refl, sym, ap, ap₂, ◌∙◌, arith, inl, inr}
use Rattle.std.specs.List.{All}
use Rattle.std.proofs.lemmas.Bool.{cases_order}
use Rattle.std.proofs.lemmas.Bool.Decides.{nat_tests}
use Rattle.std.proofs.lemmas.List.Elements.{All-head, All-tail}
use Rattle.ats_impact.specs.Rank.{times}
use Rattle.ats_bound.specs.declared.bracket.Bracket.{Bracket}
use Rattle.ats_bound.specs.Cut.{ShownLane}
use Rattle.ats_bound.specs.Settled.{HaveDistinctDocs, bracket_at}
use Rattle.ats_bound.specs.Chosen.{AreBrackets}
use Rattle.ats_bound.specs.Schedule.{AreBracketsBy, Bounding, has_bracket}
use Rattle.ats_bound.proofs.Places.{times-cons}

-- documents rise strictly
abbrev pub Rise : List Bracket → Type 0
Rise brackets = (i j : ℕ) → i < j → j < length brackets → (bracket_at brackets i).doc < (bracket_at brackets j).doc

tail_rises : (b : Bracket) (brackets : List Bracket) → Rise (b ∷ brackets) → Rise brackets
tail_rises b brackets rise i j less inside = rise (suc i) (suc j) (omega (arith, less)) (omega (arith, inside))

tail_above : (b : Bracket) (brackets : List Bracket) → Rise (b ∷ brackets) → (i : ℕ) → i < length brackets → b.doc < (bracket_at brackets i).doc
tail_above b brackets rise i inside = rise 0 (suc i) (omega arith) (omega (arith, inside))

pub other_doc : (m n : ℕ) → m ≢ n → nat_eq m n ≡ false
other_doc m n differ = grind (arith, nat_tests)

pub same_doc : (m n : ℕ) → m ≡ n → nat_eq m n ≡ true
same_doc m n same = grind (arith, nat_tests)

-- a document below or above all others has no bracket
pub no_bracket : (doc : ℕ) (brackets : List Bracket) → ((i : ℕ) → i < length brackets → (bracket_at brackets i).doc ≢ doc) → has_bracket doc brackets ≡ false
no_bracket doc [] differ = refl
no_bracket doc (b ∷ brackets) differ =
    let here : nat_eq b.doc doc ≡ false = other_doc b.doc doc (differ 0 (omega arith)) in
    let later : has_bracket doc brackets ≡ false = no_bracket doc brackets (λ i inside. differ (suc i) (omega (arith, inside))) in
    ap₂ (λ x y. x || y) here later

pub below_all : (doc : ℕ) (brackets : List Bracket) → ((i : ℕ) → i < length brackets → doc < (bracket_at brackets i).doc) → has_bracket doc brackets ≡ false
below_all doc brackets low = no_bracket doc brackets (λ i inside same. omega (arith, low i inside, same))

pub first_has : (b : Bracket) (brackets : List Bracket) → has_bracket b.doc (b ∷ brackets) ≡ true
first_has b brackets = ap (λ x. x || has_bracket b.doc brackets) (same_doc b.doc b.doc refl)

least_of : (a b : Bracket) (xs ys : List Bracket) → Rise (b ∷ ys) → a.doc < b.doc
    → has_bracket a.doc (a ∷ xs) ≡ has_bracket a.doc (b ∷ ys) → ⊥
least_of a b xs ys rise less same =
    let none : has_bracket a.doc (b ∷ ys) ≡ false = below_all a.doc (b ∷ ys) (above) in
    let clash : true ≡ false = sym (first_has a xs) ∙ same ∙ none in
    absurd (cc)
  where
    above : (i : ℕ) → i < length (b ∷ ys) → a.doc < (bracket_at (b ∷ ys) i).doc
    above zero inside = less
    above (suc i) inside = omega (arith, less, tail_above b ys rise i (omega (arith, inside)))

heads : (a b : Bracket) (xs ys : List Bracket) → Rise (a ∷ xs) → Rise (b ∷ ys)
    → ((doc : ℕ) → has_bracket doc (a ∷ xs) ≡ has_bracket doc (b ∷ ys)) → a.doc ≡ b.doc
heads a b xs ys first second same = elim (cases_order a.doc b.doc) [
  | inl is ↦ is
  | inr other ↦ elim other [
    | inl less ↦ absurd (least_of a b xs ys second less (same a.doc))
    | inr greater ↦ absurd (least_of b a ys xs first greater (sym (same b.doc)))
  ]
]

tails : (a b : Bracket) (xs ys : List Bracket) → Rise (a ∷ xs) → Rise (b ∷ ys) → a.doc ≡ b.doc
    → ((doc : ℕ) → has_bracket doc (a ∷ xs) ≡ has_bracket doc (b ∷ ys)) → (doc : ℕ) → has_bracket doc xs ≡ has_bracket doc ys
tails a b xs ys first second is same doc = elim (cases_order a.doc doc) [
  | inl here ↦
      let one : has_bracket doc xs ≡ false = below_all doc xs (λ i inside. omega (arith, here, tail_above a xs first i inside)) in
      let two : has_bracket doc ys ≡ false = below_all doc ys (λ i inside. omega (arith, here, is, tail_above b ys second i inside)) in
      one ∙ sym two
  | inr other ↦
      let differ : a.doc ≢ doc = λ e. elim other [ inl less ↦ omega (arith, e, less) | inr greater ↦ omega (arith, e, greater) ] in
      let no_first : nat_eq a.doc doc ≡ false = other_doc a.doc doc differ in
      let no_second : nat_eq b.doc doc ≡ false = other_doc b.doc doc (λ e. differ (is ∙ e)) in
      sym (ap (λ x. x || has_bracket doc xs) no_first) ∙ same doc ∙ ap (λ x. x || has_bracket doc ys) no_second
]

one_list : (bounds : Bounding) (lanes : List ShownLane) (xs ys : List Bracket) → Rise xs → Rise ys → ((doc : ℕ) → has_bracket doc xs ≡ has_bracket doc ys)
    → All (λ (b : Bracket). b ≡ bounds lanes b.doc) xs → All (λ (b : Bracket). b ≡ bounds lanes b.doc) ys → xs ≡ ys
one_list bounds lanes [] [] first second same left right = refl
one_list bounds lanes [] (b ∷ ys) first second same left right =
    let clash : false ≡ true = same b.doc ∙ first_has b ys in
    absurd (cc)
one_list bounds lanes (a ∷ xs) [] first second same left right =
    let clash : true ≡ false = sym (first_has a xs) ∙ same a.doc in
    absurd (cc)
one_list bounds lanes (a ∷ xs) (b ∷ ys) first second same left right =
    let is : a.doc ≡ b.doc = heads a b xs ys first second same in
    let here : a ≡ bounds lanes a.doc = All-head (λ (b : Bracket). b ≡ bounds lanes b.doc) a xs left in
    let there : b ≡ bounds lanes b.doc = All-head (λ (b : Bracket). b ≡ bounds lanes b.doc) b ys right in
    let rest : xs ≡ ys = one_list bounds lanes xs ys (tail_rises a xs first) (tail_rises b ys second) (tails a b xs ys first second is same)
    (All-tail (λ (b : Bracket). b ≡ bounds lanes b.doc) a xs left) (All-tail (λ (b : Bracket). b ≡ bounds lanes b.doc) b ys right) in
    ap₂ (λ head rest. head ∷ rest) (here ∙ ap (bounds lanes) is ∙ sym there) rest

-- two lists of the brackets of a cut are one
pub one_bracketing : (bounds : Bounding) (lanes : List ShownLane) (xs ys : List Bracket) → AreBracketsBy bounds lanes xs → AreBracketsBy bounds lanes ys → xs ≡ ys
one_bracketing bounds lanes xs ys first second = one_list bounds lanes xs ys first.rise second.rise (λ doc. first.met doc ∙ sym (second.met doc)) first.each second.each

none_below : (doc : ℕ) (brackets : List Bracket) → ((i : ℕ) → i < length brackets → doc < (bracket_at brackets i).doc) → times doc (map (λ (b : Bracket). b.doc) brackets) ≡ 0
none_below doc [] low = refl
none_below doc (b ∷ brackets) low =
    let first : doc < b.doc = low 0 (omega arith) in
    let no : nat_eq b.doc doc ≡ false = other_doc b.doc doc (λ e. omega (arith, e, first)) in
    let step = times-cons doc b.doc (map (λ (b : Bracket). b.doc) brackets) in
    omega (arith, rw no at step, none_below doc brackets (λ i inside. low (suc i) (omega (arith, inside))))

-- documents that rise are distinct
pub risen_are_distinct : (brackets : List Bracket) → Rise brackets → HaveDistinctDocs brackets
risen_are_distinct [] rise doc = omega arith
risen_are_distinct (b ∷ brackets) rise doc =
    let step = times-cons doc b.doc (map (λ (b : Bracket). b.doc) brackets) in
    elim (cases_order b.doc doc) [
      | inl is ↦
          let yes : nat_eq b.doc doc ≡ true = same_doc b.doc doc is in
          omega (arith, rw yes at step, none_below doc brackets (λ i inside. omega (arith, is, tail_above b brackets rise i inside)))
      | inr other ↦
          let differ : b.doc ≢ doc = λ e. elim other [ inl less ↦ omega (arith, e, less) | inr greater ↦ omega (arith, e, greater) ] in
          let no : nat_eq b.doc doc ≡ false = other_doc b.doc doc differ in
          omega (arith, rw no at step, risen_are_distinct brackets (tail_rises b brackets rise) doc)
    ]

-- no lower bound is above its upper bound, if none is as they are formed
pub are_brackets : (bounds : Bounding) (lanes : List ShownLane) (brackets : List Bracket) → ((doc : ℕ) → (bounds lanes doc).lo ≤ (bounds lanes doc).hi)
    → AreBracketsBy bounds lanes brackets → AreBrackets brackets
are_brackets bounds lanes brackets proper of i d inside =
    let is : get_or brackets i d ≡ bounds lanes (get_or brackets i d).doc = of.each i d inside in
    omega (arith, ap (λ (b : Bracket). b.lo) is, ap (λ (b : Bracket). b.hi) is, proper (get_or brackets i d).doc)
