-- A cut has a list of brackets by document ascending, however brackets are formed.
use Rattle.std.proofs.Common.{◌≡◌, ◌<◌, ◌≤◌, ◌+◌, ◌||◌, ℕ, zero, suc, Bool, true, false, nat_eq, cond, List, [], ◌∷◌, length, refl, sym, ap, ◌∙◌, arith, inl, inr}
use Rattle.std.specs.List.{All, list_any, sum_by}
use Rattle.std.proofs.lemmas.Bool.{cases_Bool, cases_order, or_cases, eqb-true}
use Rattle.std.proofs.lemmas.List.Elements.{All-cons}
use Rattle.std.proofs.lemmas.List.Sums.{sum_by-cons}
use Rattle.ats_postings.specs.declared.entry.Entry.{Entry}
use Rattle.ats_bound.specs.declared.bracket.Bracket.{Bracket}
use Rattle.ats_bound.specs.Cut.{ShownLane, names}
use Rattle.ats_bound.specs.Settled.{bracket_at}
use Rattle.ats_bound.specs.Schedule.{AreBracketsBy, Bounding, has_bracket}
use Rattle.ats_bound.proofs.One.{Rise, below_all, other_doc, same_doc}

module _ (met : ℕ → Bool) (of : ℕ → Bracket) (own : (doc : ℕ) → (of doc).doc ≡ doc) where
  -- the brackets of the n documents from a on that are met
  abbrev gathered : ℕ → ℕ → List Bracket
  gathered a zero = []
  gathered a (suc n) = cond (met a) (of a ∷ gathered (suc a) n) (gathered (suc a) n)

  -- the same, with a flag for whether the first is met
  abbrev from : ℕ → ℕ → Bool → List Bracket
  from a n here = cond here (of a ∷ gathered (suc a) n) (gathered (suc a) n)

  abbrev AreFrom : ℕ → List Bracket → Type 0
  AreFrom a brackets = (k : ℕ) → k < length brackets → a ≤ (bracket_at brackets k).doc

  after_from : (a n : ℕ) (here : Bool) → AreFrom (suc a) (gathered (suc a) n) → AreFrom a (from a n here)
  after_from a n true later zero inside = omega (arith, own a)
  after_from a n true later (suc k) inside = omega (arith, later k (omega (arith, inside)))
  after_from a n false later k inside = omega (arith, later k inside)

  all_from : (a n : ℕ) → AreFrom a (gathered a n)
  all_from a zero k inside = absurd (omega (arith, inside))
  all_from a (suc n) k inside = after_from a n (met a) (all_from (suc a) n) k inside

  rises_from : (a n : ℕ) (here : Bool) → Rise (gathered (suc a) n) → Rise (from a n here)
  rises_from a n true later i zero less inside = absurd (omega (arith, less))
  rises_from a n true later zero (suc j) less inside = omega (arith, own a, all_from (suc a) n j (omega (arith, inside)))
  rises_from a n true later (suc i) (suc j) less inside = later i j (omega (arith, less)) (omega (arith, inside))
  rises_from a n false later i j less inside = later i j less inside

  rises : (a n : ℕ) → Rise (gathered a n)
  rises a zero i j less inside = absurd (omega (arith, inside))
  rises a (suc n) i j less inside = rises_from a n (met a) (rises (suc a) n) i j less inside

  abbrev IsFormed : Bracket → Type 0
  IsFormed b = b ≡ of b.doc

  formed_from : (a n : ℕ) (here : Bool) → All IsFormed (gathered (suc a) n) → All IsFormed (from a n here)
  formed_from a n true later = All-cons IsFormed (of a) (gathered (suc a) n) (ap of (sym (own a))) later
  formed_from a n false later = later

  formed : (a n : ℕ) → All IsFormed (gathered a n)
  formed a zero i d inside = absurd (omega (arith, inside))
  formed a (suc n) i d inside = formed_from a n (met a) (formed (suc a) n) i d inside

  has_here : (a n doc : ℕ) (here : Bool) → here ≡ met a → a ≡ doc → has_bracket doc (from a n here) ≡ met doc
  has_here a n doc true is same =
      ap (λ x. x || has_bracket doc (gathered (suc a) n)) (same_doc (of a).doc doc (own a ∙ same)) ∙ is ∙ ap met same
  has_here a n doc false is same =
      below_all doc (gathered (suc a) n) (λ i inside. omega (arith, same, all_from (suc a) n i inside)) ∙ is ∙ ap met same

  has_later : (a n doc : ℕ) (here : Bool) → a < doc → has_bracket doc (gathered (suc a) n) ≡ met doc → has_bracket doc (from a n here) ≡ met doc
  has_later a n doc true less later =
      ap (λ x. x || has_bracket doc (gathered (suc a) n)) (other_doc (of a).doc doc (λ e. omega (arith, own a, e, less))) ∙ later
  has_later a n doc false less later = later

  -- each met document has one, if none is met after them
  has_met : (a n doc : ℕ) → ((far : ℕ) → a + n ≤ far → met far ≡ false) → a ≤ doc → has_bracket doc (gathered a n) ≡ met doc
  has_met a zero doc none low = sym (none doc (omega (arith, low)))
  has_met a (suc n) doc none low = elim (cases_order a doc) [
    | inl same ↦ has_here a n doc (met a) refl same
    | inr other ↦ elim other [
      | inl less ↦ has_later a n doc (met a) less (has_met (suc a) n doc (λ far high. none far (omega (arith, high))) (omega (arith, less)))
      | inr more ↦ absurd (omega (arith, low, more))
    ]
  ]

-- a number above the documents of all entries
abbrev after_entries : List Entry → ℕ
after_entries entries = sum_by (λ (entry : Entry). entry.doc + 1) entries

abbrev after_lanes : List ShownLane → ℕ
after_lanes lanes = sum_by (λ lane. after_entries lane.shown) lanes

named_before : (doc : ℕ) (entries : List Entry) → list_any (λ (entry : Entry). nat_eq entry.doc doc) entries ≡ true → doc < after_entries entries
named_before doc [] is = absurd (cc)
named_before doc (entry ∷ entries) is =
    let sum : after_entries (entry ∷ entries) ≡ (entry.doc + 1) + after_entries entries = sum_by-cons (λ (entry : Entry). entry.doc + 1) entry entries in
    elim (or_cases (nat_eq entry.doc doc) (list_any (λ (entry : Entry). nat_eq entry.doc doc) entries) is) [
      | inl here ↦ omega (arith, sum, eqb-true entry.doc doc here)
      | inr there ↦ omega (arith, sum, named_before doc entries there)
    ]

met_before : (doc : ℕ) (lanes : List ShownLane) → list_any (names doc) lanes ≡ true → doc < after_lanes lanes
met_before doc [] is = absurd (cc)
met_before doc (lane ∷ lanes) is =
    let sum : after_lanes (lane ∷ lanes) ≡ after_entries lane.shown + after_lanes lanes = sum_by-cons (λ (lane : ShownLane). after_entries lane.shown) lane lanes in
    elim (or_cases (names doc lane) (list_any (names doc) lanes) is) [
      | inl here ↦ omega (arith, sum, named_before doc lane.shown here)
      | inr there ↦ omega (arith, sum, met_before doc lanes there)
    ]

-- the brackets of the met documents, by document ascending
pub brackets_exist : (bounds : Bounding) (lanes : List ShownLane) → ((doc : ℕ) → (bounds lanes doc).doc ≡ doc)
    → (brackets : List Bracket) × AreBracketsBy bounds lanes brackets
brackets_exist bounds lanes own =
    let met : ℕ → Bool = λ doc. list_any (names doc) lanes in
    let n : ℕ = after_lanes lanes in
    let none : (far : ℕ) → 0 + n ≤ far → met far ≡ false = λ far high. elim (cases_Bool (met far)) [
      | inl is ↦ absurd (omega (arith, met_before far lanes is, high))
      | inr not ↦ not
    ] in (
      gathered met (bounds lanes) own 0 n,
      record {
        rise = rises met (bounds lanes) own 0 n;
        met = λ doc. has_met met (bounds lanes) own 0 n doc none (omega arith);
        each = formed met (bounds lanes) own 0 n;
      },
    )
