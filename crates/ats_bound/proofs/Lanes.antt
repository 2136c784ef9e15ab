-- What the shown entries of one list say of a document's impact there.
use Rattle.std.proofs.Common.{◌≡◌, ◌≢◌, ◌<◌, ◌≤◌, ◌+◌, ◌-◌, ℕ, suc, Bool, true, false, nat_eq, cond, List, [], ◌∷◌, length, take, drop, map, get_or, refl, sym, ap, ◌∙◌, inl, inr, arith, length-take, length-drop}
use Rattle.std.specs.List.{All, list_any}
use Rattle.std.proofs.lemmas.Bool.{cases_order, cases_lt, cases_Bool}
use Rattle.std.proofs.lemmas.Bool.Decides.{nat_tests}
use Rattle.std.proofs.lemmas.List.{get_or-take, get_or-drop, get_or-map, get_or_default}
use Rattle.std.proofs.lemmas.List.Folds.{list_any_at}
use Rattle.std.proofs.lemmas.List.Sums.{sum_by-cons, sum_by-take-drop, sum_by-take-le, get_or-le-sum_by}
use Rattle.ats_postings.specs.declared.entry.Entry.{Entry}
use Rattle.ats_bound.specs.Cut.{ShownLane, lane_of, names, rest_impact, shown_impact}
use Rattle.ats_bound.specs.Ranked.{CutLane, IsCutLane, impact_in}

-- the entry's impact, if it is the document's
abbrev pub share : ℕ → Entry → ℕ
share doc entry = cond (nat_eq entry.doc doc) entry.impact 0

-- whether the entry is the document's
abbrev pub is_of : ℕ → Entry → Bool
is_of doc entry = nat_eq entry.doc doc

-- an entry as a default
abbrev pub none : Entry
none = record { doc = 0; impact = 0 }

share_of : (doc : ℕ) (entry : Entry) → entry.doc ≡ doc → share doc entry ≡ entry.impact
share_of doc entry is =
    let yes : nat_eq entry.doc doc ≡ true = grind (arith, nat_tests) in
    ap (λ b. cond b entry.impact 0) yes

share_other : (doc : ℕ) (entry : Entry) → entry.doc ≢ doc → share doc entry ≡ 0
share_other doc entry other =
    let no : nat_eq entry.doc doc ≡ false = grind (arith, nat_tests) in
    ap (λ b. cond b entry.impact 0) no

-- a document that no entry names has no impact
pub unnamed_has_none : (doc : ℕ) (entries : List Entry) → All (λ (entry : Entry). entry.doc ≢ doc) entries → impact_in doc entries ≡ 0
unnamed_has_none doc [] other = refl
unnamed_has_none doc (entry ∷ entries) other =
    omega (
      arith,
      sum_by-cons (share doc) entry entries,
      share_other doc entry (other 0 none (omega arith)),
      unnamed_has_none doc entries (λ k d inside. other (suc k) d (omega arith)),
    )

-- a test that no entry passes
pub unnamed : (doc : ℕ) (entries : List Entry) → list_any (is_of doc) entries ≡ false → All (λ (entry : Entry). entry.doc ≢ doc) entries
unnamed doc entries unseen k d inside is =
    let yes : is_of doc (get_or entries k d) ≡ true = grind (arith, nat_tests) in
    let some : list_any (is_of doc) entries ≡ true = list_any_at (is_of doc) entries k d inside yes in
    let clash : true ≡ false = sym some ∙ unseen in
    cc

-- a test that some entry passes
pub named_at : (doc : ℕ) (entries : List Entry) → list_any (is_of doc) entries ≡ true
    → (k : ℕ) × (k < length entries) × ((get_or entries k none).doc ≡ doc)
named_at doc [] seen = absurd (cc)
named_at doc (entry ∷ entries) seen =
    elim (cases_order entry.doc doc) [
      | inl is ↦ (0, omega arith, is)
      | inr other ↦
          let no : nat_eq entry.doc doc ≡ false = grind (arith, nat_tests) in
          let later : list_any (is_of doc) entries ≡ true = rw no at seen in
          let found = named_at doc entries later in
          (suc found.0, omega (arith, found.1), found.2)
    ]

-- entries of distinct documents, none of an impact above b
pub at_most : (doc b : ℕ) (entries : List Entry) → All (λ (entry : Entry). entry.impact ≤ b) entries
    → ((i j : ℕ) (d : Entry) → i < j → j < length entries → (get_or entries i d).doc ≢ (get_or entries j d).doc)
    → impact_in doc entries ≤ b
at_most doc b [] each once = omega arith
at_most doc b (entry ∷ entries) each once =
    let step = sum_by-cons (share doc) entry entries in
    let first : entry.impact ≤ b = each 0 none (omega arith) in
    elim (cases_order entry.doc doc) [
      | inl is ↦
          let others : All (λ (later : Entry). later.doc ≢ doc) entries =
          λ k d inside same. once 0 (suc k) d (omega arith) (omega arith) (is ∙ sym same) in
          omega (arith, step, share_of doc entry is, first, unnamed_has_none doc entries others)
      | inr other ↦
          let apart : entry.doc ≢ doc = λ same. elim other [ inl less ↦ omega (arith, less, same) | inr more ↦ omega (arith, more, same) ] in
          omega (
            arith,
            step,
            share_other doc entry apart,
            at_most doc b entries (λ k d inside. each (suc k) d (omega arith)) (λ i j d less inside. once (suc i) (suc j) d (omega arith) (omega arith)),
          )
    ]

module _ (n : ℕ) (lane : CutLane) (is : IsCutLane n lane) (doc : ℕ) where
  abbrev entries : List Entry
  entries = lane.entries

  abbrev k : ℕ
  k = lane.shown

  abbrev pub cut : ShownLane
  cut = lane_of lane.coefficient lane.entries lane.shown

  whole_is : impact_in doc (take k entries) + impact_in doc (drop k entries) ≡ impact_in doc entries
  whole_is = sum_by-take-drop (share doc) entries k

  -- what is shown is part of the whole
  pub shown_within : shown_impact doc cut ≤ impact_in doc entries
  shown_within = sum_by-take-le (share doc) entries k

  size : length (take k entries) ≡ k
  size = omega (arith, length-take k entries, is.within)

  -- a document that is not shown has no shown impact
  pub shown_none : names doc cut ≡ false → shown_impact doc cut ≡ 0
  shown_none unseen = unnamed_has_none doc (take k entries) (unnamed doc (take k entries) unseen)

  -- the place of a shown document
  place : names doc cut ≡ true → (i : ℕ) × (i < k) × ((get_or entries i none).doc ≡ doc)
  place seen =
      let found = named_at doc (take k entries) seen in
      let low : found.0 < k = omega (arith, found.1, size) in
      (found.0, low, sym (ap (λ (e : Entry). e.doc) (get_or-take k entries found.0 none low)) ∙ found.2)

  -- a shown document has an impact, and is one of the n
  pub shown_some : names doc cut ≡ true → 1 ≤ shown_impact doc cut
  shown_some seen =
      let found = named_at doc (take k entries) seen in
      let low : found.0 < k = omega (arith, found.1, size) in
      let at : get_or (take k entries) found.0 none ≡ get_or entries found.0 none = get_or-take k entries found.0 none low in
      let impact : 1 ≤ (get_or (take k entries) found.0 none).impact = rw at ((is.list.impacts found.0 none (omega (arith, low, is.within))).0) in
      omega (
        arith,
        get_or-le-sum_by (share doc) (take k entries) found.0 none found.1,
        share_of doc (get_or (take k entries) found.0 none) found.2,
        impact,
      )

  pub shown_below : names doc cut ≡ true → doc < n
  shown_below seen =
      let found = place seen in
      let low : (get_or entries found.0 none).doc < n = is.list.documents found.0 none (omega (arith, found.1, is.within)) in
      rw found.2 at low

  -- the entry at a place after the shown ones
  hidden_at : (j : ℕ) (d : Entry) → j < length (drop k entries) → (k + j < length entries) × (get_or (drop k entries) j d ≡ get_or entries (k + j) none)
  hidden_at j d inside =
      let low : k + j < length entries = omega (arith, inside, length-drop k entries, is.within) in
      (low, get_or-drop k entries j d ∙ get_or_default entries (k + j) d none low)

  -- what is not shown of a shown document
  hidden_none : names doc cut ≡ true → impact_in doc (drop k entries) ≡ 0
  hidden_none seen =
      let found = place seen in
      unnamed_has_none doc (drop k entries) (λ j d inside same.
      let here = hidden_at j d inside in
      let other : (get_or entries (k + j) none).doc ≡ doc = sym (ap (λ (e : Entry). e.doc) here.1) ∙ same in
      is.list.once found.0 (k + j) none (omega (arith, found.1)) here.0 (found.2 ∙ sym other))

  abbrev last : ℕ
  last = (get_or entries (k - 1) none).impact

  rest_is : k < length entries → rest_impact cut ≡ last
  rest_is more =
      let shown = take k entries in
      let no : nat_eq (length shown) (length entries) ≡ false = grind (arith, nat_tests, size) in
      let low : length shown - 1 < length shown = omega (arith, size, is.some) in
      ap (λ b. cond b 0 (get_or (map (λ (e : Entry). e.impact) shown) (length shown - 1) 0)) no
      ∙ get_or-map (λ (e : Entry). e.impact) shown (length shown - 1) none 0 low
      ∙ ap (λ i. (get_or shown (i - 1) none).impact) size
      ∙ ap (λ (e : Entry). e.impact) (get_or-take k entries (k - 1) none (omega (arith, is.some)))

  -- what is not shown of any document is at most the rest
  hidden_within : impact_in doc (drop k entries) ≤ rest_impact cut
  hidden_within = elim (cases_lt k (length entries)) [
    | inl more ↦
        let fall : All (λ (e : Entry). e.impact ≤ last) (drop k entries) =
        λ j d inside.
        let here = hidden_at j d inside in
        let le : (get_or entries (k + j) none).impact ≤ last = is.list.falling (k - 1) (k + j) none (omega (arith, is.some)) here.0 in
        rw (here.1) le in
        let once : (i j : ℕ) (d : Entry) → i < j → j < length (drop k entries)
        → (get_or (drop k entries) i d).doc ≢ (get_or (drop k entries) j d).doc =
        λ i j d less inside.
        let first = hidden_at i d (omega (arith, less, inside)) in
        let second = hidden_at j d inside in
        rw (first.1, second.1) (is.list.once (k + i) (k + j) none (omega (arith, less)) second.0) in
        omega (arith, at_most doc last (drop k entries) fall once, rest_is more)
    | inr all ↦ omega (arith, unnamed_has_none doc (drop k entries) (λ j d inside. absurd (omega (arith, inside, length-drop k entries, all))))
  ]

  -- a whole list has at most what is shown and, if that does not name the document, the rest
  pub whole_within : impact_in doc entries ≤ shown_impact doc cut + cond (names doc cut) 0 (rest_impact cut)
  whole_within = elim (cases_Bool (names doc cut)) [
    | inl seen ↦ rw seen (omega (arith, whole_is, hidden_none seen))
    | inr unseen ↦ rw unseen (omega (arith, whole_is, hidden_within))
  ]
