-- The lists of the terms that are present.
use Rattle.std.proofs.Common.{subst, ◌≡◌, ◌*◌, ◌/◌, ◌^◌, ◌+◌, ◌<◌, ◌≤◌, ◌++◌, ℕ, zero, suc, Bool, true, false, cond, nat_lt, List, [], ◌∷◌, length, map, take, get_or, refl, sym, ap, ap₂, ◌∙◌, arith, inl, inr, append-nil}
use Rattle.std.specs.Prelude.{filter, nat_le}
use Rattle.std.specs.List.{All, list_any}
use Rattle.std.specs.Str.{bytes_eq}
use Rattle.std.proofs.lemmas.Bool.Decides.{leb_tells}
use Rattle.std.proofs.lemmas.Bool.{cases_Bool, cases_lt, lt-ltb, le-ltb, ltb-false, ltb-true}
use Rattle.std.proofs.lemmas.List.{length-map, get_or-map, map-append}
use Rattle.std.proofs.lemmas.List.Elements.{All-cons, filter_more}
use Rattle.std.proofs.Math.Nat.{div-mul-le_self, mul-le-mul_left}
use Rattle.std.proofs.Math.Pow.{pow_mono}
use Rattle.std.proofs.lemmas.List.Folds.{list_any_at, list_any_none}
use Rattle.std.proofs.lemmas.List.Sums.{count_by-le-length, length-filter}
use Rattle.std.proofs.lemmas.Slice.Eq.{bytes_eq-Decides}
use Rattle.ats_impact.specs.Numbers.{idf, ratio, doublings, eighths}
use Rattle.ats_impact.specs.Score.{coefficient, frequency}
use Rattle.ats_postings.specs.Lists.{IsList, list, lists_of, vocabulary}
use Rattle.ats_postings.specs.declared.entry.Entry.{Entry}
use Rattle.ats_postings.proofs.Public.{vocabulary_has, postings_frequency, list_frequency, list_keeps}
use Rattle.ats_postings.specs.Postings.{postings}
use Rattle.ats_dict.specs.Entry.{DictEntry}
use Rattle.ats_terms.proofs.Public.{none_of}
use Rattle.ats_dict.specs.Dictionary.{low, high, entry_at}
use Rattle.ats_dict.specs.Found.{StandsAt, LiesBetween}
use Rattle.ats_dict.proofs.Public.{entry_at-suc}
use Rattle.ats_commit.specs.Archive.{Archive}
use Rattle.ats_commit.specs.Trees.{dict_entry, dictionary_of}
use Rattle.ats_commit.proofs.Public.{dictionary_terms}
use Rattle.ats_bound.specs.Schedule.{WholeLane}
use Rattle.ats_honest.specs.Lanes.{lane_of, lanes_of, present}

abbrev pub has_list : List (List ℕ) → List ℕ × ℕ → Bool
has_list texts pair = nat_lt 0 (frequency pair.0 texts)

-- a term with a list has a lane
pub lane_more : (texts : List (List ℕ)) (query : List (List ℕ × ℕ)) (i : ℕ) (d : List ℕ × ℕ) → i < length query → 0 < frequency (get_or query i d).0 texts
    → lanes_of texts (take (i + 1) query) ≡ lanes_of texts (take i query) ++ lane_of texts (get_or query i d) ∷ []
lane_more texts query i d inside some =
    let yes : has_list texts (get_or query i d) ≡ true = lt-ltb 0 (frequency (get_or query i d).0 texts) some in
    ap (map (lane_of texts)) (filter_more (has_list texts) query i d inside ∙ ap (λ b. filter (has_list texts) (take i query) ++ cond b (get_or query i d ∷ []) []) yes)
    ∙ map-append (lane_of texts) (filter (has_list texts) (take i query)) (get_or query i d ∷ [])

-- one without a list has none
pub lane_none : (texts : List (List ℕ)) (query : List (List ℕ × ℕ)) (i : ℕ) (d : List ℕ × ℕ) → i < length query → frequency (get_or query i d).0 texts ≡ 0
    → lanes_of texts (take (i + 1) query) ≡ lanes_of texts (take i query)
lane_none texts query i d inside none =
    let no : has_list texts (get_or query i d) ≡ false = ap (nat_lt 0) none in
    ap (map (lane_of texts)) (filter_more (has_list texts) query i d inside ∙ ap (λ b. filter (has_list texts) (take i query) ++ cond b (get_or query i d ∷ []) []) no
    ∙ append-nil (filter (has_list texts) (take i query)))

-- a term at a leaf of the dictionary is that of its list
pub standing_term : (H : List ℕ → List ℕ) (archive : Archive) (term : List ℕ) (p : ℕ) (d : List ℕ × List Entry) → StandsAt (dictionary_of H archive) term (suc p)
    → (p < length (lists_of archive.texts)) × ((get_or (lists_of archive.texts) p d).0 ≡ term)
standing_term H archive term p d is =
    let size = length-map (lists_of archive.texts) (dict_entry H archive.format) in
    let inside : p < length (lists_of archive.texts) = omega (arith, is.within, size) in
    let entry : entry_at (dictionary_of H archive) (suc p) ≡ dict_entry H archive.format (get_or (lists_of archive.texts) p d) =
    entry_at-suc (dictionary_of H archive) p low (omega (arith, inside, size)) ∙ get_or-map (dict_entry H archive.format) (lists_of archive.texts) p d low inside in
    (inside, ap (λ (e : DictEntry). e.term) (sym entry) ∙ is.same)

-- and some text has it
pub present_term : (H : List ℕ → List ℕ) (archive : Archive) (term : List ℕ) (p : ℕ) → StandsAt (dictionary_of H archive) term (suc p) → nat_lt 0 (frequency term archive.texts) ≡ true
present_term H archive term p is =
    let entries = dictionary_of H archive in
    let terms : List (List ℕ) = map (λ (e : DictEntry). e.term) entries in
    let inside : p < length entries = omega (arith, is.within) in
    let at : get_or terms p [] ≡ term = get_or-map (λ (e : DictEntry). e.term) entries p low [] inside ∙ ap (λ (e : DictEntry). e.term) (sym (entry_at-suc entries p low inside)) ∙ is.same in
    ap (nat_lt 0) (sym (postings_frequency term archive.texts)) ∙ sym (vocabulary_has archive.texts term) ∙ ap (list_any (bytes_eq term)) (sym (dictionary_terms H archive))
    ∙ list_any_at (bytes_eq term) terms p [] (omega (arith, inside, length-map entries (λ (e : DictEntry). e.term))) ((bytes_eq-Decides term (get_or terms p [])).1 (sym at))

-- each list is that of its term
pub list_at : (texts : List (List ℕ)) (p : ℕ) (d : List ℕ × List Entry) → p < length (lists_of texts) → (get_or (lists_of texts) p d).1 ≡ list texts (get_or (lists_of texts) p d).0
unfolding lists_of
list_at texts p d inside =
    let made : List ℕ → List ℕ × List Entry = λ term. (term, list texts term) in
    let is : get_or (map made (vocabulary texts)) p d ≡ made (get_or (vocabulary texts) p []) =
    get_or-map made (vocabulary texts) p [] d (omega (arith, inside, length-map (vocabulary texts) made)) in
    rw is refl

-- a term that lies between two leaves has no list
pub absent_term : (H : List ℕ → List ℕ) (archive : Archive) (term : List ℕ) (p : ℕ) → LiesBetween (dictionary_of H archive) term p → frequency term archive.texts ≡ 0
absent_term H archive term p is =
    let entries = dictionary_of H archive in
    let terms : List (List ℕ) = map (λ (e : DictEntry). e.term) entries in
    let none : list_any (bytes_eq term) terms ≡ false = list_any_none (bytes_eq term) terms (λ k d inside.
    let within : k < length entries = omega (arith, inside, length-map entries (λ (e : DictEntry). e.term)) in
    let at : get_or terms k d ≡ (get_or entries k low).term = get_or-map (λ (e : DictEntry). e.term) entries k low d within in
    other term (get_or terms k d) (λ same. none_of low high entries (λ (e : DictEntry). e.term) term is.absent k low within (sym at ∙ sym same))) in
    let test : nat_lt 0 (frequency term archive.texts) ≡ false =
    ap (nat_lt 0) (sym (postings_frequency term archive.texts)) ∙ sym (vocabulary_has archive.texts term) ∙ ap (list_any (bytes_eq term)) (sym (dictionary_terms H archive)) ∙ none in
    zero_of (frequency term archive.texts) test
  where
    other : (xs ys : List ℕ) → (xs ≡ ys → ⊥) → bytes_eq xs ys ≡ false
    other xs ys differ = elim (cases_Bool (bytes_eq xs ys)) [
      | inl is ↦ absurd (differ ((bytes_eq-Decides xs ys).0 is))
      | inr not ↦ not
    ]

    zero_of : (n : ℕ) → nat_lt 0 n ≡ false → n ≡ 0
    zero_of n not = omega (arith, ltb-false 0 n not)

-- the largest coefficient
pub few_doublings : (n f e : ℕ) → n ≤ 65536 → 1 ≤ f → 1024 * 2 ^ e ≤ ratio n f → e ≤ 15
few_doublings n f e few some within = elim (cases_lt 15 e) [
  | inl more ↦
      let high : 2 ^ 16 ≤ 2 ^ e = pow_mono more in
      let product : ratio n f * (2 * f + 1) ≤ 1024 * (2 * n + 2) = div-mul-le_self (1024 * (2 * n + 2)) (2 * f + 1) in
      let three : ratio n f * 3 ≤ ratio n f * (2 * f + 1) = mul-le-mul_left (ratio n f) (omega (arith, some)) in
      absurd (omega (arith, high, product, three, within, few))
  | inr most ↦ most
]

doublings_within : (k q : ℕ) → 1024 ≤ q → 1024 * 2 ^ doublings k q ≤ q
unfolding doublings
doublings_within zero q big = omega (arith, big)
doublings_within (suc k) q big = elim (leb_tells (1024 * 2 ^ suc k) q) [
  | inl h ↦ rw h.0 h.1
  | inr h ↦ rw h.0 (doublings_within k q big)
]

pub some_idf : (n f : ℕ) → 1 ≤ idf n f
some_idf n f = elim (cases_lt (ratio n f) 1024) [
  | inl low ↦ rw (lt-ltb (ratio n f) 1024 low) (omega arith)
  | inr high ↦ rw (le-ltb (ratio n f) 1024 high) (omega arith)
]

pub few_idf : (n f : ℕ) → n ≤ 65536 → 1 ≤ f → idf n f ≤ 128
few_idf n f few some = elim (cases_lt (ratio n f) 1024) [
  | inl low ↦ rw (lt-ltb (ratio n f) 1024 low) (omega arith)
  | inr high ↦
      let e = few_doublings n f (doublings 63 (ratio n f)) few some (doublings_within 63 (ratio n f) high) in
      rw (le-ltb (ratio n f) 1024 high) (omega (arith, e, count_by-le-length (λ step. nat_le step (ratio n f / 2 ^ doublings 63 (ratio n f))) eighths))
]

-- ---- lanes

pub lane_is : (texts : List (List ℕ)) (pair : List ℕ × ℕ) (lane : WholeLane) (documents weight : ℕ) → lane.entries ≡ list texts pair.0 → documents ≡ length texts → weight ≡ pair.1
    → lane.coefficient ≡ weight * idf documents (length lane.entries) → lane ≡ lane_of texts pair
lane_is texts pair lane documents weight entries number times coefficient_is =
    let f : length lane.entries ≡ frequency pair.0 texts = ap (λ (es : List Entry). length es) entries ∙ list_frequency texts pair.0 in
    let c : lane.coefficient ≡ coefficient texts pair =
    coefficient_is ∙ ap₂ (λ w n. w * idf n (length lane.entries)) times number ∙ ap (λ m. pair.1 * idf (length texts) m) f in
    ap₂ (λ (n : ℕ) (es : List Entry). let l : WholeLane = record { coefficient = n; entries = es } in l) c entries

-- the lane of a term that is in the dictionary
pub record IsLaneAt (H : List ℕ → List ℕ) (texts : List (List ℕ)) (query : List (List ℕ × ℕ)) (i : ℕ) (lane : WholeLane) : Type 0 where
  pub same : lane ≡ lane_of texts (get_or query i ([], 0))
  pub more : lanes_of texts (take (i + 1) query) ≡ lanes_of texts (take i query) ++ lane ∷ []

pub lane_at : (H : List ℕ → List ℕ) (archive : Archive) (query : List (List ℕ × ℕ)) (i p documents weight : ℕ) (lane : WholeLane) → i < length query
    → StandsAt (dictionary_of H archive) (get_or query i ([], 0)).0 (suc p) → lane.entries ≡ (get_or (lists_of archive.texts) p ([], [])).1 → 1 ≤ length lane.entries
    → documents ≡ length archive.texts → weight ≡ (get_or query i ([], 0)).1 → lane.coefficient ≡ weight * idf documents (length lane.entries) → IsLaneAt H archive.texts query i lane
lane_at H archive query i p documents weight lane inside stands entries some number times coefficient_is =
    let pair = get_or query i ([], 0) in
    let term = standing_term H archive pair.0 p ([], []) stands in
    let own : lane.entries ≡ list archive.texts pair.0 = entries ∙ list_at archive.texts p ([], []) term.0 ∙ ap (list archive.texts) term.1 in
    let is = lane_is archive.texts pair lane documents weight own number times coefficient_is in
    let count : 0 < frequency pair.0 archive.texts = omega (arith, some, ap (λ (es : List Entry). length es) own, list_frequency archive.texts pair.0) in
    record {
      same = is;
      more = lane_more archive.texts query i ([], 0) inside count ∙ ap (λ (l : WholeLane). lanes_of archive.texts (take i query) ++ l ∷ []) (sym is);
    }

-- a lane for each term that some text has
pub with_lane : (texts : List (List ℕ)) (pair : List ℕ × ℕ) (query : List (List ℕ × ℕ)) → has_list texts pair ≡ true → lanes_of texts (pair ∷ query) ≡ lane_of texts pair ∷ lanes_of texts query
with_lane texts pair query is = ap (λ b. map (lane_of texts) (cond b (pair ∷ present texts query) (present texts query))) is

pub with_none : (texts : List (List ℕ)) (pair : List ℕ × ℕ) (query : List (List ℕ × ℕ)) → has_list texts pair ≡ false → lanes_of texts (pair ∷ query) ≡ lanes_of texts query
with_none texts pair query is = ap (λ b. map (lane_of texts) (cond b (pair ∷ present texts query) (present texts query))) is

abbrev pub HasList : ℕ → WholeLane → Type 0
HasList n lane = IsList n lane.entries

-- each lane has a list over the texts
pub lanes_have_lists : (texts : List (List ℕ)) (query : List (List ℕ × ℕ)) → All (HasList (length texts)) (lanes_of texts query)
lanes_have_lists texts [] = λ k d inside. absurd (omega (arith, inside))
lanes_have_lists texts (pair ∷ query) = elim (cases_Bool (has_list texts pair)) [
  | inl one ↦
      let some : 1 ≤ length (postings texts pair.0) = omega (arith, ltb-true 0 (frequency pair.0 texts) one, postings_frequency pair.0 texts) in
      subst (All (HasList (length texts))) (sym (with_lane texts pair query one))
      (All-cons (HasList (length texts)) (lane_of texts pair) (lanes_of texts query) (list_keeps texts pair.0 some) (lanes_have_lists texts query))
  | inr none ↦ subst (All (HasList (length texts))) (sym (with_none texts pair query none)) (lanes_have_lists texts query)
]

-- within the limits it is one over 65,536 documents
pub lists_within : (texts : List (List ℕ)) (query : List (List ℕ × ℕ)) → length texts ≤ 65536 → All (HasList 65536) (lanes_of texts query)
lists_within texts query few k d inside =
    let is = lanes_have_lists texts query k d inside in
    record {
      some = is.some;
      few = omega (arith, is.few, few);
      documents = λ i e less. omega (arith, is.documents i e less, few);
      impacts = is.impacts;
      falling = is.falling;
      once = is.once;
    }

-- no more lanes than terms
pub lanes_few : (texts : List (List ℕ)) (query : List (List ℕ × ℕ)) → length (lanes_of texts query) ≤ length query
lanes_few texts query =
    omega (arith, length-map (present texts query) (lane_of texts), length-filter (has_list texts) query, count_by-le-length (has_list texts) query)
