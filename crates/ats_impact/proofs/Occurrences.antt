-- Counting the terms of a query among the terms of a text.
use Rattle.std.proofs.Common.{◌≡◌, ◌≢◌, ◌<◌, ◌≤◌, ◌+◌, ℕ, Bool, true, false, cond, List, [], ◌∷◌, ◌++◌, length, map, take, set, get_or, nat_lt, count_by, refl, sym, ap, ap₂, ◌∙◌, inl, inr, arith}
use Rattle.std.specs.List.{All}
use Rattle.std.specs.Str.{bytes_eq}
use Rattle.std.specs.Bool.{Decides}
use Rattle.std.proofs.lemmas.Bool.{cases_eq}
use Rattle.std.proofs.lemmas.Slice.Eq.{bytes_eq-Decides}
use Rattle.std.proofs.lemmas.List.{get_or-set_same, get_or-set_other, get_or-map, length-map, same_lists, get_or_default, map-append, take_more}
use Rattle.std.proofs.lemmas.List.Sums.{sum_by-cons, count_by-le-length}
use Rattle.ats_terms.specs.Terms.{occurrences}
use Rattle.ats_terms.specs.Query.{Rises}
use Rattle.ats_terms.proofs.Public.{rises_apart}
use Rattle.ats_impact.specs.Score.{count, frequency}
use Rattle.ats_impact.specs.Inner.Score.{counts}

no : {P : Type 0} → (r : Bool) → Decides r P → ¬ P → r ≡ false
no true decides not_so = absurd (not_so (decides.0 refl))
no false decides not_so = refl

abbrev pub term_at : List (List ℕ × ℕ) → ℕ → List ℕ
term_at query k = (get_or query k ([], 0)).0

-- one more of the term at a place
pub counted_one : (query : List (List ℕ × ℕ)) (found : List ℕ) (term : List ℕ) (i k : ℕ) → Rises query → length found ≡ length query → i < length query
    → term_at query i ≡ term → k < length query
    → get_or (set found i (get_or found i 0 + 1)) k 0 ≡ get_or found k 0 + cond (bytes_eq (term_at query k) term) 1 0
counted_one query found term i k rises same inside is within = elim (cases_eq k i) [
  | inl here ↦
      let yes : bytes_eq (term_at query i) term ≡ true = (bytes_eq-Decides (term_at query i) term).1 is in
      rw (here, get_or-set_same found i (get_or found i 0 + 1) 0 (omega arith), yes) refl
  | inr other ↦
      let differ : term_at query k ≢ term = λ equal. rises_apart query k i ([], 0) rises within inside other (equal ∙ sym is) in
      let not_so : bytes_eq (term_at query k) term ≡ false = no (bytes_eq (term_at query k) term) (bytes_eq-Decides (term_at query k) term) differ in
      rw (get_or-set_other found i k (get_or found i 0 + 1) 0 other, not_so) (omega arith)
]

pub occurs_few : (term : List ℕ) (all : List (List ℕ)) → occurrences term all ≤ length all
occurs_few term all = count_by-le-length (bytes_eq term) all

-- counts at each place are the list of counts
pub counted_all : (query : List (List ℕ × ℕ)) (found : List ℕ) (all : List (List ℕ)) → length found ≡ length query
    → ((k : ℕ) → k < length query → get_or found k 0 ≡ occurrences (term_at query k) all)
    → found ≡ map (λ pair. occurrences pair.0 all) query
counted_all query found all same each =
    same_lists found (map (λ (pair : List ℕ × ℕ). occurrences pair.0 all) query) (same ∙ sym (length-map query (λ (pair : List ℕ × ℕ). occurrences pair.0 all)))
    (λ k d inside.
    get_or_default found k d 0 inside ∙ each k (omega arith)
    ∙ sym (get_or-map (λ (pair : List ℕ × ℕ). occurrences pair.0 all) query k ([], 0) d (omega arith)))

pub count_at : (query : List (List ℕ × ℕ)) (text : List ℕ) (k : ℕ) → k < length query → get_or (counts query text) k 0 ≡ count (term_at query k) text
count_at query text k inside = get_or-map (λ (pair : List ℕ × ℕ). count pair.0 text) query k ([], 0) 0 inside

pub length-counts : (query : List (List ℕ × ℕ)) (text : List ℕ) → length (counts query text) ≡ length query
length-counts query text = length-map query (λ (pair : List ℕ × ℕ). count pair.0 text)

-- a place of the table counts the documents that have its term
pub frequency_by_table : (query : List (List ℕ × ℕ)) (texts : List (List ℕ)) (k : ℕ) → k < length query
    → count_by (λ row. nat_lt 0 (get_or row k 0)) (map (counts query) texts) ≡ frequency (term_at query k) texts
frequency_by_table query [] k inside = refl
frequency_by_table query (text ∷ rest) k inside =
    let one : ℕ → ℕ = λ n. cond (nat_lt 0 n) 1 0 in
    let here : one (get_or (counts query text) k 0) ≡ one (count (term_at query k) text) = ap one (count_at query text k inside) in
    omega (
      arith,
      here,
      frequency_by_table query rest k inside,
      sum_by-cons (λ (row : List ℕ). one (get_or row k 0)) (counts query text) (map (counts query) rest),
      sum_by-cons (λ (x : List ℕ). one (count (term_at query k) x)) text rest,
    )

-- each row of the table has a count for each term
pub rows_long : (query : List (List ℕ × ℕ)) (texts : List (List ℕ)) (k : ℕ) → k < length query → All (λ row. k < length row) (map (counts query) texts)
rows_long query texts k inside i d within =
    let size : i < length texts = omega (arith, length-map texts (counts query)) in
    let is : get_or (map (counts query) texts) i d ≡ counts query (get_or texts i []) = get_or-map (counts query) texts i [] d size in
    omega (arith, ap length is, length-counts query (get_or texts i []))

-- a list that is made item by item
pub made_more : {X Y : Type 0} (f : X → Y) (xs : List X) (i : ℕ) (d : X) (made : List Y) (y : Y) → i < length xs → made ≡ map f (take i xs)
    → y ≡ f (get_or xs i d) → made ++ y ∷ [] ≡ map f (take (i + 1) xs)
made_more f xs i d made y inside so_far is =
    ap₂ (λ m z. m ++ z ∷ []) so_far is ∙ sym (ap (map f) (take_more xs i d inside) ∙ map-append f (take i xs) (get_or xs i d ∷ []))
