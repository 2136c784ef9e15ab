-- What one document adds to the gathered postings, term by term.
use Rattle.std.proofs.Common.{◌≡◌, ◌≢◌, ◌<◌, ◌≤◌, ◌+◌, ◌-◌, ℕ, Bool, true, false, cond, List, [], ◌∷◌, ◌++◌, length, get_or, map, take, drop, nat_lt, refl, sym, ap, ap₂, subst, ◌∙◌, arith, append-nil, add-zero, zero-add}
use Rattle.std.specs.List.{All, filter}
use Rattle.std.specs.Bool.{Decides}
use Rattle.std.specs.Str.{bytes_eq}
use Rattle.std.proofs.lemmas.Bool.Decides.{nat_tests}
use Rattle.std.proofs.lemmas.Cmp.{nat_list_eq_equiv}
use Rattle.std.proofs.lemmas.List.{get_or-take, get_or-drop, get_or_default, length-take, length-drop, map-append}
use Rattle.std.proofs.lemmas.List.Elements.{All-nil, All-head, All-tail, All-append, filter-append}
use Rattle.std.proofs.lemmas.List.Sums.{sum_by-cons, sum_by_more, sum_by-take-drop}
use Rattle.std.proofs.lemmas.Slice.Eq.{bytes_eq-Decides}
use Rattle.ats_terms.specs.Terms.{terms, IsTerm}
use Rattle.ats_terms.specs.Query.{Rises}
use Rattle.ats_terms.specs.Counted.{weight_of, Counts}
use Rattle.ats_terms.proofs.Public.{rises_apart}
use Rattle.ats_impact.specs.Numbers.{impact}
use Rattle.ats_impact.specs.Score.{total_terms}
use Rattle.ats_impact.proofs.Public.{occurs_few}
use Rattle.ats_postings.specs.Postings.{text_of, count_in, posting, postings_of_run}
use Rattle.ats_lists.specs.Inner.Gathered.{Pairs, entries_for, HasEntries, HasRun}
use Rattle.ats_postings.specs.declared.entry.Entry.{Entry}
use Rattle.ats_postings.proofs.Public.{run_none, run_more, run_joined}

-- ---- the entries of a term

pub entries_append : (term : List ℕ) (one two : Pairs) → entries_for term (one ++ two) ≡ entries_for term one ++ entries_for term two
entries_append term one two =
    ap (map (λ (pair : List ℕ × Entry). pair.1)) (filter-append (λ (pair : List ℕ × Entry). bytes_eq term pair.0) one two)
    ∙ map-append (λ (pair : List ℕ × Entry). pair.1) (filter (λ pair. bytes_eq term pair.0) one) (filter (λ pair. bytes_eq term pair.0) two)

one_entry : (b : Bool) (pair : List ℕ × Entry) → map (λ (p : List ℕ × Entry). p.1) (cond b (pair ∷ []) []) ≡ cond b (pair.1 ∷ []) []
one_entry true pair = refl
one_entry false pair = refl

-- one entry more
pub entries_push : (term : List ℕ) (gathered : Pairs) (other : List ℕ) (entry : Entry)
    → entries_for term (gathered ++ (other, entry) ∷ []) ≡ entries_for term gathered ++ cond (bytes_eq other term) (entry ∷ []) []
entries_push term gathered other entry =
    entries_append term gathered ((other, entry) ∷ [])
    ∙ ap (λ (xs : List Entry). entries_for term gathered ++ xs)
    (one_entry (bytes_eq term other) (other, entry) ∙ ap (λ (b : Bool). cond b (entry ∷ []) []) (nat_list_eq_equiv.symm term other))

-- ---- the weight of a term among pairs that rise

differs : {P : Type 0} → (b : Bool) → Decides b P → ¬ P → b ≡ false
differs true decides not_so = absurd (not_so (decides.0 refl))
differs false decides not_so = refl

no_weight : (term : List ℕ) (pairs : List (List ℕ × ℕ)) → All (λ pair. pair.0 ≢ term) pairs → weight_of term pairs ≡ 0
no_weight term [] all = refl
no_weight term (pair ∷ pairs) all =
    let apart : pair.0 ≢ term = All-head (λ (p : List ℕ × ℕ). p.0 ≢ term) pair pairs all in
    let other : bytes_eq term pair.0 ≡ false = differs (bytes_eq term pair.0) (bytes_eq-Decides term pair.0) (λ same. apart (sym same)) in
    let rest : weight_of term pairs ≡ 0 = no_weight term pairs (All-tail (λ (p : List ℕ × ℕ). p.0 ≢ term) pair pairs all) in
    rw (sum_by-cons (λ (p : List ℕ × ℕ). cond (bytes_eq term p.0) p.1 0) pair pairs, other, zero-add (weight_of term pairs)) rest

-- terms at two places differ, by any defaults
apart_at : (pairs : List (List ℕ × ℕ)) (k i : ℕ) (e d : List ℕ × ℕ) → Rises pairs → k < length pairs → i < length pairs → k ≢ i
    → (get_or pairs k e).0 ≢ (get_or pairs i d).0
apart_at pairs k i e d rises first second apart same =
    rises_apart pairs k i d rises first second apart (ap (λ (p : List ℕ × ℕ). p.0) (get_or_default pairs k d e first) ∙ same)

pub weight_before : (pairs : List (List ℕ × ℕ)) (i : ℕ) (d : List ℕ × ℕ) → Rises pairs → i < length pairs
    → weight_of (get_or pairs i d).0 (take i pairs) ≡ 0
weight_before pairs i d rises inside = no_weight (get_or pairs i d).0 (take i pairs) (λ k e within.
    let below : k < i = omega (arith, length-take i pairs) in
    rw (get_or-take i pairs k e below) (apart_at pairs k i e d rises (omega arith) inside (λ same. absurd (omega arith))))

weight_after : (pairs : List (List ℕ × ℕ)) (i : ℕ) (d : List ℕ × ℕ) → Rises pairs → i < length pairs
    → weight_of (get_or pairs i d).0 (drop (i + 1) pairs) ≡ 0
weight_after pairs i d rises inside = no_weight (get_or pairs i d).0 (drop (i + 1) pairs) (λ k e within.
    let above : (i + 1) + k < length pairs = omega (arith, length-drop (i + 1) pairs) in
    rw (get_or-drop (i + 1) pairs k e) (apart_at pairs ((i + 1) + k) i e d rises above inside (λ same. absurd (omega arith))))

-- the weight of a term is that of its one pair
pub weight_at : (pairs : List (List ℕ × ℕ)) (i : ℕ) (d : List ℕ × ℕ) → Rises pairs → i < length pairs
    → weight_of (get_or pairs i d).0 pairs ≡ (get_or pairs i d).1
weight_at pairs i d rises inside =
    let term : List ℕ = (get_or pairs i d).0 in
    let f : List ℕ × ℕ → ℕ = λ p. cond (bytes_eq term p.0) p.1 0 in
    let same : bytes_eq term term ≡ true = nat_list_eq_equiv.refl term in
    let here : cond (bytes_eq term term) (get_or pairs i d).1 0 ≡ (get_or pairs i d).1 = rw same refl in
    omega (arith, sum_by-take-drop f pairs (i + 1), sum_by_more f pairs i d inside, here, weight_before pairs i d rises inside, weight_after pairs i d rises inside)

-- a term of a document occurs in it at most as often as the document has terms
pub pair_within : (all : List (List ℕ)) (pairs : List (List ℕ × ℕ)) (i : ℕ) (d : List ℕ × ℕ) → Counts all pairs → i < length pairs
    → (get_or pairs i d).1 ≤ length all
pair_within all pairs i d counts inside =
    omega (arith, weight_at pairs i d counts.rises inside, counts.weights (get_or pairs i d).0, occurs_few (get_or pairs i d).0 all)

-- ---- the entries of a term, after some of the document's pairs were put

abbrev pub so_far : (List ℕ → List Entry) → ℕ → List (List ℕ) → List (List ℕ × ℕ) → List ℕ → List Entry
so_far before doc texts pairs term = before term ++ cond (nat_lt 0 (weight_of term pairs)) (posting texts term doc ∷ []) []

step_case : (ps : List Entry) (w c : ℕ) (b : Bool) (e p : Entry) (old new : List Entry)
    → old ≡ ps ++ cond (nat_lt 0 w) (p ∷ []) [] → new ≡ old ++ cond b (e ∷ []) []
    → (b ≡ true → (w ≡ 0) × (e ≡ p)) → 0 < c → new ≡ ps ++ cond (nat_lt 0 (w + cond b c 0)) (p ∷ []) []
step_case ps w c true e p old new was gives at some =
    let none : w ≡ 0 = (at refl).0 in
    let entry : e ≡ p = (at refl).1 in
    let before : old ≡ ps = was ∙ ap (λ n. ps ++ cond (nat_lt 0 n) (p ∷ []) []) none ∙ append-nil ps in
    let now : nat_lt 0 (w + c) ≡ true = grind (arith, nat_tests) in
    rw now (gives ∙ ap₂ (λ xs x. xs ++ x ∷ []) before entry)
step_case ps w c false e p old new was gives at some = rw (add-zero w) (gives ∙ append-nil old ∙ was)

-- one pair more
pub part_more : (before : List ℕ → List Entry) (doc : ℕ) (texts : List (List ℕ)) (pairs : List (List ℕ × ℕ)) (i : ℕ) (d : List ℕ × ℕ) (old new : List ℕ → List Entry) (e : Entry)
    → Rises pairs → i < length pairs → 0 < (get_or pairs i d).1 → e ≡ posting texts (get_or pairs i d).0 doc
    → ((term : List ℕ) → old term ≡ so_far before doc texts (take i pairs) term)
    → ((term : List ℕ) → new term ≡ old term ++ cond (bytes_eq (get_or pairs i d).0 term) (e ∷ []) [])
    → (term : List ℕ) → new term ≡ so_far before doc texts (take (i + 1) pairs) term
part_more before doc texts pairs i d old new e rises inside some is was gives term =
    let t : List ℕ = (get_or pairs i d).0 in
    let f : List ℕ × ℕ → ℕ = λ p. cond (bytes_eq term p.0) p.1 0 in
    let turned : bytes_eq term t ≡ bytes_eq t term = nat_list_eq_equiv.symm term t in
    let sums : weight_of term (take (i + 1) pairs) ≡ weight_of term (take i pairs) + cond (bytes_eq t term) (get_or pairs i d).1 0 =
    rw turned at (sum_by_more f pairs i d inside) in
    rw sums (step_case (before term) (weight_of term (take i pairs)) (get_or pairs i d).1 (bytes_eq t term) e (posting texts term doc) (old term) (new term)
    (was term) (gives term)
    (λ equal.
    let same : t ≡ term = (bytes_eq-Decides t term).0 equal in (
      subst (λ x. weight_of x (take i pairs) ≡ 0) same (weight_before pairs i d rises inside),
      is ∙ ap (λ x. posting texts x doc) same,
    ))
    some)

-- the entry of a pair
pub entry_is : (doc : ℕ) (texts : List (List ℕ)) (pairs : List (List ℕ × ℕ)) (i : ℕ) (d : List ℕ × ℕ) (e : Entry)
    → Counts (terms (text_of texts doc)) pairs → i < length pairs → e.doc ≡ doc
    → e.impact ≡ impact (get_or pairs i d).1 (total_terms texts) (length (terms (text_of texts doc))) (length texts)
    → e ≡ posting texts (get_or pairs i d).0 doc
unfolding posting
entry_is doc texts pairs i d e counts inside first second =
    let made : ℕ → ℕ → Entry = λ doc impact. record { doc = doc; impact = impact } in
    let count : (get_or pairs i d).1 ≡ count_in texts (get_or pairs i d).0 doc = sym (weight_at pairs i d counts.rises inside) ∙ counts.weights (get_or pairs i d).0 in
    ap₂ made first (second ∙ ap (λ c. impact c (total_terms texts) (length (terms (text_of texts doc))) (length texts)) count)

-- before the first pair
pub part_none : (before : List ℕ → List Entry) (doc : ℕ) (texts : List (List ℕ)) (gathered : Pairs) → HasEntries before gathered
    → HasEntries (so_far before doc texts []) gathered
part_none before doc texts gathered has = record {
  entries = λ term. has.entries term ∙ sym (append-nil (before term));
  terms = has.terms;
}

-- after the last
pub part_all : (first doc : ℕ) (texts : List (List ℕ)) (pairs : List (List ℕ × ℕ)) (gathered : Pairs) → first ≤ doc
    → Counts (terms (text_of texts doc)) pairs
    → HasEntries (so_far (postings_of_run first (doc - first) texts) doc texts pairs) gathered → HasRun first (doc + 1) texts gathered
part_all first doc texts pairs gathered up counts has = record {
  entries = λ term.
      has.entries term
      ∙ ap (λ w. postings_of_run first (doc - first) texts term ++ cond (nat_lt 0 w) (posting texts term doc ∷ []) []) (counts.weights term)
      ∙ sym (run_more first doc texts term up);
  terms = has.terms;
}

-- before the first document
pub nothing_yet : (first : ℕ) (texts : List (List ℕ)) (gathered : Pairs) → gathered ≡ [] → HasRun first first texts gathered
nothing_yet first texts gathered empty = record {
  entries = λ term. rw (empty, run_none first texts term) refl;
  terms = rw empty (All-nil (λ (pair : List ℕ × Entry). IsTerm pair.0));
}

-- two runs, the second one after the first
pub runs_joined : (first middle end : ℕ) (texts : List (List ℕ)) (one two : Pairs) → first ≤ middle → middle ≤ end
    → HasRun first middle texts one → HasRun middle end texts two → HasRun first end texts (one ++ two)
runs_joined first middle end texts one two low high front back = record {
  entries = λ term.
      entries_append term one two ∙ ap₂ (λ (xs ys : List Entry). xs ++ ys) (front.entries term) (back.entries term)
      ∙ run_joined first middle end texts term low high;
  terms = All-append (λ (pair : List ℕ × Entry). IsTerm pair.0) one two front.terms back.terms;
}
