-- Documents with their scores, as a map and as brackets.
use Rattle.std.proofs.Common.{◌≡◌, ◌<◌, ◌≤◌, ◌||◌, ◌^◌, ℕ, zero, suc, Bool, true, false, cond, nat_eq, nat_cmp, List, [], ◌∷◌, length, map, take, set, get_or, ◌+◌, Option, Some, None, refl, sym, ap, ap₂, subst, ◌∙◌, inl, inr, arith, length-take}
use Rattle.std.specs.Option.{MatchOption, is_some}
use Rattle.std.specs.Ordering.{is_eq, match_ordering}
use Rattle.std.specs.declared.cmp.Ordering.{Ordering}
use Rattle.std.specs.declared.cmp.Ordering.TheVariants.{Less, Equal, Greater}
use Rattle.std.specs.List.{All, Contains, list_any}
use Rattle.std.specs.List.Sorted.{IsPermutation, IsStrictlySortedBy}
use Rattle.std.specs.Map.{keys_of, values_of}
use Rattle.std.specs.BTreeMap.{insert_entry}
use Rattle.std.proofs.lemmas.Bool.{cases_Bool}
use Rattle.std.proofs.lemmas.Bool.Decides.{nat_tests}
use Rattle.std.proofs.lemmas.List.{get_or-map, get_or-take, length-map, take_more}
use Rattle.std.proofs.lemmas.List.Folds.{list_any-append, list_any_at}
use Rattle.std.proofs.lemmas.List.Elements.{All-cons, All-head, All-map, All-tail}
use Rattle.std.proofs.lemmas.List.Sorted.{All-permutation, IsPermutation-cons, IsPermutation-middle, IsPermutation-refl, IsPermutation-map, IsPermutation-trans}
use Rattle.std.proofs.lemmas.Map.Keys.{below_from_sorted}
use Rattle.std.proofs.lemmas.Map.Lookups.{exact_unsigned}
use Rattle.std.proofs.lemmas.Map.Views.{Contains-from_lookup, tells_apart}
use Rattle.ats_bound.specs.declared.bracket.Bracket.{Bracket}
use Rattle.ats_bound.specs.Scored.{exact, exactly, first_document}
use Rattle.ats_bound.specs.Inner.Scored.{AreScored, exact_brackets, score_in}
use Rattle.ats_bound.specs.Cut.{ShownLane, lane_of, names}
use Rattle.ats_bound.specs.Cursors.{IsStage, Stage, entry_on, lane_on, shown_on}
use Rattle.ats_bound.specs.Schedule.{AreBracketsBy, AreWholeLanes, IsOpen, WholeLane, first_cut, has_bracket, shown, whole_lane, whole_lanes}
use Rattle.ats_bound.specs.Settled.{bracket_at}
use Rattle.ats_bound.specs.Inner.Best.{AreBest}
use Rattle.ats_bound.proofs.Shown.{cut_after, first_is_cut, get_or-shown, have_entries, length-shown, no_shown, no_lane, open_more, shown-set}
use Rattle.ats_bound.specs.Chosen.{AreBrackets}
use Rattle.ats_bound.proofs.One.{Rise, same_doc}
use Rattle.ats_postings.specs.declared.entry.Entry.{Entry}
use Rattle.ats_bound.specs.declared.lane.Lane.{Lane}

-- ---- a new document

is_same : (a b : ℕ) → is_eq (nat_cmp a b) ≡ nat_eq a b
is_same a b = grind (arith, nat_tests)

match_permutes : (pair e : ℕ × ℕ) (es rest : List (ℕ × ℕ)) (o : Ordering) → is_eq o ≡ false → IsPermutation (pair ∷ es) rest
    → IsPermutation (pair ∷ e ∷ es) (match_ordering o (pair ∷ e ∷ es) ((e.0, pair.1) ∷ es) (e ∷ rest))
match_permutes pair e es rest Less apart later = IsPermutation-refl (pair ∷ e ∷ es)
match_permutes pair e es rest Equal apart later = absurd (cc)
match_permutes pair e es rest Greater apart later =
    IsPermutation-trans (pair ∷ e ∷ es) (e ∷ pair ∷ es) (e ∷ rest) (IsPermutation-middle (pair ∷ []) e es) (IsPermutation-cons e (pair ∷ es) rest later)

-- a document that is not there is added to the others
pub inserted : (es : List (ℕ × ℕ)) (doc score : ℕ) → is_some (score_in es doc) ≡ false → IsPermutation ((doc, score) ∷ es) (insert_entry nat_cmp es doc score)
inserted [] doc score new = IsPermutation-refl ((doc, score) ∷ [])
inserted (e ∷ es) doc score new = elim (cases_Bool (is_eq (nat_cmp doc e.0))) [
  | inl tied ↦ let clash : true ≡ false = sym (ap (λ b. is_some (cond b (Some e.1) (score_in es doc))) tied) ∙ new in absurd (cc)
  | inr apart ↦
      let later : is_some (score_in es doc) ≡ false = sym (ap (λ b. is_some (cond b (Some e.1) (score_in es doc))) apart) ∙ new in
      match_permutes (doc, score) e es (insert_entry nat_cmp es doc score) (nat_cmp doc e.0) apart (inserted es doc score later)
]

pub inserted_values : (es after : List (ℕ × ℕ)) (doc score : ℕ) → is_some (score_in es doc) ≡ false → after ≡ insert_entry nat_cmp es doc score
    → IsPermutation (score ∷ values_of es) (values_of after)
inserted_values es after doc score new is = rw is (IsPermutation-map (λ (e : ℕ × ℕ). e.1) ((doc, score) ∷ es) (insert_entry nat_cmp es doc score) (inserted es doc score new))

pub inserted_keeps : (P : ℕ × ℕ → Type 0) (es after : List (ℕ × ℕ)) (doc score : ℕ) → is_some (score_in es doc) ≡ false → after ≡ insert_entry nat_cmp es doc score
    → All P es → P (doc, score) → All P after
inserted_keeps P es after doc score new is all one =
    rw is (All-permutation P ((doc, score) ∷ es) (insert_entry nat_cmp es doc score) (inserted es doc score new) (All-cons P (doc, score) es one all))

-- ---- brackets

pub has_exact : (doc : ℕ) (scores : List (ℕ × ℕ)) → has_bracket doc (exact_brackets scores) ≡ is_some (score_in scores doc)
has_exact doc [] = refl
has_exact doc (e ∷ es) =
    ap₂ (λ x y. x || y) (flip e.0 doc) (has_exact doc es) ∙ either (is_eq (nat_cmp doc e.0))
  where
    flip : (a b : ℕ) → nat_eq a b ≡ is_eq (nat_cmp b a)
    flip a b = grind (arith, nat_tests)

    either : (b : Bool) → (b || is_some (score_in es doc)) ≡ is_some (cond b (Some e.1) (score_in es doc))
    either true = refl
    either false = refl

-- the lower bounds are the scores
pub lows_are : (scores : List (ℕ × ℕ)) → map (λ (b : Bracket). b.lo) (exact_brackets scores) ≡ values_of scores
lows_are [] = refl
lows_are (e ∷ es) = ap (λ rest. e.1 ∷ rest) (lows_are es)

docs_rise : (scores : List (ℕ × ℕ)) → IsStrictlySortedBy nat_cmp (keys_of scores) → (i j : ℕ) → i < j → j < length (exact_brackets scores)
    → (bracket_at (exact_brackets scores) i).doc < (bracket_at (exact_brackets scores) j).doc
docs_rise scores rise i j less inside =
    let f : ℕ × ℕ → Bracket = λ pair. exact pair.0 pair.1 in
    let key : ℕ × ℕ → ℕ = λ pair. pair.0 in
    let low : j < length scores = omega (arith, inside, length-map scores f) in
    let none : Bracket = record { doc = 0; lo = 0; hi = 0 } in
    let first = get_or-map f scores i (0, 0) none (omega (arith, less, low)) in
    let second = get_or-map f scores j (0, 0) none low in
    let first_key = get_or-map key scores i (0, 0) 0 (omega (arith, less, low)) in
    let second_key = get_or-map key scores j (0, 0) 0 low in
    let keys = below_from_sorted (keys_of scores) i j 0 rise less (omega (arith, low, length-map scores key)) in
    omega (arith, ap (λ (b : Bracket). b.doc) first, ap (λ (b : Bracket). b.doc) second, first_key, second_key, keys)

exact_each : (given : ℕ → ℕ) (lanes : List ShownLane) (scores : List (ℕ × ℕ)) → All (λ (pair : ℕ × ℕ). given pair.0 ≡ pair.1) scores
    → All (λ (b : Bracket). b ≡ exactly given lanes b.doc) (exact_brackets scores)
exact_each given lanes [] all = λ i d inside. absurd (omega (arith, inside))
exact_each given lanes (e ∷ es) all =
    let P : ℕ × ℕ → Type 0 = λ pair. given pair.0 ≡ pair.1 in
    All-cons (λ (b : Bracket). b ≡ exactly given lanes b.doc) (exact e.0 e.1) (exact_brackets es) (ap (exact e.0) (sym (All-head P e es all))) (exact_each given lanes es (All-tail P e es all))

-- the brackets of a stage whose scores these are
pub scored_brackets : (given : ℕ → ℕ) (stage : Stage) (rows : ℕ) (scores : List (ℕ × ℕ)) (kept : List ℕ) → AreScored stage rows scores kept
    → All (λ (pair : ℕ × ℕ). given pair.0 ≡ pair.1) scores → AreBracketsBy (exactly given) (shown_on stage) (exact_brackets scores)
scored_brackets given stage rows scores kept are all = record {
  rise = docs_rise scores are.rise;
  met = λ doc. has_exact doc scores ∙ are.met doc;
  each = exact_each given (shown_on stage) scores all;
}

-- and back
pub given_scores : (given : ℕ → ℕ) (lanes : List ShownLane) (scores : List (ℕ × ℕ)) → All (λ (b : Bracket). b ≡ exactly given lanes b.doc) (exact_brackets scores)
    → All (λ (pair : ℕ × ℕ). given pair.0 ≡ pair.1) scores
given_scores given lanes [] all = λ i d inside. absurd (omega (arith, inside))
given_scores given lanes (e ∷ es) all =
    let P : ℕ × ℕ → Type 0 = λ pair. given pair.0 ≡ pair.1 in
    let Q : Bracket → Type 0 = λ b. b ≡ exactly given lanes b.doc in
    All-cons P e es (sym (ap (λ (b : Bracket). b.lo) (All-head Q (exact e.0 e.1) (exact_brackets es) all))) (given_scores given lanes es (All-tail Q (exact e.0 e.1) (exact_brackets es) all))

-- ---- one entry more

either_first : (a b c : Bool) → (a || b || c) ≡ (a || (b || c))
either_first true b c = refl
either_first false b c = refl

either_second : (a b c : Bool) → (b || (a || c)) ≡ (a || (b || c))
either_second true true c = refl
either_second true false c = refl
either_second false b c = refl

any_set : (f : ShownLane → Bool) (lanes : List ShownLane) (i : ℕ) (y : ShownLane) (b : Bool) → i < length lanes → f y ≡ (b || f (get_or lanes i no_shown))
    → list_any f (set lanes i y) ≡ (b || list_any f lanes)
any_set f [] i y b inside is = absurd (omega arith)
any_set f (lane ∷ lanes) zero y b inside is = ap (λ x. x || list_any f lanes) is ∙ either_first b (f lane) (list_any f lanes)
any_set f (lane ∷ lanes) (suc i) y b inside is = ap (λ x. f lane || x) (any_set f lanes i y b (omega arith) is) ∙ either_second b (f lane) (list_any f lanes)

names_more : (doc coefficient count : ℕ) (entries : List Entry) (d : Entry) → count < length entries
    → names doc (lane_of coefficient entries (count + 1)) ≡ (nat_eq (get_or entries count d).doc doc || names doc (lane_of coefficient entries count))
names_more doc coefficient count entries d inside =
    let test : Entry → Bool = λ e. nat_eq e.doc doc in
    ap (list_any test) (take_more entries count d inside) ∙ list_any-append test (take count entries) (get_or entries count d ∷ [])
    ∙ turned (list_any test (take count entries)) (nat_eq (get_or entries count d).doc doc)
  where
    turned : (a b : Bool) → (a || (b || false)) ≡ (b || a)
    turned true true = refl
    turned true false = refl
    turned false true = refl
    turned false false = refl

-- a document is met after a turn if it is the new entry's or was met before
pub names_after : (stage : Stage) (i doc : ℕ) → IsStage stage → i < length stage.lanes → IsOpen stage.lanes stage.cut i
    → list_any (names doc) (shown stage.lanes (set stage.cut i (get_or stage.cut i 0 + 1))) ≡ (nat_eq (entry_on stage i).doc doc || list_any (names doc) (shown_on stage))
names_after stage i doc is inside more =
    let e : WholeLane = record { coefficient = 0; entries = [] } in
    let lane : WholeLane = lane_on stage i in
    let count : ℕ = get_or stage.cut i 0 in
    let low : i < length stage.cut = omega (arith, inside, is.cut.size) in
    let there : i < length (shown_on stage) = omega (arith, inside, length-shown stage.lanes stage.cut is.cut.size) in
    let after : ShownLane = lane_of lane.coefficient lane.entries (count + 1) in
    let here : get_or (shown_on stage) i no_shown ≡ lane_of lane.coefficient lane.entries count = get_or-shown stage.lanes stage.cut i no_shown e inside low in
    let space : count < length lane.entries = open_more stage.lanes stage.cut i e is.cut inside more in
    let named : names doc after ≡ (nat_eq (entry_on stage i).doc doc || names doc (get_or (shown_on stage) i no_shown)) =
    names_more doc lane.coefficient count lane.entries (record { doc = 0; impact = 0 }) space ∙ ap (λ (l : ShownLane). nat_eq (entry_on stage i).doc doc || names doc l) (sym here) in
    ap (list_any (names doc)) (shown-set stage.lanes stage.cut i (count + 1) e inside low)
    ∙ any_set (names doc) (shown_on stage) i after (nat_eq (entry_on stage i).doc doc) there named

-- ---- what a look-up finds

pub score_matches : (scores : List (ℕ × ℕ)) (doc : ℕ) → MatchOption (score_in scores doc) (has_bracket doc (exact_brackets scores) ≡ false) (λ score. Contains (exact_brackets scores) (exact doc score))
score_matches scores doc = go (score_in scores doc) refl
  where
    f : ℕ × ℕ → Bracket
    f pair = exact pair.0 pair.1

    go : (found : Option ℕ) → score_in scores doc ≡ found → MatchOption found (has_bracket doc (exact_brackets scores) ≡ false) (λ score. Contains (exact_brackets scores) (exact doc score))
    go None none = has_exact doc scores ∙ ap is_some none
    go (Some score) some =
        let there : Contains scores (doc, score) = Contains-from_lookup (tells_apart exact_unsigned) doc score scores some in
        let low : there.0 < length scores = there.1 in
        (there.0, omega (arith, low, length-map scores f), get_or-map f scores there.0 (doc, score) (exact doc score) low ∙ ap f there.2)

-- ---- the first entries

first_is_one : (lanes : List WholeLane) (i : ℕ) → i < length lanes → get_or (first_cut lanes) i 0 ≡ 1
first_is_one lanes i inside = get_or-map (λ (lane : WholeLane). 1) lanes i (record { coefficient = 0; entries = [] }) 0 inside

or_false : (b : Bool) → (b || false) ≡ b
or_false true = refl
or_false false = refl

-- the first cut shows the first entry of each list
pub first_named : (lanes : List WholeLane) (i doc : ℕ) → AreWholeLanes lanes → i < length lanes
    → names doc (get_or (shown lanes (first_cut lanes)) i no_shown) ≡ nat_eq (first_document lanes i) doc
first_named lanes i doc whole inside =
    let e : WholeLane = record { coefficient = 0; entries = [] } in
    let lane : WholeLane = get_or lanes i e in
    let cut : List ℕ = first_cut lanes in
    let size : length cut ≡ length lanes = length-map lanes (λ (lane : WholeLane). 1) in
    let here : get_or (shown lanes cut) i no_shown ≡ lane_of lane.coefficient lane.entries (get_or cut i 0) = get_or-shown lanes cut i no_shown e inside (omega (arith, inside, size)) in
    let some : 0 < length lane.entries = (whole.each i e inside).some in
    ap (names doc) (here ∙ ap (lane_of lane.coefficient lane.entries) (first_is_one lanes i inside))
    ∙ names_more doc lane.coefficient 0 lane.entries (record { doc = 0; impact = 0 }) some ∙ or_false (nat_eq (first_document lanes i) doc)

pub shown_first_size : (lanes : List WholeLane) → length (shown lanes (first_cut lanes)) ≡ length lanes
shown_first_size lanes = length-shown lanes (first_cut lanes) (length-map lanes (λ (lane : WholeLane). 1))

pub first_more : (lanes : List WholeLane) (i doc : ℕ) → AreWholeLanes lanes → i < length lanes
    → list_any (names doc) (take (i + 1) (shown lanes (first_cut lanes))) ≡ (nat_eq (first_document lanes i) doc || list_any (names doc) (take i (shown lanes (first_cut lanes))))
first_more lanes i doc whole inside =
    let all : List ShownLane = shown lanes (first_cut lanes) in
    ap (list_any (names doc)) (take_more all i no_shown (omega (arith, inside, shown_first_size lanes)))
    ∙ list_any-append (names doc) (take i all) (get_or all i no_shown ∷ [])
    ∙ ap (λ b. list_any (names doc) (take i all) || (b || false)) (first_named lanes i doc whole inside)
    ∙ turned (list_any (names doc) (take i all)) (nat_eq (first_document lanes i) doc)
  where
    turned : (a b : Bool) → (a || (b || false)) ≡ (b || a)
    turned true true = refl
    turned true false = refl
    turned false true = refl
    turned false false = refl

-- a document that no earlier lane names is none of an earlier lane's
pub first_apart : (lanes : List WholeLane) (i doc : ℕ) → AreWholeLanes lanes → i < length lanes
    → list_any (names doc) (take i (shown lanes (first_cut lanes))) ≡ false → (j : ℕ) → j < i → first_document lanes j ≡ doc → ⊥
first_apart lanes i doc whole inside unseen j less same =
    let all : List ShownLane = shown lanes (first_cut lanes) in
    let named : nat_eq (first_document lanes j) doc ≡ true = same_doc (first_document lanes j) doc same in
    let there : names doc (get_or (take i all) j no_shown) ≡ true = ap (names doc) (get_or-take i all j no_shown less) ∙ first_named lanes j doc whole (omega (arith, less, inside)) ∙ named in
    let seen : list_any (names doc) (take i all) ≡ true = list_any_at (names doc) (take i all) j no_shown (omega (arith, less, inside, length-take i all, shown_first_size lanes)) there in
    let clash : true ≡ false = sym seen ∙ unseen in
    absurd (cc)

-- the document of a lane that a call is given
pub first_given : (lanes : List Lane) (i : ℕ) → i < length lanes → first_document (whole_lanes lanes) i ≡ (get_or (get_or lanes i no_lane).entries.now 0 (record { doc = 0; impact = 0 })).doc
first_given lanes i inside =
    ap (λ (lane : WholeLane). (get_or lane.entries 0 (record { doc = 0; impact = 0 })).doc) (get_or-map whole_lane lanes i no_lane (record { coefficient = 0; entries = [] }) inside)

-- ---- brackets of a walk with known scores

-- they rise by document, and no bound is above the other
pub scored_rise : (stage : Stage) (rows : ℕ) (scores : List (ℕ × ℕ)) (kept : List ℕ) → AreScored stage rows scores kept → Rise (exact_brackets scores)
scored_rise stage rows scores kept are = docs_rise scores are.rise

pub scored_proper : (scores : List (ℕ × ℕ)) → AreBrackets (exact_brackets scores)
scored_proper scores =
    let f : ℕ × ℕ → Bracket = λ pair. exact pair.0 pair.1 in
    All-map (λ (b : Bracket). b.lo ≤ b.hi) f scores (λ i d inside. omega arith)

-- ---- the state of a walk

abbrev stage_of : List WholeLane → List ℕ → Stage
stage_of lanes cut = record { lanes = lanes; cut = cut }

-- it begins at the first cut
pub scored_first : (lanes : List WholeLane) (stage : Stage) (rows : ℕ) (scores : List (ℕ × ℕ)) (kept : List ℕ) → stage ≡ record { lanes = lanes; cut = first_cut lanes }
    → AreWholeLanes lanes → IsStrictlySortedBy nat_cmp (keys_of scores) → All (λ (pair : ℕ × ℕ). pair.1 < 2 ^ 64) scores → AreBest kept (values_of scores) → length kept ≡ rows + 1
    → ((doc : ℕ) → is_some (score_in scores doc) ≡ list_any (names doc) (shown lanes (first_cut lanes))) → AreScored stage rows scores kept
scored_first lanes stage rows scores kept is whole rise small best size met =
    subst (λ (s : Stage). AreScored s rows scores kept) (sym is) (record {
      stands = record { whole = whole; cut = first_is_cut lanes (have_entries lanes whole) };
      rise = rise;
      small = small;
      met = met;
      best = best;
      size = size;
    })

-- one entry more
pub scored_after : (before after : Stage) (rows : ℕ) (scores new : List (ℕ × ℕ)) (kept best : List ℕ) (i doc : ℕ) → AreScored before rows scores kept
    → i < length before.lanes → IsOpen before.lanes before.cut i → doc ≡ (entry_on before i).doc → after.lanes ≡ before.lanes → after.cut ≡ set before.cut i (get_or before.cut i 0 + 1)
    → IsStrictlySortedBy nat_cmp (keys_of new) → All (λ (pair : ℕ × ℕ). pair.1 < 2 ^ 64) new → AreBest best (values_of new) → length best ≡ length kept
    → ((other : ℕ) → is_some (score_in new other) ≡ (nat_eq doc other || is_some (score_in scores other))) → AreScored after rows new best
scored_after before after rows scores new kept best i doc are inside more named lanes_are cut_is rise small best_is size met =
    let next : List ℕ = set before.cut i (get_or before.cut i 0 + 1) in
    let same : record { lanes = before.lanes; cut = next } ≡ after = ap₂ (λ (lanes : List WholeLane) (cut : List ℕ). stage_of lanes cut) (sym lanes_are) (sym cut_is) in
    subst (λ (s : Stage). AreScored s rows new best) same (record {
      stands = record { whole = are.stands.whole; cut = cut_after before.lanes before.cut i are.stands.cut inside more };
      rise = rise;
      small = small;
      met = λ other.
          met other ∙ ap₂ (λ d b. nat_eq d other || b) named (are.met other) ∙ sym (names_after before i other are.stands inside more);
      best = best_is;
      size = size ∙ are.size;
    })
