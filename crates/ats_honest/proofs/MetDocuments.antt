-- The documents that a cut meets.
use Rattle.std.proofs.Common.{◌≡◌, ◌+◌, ◌<◌, ◌≤◌, ◌||◌, ℕ, Bool, true, false, nat_eq, inl, inr, List, [], ◌∷◌, length, map, take, get_or, refl, sym, ap, ap₂, subst, ◌∙◌, arith}
use Rattle.std.specs.List.{All, dedup, flat_map, list_any}
use Rattle.std.specs.List.Sorted.{IsPermutation, IsSorted, IsStrictlyIncreasing}
use Rattle.std.specs.Ordering.{nat_cmp}
use Rattle.std.proofs.lemmas.Bool.{eqb-true, or_cases}
use Rattle.std.proofs.lemmas.List.{length-map, get_or-map, get_or_default}
use Rattle.std.proofs.lemmas.List.Elements.{All-take, All-head, All-tail}
use Rattle.std.proofs.lemmas.List.Folds.{Any-from_list_any, list_any-append}
use Rattle.std.proofs.lemmas.Map.Keys.{sorted_from_strictly_increasing}
use Rattle.std.proofs.lemmas.Map.Views.{length-le_from_below}
use Rattle.ats_postings.specs.Lists.{IsList}
use Rattle.ats_postings.specs.declared.entry.Entry.{Entry}
use Rattle.ats_bound.specs.declared.bracket.Bracket.{Bracket}
use Rattle.ats_bound.specs.Cut.{ShownLane, names}
use Rattle.ats_bound.specs.Schedule.{WholeLane, AreBracketsBy, Bounding, has_bracket, shown}
use Rattle.ats_bound.proofs.Public.{has_contained}
use Rattle.ats_honest.specs.Terms.{has}
use Rattle.ats_honest.specs.Honest.{AreMet}
use Rattle.ats_honest.proofs.Needed.{each_once}

-- the documents of brackets that rise
met_rises : {bounds : Bounding} (lanes : List ShownLane) (brackets : List Bracket) → AreBracketsBy bounds lanes brackets → IsStrictlyIncreasing (map (λ (b : Bracket). b.doc) brackets)
met_rises lanes brackets are k inside =
    let docs : Bracket → ℕ = λ b. b.doc in
    let size = length-map brackets docs in
    let none : Bracket = record { doc = 0; lo = 0; hi = 0 } in
    let here : k < length brackets = omega (arith, inside, size) in
    let next : k + 1 < length brackets = omega (arith, inside, size) in
    omega (arith, are.rise k (k + 1) (omega arith) next, get_or-map docs brackets k none 0 here, get_or-map docs brackets (k + 1) none 0 next)

-- a document has a bracket if it is among their documents
has_docs : (doc : ℕ) (brackets : List Bracket) → has doc (map (λ (b : Bracket). b.doc) brackets) ≡ has_bracket doc brackets
has_docs doc [] = refl
has_docs doc (b ∷ brackets) = ap (λ (x : Bool). nat_eq b.doc doc || x) (has_docs doc brackets)

-- they are those that the cut meets
pub brackets_met : {bounds : Bounding} (lanes : List ShownLane) (brackets : List Bracket) → AreBracketsBy bounds lanes brackets → AreMet lanes (map (λ (b : Bracket). b.doc) brackets)
brackets_met lanes brackets are = record {
  rise = met_rises lanes brackets are;
  named = λ doc. has_docs doc brackets ∙ are.met doc;
}

named_below : (doc n : ℕ) (es : List Entry) → All (λ (e : Entry). e.doc < n) es → list_any (λ (e : Entry). nat_eq e.doc doc) es ≡ true → doc < n
named_below doc n es all is =
    let any = Any-from_list_any (λ (e : Entry). nat_eq e.doc doc) es is in
    let below = subst (λ (e : Entry). e.doc < n) any.3 (all any.0 any.1 any.2) in
    omega (arith, below, eqb-true any.1.doc doc any.4)

shown_below : (doc n : ℕ) (lanes : List WholeLane) (cut : List ℕ) → All (λ (lane : WholeLane). All (λ (e : Entry). e.doc < n) lane.entries) lanes
    → list_any (names doc) (shown lanes cut) ≡ true → doc < n
shown_below doc n [] cut all is = absurd (cc)
shown_below doc n (lane ∷ lanes) [] all is = absurd (cc)
shown_below doc n (lane ∷ lanes) (count ∷ cut) all is =
    let Low : WholeLane → Type 0 = λ lane. All (λ (e : Entry). e.doc < n) lane.entries in
    let first = All-take (λ (e : Entry). e.doc < n) count lane.entries (All-head Low lane lanes all) in
    elim (or_cases (list_any (λ (e : Entry). nat_eq e.doc doc) (take count lane.entries)) (list_any (names doc) (shown lanes cut)) is) [
      | inl here ↦ named_below doc n (take count lane.entries) first here
      | inr later ↦ shown_below doc n lanes cut (All-tail Low lane lanes all) later
    ]

-- each of the documents that a cut meets is named
pub met_named : (lanes : List ShownLane) (documents : List ℕ) → AreMet lanes documents → (k d : ℕ) → k < length documents → list_any (names (get_or documents k d)) lanes ≡ true
met_named lanes documents are k d inside =
    let doc = get_or documents k d in
    sym (are.named doc) ∙ has_contained doc documents (k, inside, get_or_default documents k doc d inside)

-- met documents are documents
pub met_low : (n : ℕ) (lanes : List WholeLane) (cut documents : List ℕ) → All (λ (lane : WholeLane). All (λ (e : Entry). e.doc < n) lane.entries) lanes
    → AreMet (shown lanes cut) documents → All (λ d. d < n) documents
met_low n lanes cut documents all are k d inside = shown_below (get_or documents k d) n lanes cut all (met_named (shown lanes cut) documents are k d inside)

pub rising_few : (n : ℕ) (xs : List ℕ) → IsStrictlyIncreasing xs → All (λ d. d < n) xs → length xs ≤ n
rising_few n xs rise below = length-le_from_below n xs (sorted_from_strictly_increasing xs rise) below

pub lists_below : (lanes : List WholeLane) → All (λ (lane : WholeLane). IsList 65536 lane.entries) lanes → All (λ (lane : WholeLane). All (λ (e : Entry). e.doc < 65536) lane.entries) lanes
lists_below lanes all k d inside = (all k d inside).documents

-- if a document is met, there is a list
pub met_lists : (lanes : List WholeLane) (cut documents : List ℕ) → AreMet (shown lanes cut) documents → 1 ≤ length documents → 1 ≤ length lanes
met_lists [] cut documents are some =
    let clash : false ≡ true = met_named [] documents are 0 0 (omega (arith, some)) in
    absurd (cc)
met_lists (lane ∷ lanes) cut documents are some = omega arith

-- ---- gathered from the shown entries

-- the documents that the shown entries of a lane name
abbrev pub docs_in : ShownLane → List ℕ
docs_in lane = map (λ (e : Entry). e.doc) lane.shown

has_named : (doc : ℕ) (es : List Entry) → has doc (map (λ (e : Entry). e.doc) es) ≡ list_any (λ (e : Entry). nat_eq e.doc doc) es
has_named doc [] = refl
has_named doc (e ∷ es) = ap (λ (x : Bool). nat_eq e.doc doc || x) (has_named doc es)

has_gathered : (doc : ℕ) (lanes : List ShownLane) → has doc (flat_map docs_in lanes) ≡ list_any (names doc) lanes
has_gathered doc [] = refl
has_gathered doc (lane ∷ lanes) =
    list_any-append (λ (m : ℕ). nat_eq m doc) (docs_in lane) (flat_map docs_in lanes)
    ∙ ap₂ (λ (x y : Bool). x || y) (has_named doc lane.shown) (has_gathered doc lanes)

-- sorted, and each once
pub are_met : (lanes : List ShownLane) (all sorted documents : List ℕ) → all ≡ flat_map docs_in lanes → IsPermutation all sorted → IsSorted nat_cmp sorted
    → documents ≡ dedup nat_eq sorted → AreMet lanes documents
are_met lanes all sorted documents is same ordered left =
    let once = each_once all sorted documents same ordered left in
    record { rise = once.0; named = λ doc. once.1 doc ∙ ap (has doc) is ∙ has_gathered doc lanes }
