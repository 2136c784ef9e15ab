-- What one more entry says of scores.
use Rattle.std.proofs.Common.{◌≡◌, ◌≢◌, ◌<◌, ◌+◌, ◌*◌, ◌^◌, ◌||◌, ℕ, zero, suc, Bool, true, false, cond, nat_eq, List, [], ◌∷◌, length, take, set, get_or, refl, sym, ap, ◌∙◌, arith, inl, inr, length-take}
use Rattle.std.specs.List.{list_any}
use Rattle.std.proofs.Math.Nat.{mul-add, pow-succ'}
use Rattle.std.proofs.lemmas.Bool.{cases_Bool}
use Rattle.std.proofs.lemmas.List.{get_or-take, get_or_default}
use Rattle.std.proofs.lemmas.List.Folds.{list_any_more, list_any_none}
use Rattle.std.proofs.lemmas.List.Sums.{sum_by-cons, sum_by-set, sum_by_more}
use Rattle.ats_postings.specs.declared.entry.Entry.{Entry}
use Rattle.ats_bound.specs.Cut.{ShownLane, lane_of, lo_of, names, shown_impact}
use Rattle.ats_bound.specs.Cursors.{Stage, entry_on, lane_on}
use Rattle.ats_bound.specs.Inner.Cursors.{named_by}
use Rattle.ats_bound.specs.Schedule.{IsWholeLane, WholeLane, shown}
use Rattle.ats_bound.proofs.Lanes.{unnamed, unnamed_has_none}
use Rattle.ats_bound.proofs.One.{other_doc, same_doc}
use Rattle.ats_bound.proofs.Shown.{get_or-shown, length-shown, no_shown, shown-set}

-- what the lanes say after one more entry, which names a document, adds to its score and has the digit of its list
pub record Enters (all after : List ShownLane) (doc gain digit : ℕ) : Type 0 where
  pub any : (q : ℕ) → list_any (names q) after ≡ (list_any (names q) all || nat_eq doc q)
  pub others : (q : ℕ) → q ≢ doc → (lo_of after q ≡ lo_of all q) × (named_by after q ≡ named_by all q)
  pub lo : lo_of after doc ≡ lo_of all doc + gain
  pub named : named_by after doc ≡ named_by all doc + digit

or_swap : (a b c : Bool) → ((a || b) || c) ≡ ((a || c) || b)
or_swap true b c = refl
or_swap false true true = refl
or_swap false true false = refl
or_swap false false true = refl
or_swap false false false = refl

or_later : (a b c : Bool) → (a || (b || c)) ≡ ((a || b) || c)
or_later true b c = refl
or_later false b c = refl

pub or_none : (a : Bool) → (a || false) ≡ a
or_none true = refl
or_none false = refl

any-set : (p : ShownLane → Bool) (all : List ShownLane) (i : ℕ) (y d : ShownLane) (b : Bool) → i < length all → p y ≡ (p (get_or all i d) || b)
    → list_any p (set all i y) ≡ (list_any p all || b)
any-set p [] i y d b inside is = absurd (omega (arith, inside))
any-set p (x ∷ all) zero y d b inside is = ap (λ t. t || list_any p all) is ∙ or_swap (p x) b (list_any p all)
any-set p (x ∷ all) (suc i) y d b inside is = ap (λ t. p x || t) (any-set p all i y d b (omega (arith, inside)) is) ∙ or_later (p x) (list_any p all) b

digit_of : (b : Bool) (i : ℕ) → cond b (2 ^ suc i) 0 ≡ 2 * cond b (2 ^ i) 0
digit_of true i = pow-succ' 2 i
digit_of false i = refl

named-set : (doc : ℕ) (all : List ShownLane) (i : ℕ) (y d : ShownLane) → i < length all
    → named_by (set all i y) doc + cond (names doc (get_or all i d)) (2 ^ i) 0 ≡ named_by all doc + cond (names doc y) (2 ^ i) 0
named-set doc [] i y d inside = absurd (omega (arith, inside))
named-set doc (x ∷ all) zero y d inside = omega arith
named-set doc (x ∷ all) (suc i) y d inside =
    let later = named-set doc all i y d (omega (arith, inside)) in
    omega (arith, later, digit_of (names doc (get_or all i d)) i, digit_of (names doc y) i)

pub none_named : (all : List ShownLane) (doc : ℕ) → list_any (names doc) all ≡ false → (lo_of all doc ≡ 0) × (named_by all doc ≡ 0)
none_named [] doc out = (refl, refl)
none_named (lane ∷ all) doc out = elim (cases_Bool (names doc lane)) [
  | inl here ↦ let clash : true ≡ false = rw here at out in absurd (cc)
  | inr none ↦
      let later : list_any (names doc) all ≡ false = rw none at out in
      let before = none_named all doc later in
      let nothing : shown_impact doc lane ≡ 0 = unnamed_has_none doc lane.shown (unnamed doc lane.shown none) in
      let part : lane.coefficient * shown_impact doc lane ≡ 0 = ap (λ n. lane.coefficient * n) nothing ∙ omega arith in
      (omega (arith, sum_by-cons (λ (l : ShownLane). l.coefficient * shown_impact doc l) lane all, part, before.0), ap (λ b. cond b 1 0 + 2 * named_by all doc) none ∙ omega (arith, before.1))
]

-- the entry after those that are shown names another document than they do
not_before : (lane : WholeLane) (k : ℕ) (e : Entry) → IsWholeLane lane → k < length lane.entries → names (get_or lane.entries k e).doc (lane_of lane.coefficient lane.entries k) ≡ false
not_before lane k e whole inside = list_any_none _ (take k lane.entries) (λ j d low.
    let less : j < k = omega (arith, low, length-take k lane.entries, inside) in
    let is : get_or (take k lane.entries) j d ≡ get_or lane.entries j d = get_or-take k lane.entries j d less in
    let differ = whole.once j k d less inside in
    let same : get_or lane.entries k d ≡ get_or lane.entries k e = get_or_default lane.entries k d e inside in
    other_doc _ _ (λ clash. differ (sym (ap (λ (x : Entry). x.doc) is) ∙ clash ∙ sym (ap (λ (x : Entry). x.doc) same))))

module _ (lanes : List WholeLane) (cut : List ℕ) (i : ℕ) (whole : IsWholeLane (lane_on (record { lanes = lanes; cut = cut }) i)) (inside : i < length lanes)
    (size : length cut ≡ length lanes) (space : get_or cut i 0 < length (lane_on (record { lanes = lanes; cut = cut }) i).entries) where
  abbrev stage : Stage
  stage = record { lanes = lanes; cut = cut }

  abbrev k : ℕ
  k = get_or cut i 0

  abbrev lane : WholeLane
  lane = lane_on stage i

  abbrev entry : Entry
  entry = entry_on stage i

  abbrev all : List ShownLane
  all = shown lanes cut

  abbrev before : ShownLane
  before = lane_of lane.coefficient lane.entries k

  abbrev next : ShownLane
  next = lane_of lane.coefficient lane.entries (k + 1)

  after_is : shown lanes (set cut i (k + 1)) ≡ set all i next
  after_is = shown-set lanes cut i (k + 1) (record { coefficient = 0; entries = [] }) inside (omega (arith, inside, size))

  here : get_or all i no_shown ≡ before
  here = get_or-shown lanes cut i no_shown (record { coefficient = 0; entries = [] }) inside (omega (arith, inside, size))

  there : i < length all
  there = omega (arith, inside, length-shown lanes cut size)

  names_next : (q : ℕ) → names q next ≡ (names q before || nat_eq entry.doc q)
  names_next q = list_any_more (λ (x : Entry). nat_eq x.doc q) lane.entries k (record { doc = 0; impact = 0 }) space

  impact_next : (q : ℕ) → shown_impact q next ≡ shown_impact q before + cond (nat_eq entry.doc q) entry.impact 0
  impact_next q = sum_by_more (λ (x : Entry). cond (nat_eq x.doc q) x.impact 0) lane.entries k (record { doc = 0; impact = 0 }) space

  lower_next : (q : ℕ) → lo_of (set all i next) q + lane.coefficient * shown_impact q before ≡ lo_of all q + lane.coefficient * shown_impact q next
  lower_next q =
      let step = sum_by-set (λ (l : ShownLane). l.coefficient * shown_impact q l) all i next no_shown there in
      rw here at step

  named_next : (q : ℕ) → named_by (set all i next) q + cond (names q before) (2 ^ i) 0 ≡ named_by all q + cond (names q next) (2 ^ i) 0
  named_next q = rw here at (named-set q all i next no_shown there)

  fresh : names entry.doc before ≡ false
  fresh = not_before lane k (record { doc = 0; impact = 0 }) whole space

  pub entered : Enters (shown lanes cut) (shown lanes (set cut i (get_or cut i 0 + 1))) (entry_on (record { lanes = lanes; cut = cut }) i).doc
      ((lane_on (record { lanes = lanes; cut = cut }) i).coefficient * (entry_on (record { lanes = lanes; cut = cut }) i).impact) (2 ^ i)
  entered = rw after_is (record {
    any = λ q. any-set (names q) all i next no_shown (nat_eq entry.doc q) there (names_next q ∙ ap (λ (l : ShownLane). names q l || nat_eq entry.doc q) (sym here));
    others = λ q differ.
        let other : nat_eq entry.doc q ≡ false = other_doc entry.doc q (λ e. differ (sym e)) in
        let same : shown_impact q next ≡ shown_impact q before = rw other at (impact_next q) ∙ omega arith in
        let named : names q next ≡ names q before = rw other at (names_next q) ∙ or_none (names q before) in
        (omega (arith, lower_next q, ap (λ n. lane.coefficient * n) same), omega (arith, named_next q, ap (λ b. cond b (2 ^ i) 0) named));
    lo =
        let is : nat_eq entry.doc entry.doc ≡ true = same_doc entry.doc entry.doc refl in
        let impact : shown_impact entry.doc next ≡ shown_impact entry.doc before + entry.impact = rw is at (impact_next entry.doc) in
        omega (arith, lower_next entry.doc, ap (λ n. lane.coefficient * n) impact, mul-add lane.coefficient (shown_impact entry.doc before) entry.impact);
    named =
        let is : nat_eq entry.doc entry.doc ≡ true = same_doc entry.doc entry.doc refl in
        let yes : names entry.doc next ≡ true = names_next entry.doc ∙ ap (λ b. b || nat_eq entry.doc entry.doc) fresh ∙ is in
        omega (arith, named_next entry.doc, ap (λ b. cond b (2 ^ i) 0) yes, ap (λ b. cond b (2 ^ i) 0) fresh);
  })
