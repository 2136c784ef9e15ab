-- What the shown entries of all lists say of scores.
use Rattle.std.proofs.Common.{◌≡◌, ◌<◌, ◌≤◌, ◌+◌, ◌*◌, ℕ, Bool, true, false, cond, List, [], ◌∷◌, refl, inl, inr, arith}
use Rattle.std.specs.List.{All, list_any}
use Rattle.std.proofs.Math.Nat.{mul-le-mul_left, mul-add}
use Rattle.std.proofs.lemmas.Bool.{cases_Bool}
use Rattle.std.proofs.lemmas.List.Elements.{All-head, All-tail}
use Rattle.std.proofs.lemmas.List.Sums.{sum_by-cons}
use Rattle.ats_bound.specs.Cut.{ShownLane, IsMet, names, rest, rest_impact, shown_impact, lo_of, missing, held, threshold, bracket}
use Rattle.ats_bound.specs.Ranked.{CutLane, IsCutLane, AreScores, HoldsScore, cut_of, impact_in, whole_score}
use Rattle.ats_bound.proofs.Lanes.{cut, shown_within, shown_none, shown_some, shown_below, whole_within}

-- what a lane adds to the score, to its lower bound, and to the bound of what is missing
abbrev whole_part : ℕ → CutLane → ℕ
whole_part doc lane = lane.coefficient * impact_in doc lane.entries

abbrev lower_part : ℕ → ShownLane → ℕ
lower_part doc lane = lane.coefficient * shown_impact doc lane

abbrev missing_part : ℕ → ShownLane → ℕ
missing_part doc lane = cond (names doc lane) 0 (rest lane)

scaled : (c x y b : ℕ) (t : Bool) → x ≤ y + cond t 0 b → c * x ≤ c * y + cond t 0 (c * b)
scaled c x y b true le = omega (arith, mul-le-mul_left {m = x} {n = y} c (omega (arith, le)))
scaled c x y b false le = omega (arith, mul-le-mul_left {m = x} {n = y + b} c le, mul-add c y b)

module _ (n doc : ℕ) where
  pub lower_within : (lanes : List CutLane) → All (IsCutLane n) lanes → lo_of (cut_of lanes) doc ≤ whole_score lanes doc
  lower_within [] each = omega arith
  lower_within (lane ∷ lanes) each =
      let is : IsCutLane n lane = All-head (IsCutLane n) lane lanes each in
      omega (
        arith,
        sum_by-cons (lower_part doc) (cut n lane is doc) (cut_of lanes),
        sum_by-cons (whole_part doc) lane lanes,
        mul-le-mul_left lane.coefficient (shown_within n lane is doc),
        lower_within lanes (All-tail (IsCutLane n) lane lanes each),
      )

  pub upper_within : (lanes : List CutLane) → All (IsCutLane n) lanes
      → whole_score lanes doc ≤ lo_of (cut_of lanes) doc + missing (cut_of lanes) doc
  upper_within [] each = omega arith
  upper_within (lane ∷ lanes) each =
      let is : IsCutLane n lane = All-head (IsCutLane n) lane lanes each in
      let shown : ShownLane = cut n lane is doc in
      omega (
        arith,
        sum_by-cons (lower_part doc) shown (cut_of lanes),
        sum_by-cons (missing_part doc) shown (cut_of lanes),
        sum_by-cons (whole_part doc) lane lanes,
        scaled lane.coefficient (impact_in doc lane.entries) (shown_impact doc shown) (rest_impact shown) (names doc shown) (whole_within n lane is doc),
        upper_within lanes (All-tail (IsCutLane n) lane lanes each),
      )

  pub unmet_within : (lanes : List CutLane) → All (IsCutLane n) lanes → list_any (names doc) (cut_of lanes) ≡ false
      → whole_score lanes doc ≤ threshold (cut_of lanes)
  unmet_within [] each unseen = omega arith
  unmet_within (lane ∷ lanes) each unseen =
      let is : IsCutLane n lane = All-head (IsCutLane n) lane lanes each in
      let shown : ShownLane = cut n lane is doc in
      elim (cases_Bool (names doc shown)) [
        | inl here ↦ let clash : true ≡ false = rw here at unseen in absurd (cc)
        | inr out ↦
            let later : list_any (names doc) (cut_of lanes) ≡ false = rw out at unseen in
            let within : impact_in doc lane.entries ≤ rest_impact shown =
            omega (arith, rw out at (whole_within n lane is doc), shown_none n lane is doc out) in
            omega (
              arith,
              sum_by-cons rest shown (cut_of lanes),
              sum_by-cons (whole_part doc) lane lanes,
              mul-le-mul_left lane.coefficient within,
              unmet_within lanes (All-tail (IsCutLane n) lane lanes each) later,
            )
      ]

  pub met_some : (lanes : List CutLane) → All (IsCutLane n) lanes → list_any (names doc) (cut_of lanes) ≡ true
      → (doc < n) × (0 < lo_of (cut_of lanes) doc)
  met_some [] each seen = absurd (cc)
  met_some (lane ∷ lanes) each seen =
      let is : IsCutLane n lane = All-head (IsCutLane n) lane lanes each in
      let shown : ShownLane = cut n lane is doc in
      let step = sum_by-cons (lower_part doc) shown (cut_of lanes) in
      elim (cases_Bool (names doc shown)) [
        | inl here ↦
            let some : 1 ≤ shown_impact doc shown = shown_some n lane is doc here in
            let more : lane.coefficient * 1 ≤ lane.coefficient * shown_impact doc shown = mul-le-mul_left lane.coefficient some in
            (shown_below n lane is doc here, omega (arith, step, more, is.weighs))
        | inr out ↦
            let later : list_any (names doc) (cut_of lanes) ≡ true = rw out at seen in
            let found = met_some lanes (All-tail (IsCutLane n) lane lanes each) later in
            (found.0, omega (arith, step, found.1))
      ]

-- a document that is not met scores at most the threshold
pub unmet_scores : (n : ℕ) (score : ℕ → ℕ) (lanes : List CutLane) (doc : ℕ) → AreScores n score lanes → doc < n
    → ¬ IsMet (cut_of lanes) doc → score doc ≤ threshold (cut_of lanes)
unmet_scores n score lanes doc are low unmet = elim (cases_Bool (list_any (names doc) (cut_of lanes))) [
  | inl seen ↦ absurd (unmet seen)
  | inr unseen ↦ omega (arith, are.sums doc low, unmet_within n doc lanes are.each unseen)
]

-- the bracket of a met document holds its score
pub bracket_holds : (n : ℕ) (score : ℕ → ℕ) (lanes : List CutLane) (doc : ℕ) → AreScores n score lanes → IsMet (cut_of lanes) doc
    → HoldsScore score (bracket (cut_of lanes) doc)
bracket_holds n score lanes doc are met =
    let found = met_some n doc lanes are.each met in
    let is : score doc ≡ whole_score lanes doc = are.sums doc found.0 in
    let low : lo_of (cut_of lanes) doc ≤ score doc = omega (arith, is, lower_within n doc lanes are.each) in
    record {
      lo = low;
      hi = omega (arith, is, upper_within n doc lanes are.each);
      scores = omega (arith, low, found.1);
    }

-- a met document is one of the n
pub met_below : (n : ℕ) (score : ℕ → ℕ) (lanes : List CutLane) (doc : ℕ) → AreScores n score lanes → IsMet (cut_of lanes) doc → doc < n
met_below n score lanes doc are met = (met_some n doc lanes are.each met).0

-- a lane's rest is held or missing
pub held_or_missing : (lanes : List ShownLane) (doc : ℕ) → held lanes doc + missing lanes doc ≡ threshold lanes
held_or_missing [] doc = refl
held_or_missing (lane ∷ lanes) doc =
    let one : cond (names doc lane) (rest lane) 0 + cond (names doc lane) 0 (rest lane) ≡ rest lane = elim (cases_Bool (names doc lane)) [
      | inl seen ↦ rw seen (omega arith)
      | inr unseen ↦ rw unseen (omega arith)
    ] in
    omega (
      arith,
      sum_by-cons (λ (l : ShownLane). cond (names doc l) (rest l) 0) lane lanes,
      sum_by-cons (missing_part doc) lane lanes,
      sum_by-cons rest lane lanes,
      one,
      held_or_missing lanes doc,
    )

pub missing_within : (lanes : List ShownLane) (doc : ℕ) → missing lanes doc ≤ threshold lanes
missing_within lanes doc = omega (arith, held_or_missing lanes doc)
