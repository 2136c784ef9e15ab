-- Scores by a table of impacts, and the brackets that they make.
use Rattle.std.proofs.Common.{◌≡◌, ◌<◌, ◌+◌, ◌*◌, ◌++◌, ℕ, suc, List, [], ◌∷◌, length, take, get_or, refl, sym, ap, ◌∙◌, arith, add-zero, length-take}
use Rattle.std.proofs.Math.Nat.{le_refl, le-add_right}
use Rattle.std.proofs.lemmas.List.{take_more}
use Rattle.ats_bound.specs.declared.bracket.Bracket.{Bracket}
use Rattle.ats_bound.specs.Cut.{ShownLane, threshold}
use Rattle.ats_bound.specs.Lookup.{Table, looked_score, looked_score_from, looked_up}
use Rattle.ats_bound.specs.Narrow.{IsNarrow}
use Rattle.ats_bound.specs.Schedule.{AreBracketsBy, WholeLane, shown}
use Rattle.ats_bound.specs.Scored.{exact, exactly}
use Rattle.ats_tra.specs.Inner.Looked.{score_by, score_from}

score_push : (k : ℕ) (table : Table) (lanes : List WholeLane) (lane : WholeLane) (doc : ℕ)
    → score_from k table (lanes ++ lane ∷ []) doc ≡ score_from k table lanes doc + lane.coefficient * table (k + length lanes) doc
score_push k table [] lane doc =
    let here : lane.coefficient * table k doc ≡ lane.coefficient * table (k + 0) doc = ap (λ n. lane.coefficient * table n doc) (sym (add-zero k)) in
    omega (arith, here)
score_push k table (first ∷ lanes) lane doc =
    let later = score_push (k + 1) table lanes lane doc in
    let here : lane.coefficient * table (k + 1 + length lanes) doc ≡ lane.coefficient * table (k + suc (length lanes)) doc =
    ap (λ n. lane.coefficient * table n doc) (omega arith) in
    omega (arith, later, here)

-- the score by one lane more
pub score_more : (table : Table) (lanes : List WholeLane) (doc i : ℕ) (d : WholeLane) → i < length lanes
    → score_by table (take (i + 1) lanes) doc ≡ score_by table (take i lanes) doc + (get_or lanes i d).coefficient * table i doc
score_more table lanes doc i d inside =
    let lane : WholeLane = get_or lanes i d in
    let place : 0 + length (take i lanes) ≡ i = omega (arith, length-take i lanes, inside) in
    ap (λ front. score_from 0 table front doc) (take_more lanes i d inside) ∙ score_push 0 table (take i lanes) lane doc
    ∙ ap (λ n. score_from 0 table (take i lanes) doc + lane.coefficient * table n doc) place

-- what is shown does not matter
looked_is_score : (k : ℕ) (table : Table) (lanes : List WholeLane) (cut : List ℕ) (doc : ℕ) → length cut ≡ length lanes
    → looked_score_from k table (shown lanes cut) doc ≡ score_from k table lanes doc
looked_is_score k table [] cut doc same = refl
looked_is_score k table (lane ∷ lanes) [] doc same = absurd (omega (arith, same))
looked_is_score k table (lane ∷ lanes) (count ∷ cut) doc same =
    ap (λ n. lane.coefficient * table k doc + n) (looked_is_score (k + 1) table lanes cut doc (omega (arith, same)))

exact_is_looked : (table : Table) (lanes : List WholeLane) (cut : List ℕ) (doc : ℕ) → length cut ≡ length lanes
    → exact doc (score_by table lanes doc) ≡ looked_up table (shown lanes cut) doc
exact_is_looked table lanes cut doc same = ap (exact doc) (sym (looked_is_score 0 table lanes cut doc same))

-- brackets of these scores are looked up
pub scores_are_looked : (table : Table) (lanes : List WholeLane) (cut : List ℕ) (brackets : List Bracket) → length cut ≡ length lanes
    → AreBracketsBy (exactly (score_by table lanes)) (shown lanes cut) brackets → AreBracketsBy (looked_up table) (shown lanes cut) brackets
scores_are_looked table lanes cut brackets same of = record {
  rise = of.rise;
  met = of.met;
  each = λ i d inside. of.each i d inside ∙ exact_is_looked table lanes cut (get_or brackets i d).doc same;
}

pub looked_is_narrow : (table : Table) (lanes : List ShownLane) (doc : ℕ) → IsNarrow (threshold lanes) doc (looked_up table lanes doc)
looked_is_narrow table lanes doc =
    let score : ℕ = looked_score table lanes doc in
    record { of = refl; proper = le_refl score; narrow = le-add_right score (threshold lanes) }
