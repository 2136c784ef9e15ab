-- The check sees that a list is shown whole.
use Rattle.std.proofs.Common.{◌≡◌, ◌<◌, ◌∙◌, ℕ, zero, suc, true, List, [], ◌∷◌, length, take, get_or, sym, ap, arith, take_all}
use Rattle.std.specs.List.{list_any}
use Rattle.std.proofs.lemmas.Bool.{eq-eqb, or_left, or_right}
use Rattle.std.proofs.lemmas.List.{length-map}
use Rattle.ats_postings.specs.declared.entry.Entry.{Entry}
use Rattle.ats_commit.specs.Archive.{Archive}
use Rattle.ats_bound.specs.Schedule.{IsCut, WholeLane, shown}
use Rattle.ats_proof.specs.declared.record.Algorithm.{Algorithm}
use Rattle.ats_proof.specs.Value.{Prefix, Proof}
use Rattle.ats_client.specs.Presented.{Presented, presented}
use Rattle.ats_client.specs.WholeLists.{is_whole, shows_whole}
use Rattle.ats_honest.specs.Honest.{AreMet, IsShownAt, placed}
use Rattle.ats_honest.specs.Lanes.{lanes_of}
use Rattle.ats_accepts.proofs.AcceptedCut.{shown_presented}
use Rattle.ats_accepts.proofs.AcceptedLists.{AreFronts, IsFront}

module _ (H : List ℕ → List ℕ) (archive : Archive) (asked : List (List ℕ × ℕ)) (met : List ℕ) where
  -- a front of all entries is a whole list
  front_whole : (lane : WholeLane) (count : ℕ) (term : Presented) → IsFront H archive asked met lane count term → count ≡ length lane.entries → is_whole term ≡ true
  front_whole lane count term front all =
      let few : length (take count lane.entries) ≡ length lane.entries = ap (λ (es : List Entry). length es) (take_all count lane.entries (omega (arith, all))) in
      eq-eqb (length term.prefix.entries) term.entry.f
      (ap (λ (p : Prefix). length p.entries) front.front ∙ length-map (take count lane.entries) (placed met) ∙ few ∙ sym front.size)

  some_whole : (lanes : List WholeLane) (cut : List ℕ) (terms : List Presented) → AreFronts H archive asked met lanes cut terms
      → (place : ℕ) (d : WholeLane) → place < length lanes → get_or cut place 0 ≡ length (get_or lanes place d).entries → list_any is_whole terms ≡ true
  some_whole [] cut terms fronts place d inside all = absurd (omega (arith, inside))
  some_whole (lane ∷ lanes) [] terms fronts place d inside all = absurd fronts
  some_whole (lane ∷ lanes) (count ∷ cut) [] fronts place d inside all = absurd fronts
  some_whole (lane ∷ lanes) (count ∷ cut) (term ∷ terms) fronts zero d inside all = or_left (is_whole term) (list_any is_whole terms) (front_whole lane count term fronts.0 all)
  some_whole (lane ∷ lanes) (count ∷ cut) (term ∷ terms) fronts (suc place) d inside all =
      or_right (is_whole term) (list_any is_whole terms) (some_whole lanes cut terms fronts.1 place d (omega (arith, inside)) all)

-- if a cut shows all entries of some list, the check sees a whole list
pub whole_seen : (H : List ℕ → List ℕ) (archive : Archive) (query : List (List ℕ × ℕ)) (algorithm : Algorithm) (cut documents : List ℕ) (proof : Proof)
    → IsCut (lanes_of archive.texts query) cut → AreMet (shown (lanes_of archive.texts query) cut) documents → IsShownAt H archive query algorithm cut documents proof
    → (place : ℕ) (d : WholeLane) → place < length (lanes_of archive.texts query) → get_or cut place 0 ≡ length (get_or (lanes_of archive.texts query) place d).entries
    → shows_whole query proof ≡ true
whole_seen H archive query algorithm cut documents proof is_cut are_met is =
    some_whole H archive query proof.met (lanes_of archive.texts query) cut (presented query proof)
    (shown_presented H archive query algorithm cut documents proof is_cut are_met is)
