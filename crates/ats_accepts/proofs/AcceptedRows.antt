-- The check accepts the rows of an honest proof, which are settled, and so all of the proof.
use Rattle.std.proofs.Common.{◌≡◌, ◌<◌, ◌≤◌, ℕ, true, List, [], ◌∷◌, length, get_or, refl, sym, ap, ap₂, subst, ◌∙◌, arith}
use Rattle.std.specs.List.{All}
use Rattle.std.proofs.lemmas.List.{length-map, get_or-map}
use Rattle.std.proofs.lemmas.List.Elements.{All-head, All-tail}
use Rattle.ats_base.specs.Rules.{AllHold}
use Rattle.ats_commit.specs.Archive.{Archive}
use Rattle.ats_commit.specs.Root.{root_of}
use Rattle.ats_bound.specs.declared.bracket.Bracket.{Bracket}
use Rattle.ats_bound.specs.Cut.{ShownLane, threshold}
use Rattle.ats_bound.specs.Ranked.{docs_of}
use Rattle.ats_bound.specs.Settled.{ArePicks, IsSettled}
use Rattle.ats_bound.specs.Schedule.{Bounding, WholeLane, IsCut, shown}
use Rattle.ats_bound.proofs.Public.{chosen_are_picks, chosen_once, chosen_is_settled, are_brackets, one_bracketing, has_contained}
use Rattle.ats_proof.specs.declared.record.Algorithm.{Algorithm}
use Rattle.ats_proof.specs.declared.record.Algorithm.TheVariants.{Tra, Tnra}
use Rattle.ats_proof.specs.Value.{Proof}
use Rattle.ats_client.specs.Groups.{AreRowsRight, IsAnswerSettled, brackets_of}
use Rattle.ats_client.specs.Presented as client
use Rattle.ats_client.specs.Bracketing.{bounds_of}
use Rattle.ats_client.specs.Accepts.{Accepts, section_rules}
use Rattle.ats_client.proofs.Public.{accepts_each}
use Rattle.ats_honest.specs.Terms.{has}
use Rattle.ats_honest.specs.Lanes.{bounding, lanes_of, present}
use Rattle.ats_honest.specs.Honest.{AreMet, IsHonest, IsHonestBy}
use Rattle.ats_honest.proofs.Public.{honest_cut, honest_met}
use Rattle.ats_accepts.proofs.AcceptedCut.{met_within, section_rules_hold, shown_lanes}
use Rattle.ats_accepts.proofs.AcceptedImpacts.{honest_bounds}

-- ---- the brackets

-- the brackets of their documents are these, if the check forms the same
brackets_again : (bounds formed : Bounding) (lanes : List ShownLane) (brackets : List Bracket) → All (λ (b : Bracket). b ≡ bounds lanes b.doc) brackets
    → All (λ (b : Bracket). formed lanes b.doc ≡ bounds lanes b.doc) brackets → brackets_of formed lanes (docs_of brackets) ≡ brackets
brackets_again bounds formed lanes [] each same = refl
brackets_again bounds formed lanes (b ∷ brackets) each same =
    let Is : Bracket → Type 0 = λ (b : Bracket). b ≡ bounds lanes b.doc in
    let Same : Bracket → Type 0 = λ (b : Bracket). formed lanes b.doc ≡ bounds lanes b.doc in
    ap₂ (λ x xs. x ∷ xs) (All-head Same b brackets same ∙ sym (All-head Is b brackets each))
    (brackets_again bounds formed lanes brackets (All-tail Is b brackets each) (All-tail Same b brackets same))

-- no lower end is above its upper end
pub proper : (algorithm : Algorithm) (whole : List WholeLane) (lanes : List ShownLane) (doc : ℕ) → (bounding algorithm whole lanes doc).lo ≤ (bounding algorithm whole lanes doc).hi
proper Tnra whole lanes doc = omega arith
proper Tra whole lanes doc = omega arith

-- ---- the rows of the honest proof of any walk

module _ (Stops : List ℕ → Type 0) (rows : ℕ) (H : List ℕ → List ℕ) (archive : Archive) (query : List (List ℕ × ℕ)) (algorithm : Algorithm) (proof : Proof)
    (honest : IsHonestBy Stops rows H archive query algorithm proof) where
  abbrev lanes : List WholeLane
  lanes = lanes_of archive.texts query

  abbrev cut_lanes : List ShownLane
  cut_lanes = shown lanes honest.cut

  abbrev bounds : Bounding
  bounds = bounding algorithm lanes

  is_cut : IsCut lanes honest.cut
  is_cut = honest_cut _ _ H archive query algorithm proof honest

  are_met : AreMet cut_lanes (docs_of honest.brackets)
  are_met = honest_met _ _ H archive query algorithm proof honest

  -- the check forms the brackets of the proof's algorithm
  formed : All (λ (b : Bracket). bounds_of proof cut_lanes b.doc ≡ bounds cut_lanes b.doc) honest.brackets
  formed k d inside =
      let b : Bracket = get_or honest.brackets k d in
      let size = length-map honest.brackets (λ (b : Bracket). b.doc) in
      let here : has b.doc (docs_of honest.brackets) ≡ true =
      has_contained b.doc (docs_of honest.brackets) (k, omega (arith, inside, size), get_or-map (λ (b : Bracket). b.doc) honest.brackets k d b.doc inside) in
      honest_bounds H archive.texts (present archive.texts query) algorithm proof.met proof.docs honest.shows.docs
      (met_within H archive query algorithm honest.cut (docs_of honest.brackets) proof is_cut are_met honest.shows) cut_lanes b.doc (ap (λ (met : List ℕ). has b.doc met) honest.shows.met ∙ here)

  -- those that it forms are the brackets of the cut
  pub formed_are : brackets_of (bounds_of proof) (client.lanes_of query proof) proof.met ≡ honest.brackets
  formed_are =
      ap (λ (ls : List ShownLane). brackets_of (bounds_of proof) ls proof.met) (shown_lanes H archive query algorithm honest.cut (docs_of honest.brackets) proof is_cut are_met honest.shows)
      ∙ ap (brackets_of (bounds_of proof) cut_lanes) honest.shows.met ∙ brackets_again bounds (bounds_of proof) cut_lanes honest.brackets honest.bounds.each formed

  pub walk_rows : AreRowsRight proof.met proof.answer
  walk_rows = record {
    inside =
        let size : length honest.brackets ≡ length proof.met = sym (ap (λ (ids : List ℕ). length ids) honest.shows.met ∙ length-map honest.brackets (λ (b : Bracket). b.doc)) in
        subst (λ (n : ℕ). All (λ i. i < n) proof.answer) size (chosen_are_picks honest.brackets rows proof.answer honest.answer);
    once = chosen_once honest.brackets rows proof.answer honest.answer;
  }

  -- all rules before those of the rows
  pub walk_sections : (algorithm ≡ Tra → 1 ≤ length archive.texts) → AllHold (section_rules H (root_of H archive) query proof)
  walk_sections some = section_rules_hold H archive query algorithm honest.cut (docs_of honest.brackets) proof is_cut are_met honest.shows some

-- ---- the answer of an honest proof

module _ (H : List ℕ → List ℕ) (archive : Archive) (query : List (List ℕ × ℕ)) (r : ℕ) (algorithm : Algorithm) (proof : Proof)
    (some : algorithm ≡ Tra → 1 ≤ length archive.texts) (honest : IsHonest H archive query r algorithm proof) where
  abbrev here : List ShownLane
  here = shown (lanes_of archive.texts query) honest.cut

  -- the chosen answer is settled, since some answer is
  settled : IsSettled honest.brackets proof.answer (threshold here) r
  settled =
      let by : Bounding = bounding algorithm (lanes_of archive.texts query) in
      let can = honest.first.stops in
      let same : can.brackets ≡ honest.brackets = one_bracketing by here can.brackets honest.brackets can.bounded honest.bounds in
      chosen_is_settled honest.brackets (threshold here) r can.answer proof.answer (are_brackets by here honest.brackets (proper algorithm (lanes_of archive.texts query) here) honest.bounds)
      (subst (λ (bs : List Bracket). ArePicks bs can.answer) same can.inside)
      (subst (λ (bs : List Bracket). IsSettled bs can.answer (threshold here) r) same can.settled) honest.answer

  pub honest_settled : IsAnswerSettled (bounds_of proof) (client.lanes_of query proof) proof.met proof.answer r
  honest_settled =
      let lanes_are : client.lanes_of query proof ≡ here =
      shown_lanes H archive query algorithm honest.cut (docs_of honest.brackets) proof (is_cut _ _ H archive query algorithm proof honest) (are_met _ _ H archive query algorithm proof honest) honest.shows in
      subst (λ (bs : List Bracket). IsSettled bs proof.answer (threshold (client.lanes_of query proof)) r) (sym (formed_are _ _ H archive query algorithm proof honest))
      (subst (λ (ls : List ShownLane). IsSettled honest.brackets proof.answer (threshold ls) r) (sym lanes_are) settled)

  -- all rules hold of it
  pub honest_accepted : Accepts H (root_of H archive) query r proof
  honest_accepted =
      let hold = walk_sections _ _ H archive query algorithm proof honest some in
      accepts_each H (root_of H archive) query r proof hold.0 hold.1.0 hold.1.1.0 hold.1.1.1.0 hold.1.1.1.1.0 hold.1.1.1.1.1.0 hold.1.1.1.1.1.1.0
      (walk_rows _ _ H archive query algorithm proof honest) honest_settled
