use Rattle.std.proofs.Common.{◌≡◌, ◌<◌, ◌++◌, ℕ, List, [], ◌∷◌, length, take, get_or, sym, ap, ap₂, subst, ◌∙◌, arith, take_all, length-append, add-one}
use Rattle.std.specs.List.{All}
use Rattle.std.proofs.lemmas.List.{map-append}
use Rattle.std.proofs.lemmas.List.Elements.{All-push}
use Rattle.ats_terms.specs.Query.{Rises}
use Rattle.ats_dict.specs.declared.spot.Spot.{Spot}
use Rattle.ats_honest.specs.Inner.Present.{standing}
use Rattle.ats_prover.specs.Inner.Places.{terms_at}
use Rattle.ats_honest.proofs.Public.{standing_more, standing_rises, standing_same}
use Rattle.ats_prover.proofs.present_terms.PresentTerms.of.Goals as goal
use Rattle.ats_prover.proofs.present_terms.PresentTerms.of.Goals.{in-At+in_ok-push-in-At, in-Between}

pub loop-i-preserved : goal.loop-i-preserved
loop-i-preserved c =
    let query = c.args.query.now in
    let spots = c.args.spots.now in
    let i = c.loop-i.i in
    let inside : i < length query = omega (arith, c.loop-i-test.true, c.len-i-end.ensures.value) in
    elim c.match-spots-i.branch [
      | in-At+in_ok-push-in-At w ↦
          let more : c.match-spots-i.places.items ≡ c.loop-i.places.items ++ i ∷ [] = ap (λ v. v.items) w.places-is ∙ w.in_ok-push-in-At.ensures.items in
          record {
            terms = ap (terms_at query) more ∙ map-append (λ k. get_or query k ([], 0)) c.loop-i.places.items (i ∷ [])
                ∙ ap (λ (ts : List (List ℕ × ℕ)). ts ++ get_or query i ([], 0) ∷ []) c.loop-i.invariant.terms
                ∙ sym (rw add-one (standing_more query spots i _ ([], 0) _ inside c.requires w.in-At.is));
            few = omega (arith, ap (λ (ps : List ℕ). length ps) more, length-append c.loop-i.places.items (i ∷ []), c.loop-i.invariant.few);
            inside = subst (All (λ k. k < length query)) (sym more) (All-push (λ k. k < length query) c.loop-i.places.items i c.loop-i.invariant.inside inside);
          }
      | in-Between w ↦
          let same : c.match-spots-i.places.items ≡ c.loop-i.places.items = ap (λ v. v.items) w.places-is in
          record {
            terms = ap (terms_at query) same ∙ c.loop-i.invariant.terms ∙ sym (rw add-one (standing_same query spots i _ _ inside c.requires w.in-Between.is));
            few = omega (arith, ap (λ (ps : List ℕ). length ps) same, c.loop-i.invariant.few);
            inside = subst (All (λ k. k < length query)) (sym same) c.loop-i.invariant.inside;
          }
    ]

whole : {X Y : Type 0} (xs : List X) (ys : List Y) (n : ℕ) → n ≡ length xs → length ys ≡ length xs → (take n xs ≡ xs) × (take n ys ≡ ys)
whole xs ys n all same = (take_all n xs (omega (arith, all)), take_all n ys (omega (arith, all, same)))

pub invariant_of-result : goal.invariant_of-result
invariant_of-result c =
    let query = c.args.query.now in
    let ends : c.loop-i.i ≡ length query = omega (arith, c.loop-i-test.false, c.len-i-end.ensures.value, c.loop-i.auto.i-end) in
    let all = whole query c.args.spots.now c.loop-i.i ends c.requires in
    let terms : terms_at query c.loop-i.places.items ≡ standing query c.args.spots.now =
    c.loop-i.invariant.terms ∙ ap₂ (λ (q : List (List ℕ × ℕ)) (ss : List Spot). standing q ss) all.0 all.1 in
    record {
      few = omega (arith, c.loop-i.invariant.few, c.loop-i.auto.i-end, c.len-i-end.ensures.value, c.len-i-end.ensures.query.few);
      inside = c.loop-i.invariant.inside;
      rise = subst Rises (sym terms) (standing_rises query c.args.spots.now c.len-i-end.ensures.query.rises);
    }

pub returns : goal.returns
returns c =
    let query = c.args.query.now in
    let ends : c.loop-i.i ≡ length query = omega (arith, c.loop-i-test.false, c.len-i-end.ensures.value, c.loop-i.auto.i-end) in
    let all = whole query c.args.spots.now c.loop-i.i ends c.requires in
    c.loop-i.invariant.terms ∙ ap₂ (λ (q : List (List ℕ × ℕ)) (ss : List Spot). standing q ss) all.0 all.1
