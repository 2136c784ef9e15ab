use Rattle.std.proofs.Common.{◌<◌, ◌≤◌, ◌+◌, ◌++◌, ℕ, List, length, map, sym, ap, ap₂, subst, ◌∙◌, arith}
use Rattle.std.specs.List.{All, flat_map}
use Rattle.std.proofs.lemmas.Result.{on_ok_weaker}
use Rattle.ats_tree.specs.Elided.{elided_digests}
use Rattle.ats_dict.specs.declared.spot.Spot.{Spot}
use Rattle.ats_doctree.specs.Sentinels.{terms_leaves}
use Rattle.ats_proof.specs.Parts.{counted}
use Rattle.ats_proof.specs.Value.{digest_fields, slot_fields, term_fields}
use Rattle.ats_proof.specs.Written.{Written}
use Rattle.ats_honest.specs.Documents.{IsTermSpot, shown_term}
use Rattle.ats_honest.specs.Terms.{AreNeeded, slot_of}
use Rattle.ats_prover.specs.Inner.Writing.{put}
use Rattle.ats_honest.proofs.Public.{lower_item, all_below}
use Rattle.ats_prover.proofs.MetLeaves.{written_section}
use Rattle.ats_prover.proofs.terms_section.write_section.Goals as goal

-- the positions as they are lent
pub write_shown-requires-clause-within : goal.write_shown-requires-clause-within
write_shown-requires-clause-within g c =
    let items = c.args.terms.now in
    let needed : AreNeeded c.keep_spots.new.spots.items c.keep_positions.new.positions.items =
    subst (λ (ss : List Spot). AreNeeded ss c.keep_positions.new.positions.items) c.deref.ensures.value c.in_ok-keep_positions.ensures.needed in
    subst (λ (ps : List ℕ). All (λ p. p < length items + 2) ps) (sym c.deref-2.ensures.value)
    (all_below (IsTermSpot items) (length items) (lower_item items) c.args.present.now c.keep_spots.new.spots.items c.keep_positions.new.positions.items c.in_ok-keep_spots.ensures.spots needed)

pub returns-clause-written : goal.returns-clause-written
returns-clause-written g c =
    let H = g.H.HashKind.hash in
    let items = c.args.terms.now in
    let spots = c.keep_spots.new.spots.items in
    let positions = c.keep_positions.new.positions.items in
    let needed : AreNeeded spots positions = subst (λ (ss : List Spot). AreNeeded ss positions) c.deref.ensures.value c.in_ok-keep_positions.ensures.needed in
    let few : length positions ≤ 64 = omega (arith, c.in_ok-keep_positions.ensures.few, c.in_ok-keep_spots.ensures.few, ap (λ (ss : List Spot). length ss) c.deref.ensures.value) in
    let Fields : List ℕ → List Spot → Written = λ (ps : List ℕ) (ss : List Spot).
    put c.args.writer.now (counted 2 term_fields (map (shown_term items) ps) ++ counted 2 digest_fields (elided_digests H (terms_leaves items) ps) ++ flat_map slot_fields (map (slot_of ps) ss)) in
    on_ok_weaker c.write_shown.result (λ is.
    written_section H g.H.HashKind.sized items c.args.present.now spots positions c.args.writer.now c.write_shown.new.writer c.len-2.ensures.holds c.requires.some c.len.ensures.rise
    c.in_ok-keep_spots.ensures.spots needed few (is ∙ ap₂ Fields c.deref-2.ensures.value c.deref-3.ensures.value)) c.write_shown.ensures.fields
