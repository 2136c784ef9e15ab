use Rattle.std.proofs.Common.{◌≤◌, ◌∙◌, length, map, option_map, sym, ap, arith, take_all}
use Rattle.std.proofs.lemmas.List.{length-map}
use Rattle.serde_json.specs.View.{view}
use Rattle.ats_console.specs.Input.{item_text, IsJsonArray}
use Rattle.ats_console.proofs.JsonLemmas.{is_array, one_more, first_bad, item_at, inside_view}
use Rattle.ats_console.proofs.input.read_collection.Goals as goal

pub returns-in_default-item_text-clause-fault : goal.returns-in_default-item_text-clause-fault
returns-in_default-item_text-clause-fault c =
    let values = c.deref-item-items.result.now in
    let inside = inside_view values c.loop-doc.doc c.loop-doc-test.true in
    let at = item_at values c.loop-doc.doc c.item-item.result c.loop-doc-test.true c.item-item.is in
    let none = ap item_text at ∙ sym c.item_text.ensures ∙ ap (option_map (λ text. text.now)) c.in_default-item_text.is in
    let array : IsJsonArray c.args.bytes.now (map view values) = rw c.deref-item-items.ensures.value (is_array _ _ _ c.in-Ok.ensures.ok.0 c.in-Ok.ensures.ok.1 c.in-Some.ensures) in
    (map view values, array, first_bad _ _ _ inside c.loop-doc.invariant none)

pub loop-doc-preserved : goal.loop-doc-preserved
loop-doc-preserved c =
    let values = c.deref-item-items.result.now in
    let inside = inside_view values c.loop-doc.doc c.loop-doc-test.true in
    let at = item_at values c.loop-doc.doc c.item-item.result c.loop-doc-test.true c.item-item.is in
    let has = ap item_text at ∙ sym c.item_text.ensures ∙ ap (option_map (λ text. text.now)) c.in-Some-item_text.is in
    rw c.in_ok-push.ensures (one_more _ _ _ _ inside c.loop-doc.invariant has)

pub returns-clause-ok : goal.returns-clause-ok
returns-clause-ok c =
    let values = c.deref-item-items.result.now in
    let array : IsJsonArray c.args.bytes.now (map view values) = rw c.deref-item-items.ensures.value (is_array _ _ _ c.in-Ok.ensures.ok.0 c.in-Ok.ensures.ok.1 c.in-Some.ensures) in
    let whole : length (map view values) ≤ c.loop-doc.doc = omega (arith, length-map values view, c.loop-doc-test.false) in
    record {
      items = map view values;
      array = array;
      said = ap (map item_text) (sym (take_all c.loop-doc.doc (map view values) whole)) ∙ c.loop-doc.invariant;
    }
