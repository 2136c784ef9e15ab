use Rattle.std.proofs.Common.{rules, ◌≡◌, ◌∙◌, ◌<◌, ◌+◌, ℕ, List, [], ◌∷◌, ◌++◌, length, take, drop, map, slice_index_or, ap, sym, arith}
use Rattle.std.proofs.lemmas.List.{drop-drop, drop-set-lt, map-append, take_more, take_more_set}
use Rattle.ats_reader.specs.Verdicts.{shown_term}
use Rattle.ats_reader.specs.declared.shown.ShownTerm.{ShownTerm}
use Rattle.ats_reader.proofs.export.show_terms.Goals as goal

pub loop-i-preserved : goal.loop-i-preserved
loop-i-preserved c =
    let i = c.loop-i.i in
    let query = c.args.query.now in
    let none : List ℕ × ℕ = ([], 0) in
    let inside : i < length query = omega (arith, c.loop-i-test.true, c.len-i-end.ensures.value) in
    let fits : i < length c.loop-i.room = omega (arith, inside, c.requires, c.loop-i.invariant.size) in
    let one : map shown_term (take (i + 1) query) ≡ map shown_term (take i query) ++ shown_term (slice_index_or query i none) ∷ [] =
    ap (map shown_term) (take_more query i none inside) ∙ map-append shown_term (take i query) (slice_index_or query i none ∷ []) in
    record {
      size = search rules;
      shown = take_more_set c.loop-i.room i c.shown_term.result fits
          ∙ (ap (λ (rows : List ShownTerm). rows ++ c.shown_term.result ∷ []) c.loop-i.invariant.shown
          ∙ (ap (λ (last : ShownTerm). map shown_term (take i query) ++ last ∷ []) (c.shown_term.ensures none) ∙ sym one));
      rest = drop-set-lt (i + 1) c.loop-i.room i c.shown_term.result (omega arith) ∙ (sym (drop-drop 1 i c.loop-i.room) ∙ (ap (drop 1) c.loop-i.invariant.rest ∙ drop-drop 1 i c.args.room.now));
    }
