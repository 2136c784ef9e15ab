use Rattle.std.proofs.Common.{◌≡◌, ◌<◌, ℕ, List, length, get_or, take, take_all, sym, ap, ◌∙◌, arith}
use Rattle.std.proofs.lemmas.Option.{get_or_from_slice_get}
use Rattle.ats_grammar.specs.Table.{number}
use Rattle.ats_impact.specs.declared.rank.Row.{Row}
use Rattle.ats_bound.specs.declared.bracket.Bracket.{Bracket}
use Rattle.ats_bound.specs.declared.work.Mark.{Mark}
use Rattle.ats_bound.specs.Cut.{ShownLane}
use Rattle.ats_bound.specs.Schedule.{Bounding}
use Rattle.ats_proof.specs.Value.{Proof}
use Rattle.ats_proof.proofs.Public.{number_read}
use Rattle.ats_client.specs.Bracketing.{bounds_of}
use Rattle.ats_client.proofs.Bracketing.{own_doc}
use Rattle.ats_client.specs.Inner.Bounds.{upper}
use Rattle.ats_client.specs.Groups.{met_at}
use Rattle.ats_client.specs.Presented.{lanes_of}
use Rattle.ats_client.specs.Rows.{IsLeftByCheck, row_of}
use Rattle.ats_client.proofs.Bounding.{held_within, upper_is}
use Rattle.ats_client.proofs.TermsLeft.{at_place}
use Rattle.ats_client.proofs.answer.row.Goals as goal

row_is : (doc lower upper : ℕ) (b : Bracket) → doc ≡ b.doc → lower ≡ b.lo → upper ≡ b.hi
    → ◌≡◌ {A = Row} (record { doc = doc; lower = lower; upper = upper }) (row_of b)
row_is doc lower upper b same_doc same_lower same_upper =
    let of : ℕ → ℕ → ℕ → Row = λ d l u. record { doc = d; lower = l; upper = u } in
    ap (λ d. of d lower upper) same_doc ∙ (ap (λ l. of b.doc l upper) same_lower ∙ ap (λ u. of b.doc b.lo u) same_upper)

pub upper-requires-clause-held : goal.upper-requires-clause-held
upper-requires-clause-held c =
    let proof : Proof = c.args.proof.now in
    let query : List (List ℕ × ℕ) = c.requires.left.0 in
    let left : IsLeftByCheck query proof c.args.work.now.marks c.args.threshold = c.requires.left.1 in
    let index : ℕ = c.answer-index.result in
    let inside : index < length proof.met = at_place (λ (x : ℕ). x < length proof.met) proof.answer c.args.i index left.inside c.answer-index.ensures.row in
    rw c.get-mark.ensures.mark (held_within (bounds_of proof) (lanes_of query proof) proof.met c.args.work.now.marks c.args.threshold left.each left.rests index inside)

pub upper-requires-clause-small : goal.upper-requires-clause-small
upper-requires-clause-small c =
    let proof : Proof = c.args.proof.now in
    let query : List (List ℕ × ℕ) = c.requires.left.0 in
    let left : IsLeftByCheck query proof c.args.work.now.marks c.args.threshold = c.requires.left.1 in
    let index : ℕ = c.answer-index.result in
    let inside : index < length proof.met = at_place (λ (x : ℕ). x < length proof.met) proof.answer c.args.i index left.inside c.answer-index.ensures.row in
    omega (arith, ap (λ (m : Mark). m.lo) c.get-mark.ensures.mark, (left.each.each index inside).small, left.small)

pub returns-clause-row : goal.returns-clause-row
returns-clause-row c query left =
    let proof : Proof = c.args.proof.now in
    let lanes : List ShownLane = lanes_of query proof in
    let bounds : Bounding = bounds_of proof in
    let marks : List Mark = c.args.work.now.marks in
    let index : ℕ = c.answer-index.result in
    let here : get_or proof.answer c.args.i 0 ≡ index = get_or_from_slice_get proof.answer c.args.i index 0 c.answer-index.ensures.row in
    let inside : index < length proof.met = at_place (λ (x : ℕ). x < length proof.met) proof.answer c.args.i index left.inside c.answer-index.ensures.row in
    let id : get_or proof.met index 0 ≡ number c.met_id-id.result.now = get_or_from_slice_get proof.met index (number c.met_id-id.result.now) 0 c.met_id-id.ensures.id in
    let bytes : List ℕ = c.met_id-id.result.now in
    let whole : take 4 bytes ≡ bytes = take_all 4 bytes (omega (arith, c.met_id-id.ensures.size)) in
    let read : c.read_u32.result ≡ number bytes = c.read_u32.ensures ∙ number_read 4 bytes (omega (arith, c.met_id-id.ensures.size)) ∙ ap number whole in
    let doc : c.read_u32.result ≡ (bounds lanes (met_at proof.met index)).doc = omega (arith, read, id, own_doc proof.met proof.docs lanes (met_at proof.met index)) in
    let lower : c.get-mark.result.lo ≡ (bounds lanes (met_at proof.met index)).lo = ap (λ (m : Mark). m.lo) c.get-mark.ensures.mark ∙ (left.each.each index inside).least in
    let at_most : c.upper.result ≡ (bounds lanes (met_at proof.met index)).hi =
    c.upper.ensures ∙ (ap (upper c.args.threshold) c.get-mark.ensures.mark ∙ sym (upper_is bounds lanes proof.met marks c.args.threshold left.each left.rests index inside)) in
    row_is c.read_u32.result c.get-mark.result.lo c.upper.result (bounds lanes (met_at proof.met index)) doc lower at_most
    ∙ ap (λ k. row_of (bounds lanes (met_at proof.met k))) (sym here)
