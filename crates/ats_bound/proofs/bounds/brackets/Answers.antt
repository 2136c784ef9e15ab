use Rattle.std.proofs.Common.{◌≡◌, List, length, ap, ◌∙◌, arith, take_all, subst}
use Rattle.std.specs.List.Sorted.{IsPermutation, IsSorted}
use Rattle.std.proofs.lemmas.Result.{IfOk-weaker}
use Rattle.ats_bound.specs.declared.bracket.Bracket.{Bracket}
use Rattle.ats_bound.specs.declared.met_documents.Met.{Met}
use Rattle.ats_bound.specs.Cut.{ShownLane}
use Rattle.ats_bound.specs.Cursors.{shown_on}
use Rattle.ats_bound.specs.Inner.Placed.{doc_cmp}
use Rattle.ats_bound.specs.Schedule.{AreBracketsOf}
use Rattle.ats_bound.proofs.MetBrackets.{brackets_of, sorted_are_brackets}
use Rattle.ats_bound.proofs.bounds.brackets.Goals as goal

pub returns : goal.returns
returns c =
    let lanes : List ShownLane = shown_on c.args.cursors.now in
    let met : List Met = c.args.known.now in
    let all : c.loop-met.all.items ≡ brackets_of lanes met = c.loop-met.invariant ∙ ap (brackets_of lanes) (take_all c.loop-met.met-index met (omega (arith, ap length c.as_slice-met-items.ensures))) in
    IfOk-weaker c.sorted.result (λ brackets. IsPermutation c.loop-met.all.items brackets × IsSorted doc_cmp brackets) (AreBracketsOf lanes)
    (λ brackets are. sorted_are_brackets lanes met brackets c.requires (subst (λ (xs : List Bracket). IsPermutation xs brackets) all are.0) are.1) c.sorted.ensures
