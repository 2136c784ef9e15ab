use Rattle.std.proofs.Common.{◌≡◌, ◌<◌, ◌≤◌, ℕ, List, length, get_or, sym, ap, ◌∙◌, arith, add-one, below_more}
use Rattle.std.proofs.lemmas.Option.{get_or_from_slice_get}
use Rattle.ats_bound.specs.declared.work.Mark.{Mark}
use Rattle.ats_bound.specs.Work.{mark_at}
use Rattle.ats_client.specs.Inner.Bounds.{upper, row_mark, lower_before}
use Rattle.ats_client.proofs.settled.last_lower.Goals as goal

pub get-mark-requires-clause-inside : goal.get-mark-requires-clause-inside
get-mark-requires-clause-inside c =
    let answer : List ℕ = c.args.proof.now.answer in
    let inside : c.loop-k.k < length answer = omega (arith, c.loop-k-test.true, c.answers-k-end.ensures) in
    let here : get_or answer c.loop-k.k 0 ≡ c.answer.result = get_or_from_slice_get answer c.loop-k.k c.answer.result 0 c.answer.ensures.row in
    omega (arith, here, c.requires.rows c.loop-k.k 0 inside)

pub returns-then-upper-score-clause-falling : goal.returns-then-upper-score-clause-falling
returns-then-upper-score-clause-falling c falling =
    let answer : List ℕ = c.args.proof.now.answer in
    let marks : List Mark = c.args.work.now.marks in
    let inside : c.loop-k.k < length answer = omega (arith, c.loop-k-test.true, c.answers-k-end.ensures) in
    let here : get_or answer c.loop-k.k 0 ≡ c.answer.result = get_or_from_slice_get answer c.loop-k.k c.answer.result 0 c.answer.ensures.row in
    let mark : c.get-mark.result ≡ row_mark marks answer c.loop-k.k = c.get-mark.ensures.mark ∙ ap (mark_at marks) (sym here) in
    let le : upper c.args.threshold c.get-mark.result ≤ lower_before marks answer c.loop-k.k = rw mark (falling c.loop-k.k inside) in
    omega (arith, le, c.upper.ensures, c.if-upper-score.true, c.loop-k.invariant.score)

pub loop-k-preserved : goal.loop-k-preserved
loop-k-preserved c =
    let answer : List ℕ = c.args.proof.now.answer in
    let marks : List Mark = c.args.work.now.marks in
    let here : get_or answer c.loop-k.k 0 ≡ c.answer.result = get_or_from_slice_get answer c.loop-k.k c.answer.result 0 c.answer.ensures.row in
    let mark : c.get-mark.result ≡ row_mark marks answer c.loop-k.k = c.get-mark.ensures.mark ∙ ap (mark_at marks) (sym here) in
    let at_most : upper c.args.threshold c.get-mark.result ≤ lower_before marks answer c.loop-k.k =
    omega (arith, c.upper.ensures, c.if-upper-score.false, c.loop-k.invariant.score) in
    record {
      falling = below_more _ _ c.loop-k.invariant.falling (rw mark at at_most);
      score = ap (λ (m : Mark). m.lo) mark ∙ ap (lower_before marks answer) (sym (add-one c.loop-k.k));
      steps = omega (arith, c.loop-k.invariant.steps, c.answer.ensures.cost, c.get-mark.ensures.steps);
    }

pub returns-clause-falling : goal.returns-clause-falling
returns-clause-falling c =
    let answer : List ℕ = c.args.proof.now.answer in
    let all : c.loop-k.k ≡ length answer = omega (arith, c.loop-k-test.false, c.answers-k-end.ensures, c.loop-k.auto.k-end) in
    (λ k inside. c.loop-k.invariant.falling k (omega (arith, inside, all)), c.loop-k.invariant.score ∙ ap (lower_before c.args.work.now.marks answer) all)
