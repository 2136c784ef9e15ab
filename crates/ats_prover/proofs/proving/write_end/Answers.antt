use Rattle.std.proofs.Common.{◌≡◌, ℕ, List, subst, sym, ap, ◌∙◌}
use Rattle.std.specs.Result.{OnOk}
use Rattle.ats_bound.specs.Ranked.{docs_of}
use Rattle.ats_bound.specs.Schedule.{IsCut, shown}
use Rattle.ats_honest.specs.Lanes.{lanes_of}
use Rattle.ats_honest.specs.Honest.{AreMet}
use Rattle.ats_honest.proofs.Public.{brackets_met}
use Rattle.ats_prover.specs.Inner.Writing.{IsShownWith, IsWritten}
use Rattle.ats_prover.proofs.proving.write_end.Goals as goal

pub write_shown-requires-clause-cut : goal.write_shown-requires-clause-cut
write_shown-requires-clause-cut g c = subst (IsCut (lanes_of c.args.index.now.texts c.args.query.now)) (sym c.as_slice-2.ensures) c.requires.cut

pub write_shown-requires-clause-met : goal.write_shown-requires-clause-met
write_shown-requires-clause-met g c =
    let lanes = lanes_of c.args.index.now.texts c.args.query.now in
    let end = c.args.end.now in
    let met : c.deref.result.now ≡ docs_of end.brackets = c.deref.ensures.value ∙ c.in_ok-met.ensures ∙ ap docs_of c.as_slice.ensures in
    subst (λ (counts : List ℕ). AreMet (shown lanes counts) c.deref.result.now) (sym c.as_slice-2.ensures)
    (subst (AreMet (shown lanes end.cut)) (sym met) (brackets_met (shown lanes end.cut) end.brackets c.requires.brackets))

pub returns-clause-written : goal.returns-clause-written
returns-clause-written g c =
    let H = g.H.HashKind.hash in
    let archive = c.args.index.now in
    let query = c.args.query.now in
    let end = c.args.end.now in
    let met : c.deref.result.now ≡ docs_of end.brackets = c.deref.ensures.value ∙ c.in_ok-met.ensures ∙ ap docs_of c.as_slice.ensures in
    let Written : List ℕ → List ℕ → List ℕ → Type 0 = λ cut docs picks.
    OnOk c.write_shown.result (IsWritten (IsShownWith H archive query c.args.algorithm cut docs picks) c.args.writer.now c.write_shown.new.writer) in
    subst (λ (picks : List ℕ). Written end.cut (docs_of end.brackets) picks) c.as_slice-3.ensures
    (subst (λ (docs : List ℕ). Written end.cut docs c.as_slice-3.result.now) met
    (subst (λ (cut : List ℕ). Written cut c.deref.result.now c.as_slice-3.result.now) c.as_slice-2.ensures c.write_shown.ensures.written))
