use Rattle.std.proofs.Common.{◌≡◌, ◌↔◌, ℕ, sym, ap, subst, ◌∙◌}
use Rattle.std.specs.Bool.{IsTrue}
use Rattle.std.specs.Prelude.{Option}
use Rattle.ats_bound.specs.Cut.{bracket}
use Rattle.ats_bound.specs.Floors.{Floors}
use Rattle.ats_bound.specs.QuickTest.{TellsSettled}
use Rattle.ats_bound.specs.Running.{Standing}
use Rattle.ats_tnra.specs.Inner.Ends.{EndsAt, rows_of}
use Rattle.ats_tnra.proofs.Turns.{told_any}
use Rattle.ats_tnra.proofs.walking.is_reached.Goals as goal

pub returns-in_ok-settled-in-Some-clause-reached : goal.returns-in_ok-settled-in-Some-clause-reached
returns-in_ok-settled-in-Some-clause-reached c =
    let walk : Standing = c.args.walk.now in
    let floors : Floors = record { spans = c.args.spans.now; floor = c.args.floor } in
    let n : ℕ = c.in-Some.field-0 in
    let yes = c.in_ok-settled-in-Some.field-0 in
    let rows : walk.rows ≡ n = c.requires ∙ ap (λ (top : Option ℕ). rows_of top floors.spans) c.in-Some.is in
    let tells : TellsSettled bracket walk.lanes n walk.cut yes = subst (λ (r : ℕ). TellsSettled bracket walk.lanes r walk.cut yes) rows c.in_ok-settled-in-Some.ensures.told in
    subst (λ (top : Option ℕ). IsTrue yes ↔ EndsAt walk.lanes top floors walk.cut) (sym c.in-Some.is) (told_any walk.lanes n walk.cut yes tells)
