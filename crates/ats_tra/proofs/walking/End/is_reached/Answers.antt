use Rattle.std.proofs.Common.{◌≡◌, ◌↔◌, ℕ, List, sym, ap, subst, ◌∙◌}
use Rattle.std.specs.Bool.{IsTrue}
use Rattle.ats_bound.specs.Floors.{IsWithinBy, floors_of_share}
use Rattle.ats_bound.specs.QuickTest.{TellsSettled}
use Rattle.ats_bound.specs.Schedule.{WholeLane}
use Rattle.ats_bound.proofs.Public.{told_exactly}
use Rattle.ats_tra.specs.declared.walking.End.{End}
use Rattle.ats_tra.specs.Inner.Ends.{EndsAt, rows_of}
use Rattle.ats_tra.proofs.walking.End.is_reached.Goals as goal

pub returns-in-Settled : goal.returns-in-Settled
returns-in-Settled c = λ bounds of.
    let lanes : List WholeLane = c.args.walk.now.stage.lanes in
    let cut : List ℕ = c.args.walk.now.stage.cut in
    let top : ℕ = c.in-Settled.field-0 in
    let rows : c.args.walk.now.rows ≡ top = c.requires ∙ ap rows_of c.in-Settled.is in
    let tells : TellsSettled bounds lanes top cut c.settled.result = subst (λ (n : ℕ). TellsSettled bounds lanes n cut c.settled.result) rows (c.settled.ensures.tells bounds of) in
    subst (λ (end : End). IsTrue c.settled.result ↔ EndsAt bounds lanes end cut) (sym c.in-Settled.is) (told_exactly bounds lanes top cut c.settled.result c.args.walk.now.brackets of tells)

pub returns-in-Within : goal.returns-in-Within
returns-in-Within c = λ bounds of.
    let lanes : List WholeLane = c.args.walk.now.stage.lanes in
    let cut : List ℕ = c.args.walk.now.stage.cut in
    let rows : c.args.walk.now.rows ≡ c.in-Within.share.rows = c.requires ∙ ap rows_of c.in-Within.is in
    subst (λ (end : End). IsTrue c.within.result ↔ EndsAt bounds lanes end cut) (sym c.in-Within.is)
    (subst (λ (n : ℕ). IsTrue c.within.result ↔ IsWithinBy bounds lanes (floors_of_share (record { rows = n; floor = c.in-Within.share.floor })) cut) rows (c.within.ensures bounds of))
