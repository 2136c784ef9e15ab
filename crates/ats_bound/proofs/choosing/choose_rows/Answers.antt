use Rattle.std.proofs.Common.{◌≡◌, ℕ, List, map, take, ◌∙◌}
use Rattle.std.proofs.lemmas.Result.{IfOk-weaker}
use Rattle.ats_bound.specs.Chosen.{IsChosen}
use Rattle.ats_bound.specs.declared.choosing.Placed.{Placed}
use Rattle.ats_bound.proofs.Order.{chosen_of}
use Rattle.ats_bound.proofs.choosing.choose_rows.Goals as goal

-- the places of the sorted brackets, up to the number of rows
pub returns : goal.returns
returns c =
    let brackets = c.args.brackets.now in
    let all : List Placed = c.sort_placed.new.all.items in
    let now : c.deref.result.now ≡ take c.args.rows all = c.deref.ensures.value ∙ c.truncate.ensures.items in
    let chosen : IsChosen brackets c.args.rows (map (λ (p : Placed). p.place) c.deref.result.now) =
    rw now (chosen_of brackets c.in_ok-all.all.items all c.args.rows c.in_ok-all.ensures.places c.in_ok-all.ensures.brackets c.sort_placed.ensures.same c.in_ok-sort_placed.ensures.ordered) in
    IfOk-weaker c.places_of.result (λ (picks : List ℕ). picks ≡ map (λ (p : Placed). p.place) c.deref.result.now) (IsChosen brackets c.args.rows) (λ picks is. rw is chosen) c.places_of.ensures
