use Rattle.std.proofs.Common.{rules}
use Rattle.ats_catalog_check.proofs.Refusals.{not_refused}
use Rattle.ats_catalog_check.proofs.Settling.{shards_fail, accepts, are_rows, headline, refuses}
use Rattle.ats_catalog_check.proofs.checking.check_catalog.Goals as goal

pub returns-then-is_settled-clause-accepts : goal.returns-then-is_settled-clause-accepts
returns-then-is_settled-clause-accepts g c =
    accepts g.H.HashKind.hash c.args.root.now c.args.query.now c.args.top c.args.view.now (search rules) _ c.get-most.ensures.value _ c.in-Ok.fall c.in-Ok.rest c.in-Ok.ensures.left
    (c.is_settled.ensures.0 c.if-is_settled.true)

pub returns-then-is_settled-clause-headline : goal.returns-then-is_settled-clause-headline
returns-then-is_settled-clause-headline g c =
    headline g.H.HashKind.hash c.args.root.now c.args.query.now c.args.top c.args.view.now (search rules) _ c.get-most.ensures.value _ c.in-Ok.fall c.in-Ok.rest c.in-Ok.ensures.left
    (c.is_settled.ensures.0 c.if-is_settled.true) g.H.HashKind.sized c.facts.ensures

pub returns-then-is_settled-clause-rows : goal.returns-then-is_settled-clause-rows
returns-then-is_settled-clause-rows g c =
    are_rows g.H.HashKind.hash c.args.root.now c.args.query.now c.args.top c.args.view.now (search rules) _ c.get-most.ensures.value _ c.in-Ok.fall c.in-Ok.rest c.in-Ok.ensures.left
    (c.is_settled.ensures.0 c.if-is_settled.true)

pub returns-else-is_settled-clause-refused : goal.returns-else-is_settled-clause-refused
returns-else-is_settled-clause-refused g c =
    refuses g.H.HashKind.hash c.args.root.now c.args.query.now c.args.top c.args.view.now (search rules) _ c.get-most.ensures.value _ c.in-Ok.fall c.in-Ok.rest c.in-Ok.ensures.left
    (λ is. let yes = c.is_settled.ensures.1 is in let no = c.if-is_settled.false in cc)

pub returns-else-is_settled-clause-exact : goal.returns-else-is_settled-clause-exact
returns-else-is_settled-clause-exact g c accepted =
    absurd (not_refused g.H.HashKind.hash c.args.root.now c.args.query.now c.args.top c.args.view.now _ accepted (returns-else-is_settled-clause-refused g c))

pub returns-in-Err-clause-refused : goal.returns-in-Err-clause-refused
returns-in-Err-clause-refused g c =
    shards_fail g.H.HashKind.hash c.args.root.now c.args.query.now c.args.top c.args.view.now (search rules) c.in-Err.refusal c.in-Err.ensures.refused

pub returns-in-Err-clause-exact : goal.returns-in-Err-clause-exact
returns-in-Err-clause-exact g c accepted =
    absurd (not_refused g.H.HashKind.hash c.args.root.now c.args.query.now c.args.top c.args.view.now _ accepted (returns-in-Err-clause-refused g c))
