use Rattle.std.proofs.Common.{ap, arith}
use Rattle.ats_bound.specs.Work.{Marked}
use Rattle.ats_catalog_check.proofs.Left.{met_at_most}
use Rattle.ats_catalog_check.proofs.verifying.verify_catalog.Goals as goal

pub check_catalog-requires-clause-work : goal.check_catalog-requires-clause-work
check_catalog-requires-clause-work g c i proof low is =
    omega (arith, met_at_most c.in_ok-view.view i proof low is, ap (λ (work : Marked). work.room) c.in_ok-work.ensures)
