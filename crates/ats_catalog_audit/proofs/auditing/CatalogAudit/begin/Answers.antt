use Rattle.std.proofs.Common.{◌≤◌, ℕ, List, length, sym, subst, arith}
use Rattle.ats_catalog_audit.proofs.UnderWay.{rights}
use Rattle.ats_catalog_audit.proofs.auditing.CatalogAudit.begin.Goals as goal

pub invariant_of-result : goal.invariant_of-result
invariant_of-result g c = (
  subst (λ (roots : List (List ℕ)). length roots ≤ 4096) (sym c.new-roots.ensures.items) (omega arith),
  rights g.H.HashKind.hash c.root_of_view-root.result c.args.query.now c.args.top c.args.bytes.now c.in_ok-shown.shown _ c.in_ok-checked.checked c.cursor-left.ensures
      c.in_ok-shown.ensures.spelled c.in_ok-checked.ensures.accepted,
)
