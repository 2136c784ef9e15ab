use Rattle.std.proofs.Common.{◌≡◌, ◌∙◌, ◌++◌, ◌∷◌, ℕ, List, [], length, Option, IfOk, sym, ap, subst, arith}
use Rattle.std.specs.Option.{option_map}
use Rattle.std.proofs.lemmas.List.{length-append}
use Rattle.ats_tree.specs.Differences.{Difference}
use Rattle.ats_catalog_bytes.specs.Seen.{framed_of, shards_left}
use Rattle.ats_catalog_bytes.specs.Value.{Framed}
use Rattle.ats_catalog_check.specs.Accepts.{IsShardRight}
use Rattle.ats_catalog_check.specs.Strings.{CatalogPlace}
use Rattle.ats_catalog_audit.specs.Inner.Firsts.{IsFirstWith}
use Rattle.ats_catalog_audit.specs.AuditState.{AuditState}
use Rattle.ats_catalog_audit.specs.UnderWay.{HasTaken}
use Rattle.ats_catalog_audit.specs.Verdicts.{difference_of}
use Rattle.ats_catalog_audit.proofs.UnderWay.{left_right, after, taken_one}
use Rattle.ats_catalog_audit.proofs.auditing.CatalogAudit.take.Goals as goal

pub invariant_of-self-2 : goal.invariant_of-self-2
invariant_of-self-2 g c =
    let counted : length c.self.inside.roots.items ≡ length c.args.self.now.roots = ap (λ (t : AuditState). length t.roots) c.self.view_is in (
      omega (arith, ap length c.in_ok-push.ensures.items, length-append c.self.inside.roots.items (c.root.result ∷ []), counted, c.requires.room),
      left_right (IsShardRight g.H.HashKind.hash c.self.inside.query.now) c.self.inside.checked _ (shards_left c.self.inside.left) c.pass-next.ensures.passed c.self.invariant.1,
    )

pub returns-clause-taken : goal.returns-clause-taken
returns-clause-taken g c =
    let H = g.H.HashKind.hash in
    let index = c.args.index.now in
    let inside = c.self.inside in
    let old : AuditState = record {
      query = inside.query.now;
      shown = inside.shown;
      root = inside.root;
      checked = inside.checked;
      left = shards_left inside.left;
      roots = inside.roots.items;
      first = option_map difference_of inside.clash;
    } in
    let first : Option (Difference CatalogPlace) = option_map difference_of c.in_ok-clash.clash in
    let left : List Framed = shards_left c.pass-next.new.self in
    let roots : List (List ℕ) = c.push.new.self.items in
    subst (λ (before : AuditState). HasTaken H (index ∷ []) before (after H index old left roots first)) c.self.view_is
    (taken_one H index old left roots first c.collection-facts.ensures.texts c.pass-next.ensures.passed
    (c.in_ok-push.ensures.items ∙ ap (λ (d : List ℕ). inside.roots.items ++ d ∷ []) c.root.ensures)
    (subst (λ (next : Option Framed). IfOk old.checked (λ rows. IsFirstWith H index old next first)) c.pass-next.ensures.first
    (subst (λ (audit : AuditState). IfOk audit.checked (λ rows. IsFirstWith H index audit (option_map framed_of c.pass-next.result) first)) (sym c.self.view_is) c.in_ok-clash.ensures)))
