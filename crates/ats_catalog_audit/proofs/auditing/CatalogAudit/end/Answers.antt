use Rattle.std.proofs.Common.{◌≡◌, ◌∙◌, ℕ, List, length, sym, ap, subst, rules, arith}
use Rattle.std.specs.Option.{option_map}
use Rattle.ats_catalog_bytes.specs.Catalog.{root_over, catalog_root}
use Rattle.ats_catalog_bytes.specs.Seen.{shards_left}
use Rattle.ats_catalog_bytes.specs.Strings.{roots_collision}
use Rattle.ats_catalog_bytes.specs.Value.{shown_roots}
use Rattle.ats_catalog_check.specs.Strings.{over_roots, difference_at}
use Rattle.ats_catalog_audit.specs.AuditState.{AuditState}
use Rattle.ats_catalog_audit.specs.UnderWay.{IsUnderWay}
use Rattle.ats_catalog_audit.specs.Verdicts.{difference_of}
use Rattle.ats_catalog_audit.proofs.UnderWay.{own_root, ends_over, ends_in, ends_right}
use Rattle.ats_catalog_audit.proofs.auditing.CatalogAudit.end.Goals as goal

pub returns-in-Some : goal.returns-in-Some
returns-in-Some g c catalog query r bytes is =
    let H = g.H.HashKind.hash in
    let inside = c.self.inside in
    let audit : AuditState = record {
      query = inside.query.now;
      shown = inside.shown;
      root = inside.root;
      checked = inside.checked;
      left = shards_left inside.left;
      roots = inside.roots.items;
      first = option_map difference_of inside.clash;
    } in
    let own : IsUnderWay H catalog query r bytes audit = subst (IsUnderWay H catalog query r bytes) (sym c.self.view_is) is in
    let equal : c.catalog_root.result ≡ inside.root = search rules in
    let same : inside.root ≡ catalog_root H catalog =
    sym equal ∙ own_root H catalog query r bytes audit own c.catalog_root.result (c.catalog_root.ensures.value ∙ ap (root_over H) c.as_slice.ensures.value) in
    let over : option_map difference_of c.in_ok-clash.field-0 ≡ option_map (difference_at over_roots) (roots_collision H inside.roots.items (shown_roots inside.shown)) =
    c.in_ok-clash.ensures ∙ ap (λ (roots : List (List ℕ)). option_map (difference_at over_roots) (roots_collision H roots (shown_roots inside.shown))) c.as_slice-2.ensures.value in
    ends_over H catalog query r bytes audit own same c.in-Ok.rows c.in-Ok.is c.in-Some.clash (sym (ap (option_map difference_of) c.in-Some.is) ∙ over)

pub returns-in-Some-clash : goal.returns-in-Some-clash
returns-in-Some-clash g c catalog query r bytes is =
    let H = g.H.HashKind.hash in
    let inside = c.self.inside in
    let audit : AuditState = record {
      query = inside.query.now;
      shown = inside.shown;
      root = inside.root;
      checked = inside.checked;
      left = shards_left inside.left;
      roots = inside.roots.items;
      first = option_map difference_of inside.clash;
    } in
    let own : IsUnderWay H catalog query r bytes audit = subst (IsUnderWay H catalog query r bytes) (sym c.self.view_is) is in
    let equal : c.catalog_root.result ≡ inside.root = search rules in
    let same : inside.root ≡ catalog_root H catalog =
    sym equal ∙ own_root H catalog query r bytes audit own c.catalog_root.result (c.catalog_root.ensures.value ∙ ap (root_over H) c.as_slice.ensures.value) in
    let over : option_map difference_of c.in_ok-clash.field-0 ≡ option_map (difference_at over_roots) (roots_collision H inside.roots.items (shown_roots inside.shown)) =
    c.in_ok-clash.ensures ∙ ap (λ (roots : List (List ℕ)). option_map (difference_at over_roots) (roots_collision H roots (shown_roots inside.shown))) c.as_slice-2.ensures.value in
    ends_in H catalog query r bytes audit own same c.in-Ok.rows c.in-Ok.is c.in-Some-clash.clash (sym (ap (option_map difference_of) c.in_default.is) ∙ over)
    (ap (option_map difference_of) c.in-Some-clash.is)

pub returns : goal.returns
returns g c catalog query r bytes is =
    let H = g.H.HashKind.hash in
    let inside = c.self.inside in
    let audit : AuditState = record {
      query = inside.query.now;
      shown = inside.shown;
      root = inside.root;
      checked = inside.checked;
      left = shards_left inside.left;
      roots = inside.roots.items;
      first = option_map difference_of inside.clash;
    } in
    let own : IsUnderWay H catalog query r bytes audit = subst (IsUnderWay H catalog query r bytes) (sym c.self.view_is) is in
    let equal : c.catalog_root.result ≡ inside.root = search rules in
    let same : inside.root ≡ catalog_root H catalog =
    sym equal ∙ own_root H catalog query r bytes audit own c.catalog_root.result (c.catalog_root.ensures.value ∙ ap (root_over H) c.as_slice.ensures.value) in
    let over : option_map difference_of c.in_ok-clash.field-0 ≡ option_map (difference_at over_roots) (roots_collision H inside.roots.items (shown_roots inside.shown)) =
    c.in_ok-clash.ensures ∙ ap (λ (roots : List (List ℕ)). option_map (difference_at over_roots) (roots_collision H roots (shown_roots inside.shown))) c.as_slice-2.ensures.value in
    let counted : length inside.roots.items ≡ length c.args.self.roots = ap (λ (t : AuditState). length t.roots) c.self.view_is in
    ends_right H catalog query r bytes audit own same c.in-Ok.rows c.in-Ok.is (sym (ap (option_map difference_of) c.in_default.is) ∙ over)
    (ap (option_map difference_of) c.in-None.is) (omega (arith, counted, c.requires)) c.self.invariant.0
