use Rattle.std.proofs.Common.{◌∙◌, ◌≤◌, ◌^◌, List, [], length, IsSome, refl, sym, ap, subst, rules, arith}
use Rattle.std.specs.List.{All}
use Rattle.std.specs.Option.{option_map}
use Rattle.ats_tree.specs.Differences.{first_collision}
use Rattle.ats_tree.specs.Rebuild.{rebuilt}
use Rattle.ats_tree.specs.Shown.{Shown}
use Rattle.ats_tree.specs.Strings.{node_string, node_strings}
use Rattle.ats_catalog_check.specs.Strings.{over_roots, difference_at}
use Rattle.ats_catalog_audit.specs.Inner.Shown.{leaves_left}
use Rattle.ats_catalog_bytes.proofs.Public.{all_rebuild}
use Rattle.ats_catalog_audit.proofs.Clashing.{all_short, tree_found}
use Rattle.ats_catalog_audit.proofs.roots.tree_clash.Goals as goal

pub first_clash-found-requires : goal.first_clash-found-requires
first_clash-found-requires g c κs =
    let H = g.H.HashKind.hash in
    let theirs = c.args.theirs.now in
    let rebuilds : IsSome (rebuilt H (length theirs) (leaves_left c.of-shown.result) []) =
    subst (λ (shown : List Shown). IsSome (rebuilt H (length theirs) shown [])) (sym c.of-shown.ensures) (subst IsSome (sym (all_rebuild H theirs c.requires.some_others)) refl) in
    let fit : All (λ (s : Shown). length s.1 ≤ 127) (leaves_left c.of-shown.result) =
    subst (All (λ (s : Shown). length s.1 ≤ 127)) (sym c.of-shown.ensures) (all_short theirs c.requires.sized) in
    let space : c.of.new.steps ≤ 2 ^ 63 = omega (arith, c.of.ensures.cost, c.requires.space, c.requires.few) in
    search (rules, rebuilds, fit, space)

pub returns : goal.returns
returns g c =
    let H = g.H.HashKind.hash in
    let ours = c.args.ours.now in
    let theirs = c.args.theirs.now in
    c.in_tree.ensures
    ∙ ap (option_map (difference_at over_roots)) (tree_found H ours theirs c.first_clash-found.result c.first_clash-found.ensures.place
    (c.first_clash-found.ensures.clash ∙ ap (λ (shown : List Shown). first_collision H (node_string H ours) (node_strings H (length theirs) shown [])) c.of-shown.ensures))
