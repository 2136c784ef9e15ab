use Rattle.std.proofs.Common.{◌≡◌, ◌∙◌, ℕ, List, Some, sym, ap}
use Rattle.std.specs.Option.{option_map}
use Rattle.ats_tree.specs.Differences.{first_collision}
use Rattle.ats_tree.specs.Strings.{node_string, node_strings}
use Rattle.ats_text_check.specs.Strings.{own_text_string}
use Rattle.ats_text_check.proofs.Public.{tree_strings_of}
use Rattle.ats_text_proof.specs.Inner.Clashes.{difference_in}
use Rattle.ats_text_proof.proofs.Clashing.{tree_found}
use Rattle.ats_text_proof.proofs.auditing.tree_clash.Goals as goal

pub returns-in_ok-copied-in-Some-clause-clash : goal.returns-in_ok-copied-in-Some-clause-clash
returns-in_ok-copied-in-Some-clause-clash g c =
    let H = g.H.HashKind.hash in
    let texts : List (List ℕ) = c.collection.result.now in
    let found : option_map difference_in c.first_clash.result ≡ first_collision H (own_text_string H c.args.index.now) (tree_strings_of H c.args.doc c.args.proof.now) =
    tree_found H c.args.index.now c.args.doc c.args.proof.now texts c.first_clash.result c.collection.ensures.same c.first_clash.ensures.place
    (c.first_clash.ensures.clash
    ∙ (λ i. first_collision H (node_string H texts) (node_strings H (c.archive.ensures.header i).documents (c.of-shown.ensures.shown i) (c.of-shown.ensures.digests i)))) in
    ap Some c.in_ok-copied-in-Some.ensures.clash ∙ sym (ap (option_map difference_in) c.in-Some.is) ∙ found

pub returns-in-None-clause-clash : goal.returns-in-None-clause-clash
returns-in-None-clause-clash g c =
    let H = g.H.HashKind.hash in
    let texts : List (List ℕ) = c.collection.result.now in
    let found : option_map difference_in c.first_clash.result ≡ first_collision H (own_text_string H c.args.index.now) (tree_strings_of H c.args.doc c.args.proof.now) =
    tree_found H c.args.index.now c.args.doc c.args.proof.now texts c.first_clash.result c.collection.ensures.same c.first_clash.ensures.place
    (c.first_clash.ensures.clash
    ∙ (λ i. first_collision H (node_string H texts) (node_strings H (c.archive.ensures.header i).documents (c.of-shown.ensures.shown i) (c.of-shown.ensures.digests i)))) in
    sym (ap (option_map difference_in) c.in-None.is) ∙ found
