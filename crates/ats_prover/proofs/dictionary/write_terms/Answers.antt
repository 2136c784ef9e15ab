use Rattle.std.proofs.Common.{◌++◌, List, ℕ, map, sym, ap, ◌∙◌, arith, append_assoc}
use Rattle.std.specs.List.{flat_map}
use Rattle.std.proofs.lemmas.Result.{on_ok_weaker}
use Rattle.ats_tree.specs.Elided.{elided_digests}
use Rattle.ats_dict.specs.Dictionary.{dict_leaves}
use Rattle.ats_dict.proofs.Public.{length-dict_leaves}
use Rattle.ats_proof.specs.Written.{Written}
use Rattle.ats_proof.specs.Parts.{counted}
use Rattle.ats_proof.specs.Value.{digest_fields, slot_fields, entry_fields}
use Rattle.ats_honest.specs.Terms.{shown_entry, slot_of}
use Rattle.ats_prover.specs.Inner.Writing.{put}
use Rattle.ats_prover.proofs.Putting.{put_put}
use Rattle.ats_prover.proofs.dictionary.write_terms.Goals as goal

pub write_rest-requires-clause-nodes : goal.write_rest-requires-clause-nodes
write_rest-requires-clause-nodes g c =
    (dict_leaves c.args.dictionary.now, c.requires.nodes, omega (arith, length-dict_leaves c.args.dictionary.now, c.len.ensures.holds.few), λ k d inside. omega (arith, c.requires.within k d inside, length-dict_leaves c.args.dictionary.now))

pub returns-clause-fields : goal.returns-clause-fields
returns-clause-fields g c =
    let items = c.args.dictionary.now in
    let positions = c.args.positions.now in
    let shown : List (List ℕ) = counted 2 entry_fields (map (shown_entry items) positions) in
    let digests : List (List ℕ) = counted 2 digest_fields (elided_digests g.H.HashKind.hash (dict_leaves items) positions) in
    let slots : List (List ℕ) = flat_map slot_fields (map (slot_of positions) c.args.spots.now) in
    on_ok_weaker c.write_rest.result (λ is.
    is ∙ ap (λ (w : Written). put w (digests ++ slots)) c.in_ok-write_leaves.ensures.fields
    ∙ put_put c.args.writer.now shown (digests ++ slots) ∙ ap (put c.args.writer.now) (sym (append_assoc shown digests slots)))
    (c.write_rest.ensures.fields (dict_leaves items) c.requires.nodes)
