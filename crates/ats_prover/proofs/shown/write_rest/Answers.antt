use Rattle.std.proofs.Common.{◌≡◌, ◌++◌, ℕ, List, length, map, ap, ◌∙◌, arith}
use Rattle.std.specs.List.{flat_map}
use Rattle.std.proofs.lemmas.Result.{on_ok_weaker}
use Rattle.ats_tree.specs.Elided.{elided_digests}
use Rattle.ats_proof.specs.Written.{Written}
use Rattle.ats_proof.specs.Parts.{counted}
use Rattle.ats_proof.specs.Value.{digest_fields, slot_fields}
use Rattle.ats_honest.specs.Terms.{slot_of}
use Rattle.ats_prover.specs.Inner.Writing.{put}
use Rattle.ats_honest.proofs.Public.{dictionary_few}
use Rattle.ats_prover.proofs.KeptDigests.{kept_positions}
use Rattle.ats_prover.proofs.Putting.{put_put, started}
use Rattle.ats_prover.proofs.shown.write_rest.Goals as goal

pub elided-requires-clause-below : goal.elided-requires-clause-below
elided-requires-clause-below g c =
    kept_positions g.H.HashKind.hash c.requires.nodes.0 c.args.nodes.now c.args.positions.now c.requires.nodes.1 c.requires.nodes.3

pub write_digests-requires-clause-few : goal.write_digests-requires-clause-few
write_digests-requires-clause-few g c =
    let H = g.H.HashKind.hash in
    let leaves = c.requires.nodes.0 in
    let all = c.in_ok-elided.ensures.ok H leaves c.requires.nodes.1 in
    omega (
      arith,
      dictionary_few H leaves c.args.positions.now c.requires.nodes.2 c.requires.few,
      ap (λ (ds : List (List ℕ)). length ds) all,
      ap (λ (ds : List (List ℕ)). length (ds ++ elided_digests H leaves c.args.positions.now)) c.clear.ensures,
    )

pub write_slots-requires-clause-started : goal.write_slots-requires-clause-started
write_slots-requires-clause-started g c = started c.args.writer.now c.write_digests.new.writer _ c.in_ok-write_digests.ensures.fields

pub returns-clause-fields : goal.returns-clause-fields
returns-clause-fields g c leaves kept =
    let elided = elided_digests g.H.HashKind.hash leaves c.args.positions.now in
    let all : c.elided.new.out ≡ elided = c.in_ok-elided.ensures.ok g.H.HashKind.hash leaves kept ∙ ap (λ (ds : List (List ℕ)). ds ++ elided) c.clear.ensures in
    let digests = c.in_ok-write_digests.ensures.fields ∙ ap (λ (ds : List (List ℕ)). put c.args.writer.now (counted 2 digest_fields ds)) all in
    let slots : List (List ℕ) = flat_map slot_fields (map (slot_of c.args.positions.now) c.args.spots.now) in
    on_ok_weaker c.write_slots.result (λ is. is ∙ ap (λ (w : Written). put w slots) digests ∙ put_put c.args.writer.now (counted 2 digest_fields elided) slots) c.write_slots.ensures.fields
