use Rattle.std.proofs.Common.{◌≡◌, ◌++◌, ℕ, List, length, map, take, ap, ◌∙◌, arith}
use Rattle.std.proofs.lemmas.Result.{on_ok_weaker}
use Rattle.ats_lists.specs.Formats.{prefix_digests}
use Rattle.ats_lists.specs.KeptList.{entries_of}
use Rattle.ats_lists.specs.declared.format.Format.{Format}
use Rattle.ats_lists.specs.declared.list_keeping.ListDigests.{ListDigests}
use Rattle.ats_lists.proofs.Public.{front-few}
use Rattle.ats_proof.specs.Written.{Written}
use Rattle.ats_proof.specs.Parts.{counted}
use Rattle.ats_proof.specs.Value.{digest_fields, posting_fields}
use Rattle.ats_honest.specs.Honest.{placed}
use Rattle.ats_prover.specs.Inner.Writing.{put}
use Rattle.ats_honest.proofs.Public.{small_impacts}
use Rattle.ats_prover.proofs.Fronts.{kept_entries}
use Rattle.ats_prover.proofs.Putting.{put_put}
use Rattle.ats_prover.proofs.prefixes.write_prefix.Goals as goal

pub front-requires-clause-within : goal.front-requires-clause-within
front-requires-clause-within g c =
    let format : Format = c.requires.kept.0 in
    omega (
      arith,
      ap (λ (kept : ListDigests). entries_of kept) c.requires.kept.1,
      kept_entries g.H.HashKind.hash format c.args.entries.now c.requires.list.some,
      c.requires.within,
    )

pub write_entries-requires-clause-impacts : goal.write_entries-requires-clause-impacts
write_entries-requires-clause-impacts g c = small_impacts c.args.entries.now c.args.count c.requires.list

pub write_digests-requires-clause-few : goal.write_digests-requires-clause-few
write_digests-requires-clause-few g c =
    let H = g.H.HashKind.hash in
    let format : Format = c.requires.kept.0 in
    let few = front-few H format c.args.entries.now c.args.count c.requires.some c.requires.within c.requires.list.few in
    let all : c.front.new.out ≡ prefix_digests H format c.args.entries.now c.args.count =
    c.in_ok-front.ensures.ok H format c.args.entries.now c.requires.kept.1
    ∙ ap (λ (ds : List (List ℕ)). ds ++ prefix_digests H format c.args.entries.now c.args.count) c.new-digests.ensures in
    omega (arith, few, ap (λ (ds : List (List ℕ)). length ds) all)

pub returns-clause-fields : goal.returns-clause-fields
returns-clause-fields g c format kept =
    let H = g.H.HashKind.hash in
    let all : c.front.new.out ≡ prefix_digests H format c.args.entries.now c.args.count =
    c.in_ok-front.ensures.ok H format c.args.entries.now kept
    ∙ ap (λ (ds : List (List ℕ)). ds ++ prefix_digests H format c.args.entries.now c.args.count) c.new-digests.ensures in
    let entries : List (List ℕ) = counted 4 posting_fields (map (placed c.args.met.now) (take c.args.count c.args.entries.now)) in
    on_ok_weaker c.write_digests.result (λ is.
    is ∙ ap (λ (w : Written). put w (counted 2 digest_fields c.front.new.out)) c.in_ok-write_entries.ensures.fields
    ∙ put_put c.args.writer.now entries (counted 2 digest_fields c.front.new.out)
    ∙ ap (λ (ds : List (List ℕ)). put c.args.writer.now (entries ++ counted 2 digest_fields ds)) all) c.write_digests.ensures.fields
