use Rattle.std.proofs.Common.{◌≡◌, ◌≤◌, ◌+◌, ◌*◌, take}
use Rattle.std.specs.List.{flat_map}
use Rattle.ats_proof.specs.Value.{digest_fields}
use Rattle.ats_prover.specs.Inner.Writing.{put}
use Rattle.ats_prover.proofs.shown.write_each_digest.Given as goal

-- the digests so far
abbrev pub invariant-loop-digest : goal.invariant-loop-digest
invariant-loop-digest l = record {
  fields : l.writer ≡ put l.fn.writer (flat_map digest_fields (take l.digest-index l.digests));
  size : l.writer.asked ≤ l.fn.writer.asked + 32 * l.digest-index;
}
