use Rattle.std.proofs.Common.{◌≡◌, ◌≤◌, ◌+◌, ◌*◌, ◌^◌, ◌++◌, map, take}
use Rattle.std.specs.List.{flat_map}
use Rattle.ats_lists.specs.declared.format.Format.{Format}
use Rattle.ats_bound.specs.Schedule.{whole_lanes}
use Rattle.ats_proof.specs.Parts.{counted}
use Rattle.ats_proof.specs.Value.{id_fields, prefix_fields}
use Rattle.ats_honest.specs.Honest.{prefixes}
use Rattle.ats_prover.specs.Inner.Nodes.{list_digests}
use Rattle.ats_prover.specs.Inner.Writing.{put}
use Rattle.ats_prover.proofs.prefixes.write_lists.Given as goal

-- the prefixes so far follow the met ids
abbrev pub invariant-loop-i : goal.invariant-loop-i
invariant-loop-i g l = record {
  fields : (format : Format) → map (λ n. n.now) l.kept ≡ list_digests g.H.HashKind.hash format (whole_lanes l.lanes)
      → l.writer ≡ put l.fn.writer (counted 4 id_fields l.met ++ flat_map prefix_fields (take l.i (prefixes g.H.HashKind.hash format l.met (whole_lanes l.lanes) l.cut)));
  size : l.writer.asked ≤ l.fn.writer.asked + 2 ^ 19 + 2 ^ 23 * l.i;
}
