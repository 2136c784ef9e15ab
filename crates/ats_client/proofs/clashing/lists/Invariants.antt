use Rattle.std.proofs.Common.{◌≡◌, ◌+◌, ◌*◌, ◌≤◌, length, drop}
use Rattle.std.specs.List.{All, flat_map}
use Rattle.ats_tree.specs.Differences.{first_collision}
use Rattle.ats_commit.specs.Ours.{ours}
use Rattle.ats_proof.specs.Ranges.{IsPrefixInRange}
use Rattle.ats_proof.specs.Value.{present_in}
use Rattle.ats_client.specs.Groups.{IsListRight}
use Rattle.ats_client.specs.Inner.SeenLists.{prefixes_left}
use Rattle.ats_client.specs.Presented.{presented_from, presented}
use Rattle.ats_client.specs.Inner.Seen.{entries_left}
use Rattle.ats_client.specs.Strings.{list_strings}
use Rattle.ats_client.proofs.clashing.lists.Given as goal

abbrev pub invariant-loop-i : goal.invariant-loop-i
invariant-loop-i g l = record {
  looked : first_collision g.H.HashKind.hash (ours g.H.HashKind.hash (g.O.OwnStrings.archive l.own) l.query)
      (flat_map (list_strings g.H.HashKind.hash l.proof.format l.proof.met) (presented l.query l.proof))
      ≡ first_collision g.H.HashKind.hash (ours g.H.HashKind.hash (g.O.OwnStrings.archive l.own) l.query)
      (flat_map (list_strings g.H.HashKind.hash l.proof.format l.proof.met)
      (presented_from l.proof.dict l.i (drop l.i l.query) (drop l.i l.proof.slots) (prefixes_left l.left)));
  right : All (IsListRight g.H.HashKind.hash l.proof.format l.proof.met)
      (presented_from l.proof.dict l.i (drop l.i l.query) (drop l.i l.proof.slots) (prefixes_left l.left));
  ranges : All IsPrefixInRange (prefixes_left l.left);
  enough : present_in (drop l.i l.proof.slots) ≡ length (prefixes_left l.left);
  dict : entries_left l.walk.all ≡ l.proof.dict;
  cost : l.steps ≤ l.fn.steps + l.i * 34359869440;
}
