use Rattle.std.proofs.lemmas.Option.{MatchOption-at_none}
use Rattle.ats_commit.specs.Inner.Root.{HasOwnHeader}
use Rattle.ats_text_proof.specs.Inner.Clashes.{IsHeaderClash}
use Rattle.ats_text_proof.proofs.Clashing.{below_found}
use Rattle.ats_text_proof.proofs.auditing.text_clash.Goals as goal

pub returns-in-None-clause-clash : goal.returns-in-None-clause-clash
returns-in-None-clause-clash g c =
    below_found g.H.HashKind.hash c.args.index.now c.args.doc c.args.proof.now
    (MatchOption-at_none (HasOwnHeader g.H.HashKind.hash c.args.index.now c.args.proof.now.format c.args.proof.now.header) (IsHeaderClash g.H.HashKind.hash c.args.index.now c.args.proof.now) c.in-None.is c.in_ok-clash.ensures.clash)
    c.tree_clash.result c.tree_clash.ensures.clash
