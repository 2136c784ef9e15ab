use Rattle.std.proofs.Common.{sym, subst}
use Rattle.ats_client.proofs.Sections.{IsTagged, ours-tagged}
use Rattle.ats_client.proofs.own_tree.OwnTreeOwnList.at.Goals as goal

pub returns-clause-tagged : goal.returns-clause-tagged
returns-clause-tagged g c =
    subst IsTagged (sym c.hashed_string.ensures)
    (ours-tagged g.H.HashKind.hash (g.O.OwnStrings.archive c.args.self.now.own.now) c.args.self.now.query.now
    (record { tree = c.args.self.now.tree; depth = c.args.depth; turns = c.args.turns }))
