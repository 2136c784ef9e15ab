use Rattle.std.proofs.Common.{◌∙◌, sym, ap}
use Rattle.std.proofs.lemmas.Iterator.Adapters.{option_map_id}
use Rattle.ats_tree.specs.Nodes.{NodeNumbers}
use Rattle.ats_tree.proofs.Public.{numbers-back}
use Rattle.ats_commit.specs.Ours.{ours}
use Rattle.ats_commit.specs.Places.{in_tree}
use Rattle.ats_client.proofs.own_tree.OwnTreeOwnNodesHashedString.at.Goals as goal

pub returns-clause-string : goal.returns-clause-string
returns-clause-string g c =
    option_map_id _ ∙ c.at.ensures.string
    ∙ ap (λ (at : NodeNumbers). ours g.H.HashKind.hash (g.O.OwnStrings.archive c.args.self.now.own.now) c.args.self.now.query.now (in_tree c.args.self.now.tree at))
    (sym (numbers-back c.args.depth c.args.turns c.requires.inside))
