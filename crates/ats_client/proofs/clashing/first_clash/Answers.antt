use Rattle.std.proofs.Common.{Some, None, refl}
use Rattle.std.specs.Option.{option_map}
use Rattle.ats_client.specs.Sections.{difference_of}
use Rattle.ats_client.proofs.Sections.{collision-parts}
use Rattle.ats_client.proofs.clashing.first_clash.Goals as goal

pub returns-in-Some-dictionary : goal.returns-in-Some-dictionary
returns-in-Some-dictionary g c =
    collision-parts g.H.HashKind.hash (g.O.OwnStrings.archive c.args.own.now) c.args.query.now c.args.proof.now None (Some (difference_of c.in-Some-dictionary.clash)) _ _
    c.in_default.ensures.clash c.in-Some-dictionary.ensures.clash refl refl

pub returns-in-Some-lists : goal.returns-in-Some-lists
returns-in-Some-lists g c =
    collision-parts g.H.HashKind.hash (g.O.OwnStrings.archive c.args.own.now) c.args.query.now c.args.proof.now None None (Some (difference_of c.in-Some-lists.clash)) _
    c.in_default.ensures.clash c.in_default-dictionary.ensures.clash c.in-Some-lists.ensures.clash refl

pub returns : goal.returns
returns g c =
    collision-parts g.H.HashKind.hash (g.O.OwnStrings.archive c.args.own.now) c.args.query.now c.args.proof.now None None None (option_map difference_of c.documents.result)
    c.in_default.ensures.clash c.in_default-dictionary.ensures.clash c.in_default-lists.ensures.clash c.documents.ensures
