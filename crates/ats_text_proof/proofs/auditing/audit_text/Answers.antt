use Rattle.std.proofs.Common.{◌≡◌, ◌∙◌, Some, sym, ap}
use Rattle.std.specs.Option.{option_map}
use Rattle.std.proofs.lemmas.Option.{MatchOption-at_some}
use Rattle.ats_text_check.specs.Strings.{text_collision}
use Rattle.ats_text_proof.specs.Verdicts.{difference_of, IsPlaced}
use Rattle.ats_text_proof.proofs.Verdicts.{collision-collides}
use Rattle.ats_text_proof.proofs.auditing.audit_text.Goals as goal

pub returns-in-Some-clause-collision : goal.returns-in-Some-clause-collision
returns-in-Some-clause-collision g c =
    let H = g.H.HashKind.hash in
    let found : text_collision H c.args.index.now c.args.doc c.in-Ok.proof ≡ Some (difference_of c.in-Some.clash) =
    sym c.in_ok-clash.ensures.clash ∙ ap (option_map difference_of) c.in-Some.is in (
      collision-collides H c.args.index.now c.args.doc c.in-Ok.proof (difference_of c.in-Some.clash) found,
      MatchOption-at_some (Unit {0}) IsPlaced c.in-Some.clash c.in-Some.is c.in_ok-clash.ensures.place,
    )
