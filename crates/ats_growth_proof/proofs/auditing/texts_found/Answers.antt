use Rattle.std.proofs.Common.{◌∙◌, sym, ap}
use Rattle.std.specs.Option.{option_map}
use Rattle.ats_growth_proof.specs.Inner.FirstDifference.{strings_of, in_part}
use Rattle.ats_growth_proof.proofs.Finding.{found-new, found-old, found-shared}
use Rattle.ats_growth_proof.proofs.auditing.texts_found.Goals as goal

pub returns-in-Some : goal.returns-in-Some
returns-in-Some g c =
    found-new g.H.HashKind.hash c.args.old.now c.args.new.now c.args.proof.now c.compare_texts-compared.result.new.unlike c.in-Some.unlike c.compare_texts-compared.ensures.new c.in-Some.is

pub returns-in-Some-unlike : goal.returns-in-Some-unlike
returns-in-Some-unlike g c =
    found-old g.H.HashKind.hash c.args.old.now c.args.new.now c.args.proof.now c.compare_texts-compared.result.new.unlike c.compare_texts-compared.result.old.unlike c.in-Some-unlike.unlike
    c.compare_texts-compared.ensures.new c.in_default.is c.compare_texts-compared.ensures.old c.in-Some-unlike.is

pub returns-in-Some-compare_shared : goal.returns-in-Some-compare_shared
returns-in-Some-compare_shared g c =
    sym (ap (λ o. option_map (in_part 5) (option_map strings_of o)) c.in-Some-compare_shared.is)
    ∙ found-shared g.H.HashKind.hash c.args.old.now c.args.new.now c.args.proof.now c.compare_texts-compared.result.new.unlike c.compare_texts-compared.result.old.unlike c.compare_shared.result
    c.compare_texts-compared.ensures.new c.in_default.is c.compare_texts-compared.ensures.old c.in_default-unlike.is c.compare_shared.ensures

pub returns-in-None : goal.returns-in-None
returns-in-None g c =
    sym (ap (λ o. option_map (in_part 5) (option_map strings_of o)) c.in-None.is)
    ∙ found-shared g.H.HashKind.hash c.args.old.now c.args.new.now c.args.proof.now c.compare_texts-compared.result.new.unlike c.compare_texts-compared.result.old.unlike c.compare_shared.result
    c.compare_texts-compared.ensures.new c.in_default.is c.compare_texts-compared.ensures.old c.in_default-unlike.is c.compare_shared.ensures
