use Rattle.std.proofs.Common.{rules, tests}
use Rattle.std.specs.Str.{bytes_eq}
use Rattle.std.proofs.lemmas.Iterator.Search.{position_from_yields_List}
use Rattle.std.proofs.lemmas.Iterator.{YieldsList-from_slice}
use Rattle.ats_base.proofs.Files.{told_there}
use Rattle.ats_base.proofs.memory.place.Goals as goal

pub returns-clause-there : goal.returns-clause-there
returns-clause-there c =
    told_there c.args.files.now c.args.name.now c.position.result
    (position_from_yields_List (λ file. bytes_eq file.0 c.args.name.now) _ _ _ c.position.ensures.ran
    (YieldsList-from_slice _ c.iter.ensures.rest) (λ x b q k. search (rules, tests)))
