use Rattle.std.proofs.Common.{length, ap₂, arith}
use Rattle.ats_dict.specs.declared.header.Header.{Header}
use Rattle.ats_growth_check.specs.Shape.{turns}
use Rattle.ats_growth_check.proofs.CheckLemmas.{few_turns}
use Rattle.ats_growth_check.proofs.checking.texts_roots.Goals as goal

pub roots_of-requires-clause-space : goal.roots_of-requires-clause-space
roots_of-requires-clause-space g c =
    let few = few_turns c.args.proof.now c.facts.ensures c.requires.within in
    let same = ap₂ (λ (a b : Header). length (turns a.documents b.documents)) c.old.ensures.header c.new_archive.ensures.header in
    omega (arith, few, same)

pub returns-clause-cost : goal.returns-clause-cost
returns-clause-cost g c =
    let few = few_turns c.args.proof.now c.facts.ensures c.requires.within in
    let same = ap₂ (λ (a b : Header). length (turns a.documents b.documents)) c.old.ensures.header c.new_archive.ensures.header in
    omega (arith, few, same, c.roots_of.ensures.cost)
