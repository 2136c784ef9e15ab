use Rattle.std.proofs.Common.{arith}
use Rattle.ats_client.proofs.Public.{few_items}
use Rattle.ats_all_check.proofs.checking.checked.Goals as goal

pub are_present-requires : goal.are_present-requires
are_present-requires g c = record {
  space = omega (arith, few_items c.facts.ensures.spelled.0 c.args.proof.now c.facts.ensures.spelled.1, c.in_ok-sections.ensures.steps, c.requires.count);
}

pub shows_whole_list-requires-clause-space : goal.shows_whole_list-requires-clause-space
shows_whole_list-requires-clause-space g c =
    omega (
      arith,
      few_items c.facts.ensures.spelled.0 c.args.proof.now c.facts.ensures.spelled.1,
      c.facts.ensures.range.spots.few,
      c.are_present.ensures.cost,
      c.in_ok-sections.ensures.steps,
      c.requires.count,
    )
