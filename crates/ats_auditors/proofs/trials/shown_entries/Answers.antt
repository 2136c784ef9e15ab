use Rattle.std.proofs.Common.{List, length, arith, ap}
use Rattle.ats_proof.specs.Value.{Prefix}
use Rattle.ats_auditors.proofs.Tried.{entries_begin, entries_few, lists_few}
use Rattle.ats_auditors.proofs.trials.shown_entries.Goals as goal

pub lists-init : goal.lists-init
lists-init c =
    let proof = c.args.proof.now in
    let few = lists_few proof c.facts.ensures.spelled c.facts.ensures.range in
    record {
      sum = entries_begin _ proof c.lists-lists.ensures;
      few = entries_few proof c.facts.ensures.range (omega (arith, few));
      steps = omega (arith, few, c.requires.space, ap (λ (lists : List Prefix). length lists) c.lists-lists.ensures);
    }
