use Rattle.std.proofs.Common.{rules}
use Rattle.ats_impact.proofs.collection.Collection.new.Goals as goal

pub invariant_of-result : goal.invariant_of-result
invariant_of-result c = record {
  utf8 = rw (c.in_ok-documents.ensures, c.into_items-texts.ensures.same) c.into_items-texts.ensures.utf8;
  within = search rules;
  terms = search rules;
  few = search rules;
}
