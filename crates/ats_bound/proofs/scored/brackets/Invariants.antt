use Rattle.std.proofs.Common.{◌≡◌, map}
use Rattle.std.specs.Map.Iter.{deref_pair}
use Rattle.ats_bound.specs.Inner.Scored.{exact_brackets}
use Rattle.ats_bound.proofs.scored.brackets.Given as goal

abbrev pub invariant-loop-doc : goal.invariant-loop-doc
invariant-loop-doc l = l.brackets ≡ exact_brackets (map deref_pair l.yielded)
