use Rattle.std.proofs.Common.{rules, inl, inr}
use Rattle.ats_outside.proofs.files.FileShelfShelf.start.Goals as goal

pub returns-in-Err-clause-err : goal.returns-in-Err-clause-err
returns-in-Err-clause-err g c = elim c.in-Err.ensures.err [ inl same ↦ inl (search rules) | inr puts ↦ inr (search rules) ]
