use Rattle.std.proofs.Common.{ap, sym}
use Rattle.ats_dict.specs.Entry.{DictEntry}
use Rattle.ats_dict.proofs.dictionary.DictionarySortedTerms.term_at.Goals as goal

pub returns : goal.returns
returns c = sym (ap (λ (entry : DictEntry). entry.term) c.leaf.ensures)
