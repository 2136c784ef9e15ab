use Rattle.ats_dict.proofs.Sentinels.{rise}
use Rattle.ats_dict.proofs.dictionary.DictionarySortedTerms.positions.Goals as goal

pub returns-clause-rise : goal.returns-clause-rise
returns-clause-rise c = rise c.args.self.now c.len.ensures.holds
