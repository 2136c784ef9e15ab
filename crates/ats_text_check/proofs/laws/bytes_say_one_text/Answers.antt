use Rattle.ats_text_check.proofs.Fields.{one_text, one_join, in_range}
use Rattle.ats_text_check.proofs.laws.bytes_say_one_text.Goals as goal

pub returns : goal.returns
returns c = record { one = one_text; range = in_range; spelling = one_join }
