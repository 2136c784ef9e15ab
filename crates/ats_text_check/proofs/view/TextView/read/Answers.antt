use Rattle.ats_text_check.proofs.Fields.{read_ok, read_err}
use Rattle.ats_text_check.proofs.view.TextView.read.Goals as goal

pub returns-clause-accepted : goal.returns-clause-accepted
returns-clause-accepted c = read_ok c.args.bytes.now c.fields.result c.fields.ensures.spelled c.fields.ensures.refused

pub returns-clause-exact : goal.returns-clause-exact
returns-clause-exact c = read_err c.args.bytes.now c.fields.result c.fields.ensures.spelled c.fields.ensures.refused
