use Rattle.ats_catalog_bytes.proofs.Fields.{reads, refuses}
use Rattle.ats_catalog_bytes.proofs.view.CatalogView.read.Goals as goal

pub returns-clause-accepted : goal.returns-clause-accepted
returns-clause-accepted c = reads c.args.bytes.now c.fields.result c.fields.ensures.spelled c.fields.ensures.refused

pub returns-clause-exact : goal.returns-clause-exact
returns-clause-exact c = refuses c.args.bytes.now c.fields.result c.fields.ensures.spelled c.fields.ensures.refused
