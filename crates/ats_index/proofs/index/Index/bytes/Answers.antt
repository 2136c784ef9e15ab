use Rattle.std.proofs.Common.{[]}
use Rattle.ats_index.proofs.index.Index.bytes.Goals as goal

pub returns : goal.returns
returns g c = record {
  utf8 = c.in_ok-put.ensures.texts.utf8;
  within = c.in_ok-put.ensures.texts.within;
  same = c.in_ok-put.ensures.bytes [] c.in_ok-bytes.ensures;
}
