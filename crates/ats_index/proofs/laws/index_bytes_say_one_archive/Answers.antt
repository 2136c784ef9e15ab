use Rattle.ats_index.proofs.OneArchive.{one_archive}
use Rattle.ats_index.proofs.laws.index_bytes_say_one_archive.Goals as goal

pub returns : goal.returns
returns g c bytes archive other first second = one_archive g.H.HashKind.hash bytes archive other first second
