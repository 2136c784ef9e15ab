use Rattle.ats_index.proofs.Size.{index_size}
use Rattle.ats_index.proofs.laws.index_bytes_are_few.Goals as goal

pub returns : goal.returns
returns g c bytes archive is = index_size g.H.HashKind.hash g.H.HashKind.sized bytes archive is
