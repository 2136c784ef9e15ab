use Rattle.ats_client.proofs.Rests.{rows_settle, settled_by_rows}
use Rattle.ats_client.proofs.laws.rows_and_rests_settle.Goals as goal

pub returns : goal.returns
returns c query r proof some right = (rows_settle query proof right r some, λ settle. settled_by_rows query proof right r settle.0 settle.1)
