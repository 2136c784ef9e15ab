use Rattle.std.proofs.Common.{◌+◌, ◌*◌}
use Rattle.ats_index.proofs.parallel.+halves.Given as goal

abbrev pub decreases-run_by_threads : goal.decreases-run_by_threads
decreases-run_by_threads g l = 2 * l.halvings + 1

abbrev pub decreases-front : goal.decreases-front
decreases-front g l = 2 * l.halvings

abbrev pub decreases-back : goal.decreases-back
decreases-back g l = 2 * l.halvings
