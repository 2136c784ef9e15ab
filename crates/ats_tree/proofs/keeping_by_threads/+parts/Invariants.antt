use Rattle.std.proofs.Common.{◌+◌, ◌*◌}
use Rattle.ats_tree.proofs.keeping_by_threads.+parts.Given as goal

abbrev pub decreases-keep_by_threads : goal.decreases-keep_by_threads
decreases-keep_by_threads g l = 3 * l.halvings

abbrev pub decreases-keep_both : goal.decreases-keep_both
decreases-keep_both g l = 3 * l.halvings + 2

abbrev pub decreases-keep_both-front : goal.decreases-keep_both-front
decreases-keep_both-front g l = 3 * l.halvings + 1

abbrev pub decreases-keep_both-back : goal.decreases-keep_both-back
decreases-keep_both-back g l = 3 * l.halvings + 1
