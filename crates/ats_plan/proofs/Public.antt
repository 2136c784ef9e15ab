-- What other rooms may cite of the proofs of this one. All other files here are private.

-- a command of a plan that avoids a stop stops in another way, if this is neither the stop for the shelf nor that for out of
-- memory
pub use Rattle.ats_plan.proofs.Avoids.{stops_otherwise}
-- the calls of a command that is done are those of its plan
pub use Rattle.ats_plan.proofs.Calls.{does_asked}
-- the calls of a command that stopped are those of its plan
pub use Rattle.ats_plan.proofs.Calls.{stops_asked}
-- a command that stopped for another cause than the shelf made no call to store a file
pub use Rattle.ats_plan.proofs.Calls.{stops_alone}
-- why a command stopped: its files refuse the plan, memory ran out, or the shelf, to which it came, failed
pub use Rattle.ats_plan.proofs.Causes.{Cause, Refused, Wanted, Broken}
-- each stop has such a cause
pub use Rattle.ats_plan.proofs.Causes.{stop_cause}
-- if a command is done, all steps of its plan hold, which goes one way at most
pub use Rattle.ats_plan.proofs.Causes.{does_passes}
-- a command that is done leaves the count of faults
pub use Rattle.ats_plan.proofs.Counts.{does_counts}
-- the count of faults is no lower after a command that is done
pub use Rattle.ats_plan.proofs.Counts.{does_later}
-- a stop for another cause than the shelf leaves the count of faults
pub use Rattle.ats_plan.proofs.Counts.{stops_counts}
-- the count of faults is no lower after a stop
pub use Rattle.ats_plan.proofs.Counts.{stops_later}
-- if the first file that a plan reads is missing, a stop leaves the count of faults
pub use Rattle.ats_plan.proofs.Counts.{stops_uncounted}
-- a plan that stores nothing, and whose text at each end satisfies something over its files
pub use Rattle.ats_plan.proofs.Ends.{EndsIn}
-- the text of a command of such a plan that is done satisfies it, over the files before the command
pub use Rattle.ats_plan.proofs.Ends.{does_end}
-- a reported file has one content
pub use Rattle.ats_plan.proofs.Files.{one_file}
-- a reported file that is within the limit is not longer than it
pub use Rattle.ats_plan.proofs.Files.{file_short}
-- what is done or stops after the first steps of a plan is done or stops so from the start
pub use Rattle.ats_plan.proofs.Leads.{Leads}
-- before the first step, the whole plan is left
pub use Rattle.ats_plan.proofs.Leads.{leads_none}
-- after a step that holds, the steps after it are left
pub use Rattle.ats_plan.proofs.Leads.{leads_try}
-- after a step that has a value, the steps with that value are left
pub use Rattle.ats_plan.proofs.Leads.{leads_get}
-- after a value was made, the steps with that value are left
pub use Rattle.ats_plan.proofs.Leads.{leads_make}
-- after a file was read, the steps with its bytes are left
pub use Rattle.ats_plan.proofs.Leads.{leads_read}
-- after a file that is longer than the limit, the steps for such a file are left
pub use Rattle.ats_plan.proofs.Leads.{leads_long}
-- a command that is done leaves the files as they were, or as its plan allows
pub use Rattle.ats_plan.proofs.Left.{does_leaves}
-- a command that stopped leaves the files as they were, or as its plan allows
pub use Rattle.ats_plan.proofs.Left.{stops_leaves}
-- a stop for another cause than the shelf leaves the files as they were
pub use Rattle.ats_plan.proofs.Left.{stops_files}
-- a plan of which all steps hold is not refused
pub use Rattle.ats_plan.proofs.Refusals.{passes_not_refused}
-- a plan is refused in one way at most
pub use Rattle.ats_plan.proofs.Refusals.{one_refusal}
-- a command can stop for out of memory before the first step of its plan
pub use Rattle.ats_plan.proofs.Steps.{at_memory}
-- a command stops at a step that does not hold
pub use Rattle.ats_plan.proofs.Steps.{at_try}
-- a command stops at a step that has no value
pub use Rattle.ats_plan.proofs.Steps.{at_get}
-- a command stops at a file that it could not store
pub use Rattle.ats_plan.proofs.Steps.{at_store}
-- a command is done at the end of its plan, if its text is as the plan says
pub use Rattle.ats_plan.proofs.Steps.{done_end}
-- a command is done after it stored the bytes, if its text is as the plan says
pub use Rattle.ats_plan.proofs.Steps.{done_store}
-- if a step holds and a command of the later steps is done, the command of the plan is done
pub use Rattle.ats_plan.proofs.Steps.{done_try}
-- if a step has a value and a command of the later steps with it is done, the command of the plan is done
pub use Rattle.ats_plan.proofs.Steps.{done_get}
-- in place of a stop for another cause than the shelf, a command could stop there for out of memory
pub use Rattle.ats_plan.proofs.Stopping.{stops_memory}
-- a stop with no call on the shelf leaves the shelf as it was
pub use Rattle.ats_plan.proofs.Stopping.{stops_untouched}
-- a command that is done with no call on the shelf leaves the shelf as it was
pub use Rattle.ats_plan.proofs.Stopping.{does_untouched}
