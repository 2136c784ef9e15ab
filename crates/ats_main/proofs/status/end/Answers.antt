use Rattle.std.proofs.Common.{refl, map, string_bytes}
use Rattle.std.specs.IoError.{error_kind}
use Rattle.ats_main.proofs.Ended.{ends_by, ends_over}
use Rattle.ats_main.proofs.status.end.Goals as goal

pub returns : goal.returns
returns g c =
    ends_over _ _ _ _ _ _ c.from.ensures
    (rw c.new-shelf.ensures.files (rw c.new-shelf.ensures.calls (rw c.new-shelf.ensures.faults (rw c.new-shelf.ensures.last
    (rw c.new-out.ensures.out (rw c.new-out.ensures.calls (rw c.new-out.ensures.faults (rw c.new-out.ensures.last
    (rw c.new-caller.ensures.net (rw c.new-caller.ensures.faults (rw c.new-caller.ensures.last
    (rw c.new-door.ensures.net (rw c.new-door.ensures.closed (rw c.new-door.ensures.faults (rw c.new-door.ensures.broken
    (rw c.new-door.ensures.last refl))))))))))))))))
    (ends_by _ _ _ _ (λ words. map string_bytes words.items) error_kind _
    c.words.ensures.ok c.words.ensures.err c.status_of-status.ensures)
