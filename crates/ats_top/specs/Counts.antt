-- How the counts of faults stand after a run, and after a part of one: a fault ends the command.
use Rattle.std.specs.Prelude.{◌≡◌, ◌≢◌, ℕ, true}
use Rattle.ats_base.specs.Outside.{Rose}
use Rattle.ats_top.specs.Outside.{Outside}

-- Each count is as at entry, unless the status is that of its object's fault. After a fault of the sink the status is 7
-- whatever came before it; that fault was counted once, and it is that of the sink's last call.
pub record CountsFaults (before now : Outside) (result : ℕ) : Type 0 where
  pub sink : result ≢ 7 → now.sink.faults ≡ before.sink.faults
  pub sink_once : result ≡ 7 → Rose before.sink.faults now.sink.faults
  pub sink_last : result ≡ 7 → now.sink.last_failed ≡ true
  pub shelf : result ≢ 3 → result ≢ 7 → now.shelf.faults ≡ before.shelf.faults
  pub caller : result ≢ 8 → result ≢ 7 → now.caller.faults ≡ before.caller.faults
  pub door : result ≢ 8 → result ≢ 7 → now.door.faults ≡ before.door.faults
