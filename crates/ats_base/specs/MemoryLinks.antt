-- The state of links, callers and doors in memory.
use Rattle.std.specs.Prelude.{◌≡◌, ℕ, List, [], Option, Some, Bool, map}
use Rattle.ats_base.specs.Memory.{Device}
use Rattle.ats_base.specs.Links.{LinkTold, CallerTold, DoorTold}

pub record LinkState : Type 0 where
  pub address : Option (List ℕ)
  pub read : List ℕ
  pub rest : List ℕ
  pub written : List ℕ
  pub device : Device

-- the links that are still to be handed out, in order; those given back, in order; and how many are out
pub record LinksState : Type 0 where
  pub waiting : List LinkState
  pub back : List LinkState
  pub out : ℕ

pub record CallerState : Type 0 where
  pub links : LinksState
  pub addresses : List (List ℕ)
  pub device : Device

pub record DoorState : Type 0 where
  pub links : LinksState
  pub addresses : List (List ℕ)
  pub accepts : ℕ
  pub is_open : Bool
  pub broken : ℕ
  pub device : Device

-- what a link in memory reports
abbrev pub told_link : LinkState → LinkTold
told_link link = record {
  traffic = Some (record { address = link.address; read = link.read; rest = link.rest; written = link.written });
  calls = link.device.calls;
  faults = link.device.faults;
  last_failed = link.device.last_failed;
}

-- nothing went over the link, and it has not failed
pub record IsUnused (link : LinkState) : Type 0 where
  pub read : link.read ≡ []
  pub written : link.written ≡ []
  pub calm : link.device.faults ≡ 0

-- what a caller in memory reports
abbrev pub told_caller : CallerState → CallerTold
told_caller caller = record {
  content = Some (record {
    given_back = map told_link caller.links.back;
    addresses = caller.addresses;
    out = caller.links.out;
  });
  faults = caller.device.faults;
  last_failed = caller.device.last_failed;
}

-- what a door in memory reports
abbrev pub told_door : DoorState → DoorTold
told_door door = record {
  content = Some (record {
    given_back = map told_link door.links.back;
    addresses = door.addresses;
    accepts = door.accepts;
    out = door.links.out;
  });
  is_open = door.is_open;
  faults = door.device.faults;
  broken = door.broken;
  last_failed = door.device.last_failed;
}
