-- What links, callers and doors report of themselves, and how calls change it.
use Rattle.std.specs.Prelude.{◌≡◌, ◌⊎◌, ◌<◌, ◌+◌, ◌-◌, ◌^◌, ℕ, zero, suc, min, Bool, true, false, List, [], ◌∷◌, ◌++◌, Option, Some, None, MatchOption, IsSome, option_map}

-- What went over a link: the address that was called for it, if there was one; the bytes read so far, those still to
-- come, and those written.
pub record Traffic : Type 0 where
  pub address : Option (List ℕ)
  pub read : List ℕ
  pub rest : List ℕ
  pub written : List ℕ

-- What a link reports of itself: what went over it, if it reports that; how many calls there were; how often it failed;
-- and whether the last call did.
pub record LinkTold : Type 0 where
  pub traffic : Option Traffic
  pub calls : ℕ
  pub faults : ℕ
  pub last_failed : Bool

-- What a caller reports, if it does: the links given back, each with what it reported at that moment; the addresses
-- called; how many links are out.
pub record Calling : Type 0 where
  pub given_back : List LinkTold
  pub addresses : List (List ℕ)
  pub out : ℕ

-- What a caller reports of itself. Its count of faults also rises for each broken link that it takes back. Its last call
-- is the last `call`: to give a link back is none.
pub record CallerTold : Type 0 where
  pub content : Option Calling
  pub faults : ℕ
  pub last_failed : Bool

-- What a door reports, if it does: as a caller, with the addresses listened at; and how often `accept` was called.
pub record Opening : Type 0 where
  pub given_back : List LinkTold
  pub addresses : List (List ℕ)
  pub accepts : ℕ
  pub out : ℕ

-- What a door reports of itself. It always reports whether it is open, how often it failed, how many broken links it
-- took back, and whether its last `listen` or `accept` failed.
pub record DoorTold : Type 0 where
  pub content : Option Opening
  pub is_open : Bool
  pub faults : ℕ
  pub broken : ℕ
  pub last_failed : Bool

abbrev pub Carries : Option Traffic → Option Traffic → (read written : List ℕ) → Type 0
Carries None now read written = now ≡ None
Carries (Some before) now read written = (rest : List ℕ) × (before.rest ≡ read ++ rest)
    × (now ≡ Some (record before { read = before.read ++ read; rest = rest; written = before.written ++ written }))

-- Between two moments these bytes, which were still to come, were read, and these were written, if the link reports it.
pub record Exchanged (before now : Option Traffic) (read written : List ℕ) : Type 0 where
  pub carried : Carries before now read written

-- the link, if it reports, has nothing more to read
abbrev pub IsAtEnd : Option Traffic → Type 0
IsAtEnd None = Unit {0}
IsAtEnd (Some traffic) = traffic.rest ≡ []

-- a link that has not failed, and over which nothing went; if it must, it reports what goes over it
pub record IsNew (must_tell : Bool) (link : LinkTold) : Type 0 where
  pub calm : link.faults ≡ 0
  pub fine : link.last_failed ≡ false
  pub tells : must_tell ≡ true → IsSome link.traffic
  pub unused : MatchOption link.traffic (Unit {0}) (λ traffic. (traffic.read ≡ []) × (traffic.written ≡ []))

-- the link, if it reports, was called at this address
abbrev pub IsCalledAt : List ℕ → Option Traffic → Type 0
IsCalledAt address None = Unit {0}
IsCalledAt address (Some traffic) = traffic.address ≡ Some address

-- the count after a link with this many faults came back: it rises if that link failed; at the end of its type it stays
abbrev pub counted_broken : (faults before : ℕ) → ℕ
counted_broken zero before = before
counted_broken (suc _) before = min (before + 1) (2 ^ 64 - 1)

-- a caller, if it reports, has a link out
abbrev pub HasCalledOut : Option Calling → Type 0
HasCalledOut None = Unit {0}
HasCalledOut (Some calling) = 0 < calling.out

-- one more address was called
abbrev pub noting_call : List ℕ → Calling → Calling
noting_call address calling = record calling { addresses = calling.addresses ++ address ∷ [] }

-- a call of this address returned a link, which is out
abbrev pub calling_out : List ℕ → Calling → Calling
calling_out address calling = record calling { addresses = calling.addresses ++ address ∷ []; out = calling.out + 1 }

-- a link was given back
abbrev pub called_back : LinkTold → Calling → Calling
called_back link calling = record calling { given_back = calling.given_back ++ link ∷ []; out = calling.out - 1 }

-- a call that failed changed nothing, except that the address may be noted
abbrev pub MayNoteCall : List ℕ → Option Calling → Option Calling → Type 0
MayNoteCall address before now = (now ≡ before) ⊎ (now ≡ option_map (noting_call address) before)

-- a door, if it reports, has a link out
abbrev pub HasAcceptedOut : Option Opening → Type 0
HasAcceptedOut None = Unit {0}
HasAcceptedOut (Some opening) = 0 < opening.out

-- one more address was listened at
abbrev pub noting_listen : List ℕ → Opening → Opening
noting_listen address opening = record opening { addresses = opening.addresses ++ address ∷ [] }

-- listening that failed changed nothing, except that the address may be noted
abbrev pub MayNoteListen : List ℕ → Option Opening → Option Opening → Type 0
MayNoteListen address before now = (now ≡ before) ⊎ (now ≡ option_map (noting_listen address) before)

-- one more call of `accept` was counted; at the end of its type the count stays
abbrev pub counting_accept : Opening → Opening
counting_accept opening = record opening { accepts = min (opening.accepts + 1) (2 ^ 64 - 1) }

-- that call returned a link, which is out
abbrev pub accepting_out : Opening → Opening
accepting_out opening = record opening { accepts = min (opening.accepts + 1) (2 ^ 64 - 1); out = opening.out + 1 }

-- a link was given back
abbrev pub accepted_back : LinkTold → Opening → Opening
accepted_back link opening = record opening { given_back = opening.given_back ++ link ∷ []; out = opening.out - 1 }
