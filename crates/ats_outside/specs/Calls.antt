-- What the calls of std change, and what they report, if they report anything.
use Rattle.std.specs.Prelude.{◌≡◌, ◌≤◌, ◌+◌, ◌*◌, ◌++◌, ◌∷◌, ℕ, Bool, true, List, [], Option, Some, None, IsSome, unwrap_or, MatchOption, Result, Ok, Err}
use Rattle.ats_base.specs.Outside.{Ask, ReadsBytes}
use Rattle.ats_base.specs.Links.{Traffic, Calling, Opening}
use Rattle.ats_base.specs.declared.outside.FileCall.TheVariants.{Read}

-- how many bytes a call moved
abbrev pub count_moved : {E : Type 0} → Result ℕ E → ℕ
count_moved (Ok n) = n
count_moved (Err _) = 0

-- an open file: its name, its bytes, and the place of its next read
pub record Reading : Type 0 where
  pub name : List ℕ
  pub bytes : List ℕ
  pub place : ℕ

-- the open file, if the files are reported, has the bytes under this name
abbrev pub HasBytesOf : Option (List ℕ → Option (List ℕ)) → List ℕ → Option Reading → Type 0
HasBytesOf content name file =
    MatchOption content (Unit {0}) (λ files. MatchOption file ⊥ (λ reading. files name ≡ Some reading.bytes))

-- the open file, if the calls on files are reported, has this name
abbrev pub IsNamed : Option (List Ask) → List ℕ → Option Reading → Type 0
IsNamed asked name file = MatchOption asked (Unit {0}) (λ asks. MatchOption file ⊥ (λ reading. reading.name ≡ name))

-- the open file, if it is reported, is read from this place on
abbrev pub IsAt : ℕ → Option Reading → Type 0
IsAt place file = MatchOption file (Unit {0}) (λ reading. reading.place ≡ place)

-- the open file, if it is reported, is at this place
abbrev pub at_place : ℕ → Option Reading → Option Reading
at_place place None = None
at_place place (Some reading) = Some (record reading { place = place })

-- only a read of this open file was begun, from this place on
abbrev pub IsReadOf : Option Reading → ℕ → List Ask → Type 0
IsReadOf None place asks = ⊥
IsReadOf (Some reading) place asks = asks ≡ (record { name = reading.name; call = Read place }) ∷ []

-- the open file has the name and the bytes that it had, if it reported them
abbrev pub KeepsBytes : Option Reading → Option Reading → Type 0
KeepsBytes None now = now ≡ None
KeepsBytes (Some before) now = MatchOption now ⊥ (λ reading. (reading.name ≡ before.name) × (reading.bytes ≡ before.bytes))

-- a read of the open file, if it is reported, moved this many of its bytes, from its place on, to the front of the buffer
abbrev pub ReadsOpen : Option Reading → ℕ → List ℕ → Type 0
ReadsOpen None n buf = Unit {0}
ReadsOpen (Some reading) n buf = ReadsBytes reading.bytes reading.place n buf

-- The files as a shelf reports them that counts a fault for each call that fails: to such a shelf no file is missing. No
-- call returns the bytes of one that is.
abbrev pub with_every_name : (List ℕ → Option (List ℕ)) → List ℕ → Option (List ℕ)
with_every_name files name = Some (unwrap_or (files name) [])

-- nothing went over the socket, if it reports what does; if it must, it does
pub record IsUnused (must_tell : Bool) (traffic : Option Traffic) : Type 0 where
  pub tells : must_tell ≡ true → IsSome traffic
  pub unused : MatchOption traffic (Unit {0}) (λ went. (went.read ≡ []) × (went.written ≡ []))

-- each call on the socket, if it reports that, waits for its peer at most this many nanoseconds
abbrev pub WaitsAtMost : ℕ → Option ℕ → Type 0
WaitsAtMost most patience = MatchOption patience (Unit {0}) (λ nanoseconds. nanoseconds ≤ most)

-- 30 seconds
abbrev pub longest_wait : ℕ
longest_wait = 30 * 1_000_000_000

-- an address was connected to, and the socket is out
abbrev pub connecting_out : List ℕ → Opening → Opening
connecting_out address opening = record opening { addresses = opening.addresses ++ address ∷ []; out = opening.out + 1 }

-- what a caller reports of a network
abbrev pub calling_of : Opening → Calling
calling_of opening = record { given_back = opening.given_back; addresses = opening.addresses; out = opening.out }
