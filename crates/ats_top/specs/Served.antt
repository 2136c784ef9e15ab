-- What `serve` does: it loads an index, listens, and serves links one after another.
use Rattle.std.specs.Prelude.{◌≡◌, ◌⊎◌, ◌<◌, ◌≤◌, ◌+◌, ◌++◌, ◌∷◌, ℕ, true, List, [], length, Option, Some, None, option_map, codes}
use Rattle.ats_base.specs.Outside.{Rose}
use Rattle.ats_base.specs.Links.{Opening, DoorTold, MayNoteListen, noting_listen}
use Rattle.ats_commit.specs.Archive.{Archive}
use Rattle.ats_console.specs.Words.{ServeWords}
use Rattle.ats_plan.specs.Files.{Files}
use Rattle.ats_console.specs.Read.{HasIndex}
use Rattle.ats_top.specs.Answering.{gives}
use Rattle.ats_top.specs.Serving.{Session, HadSessions, FailedToAccept, faults_of, line_of_session, session_lines}
use Rattle.ats_console.specs.declared.stops.Stop.{Stop}
use Rattle.ats_console.specs.declared.stops.Stop.TheVariants as stop

-- The door listened at the address, and there was no other call on it.
pub record Listened (address : List ℕ) (before now : DoorTold) : Type 0 where
  pub content : now.content ≡ option_map (noting_listen address) before.content
  pub broken : now.broken ≡ before.broken
  pub same : now.faults ≡ before.faults

-- The door did not listen, but may have noted the address.
pub record FailedToListen (address : List ℕ) (before now : DoorTold) : Type 0 where
  pub content : MayNoteListen address before.content now.content
  pub broken : now.broken ≡ before.broken
  pub cause : Rose before.faults now.faults
  pub later : before.faults ≤ now.faults
  pub last : now.last_failed ≡ true

-- The named file is the index of an archive, the door listened at the address of the words, and there were these
-- sessions, in which each request was answered from that archive.
pub record HasServed (H : List ℕ → List ℕ) (files : Files) (words : ServeWords)
    (before now : DoorTold) (sessions : List Session) : Type 0 where
  pub archive : Archive
  pub index : HasIndex H files words.index archive
  pub opened : DoorTold
  pub listened : Listened words.address before opened
  pub had : HadSessions (gives H archive) sessions opened now
  pub few : length sessions ≤ words.connections

-- what is printed: that the door listens, and then the lines of these sessions
abbrev pub serving_text : List Session → List ℕ
serving_text sessions = codes "listening\n" ++ session_lines sessions

-- as many links as the words say were served, `faults` of them were broken off by a fault, and the text is their lines
pub record AreAllServed (H : List ℕ → List ℕ) (files : Files) (words : ServeWords)
    (before now : DoorTold) (faults : ℕ) (text : List ℕ) : Type 0 where
  pub sessions : List Session
  pub served : HasServed H files words before now sessions
  pub all : length sessions ≡ words.connections
  pub faults_are : faults ≡ faults_of sessions
  pub printed : text ≡ serving_text sessions

-- `accept` failed before as many links as the words say were served
pub record IsDoorBroken (H : List ℕ → List ℕ) (files : Files) (words : ServeWords)
    (before now : DoorTold) (text : List ℕ) : Type 0 where
  pub sessions : List Session
  pub mid : DoorTold
  pub served : HasServed H files words before mid sessions
  pub failed : FailedToAccept mid now
  pub fewer : length sessions < words.connections
  pub printed : text ≡ serving_text sessions

-- memory for a line ran out after this text, which has the lines of all sessions, or of all but the last
pub record IsLineUnmade (H : List ℕ → List ℕ) (files : Files) (words : ServeWords)
    (before now : DoorTold) (text : List ℕ) : Type 0 where
  pub sessions : List Session
  pub told : List Session
  pub served : HasServed H files words before now sessions
  pub but_last : (sessions ≡ told) ⊎ ((last : Session) × (sessions ≡ told ++ last ∷ []))
  pub printed : text ≡ serving_text told

-- the last line that is printed for these sessions, and all that is printed before it
abbrev pub IsLastLine : List Session → (former last : List ℕ) → Type 0
IsLastLine sessions former last = ((sessions ≡ []) × (former ≡ []) × (last ≡ codes "listening\n"))
    ⊎ ((told : List Session) × (session : Session) × (sessions ≡ told ++ session ∷ [])
    × (former ≡ serving_text told) × (last ≡ line_of_session (length told + 1) session.served))

-- The last line of these sessions was not taken whole. No further link was accepted: there are as many sessions as lines
-- before this one.
pub record IsServingUnprinted (H : List ℕ → List ℕ) (files : Files) (words : ServeWords)
    (before now : DoorTold) (former last : List ℕ) : Type 0 where
  pub sessions : List Session
  pub served : HasServed H files words before now sessions
  pub cut : IsLastLine sessions former last

-- the named file is the index of an archive, but the door did not listen
pub record IsDoorShut (H : List ℕ → List ℕ) (files : Files) (words : ServeWords)
    (before now : DoorTold) (text : List ℕ) : Type 0 where
  pub archive : Archive
  pub index : HasIndex H files words.index archive
  pub failed : FailedToListen words.address before now
  pub printed : text ≡ []

-- Why serving stopped after this text, once the index was loaded.
abbrev pub ServingStop : (List ℕ → List ℕ) → Files → ServeWords → (before now : DoorTold) → List ℕ → Stop → Type 0
ServingStop H files words before now text stop.Link = IsDoorShut H files words before now text
    ⊎ IsDoorBroken H files words before now text
ServingStop H files words before now text (stop.Faults count) = (0 < count)
    × AreAllServed H files words before now count text
ServingStop H files words before now text stop.Memory = IsLineUnmade H files words before now text
ServingStop H files words before now text _ = ⊥

-- What a door that reports has reported after serving: the address was listened at, at most once; `accept` was called
-- at most `connections` times; and each link that it gave is back.
pub record KeepsOpening (address : List ℕ) (connections : ℕ) (before now : Opening) : Type 0 where
  pub addresses : (now.addresses ≡ before.addresses) ⊎ (now.addresses ≡ before.addresses ++ address ∷ [])
  pub accepts : now.accepts ≤ before.accepts + connections
  pub out : now.out ≡ before.out

abbrev pub KeepsContent : (address : List ℕ) (connections : ℕ) (before now : Option Opening) → Type 0
KeepsContent address connections None now = now ≡ None
KeepsContent address connections (Some before) now = (opening : Opening) × (now ≡ Some opening)
    × KeepsOpening address connections before opening

-- what serving leaves of the door
pub record Opens (words : ServeWords) (before now : DoorTold) : Type 0 where
  pub content : KeepsContent words.address words.connections before.content now.content
  pub later : before.faults ≤ now.faults
