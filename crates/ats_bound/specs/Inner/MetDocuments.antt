-- What is known of the documents that the shown entries of a stage name.
use Rattle.std.specs.Prelude.{◌≡◌, ◌≢◌, ◌⊎◌, ◌<◌, ◌≤◌, ◌+◌, ◌*◌, ◌==◌, ◌++◌, ◌∷◌, [], ℕ, List, length, map, set, slice_index_or}
use Rattle.std.specs.List.{list_any}
use Rattle.std.specs.declared.option.Option.{Option}
use Rattle.std.specs.declared.option.Option.TheVariants.{Some}
use Rattle.ats_bound.specs.declared.met_documents.Met.{Met}
use Rattle.ats_bound.specs.Cut.{ShownLane, lo_of, names}
use Rattle.ats_bound.specs.Schedule.{most_gain}
use Rattle.ats_bound.specs.Inner.Cursors.{named_by}

-- the document in a slot, with what is known of it
abbrev pub met_at : List Met → ℕ → Met
met_at met slot = slice_index_or met slot (record { doc = 0; lo = 0; named = 0 })

-- no document has two slots
abbrev pub AreOnce : List Met → Type 0
AreOnce met = (i j : ℕ) → i < j → j < length met → (met_at met i).doc ≢ (met_at met j).doc

-- `slots` gives the slot of each document that has one, and none for any other
pub record AreSlots (met : List Met) (slots : ℕ → Option ℕ) : Type 0 where
  pub found : (doc slot : ℕ) → slots doc ≡ Some slot → (slot < length met) × ((met_at met slot).doc ≡ doc)
  pub each : (slot : ℕ) → slot < length met → slots (met_at met slot).doc ≡ Some slot

-- the lower bound and the lanes of one document are those of the shown entries
pub record IsKnown (lanes : List ShownLane) (met : Met) : Type 0 where
  pub lo : met.lo ≡ lo_of lanes met.doc
  pub named : met.named ≡ named_by lanes met.doc
  -- each lane that names it adds at most the largest coefficient times the largest impact
  pub few : met.lo ≤ most_gain * met.named

-- there is one slot for each met document and for no other, with what is known of it
pub record AreMetDocuments (lanes : List ShownLane) (met : List Met) : Type 0 where
  pub once : AreOnce met
  pub named : (doc : ℕ) → list_any (λ (m : Met). m.doc == doc) met ≡ list_any (names doc) lanes
  pub each : (slot : ℕ) → slot < length met → IsKnown lanes (met_at met slot)

-- what is known of a document after one more entry that names it, which adds `gain`; `digit` is that of its list
abbrev pub more_of : Met → ℕ → ℕ → Met
more_of met gain digit = record { doc = met.doc; lo = met.lo + gain; named = met.named + digit }

-- the document has no slot
abbrev pub IsUnmet : List Met → ℕ → Type 0
IsUnmet met doc = (slot : ℕ) → slot < length met → (met_at met slot).doc ≢ doc

-- one more entry names the document: its slot is updated, or it gets the next slot
abbrev pub Meets : List Met → List Met → ℕ → ℕ → ℕ → Type 0
Meets met after doc gain digit =
    ((slot : ℕ) × (slot < length met) × ((met_at met slot).doc ≡ doc)
    × (after ≡ set met slot (more_of (met_at met slot) gain digit)))
    ⊎ (IsUnmet met doc × (after ≡ met ++ record { doc = doc; lo = gain; named = digit } ∷ []))

-- the lower bounds
abbrev pub lows : List Met → List ℕ
lows met = map (λ (m : Met). m.lo) met
