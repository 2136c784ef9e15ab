-- The proof that a server makes, which shows all documents with every term of a query.
use Rattle.std.specs.Prelude.{◌≡◌, ◌==◌, ◌<◌, ◌≤◌, ◌^◌, ℕ, List, [], ◌∷◌, length, map, nat_lt, Result, Ok, Err, if◌then◌else◌}
use Rattle.std.specs.List.{list_any}
use Rattle.ats_commit.specs.Archive.{Archive}
use Rattle.ats_bound.specs.Schedule.{WholeLane}
use Rattle.ats_proof.specs.Value.{Proof}
use Rattle.ats_proof.specs.declared.record.Algorithm.TheVariants.{Tra}
use Rattle.ats_honest.specs.Lanes.{lanes_of}
use Rattle.ats_honest.specs.Honest.{IsCutProved, IsCutShown, IsCutTooLong}
use Rattle.ats_all_proof.specs.declared.making.BothFault.{BothFault}
use Rattle.ats_all_proof.specs.declared.making.BothFault.TheVariants.{TooLong, OutOfMemory}

-- how many entries the list of each term has that some text has
abbrev pub entry_counts : List (List ℕ) → List (List ℕ × ℕ) → List ℕ
entry_counts texts query = map (λ (lane : WholeLane). length lane.entries) (lanes_of texts query)

-- the first of the least counts as it is, and 1 in the place of each other
abbrev pub first_least_whole : List ℕ → List ℕ
first_least_whole [] = []
first_least_whole (n ∷ rest) = if list_any (λ m. nat_lt m n) rest then 1 ∷ first_least_whole rest else n ∷ map (λ m. 1) rest

-- If all terms are present, the first of the shortest lists is shown whole, and of each other list one entry; else one
-- entry of each.
abbrev pub both_cut : List (List ℕ) → List (List ℕ × ℕ) → List ℕ
both_cut texts query =
    let counts = entry_counts texts query in
    if length counts == length query then first_least_whole counts else map (λ n. 1) counts

-- the proof at that cut, which meets the documents of the shown entries and has no answer
abbrev pub IsBothMade : (List ℕ → List ℕ) → Archive → List (List ℕ × ℕ) → Proof → Type 0
IsBothMade H archive query proof = IsCutShown H archive query Tra (both_cut archive.texts query) proof

-- the bytes spell that proof
abbrev pub IsBothProof : (List ℕ → List ℕ) → Archive → List (List ℕ × ℕ) → List ℕ → Type 0
IsBothProof H archive query bytes = IsCutProved H archive query Tra (both_cut archive.texts query) bytes

-- no proof is made: it would have more than 2^26 bytes, this many; or memory ran out
abbrev pub IsBothFault : (List ℕ → List ℕ) → Archive → List (List ℕ × ℕ) → BothFault → Type 0
IsBothFault H archive query (TooLong length) = IsCutTooLong H archive query Tra (both_cut archive.texts query) (2 ^ 26) length
IsBothFault H archive query OutOfMemory = Unit {0}

-- What is returned if the proof has `size` bytes: that many bytes if they are within 2^26, and otherwise that they are too
-- many. Out of memory may be returned in both cases.
abbrev pub IsBothWithin : ℕ → Result (List ℕ) BothFault → Type 0
IsBothWithin size (Ok bytes) = (length bytes ≡ size) × (size ≤ 2 ^ 26)
IsBothWithin size (Err (TooLong length)) = (length ≡ size) × (2 ^ 26 < size)
IsBothWithin size (Err OutOfMemory) = Unit {0}
