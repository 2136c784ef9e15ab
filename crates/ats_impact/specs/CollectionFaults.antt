-- Why texts are no collection.
use Rattle.std.specs.Prelude.{◌≡◌, ◌<◌, ◌≤◌, ◌^◌, ℕ, List, [], length, take, sum_by, slice_index_or}
use Rattle.ats_impact.specs.Limits.{AllShort}
use Rattle.ats_impact.specs.declared.collection.CollectionFault.{CollectionFault}
use Rattle.ats_impact.specs.declared.collection.CollectionFault.TheVariants.{NoDocuments, TooMany, TextTooLong, AllTooLong, OutOfMemory}

-- the first of these that holds, in this order, with its number; out of memory needs no cause in the texts
abbrev pub IsFirstCollectionFault : List (List ℕ) → CollectionFault → Type 0
IsFirstCollectionFault texts NoDocuments = length texts ≡ 0
IsFirstCollectionFault texts (TooMany n) = (n ≡ length texts) × (65536 < n)
IsFirstCollectionFault texts (TextTooLong doc) =
    (1 ≤ length texts) × (length texts ≤ 65536) × (doc < length texts)
    × (2 ^ 20 < length (slice_index_or texts doc [])) × AllShort (take doc texts)
IsFirstCollectionFault texts (AllTooLong bytes) =
    (1 ≤ length texts) × (length texts ≤ 65536) × AllShort texts × (bytes ≡ sum_by length texts) × (2 ^ 24 < bytes)
IsFirstCollectionFault texts OutOfMemory = Unit {0}
