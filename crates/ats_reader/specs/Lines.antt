-- The line of a verdict, as the commands print it, without the line feed.
use Rattle.std.specs.Prelude.{◌++◌, [], ◌==◌, ◌&&◌, ◌-◌, ◌^◌, ℕ, Bool, List, Option, Some, None, option_map, nat_lt, codes, decimal, if◌then◌else◌}
use Rattle.ats_grammar.specs.declared.fault.ShapeKind.{ShapeKind}
use Rattle.ats_grammar.specs.declared.fault.ShapeKind.TheVariants.{Long, Cut, Magic, Version, Algorithm, Count, Order, Trailing}
use Rattle.ats_refusal.specs.Words.{refusal_words, rejection_words, catalog_refusal_words, text_refusal_words, both_refusal_words, growth_refusal_words}
use Rattle.ats_refusal.specs.declared.catalog.CatalogRefusal.TheVariants.{Shard}
use Rattle.ats_refusal.specs.declared.documents.BothRefusal.TheVariants.{NotTra, AnswerShown, NoWholeList}
use Rattle.ats_refusal.specs.declared.growth.GrowthRefusal.TheVariants.{OtherOld, OtherNew, Shrunk, GrowthMisfit, OldTexts, NewTexts}
use Rattle.ats_refusal.specs.declared.proof.Refusal.{Refusal}
use Rattle.ats_refusal.specs.declared.proof.Refusal.TheVariants.{OtherRoot, SlotCount, DictMisfit, DictRoot, SlotWrong, IndexOut, Repeated, ListMisfit, ListRoot, Unmet, DocsMisfit, DocsRoot, TermsMisfit, TermsRoot, TermSlot, AnswerOut, AnswerRepeated, NotSettled}
use Rattle.ats_refusal.specs.declared.proof.Rejection.{Rejection}
use Rattle.ats_refusal.specs.declared.proof.Rejection.TheVariants.{Shape, Check}
use Rattle.ats_refusal.specs.declared.text.TextRefusal.TheVariants as text
use Rattle.ats_reader.specs.declared.shown.Verdict.{Verdict}

-- the kind of a fault of the shape
abbrev pub shape_of : ℕ → Option ShapeKind
shape_of reason =
    if reason == 8 then Some Long
    else if reason == 9 then Some Cut
    else if reason == 10 then Some Magic
    else if reason == 11 then Some Version
    else if reason == 12 then Some Algorithm
    else if reason == 13 then Some Count
    else if reason == 14 then Some Order
    else if reason == 15 then Some Trailing
    else None

-- a rule that a proof breaks before its answer is settled
abbrev pub refusal_of : (reason first second : ℕ) → Option Refusal
refusal_of reason first second =
    if reason == 16 then Some OtherRoot
    else if reason == 17 then Some (SlotCount first)
    else if reason == 18 then Some DictMisfit
    else if reason == 19 then Some DictRoot
    else if reason == 20 then Some (SlotWrong first)
    else if reason == 21 then Some (IndexOut first second)
    else if reason == 22 then Some (Repeated first second)
    else if reason == 23 then Some (ListMisfit first)
    else if reason == 24 then Some (ListRoot first)
    else if reason == 25 then Some (Unmet first)
    else if reason == 26 then Some DocsMisfit
    else if reason == 27 then Some DocsRoot
    else if reason == 28 then Some (TermsMisfit first)
    else if reason == 29 then Some (TermsRoot first)
    else if reason == 30 then Some (TermSlot first second)
    else if reason == 31 then Some (AnswerOut first)
    else if reason == 32 then Some (AnswerRepeated first)
    else None

-- the words of any other rule that does not hold
abbrev pub rule_words : (reason first second : ℕ) → Option (List ℕ)
rule_words reason first second =
    if reason == 33 then Some (refusal_words NotSettled)
    else if reason == 35 then Some (both_refusal_words NotTra)
    else if reason == 36 then Some (both_refusal_words (AnswerShown first))
    else if reason == 37 then Some (both_refusal_words NoWholeList)
    else if reason == 39 then Some (text_refusal_words (text.DocOut first))
    else if reason == 40 then Some (text_refusal_words (text.TextMisfit first))
    else if reason == 41 then Some (text_refusal_words text.TextRoot)
    else if reason == 42 then Some (growth_refusal_words OtherOld)
    else if reason == 43 then Some (growth_refusal_words OtherNew)
    else if reason == 44 then Some (growth_refusal_words (Shrunk first second))
    else if reason == 45 then Some (growth_refusal_words (GrowthMisfit first))
    else if reason == 46 then Some (growth_refusal_words OldTexts)
    else if reason == 47 then Some (growth_refusal_words NewTexts)
    else None

-- no rule has numbers of 2^32 or more
abbrev pub are_small : (first second : ℕ) → Bool
are_small first second = nat_lt first (2 ^ 32) && nat_lt second (2 ^ 32)

-- what is wrong with a proof before its answer is settled
abbrev pub rejection_of : (reason first second : ℕ) → Option Rejection
rejection_of reason first second = elim (shape_of reason) [
  | Some kind ↦ Some (Shape (record { at = first; kind = kind }))
  | None ↦ if are_small first second then option_map Check (refusal_of reason first second) else None
]

-- the words of a refusal after the first one
abbrev pub refused_words : (reason first second : ℕ) → Option (List ℕ)
refused_words reason first second = elim (rejection_of reason first second) [
  | Some rejection ↦ Some (rejection_words rejection)
  | None ↦ if are_small first second then rule_words reason first second else None
]

-- the same if the proof of a shard is refused
abbrev pub shard_words : (shard reason first second : ℕ) → Option (List ℕ)
shard_words shard reason first second =
    if nat_lt shard (2 ^ 32) then option_map (λ (rejection : Rejection). catalog_refusal_words (Shard shard rejection)) (rejection_of reason first second) else None

-- from 64 on a reason is one of a shard's proof
abbrev pub words_of : Verdict → Option (List ℕ)
words_of verdict =
    if nat_lt verdict.reason 64 then refused_words verdict.reason verdict.first verdict.second
    else shard_words verdict.count (verdict.reason - 64) verdict.first verdict.second

-- the line of any other reason; what is accepted has none, and neither have other numbers
abbrev pub other_words : (reason first : ℕ) → List ℕ
other_words reason first =
    if reason == 1 then codes "usage: query is not UTF-8"
    else if reason == 2 then codes "input: r " ++ decimal first
    else if reason == 3 then codes "usage: room for " ++ (decimal first ++ codes " rows")
    else if reason == 4 then codes "input: query of " ++ (decimal first ++ codes " bytes")
    else if reason == 5 then codes "input: query has no term"
    else if reason == 6 then codes "input: query of " ++ (decimal first ++ codes " words")
    else if reason == 7 then codes "input: query of " ++ (decimal first ++ codes " terms")
    else if reason == 34 then codes "memory"
    else if reason == 38 then codes "usage: room for " ++ (decimal first ++ codes " documents")
    else if reason == 48 then codes "usage: room for " ++ (decimal first ++ codes " terms")
    else if reason == 49 then codes "input: roots of " ++ (decimal first ++ codes " bytes")
    else []

abbrev pub line_of : Verdict → List ℕ
line_of verdict = elim (words_of verdict) [
  | Some words ↦ codes "refused: " ++ words
  | None ↦ other_words verdict.reason verdict.first
]
