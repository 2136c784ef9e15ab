-- The notes of one prefix.
use Rattle.std.proofs.Common.{◌≡◌, ◌<◌, ◌+◌, ◌*◌, ◌++◌, ℕ, List, [], map, ap₂, subst, arith}
use Rattle.std.specs.List.{All}
use Rattle.ats_impact.specs.Numbers.{idf}
use Rattle.ats_postings.specs.declared.entry.Entry.{Entry}
use Rattle.ats_bound.specs.declared.work.Mark.{Mark}
use Rattle.ats_bound.specs.Cut.{rest}
use Rattle.ats_client.specs.Presented.{Presented}
use Rattle.ats_client.specs.Indexes.{AreNames}
use Rattle.ats_client.specs.Groups.{indexes_of}
use Rattle.ats_client.specs.Inner.Noting.{Note, note, AreNotes, index_lane, lane_notes}
use Rattle.ats_client.proofs.Marks.{notes_turn}
use Rattle.ats_client.proofs.TermsLeft.{each_by}

pub names_inside : (met : ℕ) (entries : List Entry) → AreNames met (indexes_of entries) → All (λ (e : Entry). e.doc < met) entries
names_inside met entries names = each_by (λ index. index < met) (λ (e : Entry). e.doc) entries names.inside

pub list_noted : (met : ℕ) (notes : List Note) (number documents coefficient most : ℕ) (one : Presented) (marks : List Mark)
    → coefficient ≡ one.weight * idf documents one.entry.f → most ≡ rest (index_lane documents one)
    → AreNotes met (notes ++ map (note coefficient most) one.prefix.entries) (number + 1) (indexes_of one.prefix.entries) marks
    → AreNotes met (notes ++ lane_notes (index_lane documents one)) (number + 2) [] marks
list_noted met notes number documents coefficient most one marks is are_most are =
    let all : map (note coefficient most) one.prefix.entries ≡ lane_notes (index_lane documents one) = ap₂ (λ c r. map (note c r) one.prefix.entries) is are_most in
    let here = subst (λ more. AreNotes met (notes ++ more) (number + 1) (indexes_of one.prefix.entries) marks) all are in
    let next : number + 1 + 1 ≡ number + 2 = omega arith in
    subst (λ l. AreNotes met (notes ++ lane_notes (index_lane documents one)) l [] marks) next
    (notes_turn met (notes ++ lane_notes (index_lane documents one)) (number + 1) (indexes_of one.prefix.entries) marks here)
