-- The fronts of lists, one by one.
use Rattle.std.proofs.Common.{◌≡◌, ◌<◌, ◌≤◌, ◌^◌, ℕ, zero, suc, List, [], ◌∷◌, length, take, get_or, refl, sym, ap, subst, arith}
use Rattle.std.specs.List.{All}
use Rattle.std.proofs.lemmas.List.Elements.{All-take}
use Rattle.ats_postings.specs.declared.entry.Entry.{Entry}
use Rattle.ats_postings.specs.Lists.{IsList}
use Rattle.ats_lists.specs.declared.format.Format.{Format}
use Rattle.ats_bound.specs.Schedule.{IsCut, WholeLane}
use Rattle.ats_proof.specs.Value.{Prefix}
use Rattle.ats_honest.specs.Honest.{prefix_of, prefixes}

pub prefix_each : (H : List ℕ → List ℕ) (format : Format) (met : List ℕ) (lanes : List WholeLane) (cut : List ℕ) → length cut ≡ length lanes → length (prefixes H format met lanes cut) ≡ length lanes
prefix_each H format met [] cut same = refl
prefix_each H format met (lane ∷ lanes) [] same = absurd (omega (arith, same))
prefix_each H format met (lane ∷ lanes) (count ∷ cut) same = ap suc (prefix_each H format met lanes cut (omega (arith, same)))

pub prefix_at : (H : List ℕ → List ℕ) (format : Format) (met : List ℕ) (lanes : List WholeLane) (cut : List ℕ) (i : ℕ) (d : Prefix) (e : WholeLane) → length cut ≡ length lanes → i < length lanes
    → get_or (prefixes H format met lanes cut) i d ≡ prefix_of H format met (get_or lanes i e).entries (get_or cut i 0)
prefix_at H format met [] cut i d e same inside = absurd (omega (arith, inside))
prefix_at H format met (lane ∷ lanes) [] i d e same inside = absurd (omega (arith, same))
prefix_at H format met (lane ∷ lanes) (count ∷ cut) zero d e same inside = refl
prefix_at H format met (lane ∷ lanes) (count ∷ cut) (suc i) d e same inside = prefix_at H format met lanes cut i d e (omega (arith, same)) (omega (arith, inside))

-- what holds of each first entries of a list holds of all fronts
pub fronts_all : (H : List ℕ → List ℕ) (format : Format) (met : List ℕ) (n : ℕ) (P : Prefix → Type 0) (lanes : List WholeLane) (cut : List ℕ)
    → All (λ (lane : WholeLane). IsList n lane.entries) lanes → IsCut lanes cut
    → ((entries : List Entry) (count : ℕ) → IsList n entries → 1 ≤ count → count ≤ length entries → P (prefix_of H format met entries count))
    → All P (prefixes H format met lanes cut)
fronts_all H format met n P lanes cut lists is each k d inside =
    let none : WholeLane = record { coefficient = 0; entries = [] } in
    let here : k < length lanes = omega (arith, inside, prefix_each H format met lanes cut is.size) in
    let shown = is.each k none here in
    subst P (sym (prefix_at H format met lanes cut k d none is.size here)) (each (get_or lanes k none).entries (get_or cut k 0) (lists k none here) shown.0 shown.1)

-- a list's impacts have 16 bits
pub small_impacts : (entries : List Entry) (k : ℕ) → IsList 65536 entries → All (λ (e : Entry). e.impact < 2 ^ 16) (take k entries)
small_impacts entries k is = All-take (λ (e : Entry). e.impact < 2 ^ 16) k entries (λ i d inside. omega (arith, (is.impacts i d inside).1))
