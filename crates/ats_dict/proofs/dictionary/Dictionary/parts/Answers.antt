use Rattle.std.proofs.Common.{◌≡◌, ◌≢◌, ◌∙◌, ◌+◌, ◌-◌, ◌<◌, ◌≤◌, ℕ, List, suc, ap, sym, subst, arith, length, get_or}
use Rattle.std.proofs.lemmas.List.{length-map, length-drop, get_or-map}
use Rattle.ats_dict.specs.declared.dictionary.Stored.{Stored}
use Rattle.ats_dict.specs.Entry.{DictEntry}
use Rattle.ats_dict.specs.Dictionary.{high, entry_at}
use Rattle.ats_dict.specs.Inner.Packed.{ArePacked, front_of, entry_of, entries_of}
use Rattle.ats_dict.proofs.Sentinels.{entry_at-suc, entry_at-last}
use Rattle.ats_dict.proofs.dictionary.Dictionary.parts.Goals as goal

inside : (fronts : List ℕ) (all : List Stored) (entries : List DictEntry) → entries_of fronts all ≡ entries → length all ≡ length entries
inside fronts all entries same = sym (length-map all (entry_of fronts)) ∙ ap length same

at_stored : (fronts : List ℕ) (all : List Stored) (entries : List DictEntry) (p : ℕ) (stored : Stored) → entries_of fronts all ≡ entries → p ≢ 0
    → p - 1 < length all → stored ≡ get_or all (p - 1) stored → entry_at entries p ≡ entry_of fronts stored
at_stored fronts all entries p stored same past within is =
    let next : p ≡ suc (p - 1) = omega arith in
    let d = entry_of fronts stored in
    ap (entry_at entries) next ∙ entry_at-suc entries (p - 1) d (omega (arith, inside fronts all entries same))
    ∙ ap (λ xs. get_or xs (p - 1) d) (sym same) ∙ get_or-map (entry_of fronts) all (p - 1) stored d within ∙ ap (entry_of fronts) (sym is)

at_end : (fronts : List ℕ) (all : List Stored) (entries : List DictEntry) (p : ℕ) → entries_of fronts all ≡ entries → p ≢ 0
    → p < length entries + 2 → length all ≤ p - 1 → entry_at entries p ≡ high
at_end fronts all entries p same past within end = entry_at-last entries p (omega (arith, inside fronts all entries same))

-- what is packed for an entry
front_few : (fronts : List ℕ) (all : List Stored) (i : ℕ) (stored : Stored) → ArePacked fronts all → i < length all → stored ≡ get_or all i stored
    → length (front_of fronts stored) ≤ 65
front_few fronts all i stored are inside is =
    let entry = entry_of fronts stored in
    let here : get_or (entries_of fronts all) i entry ≡ entry = get_or-map (entry_of fronts) all i stored entry inside ∙ ap (entry_of fronts) (sym is) in
    let kept = are.dictionary.each i entry (omega (arith, inside, length-map all (entry_of fronts))) in
    let few : length entry.term ≤ 64 = subst (λ (e : DictEntry). length e.term ≤ 64) here kept.term.few in
    omega (arith, few, length-drop 1 (front_of fronts stored))

pub returns-then-p-eq0-clause-entry : goal.returns-then-p-eq0-clause-entry
returns-then-p-eq0-clause-entry c =
    rw (c.sentinel.ensures.front, c.sentinel.ensures.number, c.sentinel.ensures.root) (ap (entry_at c.args.self.now) c.if-p-eq0.true)

pub returns-in-Some-clause-entry : goal.returns-in-Some-clause-entry
returns-in-Some-clause-entry c =
    let stored = c.in-Some.stored.now in
    let found = rw c.deref.ensures.value at c.in-Some.ensures.lookup.3 in
    rw c.deref-in-Some.ensures.value
    (at_stored c.self.inside.fronts.items c.self.inside.entries.items c.args.self.now c.args.p stored c.self.view_is c.if-p-eq0.false found.0 (found.1 stored))

pub returns-in-None-clause-entry : goal.returns-in-None-clause-entry
returns-in-None-clause-entry c =
    rw (c.sentinel-in-None.ensures.front, c.sentinel-in-None.ensures.number, c.sentinel-in-None.ensures.root)
    (at_end c.self.inside.fronts.items c.self.inside.entries.items c.args.self.now c.args.p c.self.view_is c.if-p-eq0.false c.requires
    (rw c.deref.ensures.value at c.in-None.ensures.lookup.3))

pub returns-in-Some-clause-few : goal.returns-in-Some-clause-few
returns-in-Some-clause-few c =
    let stored = c.in-Some.stored.now in
    let found = rw c.deref.ensures.value at c.in-Some.ensures.lookup.3 in
    rw c.deref-in-Some.ensures.value
    (front_few c.self.inside.fronts.items c.self.inside.entries.items (c.args.p - 1) stored c.self.invariant found.0 (found.1 stored))
