-- The calls on a shelf, one after another.
use Rattle.std.proofs.Common.{◌≡◌, ◌≤◌, ◌<◌, ◌+◌, ◌∙◌, ◌++◌, ◌∷◌, ℕ, List, [], Option, refl, sym, ap, arith, append_assoc, append-nil}
use Rattle.ats_base.specs.Outside.{Ask, Asked, Calls, ReadsOn, Appends, StoresOnce}
use Rattle.ats_base.specs.declared.outside.FileCall.TheVariants.{Read, Append}

-- there was no call
pub asked_none : (told : Option (List Ask)) (such : List Ask → Type 0) → such [] → Asked told told such
asked_none told such none = record { told = λ all is. (all, [], is, sym (append-nil all), none) }

-- calls after calls
pub asked_then : (before mid now : Option (List Ask)) (first second both : List Ask → Type 0) → Asked before mid first → Asked mid now second
    → ((a b : List Ask) → first a → second b → both (a ++ b)) → Asked before now both
asked_then before mid now first second both is also joined = record {
  told = λ all told.
      let later = also.told all told in
      let sooner = is.told later.0 later.2 in (
        sooner.0,
        sooner.1 ++ later.1,
        sooner.2,
        later.3 ∙ ap (λ (was : List Ask). was ++ later.1) sooner.3 ∙ append_assoc sooner.0 sooner.1 later.1,
        joined sooner.1 later.1 sooner.4 later.4,
      );
}

-- a weaker word of the same calls
pub asked_as : (before now : Option (List Ask)) (such weaker : List Ask → Type 0) → Asked before now such → ((asks : List Ask) → such asks → weaker asks)
    → Asked before now weaker
asked_as before now such weaker is weaken = record {
  told = λ all told. let these = is.told all told in (these.0, these.1, these.2, these.3, weaken these.1 these.4);
}

-- a read further on
read_on : (name : List ℕ) (asks : List Ask) (from mid end : ℕ) → ReadsOn name from mid asks → from ≤ mid → mid < end
    → ReadsOn name from end (asks ++ (record { name = name; call = Read mid }) ∷ [])
read_on name [] from mid end reads least less = (mid, refl, least, less, tt)
read_on name (ask ∷ rest) from mid end (at, is, low, high, more) least less =
    (at, is, low, omega arith, read_on name rest (at + 1) mid end more (omega arith) less)

-- an end further on
read_wider : (name : List ℕ) (asks : List Ask) (from mid end : ℕ) → ReadsOn name from mid asks → mid ≤ end → ReadsOn name from end asks
read_wider name [] from mid end reads wide = tt
read_wider name (ask ∷ rest) from mid end (at, is, low, high, more) wide = (at, is, low, omega arith, read_wider name rest (at + 1) mid end more wide)

pub asked_read : (before mid now : Option (List Ask)) (name : List ℕ) (at end : ℕ) → Asked before mid (ReadsOn name 0 at) → Calls mid now name (Read at)
    → at < end → Asked before now (ReadsOn name 0 end)
asked_read before mid now name at end is also less =
    asked_then before mid now (ReadsOn name 0 at) (λ further. further ≡ (record { name = name; call = Read at }) ∷ []) (ReadsOn name 0 end) is also
    (λ a b reads same. rw same (read_on name a 0 at end reads (omega arith) less))

pub asked_wider : (before now : Option (List Ask)) (name : List ℕ) (at end : ℕ) → Asked before now (ReadsOn name 0 at) → at ≤ end → Asked before now (ReadsOn name 0 end)
asked_wider before now name at end is wide = asked_as before now (ReadsOn name 0 at) (ReadsOn name 0 end) is (λ asks reads. read_wider name asks 0 at end reads wide)

append_more : (name : List ℕ) (asks : List Ask) → Appends name asks → Appends name (asks ++ (record { name = name; call = Append }) ∷ [])
append_more name [] adds = (refl, tt)
append_more name (ask ∷ rest) (is, adds) = (is, append_more name rest adds)

-- a storing goes on
pub asked_append : (before mid now : Option (List Ask)) (name : List ℕ) → Asked before mid (StoresOnce name) → Calls mid now name Append → Asked before now (StoresOnce name)
asked_append before mid now name is also =
    asked_then before mid now (StoresOnce name) (λ further. further ≡ (record { name = name; call = Append }) ∷ []) (StoresOnce name) is also
    (λ a b stores same. record {
      appends = stores.appends ++ b;
      starts = ap (λ (front : List Ask). front ++ b) stores.starts;
      adds = rw same (append_more name stores.appends stores.adds);
    })
