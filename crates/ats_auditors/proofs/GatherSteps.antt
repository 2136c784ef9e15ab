-- The proofs of a list, gathered one by one.
use Rattle.std.proofs.Common.{◌≡◌, ◌∙◌, ◌++◌, ◌∷◌, ◌<◌, ◌≤◌, ◌+◌, ◌^◌, ℕ, List, [], length, drop, get_or, refl, sym, ap, subst, arith}
use Rattle.std.proofs.lemmas.List.{drop_all, drop_more}
use Rattle.std.proofs.lemmas.List.Sums.{sum_by-append, sum_by-cons}
use Rattle.ats_base.specs.Outside.{ShelfTold}
use Rattle.ats_plan.specs.Plan.{Plan, Tries}
use Rattle.ats_plan.specs.Runs.{IsDone, IsStopped}
use Rattle.ats_plan.proofs.Public.{Leads, leads_none, leads_try, at_memory, at_try, done_end}
use Rattle.ats_auditors.specs.Gathered.{content, size, total}
use Rattle.ats_console.specs.Stops.{line_of_long_proofs}
use Rattle.ats_console.specs.Steps.{no_more, comes_to}
use Rattle.ats_auditors.specs.Inner.Sweeping.{entry_names}
use Rattle.ats_auditors.specs.Commands.{reads_gathered, gathers, PassesSweepLimit}
use Rattle.ats_auditors.specs.declared.gathering.Gathered.{Gathered}
use Rattle.ats_auditors.specs.declared.listing.Entry.{Entry}
use Rattle.ats_console.specs.declared.stops.Stop.{Stop}
use Rattle.ats_console.specs.declared.stops.Stop.TheVariants.{Shelf, Memory, Input}
use Rattle.ats_auditors.proofs.Gathers.{leads_gathered, at_gathered}

-- ---- what is left after the first entries

names_left : (entries : List Entry) (i : ℕ) (entry : Entry) → i < length entries → entry ≡ get_or entries i entry
    → entry_names (drop i entries) ≡ entry.proof.now ∷ entry_names (drop (i + 1) entries)
names_left entries i entry less is =
    ap entry_names (drop_more entries i entry less) ∙ ap (λ (one : Entry). one.proof.now ∷ entry_names (drop (i + 1) entries)) (sym is)

total_more : (proofs : List Gathered) (proof : Gathered) → total (proofs ++ proof ∷ []) ≡ total proofs + size proof
total_more proofs proof =
    let all = sum_by-append size proofs (proof ∷ []) in
    let one = sum_by-cons size proof [] in
    omega (arith, all, one)

-- from the whole plan, whatever comes at its end, the steps for the names after the first ones are left
abbrev IsLeft : (List Gathered → Plan Stop) → (before now : ShelfTold) → List Entry → (i : ℕ) → List Gathered → Type 0
IsLeft rest before now entries i proofs =
    Leads Shelf Memory (gathers [] (entry_names entries) rest) before (gathers proofs (entry_names (drop i entries)) rest) now

-- the proofs of the first entries were gathered, and have `count` bytes
pub record AreSoFar (before now : ShelfTold) (entries : List Entry) (i : ℕ) (proofs : List Gathered) (count : ℕ) : Type 0 where
  pub done : (all : List Gathered) → IsLeft (comes_to all) before now entries i proofs
  pub stopped : IsLeft (λ all. no_more) before now entries i proofs
  pub counted : count ≡ total proofs
  pub within : count ≤ 2 ^ 28

pub none_so_far : (before : ShelfTold) (entries : List Entry) → AreSoFar before before entries 0 [] 0
none_so_far before entries = record { done = λ all. leads_none; stopped = leads_none; counted = refl; within = omega arith }

module _ (before mid : ShelfTold) (entries : List Entry) (i : ℕ) (entry : Entry) (less : i < length entries) (is : entry ≡ get_or entries i entry)
    (proofs : List Gathered) (count : ℕ) (so_far : AreSoFar before mid entries i proofs count) where
  -- the steps for the next proof, and those after it
  abbrev next_steps : (List Gathered → Plan Stop) → Gathered → Plan Stop
  next_steps rest proof = Tries (total (proofs ++ proof ∷ []) ≤ 2 ^ 28) (PassesSweepLimit (total (proofs ++ proof ∷ [])))
      (gathers (proofs ++ proof ∷ []) (entry_names (drop (i + 1) entries)) rest)

  left_next : (rest : List Gathered → Plan Stop) → IsLeft rest before mid entries i proofs
      → Leads Shelf Memory (gathers [] (entry_names entries) rest) before (reads_gathered entry.proof.now (next_steps rest)) mid
  left_next rest left =
      subst (λ (names : List (List ℕ)). Leads Shelf Memory (gathers [] (entry_names entries) rest) before (gathers proofs names rest) mid)
      (names_left entries i entry less is) left

  -- the next was not gathered
  pub stops_at : (now : ShelfTold) (stop : Stop) → IsStopped Shelf Memory (reads_gathered entry.proof.now (λ proof. no_more)) mid now stop
      → IsStopped Shelf Memory (gathers [] (entry_names entries) (λ all. no_more)) before now stop
  stops_at now stop stops =
      (left_next (λ all. no_more) so_far.stopped).stops now stop (at_gathered entry.proof.now (next_steps (λ all. no_more)) mid now stop stops)

  module _ (now : ShelfTold) (proof : Gathered) (reads : IsDone (reads_gathered entry.proof.now (comes_to proof)) mid now []) (bytes : List ℕ)
      (same : bytes ≡ content proof) where
    tried : (rest : List Gathered → Plan Stop) → IsLeft rest before mid entries i proofs
        → Leads Shelf Memory (gathers [] (entry_names entries) rest) before (next_steps rest proof) now
    tried rest left = leads_gathered entry.proof.now (next_steps rest) (gathers [] (entry_names entries) rest) before mid now proof (left_next rest left) reads

    counts : count + length bytes ≡ total (proofs ++ proof ∷ [])
    counts = ap (λ (n : ℕ). n + length bytes) so_far.counted ∙ ap (λ (b : List ℕ). total proofs + length b) same ∙ sym (total_more proofs proof)

    -- with the next there are too many bytes
    pub passes_at : (stop : Stop) → stop ≡ Input (line_of_long_proofs (count + length bytes)) → 2 ^ 28 < count + length bytes
        → IsStopped Shelf Memory (gathers [] (entry_names entries) (λ all. no_more)) before now stop
    passes_at stop printed passes = (tried (λ all. no_more) so_far.stopped).stops now stop
        (at_try (subst (λ (n : ℕ). PassesSweepLimit n stop) counts (passes, printed)))

    -- memory ran out after it
    pub memory_at : IsStopped Shelf Memory (gathers [] (entry_names entries) (λ all. no_more)) before now Memory
    memory_at = (tried (λ all. no_more) so_far.stopped).stops now Memory at_memory

    pub so_far_more : count + length bytes ≤ 2 ^ 28 → AreSoFar before now entries (i + 1) (proofs ++ proof ∷ []) (count + length bytes)
    so_far_more within =
        let space : total (proofs ++ proof ∷ []) ≤ 2 ^ 28 = omega (arith, counts, within) in
        record {
          done = λ all. leads_try (tried (comes_to all) (so_far.done all)) space;
          stopped = leads_try (tried (λ all. no_more) so_far.stopped) space;
          counted = counts;
          within = within;
        }

-- all were gathered
pub gathered_all : (before now : ShelfTold) (entries : List Entry) (i : ℕ) → length entries ≤ i → (proofs : List Gathered) (count : ℕ)
    → AreSoFar before now entries i proofs count → IsDone (gathers [] (entry_names entries) (comes_to proofs)) before now []
gathered_all before now entries i past proofs count so_far =
    (so_far.done proofs).does now []
    (subst (λ (left : List Entry). IsDone (gathers proofs (entry_names left) (comes_to proofs)) now now []) (sym (drop_all i entries past)) (done_end refl))
