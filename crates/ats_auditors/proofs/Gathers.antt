-- The steps that gather the proofs of a list: how a command stops at them, and that it goes on after them.
use Rattle.std.proofs.Common.{◌≡◌, ◌∙◌, ◌++◌, ◌∷◌, ◌≤◌, ◌^◌, ℕ, List, [], inl, inr, sym, ap, subst, arith, append-nil, append_assoc}
use Rattle.std.specs.List.{AllZip}
use Rattle.ats_base.specs.Outside.{ShelfTold}
use Rattle.ats_plan.specs.Files.{Files}
use Rattle.ats_plan.specs.Plan.{Plan}
use Rattle.ats_plan.specs.Runs.{Does, Stops, IsDone, IsStopped}
use Rattle.ats_plan.proofs.Public.{Leads, leads_try, leads_read, leads_long}
use Rattle.ats_auditors.specs.Gathered.{IsGathered, AreGathered, total}
use Rattle.ats_console.specs.Steps.{no_more, comes_to}
use Rattle.ats_auditors.specs.Commands.{reads_gathered, gathers}
use Rattle.ats_auditors.specs.declared.gathering.Gathered.{Gathered}
use Rattle.ats_auditors.specs.declared.gathering.Gathered.TheVariants.{Whole, Long}
use Rattle.ats_console.specs.declared.stops.Stop.{Stop}
use Rattle.ats_console.specs.declared.stops.Stop.TheVariants.{Shelf, Memory}
use Rattle.ats_console.proofs.Public.{lands, ran_out}

-- ---- one proof

module _ (name : List ℕ) (rest : Gathered → Plan Stop) where
  pub leads_gathered : (plan : Plan Stop) (before mid next : ShelfTold) (proof : Gathered)
      → Leads Shelf Memory plan before (reads_gathered name rest) mid
      → IsDone (reads_gathered name (comes_to proof)) mid next [] → Leads Shelf Memory plan before (rest proof) next
  leads_gathered plan before mid next proof leads done = go done.so
    where
      go : Does (reads_gathered name (comes_to proof)) mid next [] → Leads Shelf Memory plan before (rest proof) next
      go (told, read, calm, inl (longer, (same, is))) = lands rest Long proof (leads_long leads read calm longer) same is
      go (told, read, calm, inr (bytes, file, (same, is))) = lands rest (Whole bytes) proof (leads_read leads read calm file) same is

  pub at_gathered : (before now : ShelfTold) (stop : Stop) → IsStopped Shelf Memory (reads_gathered name (λ proof. no_more)) before now stop
      → IsStopped Shelf Memory (reads_gathered name rest) before now stop
  at_gathered before now stop stopped = record { so = go stopped.so }
    where
      go : Stops Shelf Memory (reads_gathered name (λ proof. no_more)) before now stop → Stops Shelf Memory (reads_gathered name rest) before now stop
      go (inl here) = inl here
      go (inr (inl unread)) = inr (inl unread)
      go (inr (inr (told, read, calm, inl (longer, (same, is))))) = inr (inr (told, read, calm, inl (longer, ran_out (rest Long) same is)))
      go (inr (inr (told, read, calm, inr (bytes, file, (same, is))))) =
          inr (inr (told, read, calm, inr (bytes, file, ran_out (rest (Whole bytes)) same is)))

-- ---- all proofs

module _ (rest : List Gathered → Plan Stop) where
  does_gathers : (plan : Plan Stop) (before : ShelfTold) (got : List Gathered) (names : List (List ℕ)) (mid next : ShelfTold) (proofs : List Gathered)
      → Leads Shelf Memory plan before (gathers got names rest) mid → Does (gathers got names (comes_to proofs)) mid next []
      → Leads Shelf Memory plan before (rest proofs) next
  does_gathers plan before got [] mid next proofs leads (same, is) = lands rest got proofs leads same is
  does_gathers plan before got (name ∷ names) mid next proofs leads (told, read, calm, inl (longer, (within, later))) =
      does_gathers plan before (got ++ Long ∷ []) names told next proofs (leads_try (leads_long leads read calm longer) within) later
  does_gathers plan before got (name ∷ names) mid next proofs leads (told, read, calm, inr (bytes, file, (within, later))) =
      does_gathers plan before (got ++ Whole bytes ∷ []) names told next proofs (leads_try (leads_read leads read calm file) within) later

  pub leads_gathers : (plan : Plan Stop) (before mid next : ShelfTold) (names : List (List ℕ)) (proofs : List Gathered)
      → Leads Shelf Memory plan before (gathers [] names rest) mid → IsDone (gathers [] names (comes_to proofs)) mid next []
      → Leads Shelf Memory plan before (rest proofs) next
  leads_gathers plan before mid next names proofs leads done = does_gathers plan before [] names mid next proofs leads done.so

  stops_gathers : (now : ShelfTold) (stop : Stop) (got : List Gathered) (names : List (List ℕ)) (before : ShelfTold)
      → Stops Shelf Memory (gathers got names (λ proofs. no_more)) before now stop → Stops Shelf Memory (gathers got names rest) before now stop
  stops_gathers now stop got [] before (same, is) = ran_out (rest got) same is
  stops_gathers now stop got (name ∷ names) before (inl here) = inl here
  stops_gathers now stop got (name ∷ names) before (inr (inl unread)) = inr (inl unread)
  stops_gathers now stop got (name ∷ names) before (inr (inr (told, read, calm, inl (longer, inl limit)))) = inr (inr (told, read, calm, inl (longer, inl limit)))
  stops_gathers now stop got (name ∷ names) before (inr (inr (told, read, calm, inl (longer, inr (within, later))))) =
      inr (inr (told, read, calm, inl (longer, inr (within, stops_gathers now stop (got ++ Long ∷ []) names told later))))
  stops_gathers now stop got (name ∷ names) before (inr (inr (told, read, calm, inr (bytes, file, inl limit)))) =
      inr (inr (told, read, calm, inr (bytes, file, inl limit)))
  stops_gathers now stop got (name ∷ names) before (inr (inr (told, read, calm, inr (bytes, file, inr (within, later))))) =
      inr (inr (told, read, calm, inr (bytes, file, inr (within, stops_gathers now stop (got ++ Whole bytes ∷ []) names told later))))

  pub at_gathers : (before now : ShelfTold) (stop : Stop) (names : List (List ℕ))
      → IsStopped Shelf Memory (gathers [] names (λ proofs. no_more)) before now stop → IsStopped Shelf Memory (gathers [] names rest) before now stop
  at_gathers before now stop names stopped = record { so = stops_gathers now stop [] names before stopped.so }

-- ---- what was gathered

-- after some proofs, those of these names
record HasGot (files : Files) (got : List Gathered) (names : List (List ℕ)) (proofs : List Gathered) : Type 0 where
  more : List Gathered
  all : proofs ≡ got ++ more
  each : AllZip (IsGathered files) names more
  within : total proofs ≤ 2 ^ 28

got_more : (was files : Files) (got : List Gathered) (name : List ℕ) (names : List (List ℕ)) (proofs : List Gathered) (proof : Gathered) → files ≡ was
    → IsGathered was name proof → HasGot files (got ++ proof ∷ []) names proofs → HasGot was got (name ∷ names) proofs
got_more was files got name names proofs proof same is later = record {
  more = proof ∷ later.more;
  all = later.all ∙ append_assoc got (proof ∷ []) later.more;
  each = (is, subst (λ (all : Files). AllZip (IsGathered all) names later.more) same later.each);
  within = later.within;
}

has_got : (got : List Gathered) (names : List (List ℕ)) (proofs : List Gathered) (before now : ShelfTold) → total got ≤ 2 ^ 28
    → Does (gathers got names (comes_to proofs)) before now [] → HasGot before.files got names proofs
has_got got [] proofs before now few (same, is) = record {
  more = [];
  all = sym is ∙ sym (append-nil got);
  each = tt;
  within = subst (λ (all : List Gathered). total all ≤ 2 ^ 28) is few;
}
has_got got (name ∷ names) proofs before now few (told, read, calm, inl (longer, (within, later))) =
    got_more before.files told.files got name names proofs Long read.files longer (has_got (got ++ Long ∷ []) names proofs told now within later)
has_got got (name ∷ names) proofs before now few (told, read, calm, inr (bytes, file, (within, later))) =
    got_more before.files told.files got name names proofs (Whole bytes) read.files file (has_got (got ++ Whole bytes ∷ []) names proofs told now within later)

pub has_gathers : (names : List (List ℕ)) (proofs : List Gathered) (before now : ShelfTold) → IsDone (gathers [] names (comes_to proofs)) before now []
    → AreGathered before.files names proofs
has_gathers names proofs before now done =
    let got = has_got [] names proofs before now (omega arith) done.so in
    record { each = subst (λ (all : List Gathered). AllZip (IsGathered before.files) names all) (sym got.all) got.each; within = got.within }

does_same : (got : List Gathered) (names : List (List ℕ)) (proofs : List Gathered) (before now : ShelfTold)
    → Does (gathers got names (comes_to proofs)) before now [] → now.files ≡ before.files
does_same got [] proofs before now (same, is) = ap (λ (told : ShelfTold). told.files) same
does_same got (name ∷ names) proofs before now (told, read, calm, inl (longer, (within, later))) =
    does_same (got ++ Long ∷ []) names proofs told now later ∙ read.files
does_same got (name ∷ names) proofs before now (told, read, calm, inr (bytes, file, (within, later))) =
    does_same (got ++ Whole bytes ∷ []) names proofs told now later ∙ read.files

-- the files after it are those before it
pub same_gathers : (names : List (List ℕ)) (proofs : List Gathered) (before now : ShelfTold) → IsDone (gathers [] names (comes_to proofs)) before now []
    → now.files ≡ before.files
same_gathers names proofs before now done = does_same [] names proofs before now done.so
