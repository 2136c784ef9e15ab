-- The steps that read the indexes of a catalog: how a command stops at them, that it goes on after them, and what it read.
use Rattle.std.proofs.Common.{◌≡◌, ◌∙◌, ◌++◌, ◌∷◌, ◌<◌, ◌≤◌, ◌+◌, ℕ, List, [], length, drop, get_or, inl, inr, refl, sym, ap, subst, append-nil, append_assoc}
use Rattle.std.specs.List.{AllZip}
use Rattle.std.proofs.lemmas.List.{drop_all, drop_more, length-append}
use Rattle.ats_base.specs.Outside.{ShelfTold}
use Rattle.ats_commit.specs.Archive.{Archive}
use Rattle.ats_plan.specs.Files.{Files}
use Rattle.ats_plan.specs.Plan.{Plan}
use Rattle.ats_plan.specs.Runs.{Does, Stops, IsDone, IsStopped}
use Rattle.ats_plan.proofs.Public.{Leads, leads_none, leads_get, leads_read, done_end}
use Rattle.ats_console.specs.Names.{reads_archives}
use Rattle.ats_console.specs.Read.{HasIndex}
use Rattle.ats_console.specs.Steps.{reads_index, no_more, comes_to}
use Rattle.ats_console.specs.declared.stops.Stop.{Stop}
use Rattle.ats_console.specs.declared.stops.Stop.TheVariants.{Shelf, Memory}
use Rattle.ats_console.proofs.Fronts.{lands, ran_out, leads_index, at_index}

module _ (H : List ℕ → List ℕ) where
  -- ---- all archives

  module _ (rest : List Archive → Plan Stop) where
    does_archives : (plan : Plan Stop) (before : ShelfTold) (got : List Archive) (names : List (List ℕ)) (mid next : ShelfTold) (archives : List Archive)
        → Leads Shelf Memory plan before (reads_archives H got names rest) mid → Does (reads_archives H got names (comes_to archives)) mid next []
        → Leads Shelf Memory plan before (rest archives) next
    does_archives plan before got [] mid next archives leads (same, is) = lands rest got archives leads same is
    does_archives plan before got (name ∷ names) mid next archives leads (told, read, calm, inl (longer, never)) = absurd never
    does_archives plan before got (name ∷ names) mid next archives leads (told, read, calm, inr (bytes, file, (archive, spelled, later))) =
        does_archives plan before (got ++ archive ∷ []) names told next archives (leads_get archive (leads_read leads read calm file) spelled) later

    pub leads_archives : {plan : Plan Stop} {before mid next : ShelfTold} (names : List (List ℕ)) (archives : List Archive)
        → Leads Shelf Memory plan before (reads_archives H [] names rest) mid → IsDone (reads_archives H [] names (comes_to archives)) mid next []
        → Leads Shelf Memory plan before (rest archives) next
    leads_archives {plan = plan} {before = before} {mid = mid} {next = next} names archives leads done =
        does_archives plan before [] names mid next archives leads done.so

    stops_archives : (now : ShelfTold) (stop : Stop) (got : List Archive) (names : List (List ℕ)) (before : ShelfTold)
        → Stops Shelf Memory (reads_archives H got names (λ archives. no_more)) before now stop → Stops Shelf Memory (reads_archives H got names rest) before now stop
    stops_archives now stop got [] before (same, is) = ran_out (rest got) same is
    stops_archives now stop got (name ∷ names) before (inl here) = inl here
    stops_archives now stop got (name ∷ names) before (inr (inl unread)) = inr (inl unread)
    stops_archives now stop got (name ∷ names) before (inr (inr (told, read, calm, inl long))) = inr (inr (told, read, calm, inl long))
    stops_archives now stop got (name ∷ names) before (inr (inr (told, read, calm, inr (bytes, file, inl none)))) =
        inr (inr (told, read, calm, inr (bytes, file, inl none)))
    stops_archives now stop got (name ∷ names) before (inr (inr (told, read, calm, inr (bytes, file, inr (archive, spelled, later))))) =
        inr (inr (told, read, calm, inr (bytes, file, inr (archive, spelled, stops_archives now stop (got ++ archive ∷ []) names told later))))

    pub at_archives : {before now : ShelfTold} {stop : Stop} (names : List (List ℕ))
        → IsStopped Shelf Memory (reads_archives H [] names (λ archives. no_more)) before now stop → IsStopped Shelf Memory (reads_archives H [] names rest) before now stop
    at_archives {before = before} {now = now} {stop = stop} names stopped = record { so = stops_archives now stop [] names before stopped.so }

  -- ---- what was read

  -- after some archives, those of these indexes
  record HasRead (files now : Files) (got : List Archive) (names : List (List ℕ)) (archives : List Archive) : Type 0 where
    more : List Archive
    all : archives ≡ got ++ more
    each : AllZip (HasIndex H files) names more
    same : now ≡ files

  has_read : (got : List Archive) (names : List (List ℕ)) (archives : List Archive) (before now : ShelfTold)
      → Does (reads_archives H got names (comes_to archives)) before now [] → HasRead before.files now.files got names archives
  has_read got [] archives before now (same, is) = record {
    more = [];
    all = sym is ∙ sym (append-nil got);
    each = tt;
    same = ap (λ (told : ShelfTold). told.files) same;
  }
  has_read got (name ∷ names) archives before now (told, read, calm, inl (longer, never)) = absurd never
  has_read got (name ∷ names) archives before now (told, read, calm, inr (bytes, file, (archive, spelled, later))) =
      let after = has_read (got ++ archive ∷ []) names archives told now later in
      record {
        more = archive ∷ after.more;
        all = after.all ∙ append_assoc got (archive ∷ []) after.more;
        each = (record { bytes = bytes; file = file; spelling = spelled }, subst (λ (files : Files). AllZip (HasIndex H files) names after.more) read.files after.each);
        same = after.same ∙ read.files;
      }

  -- the archives are those of the indexes, which are still there
  pub has_archives : {before now : ShelfTold} (names : List (List ℕ)) (archives : List Archive) → IsDone (reads_archives H [] names (comes_to archives)) before now []
      → AllZip (HasIndex H now.files) names archives
  has_archives {before = before} {now = now} names archives done =
      let got = has_read [] names archives before now done.so in
      subst (λ (files : Files). AllZip (HasIndex H files) names archives) (sym got.same)
      (subst (AllZip (HasIndex H before.files) names) (sym got.all) got.each)

  pub same_archives : {before now : ShelfTold} (names : List (List ℕ)) (archives : List Archive) → IsDone (reads_archives H [] names (comes_to archives)) before now []
      → now.files ≡ before.files
  same_archives {before = before} {now = now} names archives done = (has_read [] names archives before now done.so).same

  -- ---- one after another

  -- from the whole plan, whatever comes at its end, the steps for the names after the first ones are left
  abbrev IsLeft : (List Archive → Plan Stop) → (before now : ShelfTold) → List (List ℕ) → (i : ℕ) → List Archive → Type 0
  IsLeft rest before now names i archives = Leads Shelf Memory (reads_archives H [] names rest) before (reads_archives H archives (drop i names) rest) now

  -- the indexes of the first names were read, and these are their archives
  pub record AreSoFar (before now : ShelfTold) (names : List (List ℕ)) (i : ℕ) (archives : List Archive) : Type 0 where
    pub done : (all : List Archive) → IsLeft (comes_to all) before now names i archives
    pub stopped : IsLeft (λ all. no_more) before now names i archives
    pub counted : length archives ≡ i

  pub none_so_far : (before : ShelfTold) (names : List (List ℕ)) → AreSoFar before before names 0 []
  none_so_far before names = record { done = λ all. leads_none; stopped = leads_none; counted = refl }

  module _ (before mid : ShelfTold) (names : List (List ℕ)) (i : ℕ) (name : List ℕ) (less : i < length names) (is : name ≡ get_or names i name)
      (archives : List Archive) (so_far : AreSoFar before mid names i archives) where
    left_next : (rest : List Archive → Plan Stop) → IsLeft rest before mid names i archives
        → Leads Shelf Memory (reads_archives H [] names rest) before (reads_index H name (λ archive. reads_archives H (archives ++ archive ∷ []) (drop (i + 1) names) rest)) mid
    left_next rest left =
        subst (λ (l : List (List ℕ)). Leads Shelf Memory (reads_archives H [] names rest) before (reads_archives H archives l rest) mid)
        (drop_more names i name less ∙ ap (λ (n : List ℕ). n ∷ drop (i + 1) names) (sym is)) left

    -- the next was not read
    pub stops_at : (next : ShelfTold) (stop : Stop) → IsStopped Shelf Memory (reads_index H name (λ archive. no_more)) mid next stop
        → IsStopped Shelf Memory (reads_archives H [] names (λ all. no_more)) before next stop
    stops_at next stop stops = (left_next (λ all. no_more) so_far.stopped).stops next stop (at_index stops)

    pub so_far_more : (next : ShelfTold) (archive : Archive) → IsDone (reads_index H name (comes_to archive)) mid next []
        → AreSoFar before next names (i + 1) (archives ++ archive ∷ [])
    so_far_more next archive reads = record {
      done = λ all. leads_index (left_next (comes_to all) (so_far.done all)) reads;
      stopped = leads_index (left_next (λ all. no_more) so_far.stopped) reads;
      counted = length-append archives (archive ∷ []) ∙ ap (λ (n : ℕ). n + 1) so_far.counted;
    }

  -- all were read
  pub all_read_so : (before now : ShelfTold) (names : List (List ℕ)) (i : ℕ) → length names ≤ i → (archives : List Archive) → AreSoFar before now names i archives
      → IsDone (reads_archives H [] names (comes_to archives)) before now []
  all_read_so before now names i past archives so_far =
      (subst (λ (l : List (List ℕ)). Leads Shelf Memory (reads_archives H [] names (comes_to archives)) before (reads_archives H archives l (comes_to archives)) now)
      (drop_all i names past) (so_far.done archives)).does now [] (done_end refl)
