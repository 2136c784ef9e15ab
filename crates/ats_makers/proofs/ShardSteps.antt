-- The steps of the second pass over the indexes of a catalog: how a command stops at them, that it goes on after them, and
-- what they made.
use Rattle.std.proofs.Common.{◌≡◌, ◌∙◌, ◌++◌, ◌∷◌, ◌<◌, ◌≤◌, ◌+◌, ℕ, zero, suc, List, [], length, drop, get_or, inl, inr, refl, sym, ap, subst, append-nil, append_assoc, arith}
use Rattle.std.specs.List.{AllZip}
use Rattle.std.proofs.lemmas.List.{drop_all, drop_more, get_or-map, length-append, length-map, same_lists}
use Rattle.ats_base.specs.Outside.{ShelfTold}
use Rattle.ats_commit.specs.Archive.{Archive, archive_of}
use Rattle.ats_commit.specs.Root.{root_of}
use Rattle.ats_proof.specs.Value.{Proof}
use Rattle.ats_honest.specs.Honest.{IsProvedBy}
use Rattle.ats_catalog_bytes.specs.Catalog.{archive_at, roots_of}
use Rattle.ats_catalog_proof.specs.Proving.{HasRootOf}
use Rattle.ats_plan.specs.Files.{Files}
use Rattle.ats_plan.specs.Plan.{Plan}
use Rattle.ats_plan.specs.Runs.{Does, Stops, IsDone, IsStopped}
use Rattle.ats_plan.proofs.Public.{Leads, leads_none, leads_get, leads_read, leads_try, done_end}
use Rattle.ats_console.specs.Read.{HasIndex}
use Rattle.ats_console.specs.Steps.{no_more, comes_to}
use Rattle.ats_console.specs.declared.stops.Stop.{Stop}
use Rattle.ats_console.specs.declared.stops.Stop.TheVariants.{Shelf, Memory}
use Rattle.ats_console.proofs.Public.{lands, ran_out}
use Rattle.ats_makers.specs.Commands.{proves_shard, proves_shards}

module _ (H : List ℕ → List ℕ) (catalog : List Archive) (asked : Archive → ℕ → Proof → Type 0) where
  -- ---- one shard

  module _ (shard : ℕ) (name : List ℕ) (rest : List ℕ → Plan Stop) where
    does_shard : (plan : Plan Stop) (before mid next : ShelfTold) (proof : List ℕ) → Leads Shelf Memory plan before (proves_shard H catalog asked shard name rest) mid
        → Does (proves_shard H catalog asked shard name (comes_to proof)) mid next [] → Leads Shelf Memory plan before (rest proof) next
    does_shard plan before mid next proof leads (told, read, calm, inl (longer, never)) = absurd never
    does_shard plan before mid next proof leads (told, read, calm, inr (bytes, file, (archive, spelled, (root, (made, is_made, (same, is)))))) =
        lands rest made proof (leads_get made (leads_try (leads_get archive (leads_read leads read calm file) spelled) root) is_made) same is

    pub leads_shard : {plan : Plan Stop} {before mid next : ShelfTold} {proof : List ℕ} → Leads Shelf Memory plan before (proves_shard H catalog asked shard name rest) mid
        → IsDone (proves_shard H catalog asked shard name (comes_to proof)) mid next [] → Leads Shelf Memory plan before (rest proof) next
    leads_shard {plan = plan} {before = before} {mid = mid} {next = next} {proof = proof} leads done = does_shard plan before mid next proof leads done.so

    stops_shard : (before now : ShelfTold) (stop : Stop) → Stops Shelf Memory (proves_shard H catalog asked shard name (λ proof. no_more)) before now stop
        → Stops Shelf Memory (proves_shard H catalog asked shard name rest) before now stop
    stops_shard before now stop (inl here) = inl here
    stops_shard before now stop (inr (inl unread)) = inr (inl unread)
    stops_shard before now stop (inr (inr (told, read, calm, inl long))) = inr (inr (told, read, calm, inl long))
    stops_shard before now stop (inr (inr (told, read, calm, inr (bytes, file, inl none)))) = inr (inr (told, read, calm, inr (bytes, file, inl none)))
    stops_shard before now stop (inr (inr (told, read, calm, inr (bytes, file, inr (archive, spelled, inl other))))) =
        inr (inr (told, read, calm, inr (bytes, file, inr (archive, spelled, inl other))))
    stops_shard before now stop (inr (inr (told, read, calm, inr (bytes, file, inr (archive, spelled, inr (root, inl unmade)))))) =
        inr (inr (told, read, calm, inr (bytes, file, inr (archive, spelled, inr (root, inl unmade)))))
    stops_shard before now stop (inr (inr (told, read, calm, inr (bytes, file, inr (archive, spelled, inr (root, inr (proof, made, (same, is)))))))) =
        inr (inr (told, read, calm, inr (bytes, file, inr (archive, spelled, inr (root, inr (proof, made, ran_out (rest proof) same is))))))

    pub at_shard : {before now : ShelfTold} {stop : Stop} → IsStopped Shelf Memory (proves_shard H catalog asked shard name (λ proof. no_more)) before now stop
        → IsStopped Shelf Memory (proves_shard H catalog asked shard name rest) before now stop
    at_shard {before = before} {now = now} {stop = stop} stopped = record { so = stops_shard before now stop stopped.so }

  -- ---- all shards

  module _ (rest : List (List ℕ) → Plan Stop) where
    does_shards : (plan : Plan Stop) (before : ShelfTold) (got : List (List ℕ)) (names : List (List ℕ)) (mid next : ShelfTold) (proofs : List (List ℕ))
        → Leads Shelf Memory plan before (proves_shards H catalog asked got names rest) mid → Does (proves_shards H catalog asked got names (comes_to proofs)) mid next []
        → Leads Shelf Memory plan before (rest proofs) next
    does_shards plan before got [] mid next proofs leads (same, is) = lands rest got proofs leads same is
    does_shards plan before got (name ∷ names) mid next proofs leads (told, read, calm, inl (longer, never)) = absurd never
    does_shards plan before got (name ∷ names) mid next proofs leads (told, read, calm, inr (bytes, file, (archive, spelled, (root, (proof, made, later))))) =
        does_shards plan before (got ++ proof ∷ []) names told next proofs
        (leads_get proof (leads_try (leads_get archive (leads_read leads read calm file) spelled) root) made) later

    pub leads_shards : {plan : Plan Stop} {before mid next : ShelfTold} (names : List (List ℕ)) (proofs : List (List ℕ))
        → Leads Shelf Memory plan before (proves_shards H catalog asked [] names rest) mid → IsDone (proves_shards H catalog asked [] names (comes_to proofs)) mid next []
        → Leads Shelf Memory plan before (rest proofs) next
    leads_shards {plan = plan} {before = before} {mid = mid} {next = next} names proofs leads done = does_shards plan before [] names mid next proofs leads done.so

    stops_shards : (now : ShelfTold) (stop : Stop) (got : List (List ℕ)) (names : List (List ℕ)) (before : ShelfTold)
        → Stops Shelf Memory (proves_shards H catalog asked got names (λ proofs. no_more)) before now stop → Stops Shelf Memory (proves_shards H catalog asked got names rest) before now stop
    stops_shards now stop got [] before (same, is) = ran_out (rest got) same is
    stops_shards now stop got (name ∷ names) before (inl here) = inl here
    stops_shards now stop got (name ∷ names) before (inr (inl unread)) = inr (inl unread)
    stops_shards now stop got (name ∷ names) before (inr (inr (told, read, calm, inl long))) = inr (inr (told, read, calm, inl long))
    stops_shards now stop got (name ∷ names) before (inr (inr (told, read, calm, inr (bytes, file, inl none)))) =
        inr (inr (told, read, calm, inr (bytes, file, inl none)))
    stops_shards now stop got (name ∷ names) before (inr (inr (told, read, calm, inr (bytes, file, inr (archive, spelled, inl other))))) =
        inr (inr (told, read, calm, inr (bytes, file, inr (archive, spelled, inl other))))
    stops_shards now stop got (name ∷ names) before (inr (inr (told, read, calm, inr (bytes, file, inr (archive, spelled, inr (root, inl unmade)))))) =
        inr (inr (told, read, calm, inr (bytes, file, inr (archive, spelled, inr (root, inl unmade)))))
    stops_shards now stop got (name ∷ names) before (inr (inr (told, read, calm, inr (bytes, file, inr (archive, spelled, inr (root, inr (proof, made, later))))))) =
        inr (inr (told, read, calm, inr (bytes, file, inr (archive, spelled, inr (root, inr (proof, made, stops_shards now stop (got ++ proof ∷ []) names told later))))))

    pub at_shards : {before now : ShelfTold} {stop : Stop} (names : List (List ℕ)) → IsStopped Shelf Memory (proves_shards H catalog asked [] names (λ proofs. no_more)) before now stop
        → IsStopped Shelf Memory (proves_shards H catalog asked [] names rest) before now stop
    at_shards {before = before} {now = now} {stop = stop} names stopped = record { so = stops_shards now stop [] names before stopped.so }

  -- ---- what was made

  -- from this shard on, the archives that were read have the roots of the catalog's, and give these proofs
  pub record AreProofsOver (shard : ℕ) (again : List Archive) (proofs : List (List ℕ)) : Type 0 where
    pub many : length again ≡ length proofs
    pub roots : (i : ℕ) → i < length again → HasRootOf H catalog (shard + i) (archive_at again i)
    pub each : (i : ℕ) (d : List ℕ) → i < length proofs → IsProvedBy (asked (archive_at again i) (shard + i)) (get_or proofs i d)

  none_over : (shard : ℕ) → AreProofsOver shard [] []
  none_over shard = record { many = refl; roots = λ i low. absurd (omega (arith, low)); each = λ i d low. absurd (omega (arith, low)) }

  next_root : (shard : ℕ) (archive : Archive) (again : List Archive) (proofs : List (List ℕ)) → HasRootOf H catalog shard archive → AreProofsOver (shard + 1) again proofs
      → (i : ℕ) → i < length (archive ∷ again) → HasRootOf H catalog (shard + i) (archive_at (archive ∷ again) i)
  next_root shard archive again proofs root later zero low = subst (λ (n : ℕ). HasRootOf H catalog n archive) (omega arith) root
  next_root shard archive again proofs root later (suc i) low =
      subst (λ (n : ℕ). HasRootOf H catalog n (archive_at again i)) (omega arith) (later.roots i (omega (arith, low)))

  next_proof : (shard : ℕ) (archive : Archive) (proof : List ℕ) (again : List Archive) (proofs : List (List ℕ)) → IsProvedBy (asked archive shard) proof
      → AreProofsOver (shard + 1) again proofs → (i : ℕ) (d : List ℕ) → i < length (proof ∷ proofs)
      → IsProvedBy (asked (archive_at (archive ∷ again) i) (shard + i)) (get_or (proof ∷ proofs) i d)
  next_proof shard archive proof again proofs proved later zero d low = subst (λ (n : ℕ). IsProvedBy (asked archive n) proof) (omega arith) proved
  next_proof shard archive proof again proofs proved later (suc i) d low =
      subst (λ (n : ℕ). IsProvedBy (asked (archive_at again i) n) (get_or proofs i d)) (omega arith) (later.each i d (omega (arith, low)))

  -- after some proofs, those over the archives of these indexes
  record HasReread (files now : Files) (got : List (List ℕ)) (names : List (List ℕ)) (proofs : List (List ℕ)) : Type 0 where
    again : List Archive
    more : List (List ℕ)
    all : proofs ≡ got ++ more
    indexes : AllZip (HasIndex H files) names again
    over : AreProofsOver (length got) again more
    same : now ≡ files

  has_reread : (got : List (List ℕ)) (names : List (List ℕ)) (proofs : List (List ℕ)) (before now : ShelfTold)
      → Does (proves_shards H catalog asked got names (comes_to proofs)) before now [] → HasReread before.files now.files got names proofs
  has_reread got [] proofs before now (same, is) = record {
    again = [];
    more = [];
    all = sym is ∙ sym (append-nil got);
    indexes = tt;
    over = none_over (length got);
    same = ap (λ (told : ShelfTold). told.files) same;
  }
  has_reread got (name ∷ names) proofs before now (told, read, calm, inl (longer, never)) = absurd never
  has_reread got (name ∷ names) proofs before now (told, read, calm, inr (bytes, file, (archive, spelled, (root, (proof, made, later))))) =
      let after = has_reread (got ++ proof ∷ []) names proofs told now later in
      let over : AreProofsOver (length got + 1) after.again after.more =
      subst (λ (n : ℕ). AreProofsOver n after.again after.more) (length-append got (proof ∷ [])) after.over in
      record {
        again = archive ∷ after.again;
        more = proof ∷ after.more;
        all = after.all ∙ append_assoc got (proof ∷ []) after.more;
        indexes = (record { bytes = bytes; file = file; spelling = spelled }, subst (λ (files : Files). AllZip (HasIndex H files) names after.again) read.files after.indexes);
        over = record {
          many = omega (arith, over.many);
          roots = next_root (length got) archive after.again after.more root over;
          each = next_proof (length got) archive proof after.again after.more made.proved over;
        };
        same = after.same ∙ read.files;
      }

  -- the proofs are over archives of the indexes, which are still there
  pub has_proofs : {before now : ShelfTold} (names : List (List ℕ)) (proofs : List (List ℕ)) → IsDone (proves_shards H catalog asked [] names (comes_to proofs)) before now []
      → (again : List Archive) × AllZip (HasIndex H now.files) names again × AreProofsOver 0 again proofs
  has_proofs {before = before} {now = now} names proofs done =
      let got = has_reread [] names proofs before now done.so in (
        got.again,
        subst (λ (files : Files). AllZip (HasIndex H files) names got.again) (sym got.same) got.indexes,
        subst (AreProofsOver 0 got.again) (sym got.all) got.over,
      )

  pub same_shards : {before now : ShelfTold} (names : List (List ℕ)) (proofs : List (List ℕ)) → IsDone (proves_shards H catalog asked [] names (comes_to proofs)) before now []
      → now.files ≡ before.files
  same_shards {before = before} {now = now} names proofs done = (has_reread [] names proofs before now done.so).same

  -- so they have the catalog's roots
  pub same_roots : (again : List Archive) (proofs : List (List ℕ)) → length again ≡ length catalog → AreProofsOver 0 again proofs → roots_of H again ≡ roots_of H catalog
  same_roots again proofs many over =
      let size : length (roots_of H again) ≡ length (roots_of H catalog) = length-map again (root_of H) ∙ many ∙ sym (length-map catalog (root_of H)) in
      same_lists (roots_of H again) (roots_of H catalog) size (λ i d low.
      let inside : i < length again = omega (arith, low, length-map again (root_of H)) in
      get_or-map (root_of H) again i (archive_of []) d inside ∙ subst (λ (n : ℕ). HasRootOf H catalog n (archive_at again i)) (omega arith) (over.roots i inside)
      ∙ sym (get_or-map (root_of H) catalog i (archive_of []) d (omega (arith, inside, many))))

  -- ---- one after another

  -- from the whole plan, whatever comes at its end, the steps for the names after the first ones are left
  abbrev IsLeft : (List (List ℕ) → Plan Stop) → (before now : ShelfTold) → List (List ℕ) → (i : ℕ) → List (List ℕ) → Type 0
  IsLeft rest before now names i proofs =
      Leads Shelf Memory (proves_shards H catalog asked [] names rest) before (proves_shards H catalog asked proofs (drop i names) rest) now

  -- the shards of the first names have these proofs
  pub record ArePast (before now : ShelfTold) (names : List (List ℕ)) (i : ℕ) (proofs : List (List ℕ)) : Type 0 where
    pub done : (all : List (List ℕ)) → IsLeft (comes_to all) before now names i proofs
    pub stopped : IsLeft (λ all. no_more) before now names i proofs

  pub none_past : (before : ShelfTold) (names : List (List ℕ)) → ArePast before before names 0 []
  none_past before names = record { done = λ all. leads_none; stopped = leads_none }

  module _ (before mid : ShelfTold) (names : List (List ℕ)) (i : ℕ) (name : List ℕ) (less : i < length names) (is : name ≡ get_or names i name)
      (proofs : List (List ℕ)) (past : ArePast before mid names i proofs) where
    abbrev then_rest : (List (List ℕ) → Plan Stop) → List ℕ → Plan Stop
    then_rest rest proof = proves_shards H catalog asked (proofs ++ proof ∷ []) (drop (i + 1) names) rest

    left_next : (rest : List (List ℕ) → Plan Stop) → IsLeft rest before mid names i proofs
        → Leads Shelf Memory (proves_shards H catalog asked [] names rest) before (proves_shard H catalog asked (length proofs) name (then_rest rest)) mid
    left_next rest left =
        subst (λ (l : List (List ℕ)). Leads Shelf Memory (proves_shards H catalog asked [] names rest) before (proves_shards H catalog asked proofs l rest) mid)
        (drop_more names i name less ∙ ap (λ (n : List ℕ). n ∷ drop (i + 1) names) (sym is)) left

    -- the next has none
    pub stops_past : (next : ShelfTold) (stop : Stop) → IsStopped Shelf Memory (proves_shard H catalog asked (length proofs) name (λ proof. no_more)) mid next stop
        → IsStopped Shelf Memory (proves_shards H catalog asked [] names (λ all. no_more)) before next stop
    stops_past next stop stops =
        (left_next (λ all. no_more) past.stopped).stops next stop (at_shard (length proofs) name (then_rest (λ all. no_more)) stops)

    pub past_more : (next : ShelfTold) (proof : List ℕ) → IsDone (proves_shard H catalog asked (length proofs) name (comes_to proof)) mid next []
        → ArePast before next names (i + 1) (proofs ++ proof ∷ [])
    past_more next proof made = record {
      done = λ all. leads_shard (length proofs) name (then_rest (comes_to all)) (left_next (comes_to all) (past.done all)) made;
      stopped = leads_shard (length proofs) name (then_rest (λ all. no_more)) (left_next (λ all. no_more) past.stopped) made;
    }

  -- all have one
  pub all_past : (before now : ShelfTold) (names : List (List ℕ)) (i : ℕ) → length names ≤ i → (proofs : List (List ℕ)) → ArePast before now names i proofs
      → IsDone (proves_shards H catalog asked [] names (comes_to proofs)) before now []
  all_past before now names i beyond proofs past =
      (subst (λ (l : List (List ℕ)). Leads Shelf Memory (proves_shards H catalog asked [] names (comes_to proofs)) before (proves_shards H catalog asked proofs l (comes_to proofs)) now)
      (drop_all i names beyond) (past.done proofs)).does now [] (done_end refl)
