-- The first steps of a command: how it stops at them, and that it goes on after them.
use Rattle.std.proofs.Common.{◌≡◌, ◌⊎◌, ◌≢◌, ◌<◌, ◌≤◌, ◌^◌, ◌∙◌, ℕ, List, [], Result, Ok, Err, IfErr, IsErrAnd, inl, inr, refl, sym, ap, subst, arith}
use Rattle.std.proofs.lemmas.Result.{err_from_is_err_and}
use Rattle.ats_base.specs.Outside.{ShelfTold}
use Rattle.ats_terms.specs.Query.{IsQueryOf}
use Rattle.ats_terms.specs.Faults.{IsFirstFault}
use Rattle.ats_terms.specs.declared.query.QueryFault.{QueryFault}
use Rattle.ats_commit.specs.Archive.{Archive}
use Rattle.ats_plan.specs.Files.{Files, IsFile}
use Rattle.ats_plan.specs.Plan.{Plan, Fails, Tries, Gets, Reads}
use Rattle.ats_plan.specs.Runs.{Does, Stops, IsDone, IsStopped}
use Rattle.ats_plan.proofs.Public.{Leads, leads_try, leads_get, leads_read, at_memory, at_get, at_try}
use Rattle.ats_index.specs.Spelling.{IsSpelling}
use Rattle.ats_index.specs.LoadFaults.{IsLoadFault}
use Rattle.ats_console.specs.Lists.{IsListOf, IsListStop}
use Rattle.ats_console.specs.Read.{HasCollection, HasIndex}
use Rattle.ats_console.specs.Roots.{SpellsRoot, HasRoots, reads_roots}
use Rattle.ats_console.specs.Steps.{StopsBy, IsRowCount, AsksRanking, asks_query, asks_ranking, reads_collection, reads_index, no_more, comes_to}
use Rattle.ats_console.specs.Stops.{line_of_rows, line_of_limit, stop_of_query, stop_of_load}
use Rattle.ats_console.specs.declared.stops.Stop.{Stop}
use Rattle.ats_console.specs.declared.stops.Stop.TheVariants.{Usage, Shelf, Input, Rejected, Memory, Link, Peer, Faults, Collision}

-- ---- faults

other_stop : (a : Stop) → (a ≡ Memory) ⊎ (a ≢ Memory)
other_stop Memory = inl refl
other_stop Usage = inr (λ same. absurd (cc))
other_stop Shelf = inr (λ same. absurd (cc))
other_stop (Input line) = inr (λ same. absurd (cc))
other_stop (Rejected line) = inr (λ same. absurd (cc))
other_stop Link = inr (λ same. absurd (cc))
other_stop (Peer line) = inr (λ same. absurd (cc))
other_stop (Faults count) = inr (λ same. absurd (cc))
other_stop (Collision lines) = inr (λ same. absurd (cc))

-- the stop of a first fault is for out of memory, or it stops by that fault
pub stops_by : {E : Type 0} (first : E → Type 0) (stop_of : E → Stop) (fault : E) (stop : Stop) → first fault → stop ≡ stop_of fault
    → (stop ≡ Memory) ⊎ StopsBy first stop_of stop
stops_by first stop_of fault stop is same = elim (other_stop stop) [
  | inl memory ↦ inl memory
  | inr other ↦ inr (fault, is, same, other)
]

-- ---- the first steps are taken

pub rows_of_range : (r : ℕ) → (1 ≤ r) × (r ≤ 1000) → IsRowCount r
rows_of_range r within = record { some = within.0; few = within.1 }

-- rows and a query that were read are within the limits
pub asks_of : (r : ℕ) (text : List ℕ) (query : List (List ℕ × ℕ)) → (1 ≤ r) × (r ≤ 1000) → IsQueryOf text query → AsksRanking r text
asks_of r text query within asked = record { rows = rows_of_range r within; query = asked.has }

module _ {plan : Plan Stop} {before mid : ShelfTold} where
  pub leads_query : {text : List ℕ} {query : List (List ℕ × ℕ)} {rest : List (List ℕ × ℕ) → Plan Stop}
      → Leads Shelf Memory plan before (asks_query text rest) mid → IsQueryOf text query → Leads Shelf Memory plan before (rest query) mid
  leads_query {query = query} leads asked = leads_get query leads asked

  pub leads_ranking : {r : ℕ} {text : List ℕ} {query : List (List ℕ × ℕ)} {rest : List (List ℕ × ℕ) → Plan Stop}
      → Leads Shelf Memory plan before (asks_ranking r text rest) mid → IsRowCount r → IsQueryOf text query
      → Leads Shelf Memory plan before (rest query) mid
  leads_ranking leads rows asked = leads_query (leads_try leads rows) asked

-- where a step ended, and the value that it came to
pub lands : {A : Type 0} {plan : Plan Stop} {before mid next : ShelfTold} (rest : A → Plan Stop) (found value : A)
    → Leads Shelf Memory plan before (rest found) mid → next ≡ mid → found ≡ value → Leads Shelf Memory plan before (rest value) next
lands {plan = plan} {before = before} {mid = mid} rest found value leads same is =
    subst (λ (told : ShelfTold). Leads Shelf Memory plan before (rest value) told) (sym same)
    (subst (λ a. Leads Shelf Memory plan before (rest a) mid) is leads)

module _ {plan : Plan Stop} {before mid next : ShelfTold} where
  after_bytes : {name : List ℕ} {limit : ℕ} {fault : Stop} (rest : List ℕ → Plan Stop) (bytes : List ℕ)
      → Leads Shelf Memory plan before (Reads name limit (Fails fault) rest) mid
      → Does (Reads name limit (Fails fault) (comes_to bytes)) mid next [] → Leads Shelf Memory plan before (rest bytes) next
  after_bytes rest bytes leads (told, read, calm, inl (longer, never)) = absurd never
  after_bytes rest bytes leads (told, read, calm, inr (found, file, (same, is))) = lands rest found bytes (leads_read {rest = rest} leads read calm file) same is

  -- a file within its limit
  pub leads_bytes : {name : List ℕ} {limit : ℕ} {fault : Stop} {rest : List ℕ → Plan Stop} {bytes : List ℕ}
      → Leads Shelf Memory plan before (Reads name limit (Fails fault) rest) mid
      → IsDone (Reads name limit (Fails fault) (comes_to bytes)) mid next [] → Leads Shelf Memory plan before (rest bytes) next
  leads_bytes {rest = rest} {bytes = bytes} leads done = after_bytes rest bytes leads done.so

  after_collection : {name : List ℕ} (rest : List (List ℕ) → Plan Stop) (texts : List (List ℕ))
      → Leads Shelf Memory plan before (reads_collection name rest) mid
      → Does (reads_collection name (comes_to texts)) mid next [] → Leads Shelf Memory plan before (rest texts) next
  after_collection rest texts leads (told, read, calm, inl (longer, never)) = absurd never
  after_collection rest texts leads (told, read, calm, inr (bytes, file, (found, json, (within, (same, is))))) =
      lands rest found texts (leads_try (leads_get found (leads_read leads read calm file) json) within) same is

  pub leads_collection : {name : List ℕ} {rest : List (List ℕ) → Plan Stop} {texts : List (List ℕ)}
      → Leads Shelf Memory plan before (reads_collection name rest) mid
      → IsDone (reads_collection name (comes_to texts)) mid next [] → Leads Shelf Memory plan before (rest texts) next
  leads_collection {rest = rest} {texts = texts} leads done = after_collection rest texts leads done.so

  -- a file whose bytes are some value
  after_value : {A : Type 0} (is : List ℕ → A → Type 0) (bad : List ℕ → Stop → Type 0) {name : List ℕ} {limit : ℕ} {fault : Stop}
      (rest : A → Plan Stop) (value : A)
      → Leads Shelf Memory plan before (Reads name limit (Fails fault) (λ bytes. Gets A (is bytes) (bad bytes) rest)) mid
      → Does (Reads name limit (Fails fault) (λ bytes. Gets A (is bytes) (bad bytes) (comes_to value))) mid next []
      → Leads Shelf Memory plan before (rest value) next
  after_value is bad rest value leads (told, read, calm, inl (longer, never)) = absurd never
  after_value is bad rest value leads (told, read, calm, inr (bytes, file, (found, spelled, (same, so)))) =
      lands rest found value (leads_get found (leads_read leads read calm file) spelled) same so

  pub leads_index : {H : List ℕ → List ℕ} {name : List ℕ} {rest : Archive → Plan Stop} {archive : Archive}
      → Leads Shelf Memory plan before (reads_index H name rest) mid
      → IsDone (reads_index H name (comes_to archive)) mid next [] → Leads Shelf Memory plan before (rest archive) next
  leads_index {H = H} {rest = rest} {archive = archive} leads done =
      after_value (IsSpelling H) (λ bytes. StopsBy (IsLoadFault H bytes) stop_of_load) rest archive leads done.so

  pub leads_roots : {name : List ℕ} {rest : List (List ℕ) → Plan Stop} {roots : List (List ℕ)}
      → Leads Shelf Memory plan before (reads_roots name rest) mid
      → IsDone (reads_roots name (comes_to roots)) mid next [] → Leads Shelf Memory plan before (rest roots) next
  leads_roots {rest = rest} {roots = roots} leads done =
      after_value (IsListOf SpellsRoot 4096) (IsListStop SpellsRoot 4096) rest roots leads done.so

-- ---- what such a step found, and that it left the files

module _ (before now : ShelfTold) where
  file_got : (name : List ℕ) (limit : ℕ) (fault : Stop) (bytes : List ℕ) → Does (Reads name limit (Fails fault) (comes_to bytes)) before now []
      → IsFile before.files name limit bytes × (now.files ≡ before.files)
  file_got name limit fault bytes (told, read, calm, inl (longer, never)) = absurd never
  file_got name limit fault bytes (told, read, calm, inr (found, file, (same, is))) =
      (subst (λ (b : List ℕ). IsFile before.files name limit b) is file, ap (λ (t : ShelfTold). t.files) same ∙ read.files)

  collection_got : (name : List ℕ) (texts : List (List ℕ)) → Does (reads_collection name (comes_to texts)) before now []
      → HasCollection before.files name texts × (now.files ≡ before.files)
  collection_got name texts (told, read, calm, inl (longer, never)) = absurd never
  collection_got name texts (told, read, calm, inr (bytes, file, (found, json, (within, (same, is))))) = (
    subst (λ (t : List (List ℕ)). HasCollection before.files name t) is
        (record { bytes = bytes; file = file; collection = record { json = json; within = within } }),
    ap (λ (t : ShelfTold). t.files) same ∙ read.files,
  )

  value_got : {A : Type 0} (is : List ℕ → A → Type 0) (bad : List ℕ → Stop → Type 0) (name : List ℕ) (limit : ℕ) (fault : Stop) (value : A)
      → Does (Reads name limit (Fails fault) (λ bytes. Gets A (is bytes) (bad bytes) (comes_to value))) before now []
      → ((bytes : List ℕ) × IsFile before.files name limit bytes × is bytes value) × (now.files ≡ before.files)
  value_got is bad name limit fault value (told, read, calm, inl (longer, never)) = absurd never
  value_got is bad name limit fault value (told, read, calm, inr (bytes, file, (found, spelled, (same, so)))) = (
    (bytes, file, subst (is bytes) so spelled),
    ap (λ (t : ShelfTold). t.files) same ∙ read.files,
  )

module _ {before now : ShelfTold} where
  pub has_bytes : {name : List ℕ} {limit : ℕ} {fault : Stop} {bytes : List ℕ}
      → IsDone (Reads name limit (Fails fault) (comes_to bytes)) before now [] → IsFile before.files name limit bytes
  has_bytes {name} {limit} {fault} {bytes} done = (file_got before now name limit fault bytes done.so).0

  pub same_bytes : {name : List ℕ} {limit : ℕ} {fault : Stop} {bytes : List ℕ}
      → IsDone (Reads name limit (Fails fault) (comes_to bytes)) before now [] → now.files ≡ before.files
  same_bytes {name} {limit} {fault} {bytes} done = (file_got before now name limit fault bytes done.so).1

  pub has_collection : {name : List ℕ} {texts : List (List ℕ)} → IsDone (reads_collection name (comes_to texts)) before now []
      → HasCollection before.files name texts
  has_collection {name} {texts} done = (collection_got before now name texts done.so).0

  pub same_collection : {name : List ℕ} {texts : List (List ℕ)} → IsDone (reads_collection name (comes_to texts)) before now []
      → now.files ≡ before.files
  same_collection {name} {texts} done = (collection_got before now name texts done.so).1

  index_got : {H : List ℕ → List ℕ} {name : List ℕ} {archive : Archive} → IsDone (reads_index H name (comes_to archive)) before now []
      → ((bytes : List ℕ) × IsFile before.files name (2 ^ 29) bytes × IsSpelling H bytes archive) × (now.files ≡ before.files)
  index_got {H} {name} {archive} done =
      value_got before now (IsSpelling H) (λ bytes. StopsBy (IsLoadFault H bytes) stop_of_load) name (2 ^ 29) (Input (line_of_limit (2 ^ 29))) archive done.so

  pub has_index : {H : List ℕ → List ℕ} {name : List ℕ} {archive : Archive} → IsDone (reads_index H name (comes_to archive)) before now []
      → HasIndex H before.files name archive
  has_index done = let got = (index_got done).0 in record { bytes = got.0; file = got.1; spelling = got.2 }

  pub same_index : {H : List ℕ → List ℕ} {name : List ℕ} {archive : Archive} → IsDone (reads_index H name (comes_to archive)) before now []
      → now.files ≡ before.files
  same_index done = (index_got done).1

  -- what such a step found is still there, an index also after later steps that leave the files
  pub still_bytes : {name : List ℕ} {limit : ℕ} {fault : Stop} {bytes : List ℕ}
      → IsDone (Reads name limit (Fails fault) (comes_to bytes)) before now [] → IsFile now.files name limit bytes
  still_bytes {name = name} {limit = limit} {bytes = bytes} done = subst (λ (f : Files). IsFile f name limit bytes) (sym (same_bytes done)) (has_bytes done)

  pub still_collection : {name : List ℕ} {texts : List (List ℕ)} → IsDone (reads_collection name (comes_to texts)) before now []
      → HasCollection now.files name texts
  still_collection {name = name} {texts = texts} done = subst (λ (f : Files). HasCollection f name texts) (sym (same_collection done)) (has_collection done)

  pub still_index : {H : List ℕ → List ℕ} {files : Files} {name : List ℕ} {archive : Archive}
      → IsDone (reads_index H name (comes_to archive)) before now [] → files ≡ now.files → HasIndex H files name archive
  still_index {H = H} {name = name} {archive = archive} done same = subst (λ (f : Files). HasIndex H f name archive) (sym (same ∙ same_index done)) (has_index done)

  pub still_roots : {name : List ℕ} {roots : List (List ℕ)} → IsDone (reads_roots name (comes_to roots)) before now [] → HasRoots now.files name roots
  still_roots {name = name} {roots = roots} done =
      let got = value_got before now (IsListOf SpellsRoot 4096) (IsListStop SpellsRoot 4096) name (2 ^ 20) (Input (line_of_limit (2 ^ 20))) roots done.so in
      subst (λ (f : Files). HasRoots f name roots) (sym got.1) (record { bytes = got.0.0; file = got.0.1; list = got.0.2 })

-- ---- such a step stopped

-- memory ran out after some steps, and what came after them
pub ran_out : {before now : ShelfTold} (plan : Plan Stop) {stop : Stop} → now ≡ before → stop ≡ Memory → Stops Shelf Memory plan before now stop
ran_out {before = before} {now = now} plan {stop = stop} same is =
    subst (λ (told : ShelfTold). Stops Shelf Memory plan before told stop) (sym same)
    (subst (λ (s : Stop). Stops Shelf Memory plan before before s) (sym is) ((at_memory {shelf = Shelf} {memory = Memory} {plan = plan}).so))

module _ {before now : ShelfTold} {stop : Stop} where
  pub at_bytes : {name : List ℕ} {limit : ℕ} {fault : Stop} {rest : List ℕ → Plan Stop}
      → IsStopped Shelf Memory (Reads name limit (Fails fault) (λ bytes. no_more)) before now stop
      → IsStopped Shelf Memory (Reads name limit (Fails fault) rest) before now stop
  at_bytes {rest = rest} is = record {
    so = elim is.so [
      | inl here ↦ inl here
      | inr (inl unread) ↦ inr (inl unread)
      | inr (inr (told, read, calm, inl long)) ↦ inr (inr (told, read, calm, inl long))
      | inr (inr (told, read, calm, inr (bytes, file, (same, is)))) ↦ inr (inr (told, read, calm, inr (bytes, file, ran_out (rest bytes) same is)))
    ];
  }

  pub at_collection : {name : List ℕ} {rest : List (List ℕ) → Plan Stop} → IsStopped Shelf Memory (reads_collection name (λ texts. no_more)) before now stop
      → IsStopped Shelf Memory (reads_collection name rest) before now stop
  at_collection {rest = rest} is = record {
    so = elim is.so [
      | inl here ↦ inl here
      | inr (inl unread) ↦ inr (inl unread)
      | inr (inr (told, read, calm, inl long)) ↦ inr (inr (told, read, calm, inl long))
      | inr (inr (told, read, calm, inr (bytes, file, inl json))) ↦ inr (inr (told, read, calm, inr (bytes, file, inl json)))
      | inr (inr (told, read, calm, inr (bytes, file, inr (texts, json, inl limits)))) ↦
          inr (inr (told, read, calm, inr (bytes, file, inr (texts, json, inl limits))))
      | inr (inr (told, read, calm, inr (bytes, file, inr (texts, json, inr (within, (same, is)))))) ↦
          inr (inr (told, read, calm, inr (bytes, file, inr (texts, json, inr (within, ran_out (rest texts) same is)))))
    ];
  }

  at_value : {A : Type 0} (is : List ℕ → A → Type 0) (bad : List ℕ → Stop → Type 0) {name : List ℕ} {limit : ℕ} {fault : Stop} (rest : A → Plan Stop)
      → Stops Shelf Memory (Reads name limit (Fails fault) (λ bytes. Gets A (is bytes) (bad bytes) (λ value. no_more))) before now stop
      → Stops Shelf Memory (Reads name limit (Fails fault) (λ bytes. Gets A (is bytes) (bad bytes) rest)) before now stop
  at_value is bad rest stopped = elim stopped [
    | inl here ↦ inl here
    | inr (inl unread) ↦ inr (inl unread)
    | inr (inr (told, read, calm, inl long)) ↦ inr (inr (told, read, calm, inl long))
    | inr (inr (told, read, calm, inr (bytes, file, inl none))) ↦ inr (inr (told, read, calm, inr (bytes, file, inl none)))
    | inr (inr (told, read, calm, inr (bytes, file, inr (value, spelled, (same, memory))))) ↦
        inr (inr (told, read, calm, inr (bytes, file, inr (value, spelled, ran_out (rest value) same memory))))
  ]

  pub at_index : {H : List ℕ → List ℕ} {name : List ℕ} {rest : Archive → Plan Stop} → IsStopped Shelf Memory (reads_index H name (λ archive. no_more)) before now stop
      → IsStopped Shelf Memory (reads_index H name rest) before now stop
  at_index {H = H} {rest = rest} is = record { so = at_value (IsSpelling H) (λ bytes. StopsBy (IsLoadFault H bytes) stop_of_load) rest is.so }

  pub at_roots : {name : List ℕ} {rest : List (List ℕ) → Plan Stop} → IsStopped Shelf Memory (reads_roots name (λ roots. no_more)) before now stop
      → IsStopped Shelf Memory (reads_roots name rest) before now stop
  at_roots {rest = rest} is = record { so = at_value (IsListOf SpellsRoot 4096) (IsListStop SpellsRoot 4096) rest is.so }

-- ---- a step after some others stopped

-- a stop that is passed on keeps its cause
pub passed_on : {X : Type 0} (P : Stop → Type 0) (result : Result X Stop) (told stop : Stop) → result ≡ Err told → told ≡ stop → P stop → IfErr result P
passed_on {X} P result told stop is same cause = subst (λ (r : Result X Stop). IfErr r P) (sym is) (subst P (sym same) cause)

-- the exit of a `?` keeps its cause
pub passed : {X : Type 0} (P : Stop → Type 0) {stop : Stop} (result : Result X Stop) → IsErrAnd result (λ (told : Stop). told ≡ stop) → P stop → IfErr result P
passed P {stop = stop} result is cause = let told = err_from_is_err_and result is in passed_on P result told.0 stop told.1 told.2 cause

module _ {plan : Plan Stop} {before mid : ShelfTold} {stop : Stop} where
  -- memory ran out, whatever comes next
  pub memory_stops : {rest : Plan Stop} → Leads Shelf Memory plan before rest mid → stop ≡ Memory → IsStopped Shelf Memory plan before mid stop
  memory_stops {rest = rest} leads is = leads.stops mid stop (record { so = ran_out rest refl is })

  -- there is no such value, or memory ran out
  pub get_stops : {A : Type 0} {is : A → Type 0} {fault : Stop → Type 0} {rest : A → Plan Stop}
      → Leads Shelf Memory plan before (Gets A is fault rest) mid → (stop ≡ Memory) ⊎ fault stop → IsStopped Shelf Memory plan before mid stop
  get_stops leads (inl memory) = memory_stops leads memory
  get_stops {rest = rest} leads (inr fault) = leads.stops mid stop (at_get {rest = rest} fault)

  -- the step does not hold, or memory ran out
  pub try_stops : {holds : Type 0} {fault : Stop → Type 0} {rest : Plan Stop}
      → Leads Shelf Memory plan before (Tries holds fault rest) mid → (stop ≡ Memory) ⊎ fault stop → IsStopped Shelf Memory plan before mid stop
  try_stops leads (inl memory) = memory_stops leads memory
  try_stops leads (inr fault) = leads.stops mid stop (at_try fault)

-- bytes that were refused, or memory ran out
pub check_stops : {plan : Plan Stop} {before mid : ShelfTold} {V : Type 0} {accepted : V → Type 0} {rejects : Stop → Type 0} {T : Type 0} {rest : V → Plan Stop}
    → Leads Shelf Memory plan before (Gets V accepted rejects rest) mid → (result : Result T Stop) → IfErr result (λ stop. (stop ≡ Memory) ⊎ rejects stop)
    → IfErr result (IsStopped Shelf Memory plan before mid)
check_stops leads (Ok text) stops = tt
check_stops leads (Err stop) stops = get_stops leads stops

module _ {plan : Plan Stop} {before mid : ShelfTold} where
  -- the first fault of some bytes or texts
  pub get_faults : {A E : Type 0} {is : A → Type 0} {first : E → Type 0} {stop_of : E → Stop} {rest : A → Plan Stop}
      → Leads Shelf Memory plan before (Gets A is (StopsBy first stop_of) rest) mid → (fault : E) → first fault
      → IsStopped Shelf Memory plan before mid (stop_of fault)
  get_faults {first = first} {stop_of = stop_of} leads fault is = get_stops leads (stops_by first stop_of fault (stop_of fault) is refl)

  pub try_faults : {E : Type 0} {holds : Type 0} {first : E → Type 0} {stop_of : E → Stop} {rest : Plan Stop}
      → Leads Shelf Memory plan before (Tries holds (StopsBy first stop_of) rest) mid → (fault : E) → first fault
      → IsStopped Shelf Memory plan before mid (stop_of fault)
  try_faults {first = first} {stop_of = stop_of} leads fault is = try_stops leads (stops_by first stop_of fault (stop_of fault) is refl)

  -- the number of rows is out of range
  pub rows_stops : {r : ℕ} {text : List ℕ} {rest : List (List ℕ × ℕ) → Plan Stop}
      → Leads Shelf Memory plan before (asks_ranking r text rest) mid → (out : ℕ) → (out ≡ r) × ((r ≡ 0) ⊎ (1000 < r))
      → IsStopped Shelf Memory plan before mid (Input (line_of_rows out))
  rows_stops {r} leads out (same, range) =
      try_stops leads (inr ((λ (rows : IsRowCount r). omega (arith, rows.some, rows.few, range)), ap (λ (n : ℕ). Input (line_of_rows n)) same))

  -- the text is no query
  pub text_stops : {text : List ℕ} {rest : List (List ℕ × ℕ) → Plan Stop}
      → Leads Shelf Memory plan before (asks_query text rest) mid → (fault : QueryFault) → IsFirstFault text fault
      → IsStopped Shelf Memory plan before mid (stop_of_query fault)
  text_stops leads fault is = get_faults leads fault is

  -- after the rows
  pub query_stops : {r : ℕ} {text : List ℕ} {rest : List (List ℕ × ℕ) → Plan Stop}
      → Leads Shelf Memory plan before (asks_ranking r text rest) mid → IsRowCount r → (fault : QueryFault) → IsFirstFault text fault
      → IsStopped Shelf Memory plan before mid (stop_of_query fault)
  query_stops leads rows fault is = text_stops (leads_try leads rows) fault is
