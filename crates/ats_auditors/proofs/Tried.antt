-- The results of the proofs of a trial.
use Rattle.std.proofs.Common.{◌≡◌, ◌+◌, ◌<◌, ◌≤◌, ◌^◌, ℕ, ◌⊎◌, true, Option, None, List, [], ◌∷◌, ◌++◌, length, get_or, sum_by, Some, refl, sym, ap, ap₂, subst, ◌∙◌, arith, inl, inr, zero-add, Result, IfErr, codes, decimal, Vec, Global}
use Rattle.std.specs.Prelude.{IfOk}
use Rattle.std.proofs.lemmas.Bool.{cases_Bool, cases_lt, cond-false, cond-true}
use Rattle.std.proofs.lemmas.List.{length-append, get_or_append_left, get_or_read}
use Rattle.std.proofs.lemmas.List.Sums.{sum_by-append, sum_by-cons, sum_by-le}
use Rattle.std.proofs.lemmas.Result.{IfErr-weaker, IfOk-weaker}
use Rattle.std.proofs.Math.Seq.{get_or-append_seam}
use Rattle.ats_commit.specs.Archive.{Archive}
use Rattle.ats_commit.specs.Root.{root_of}
use Rattle.ats_proof.specs.declared.record.Algorithm.{Algorithm}
use Rattle.ats_proof.specs.declared.record.Algorithm.TheVariants.{Tra, Tnra}
use Rattle.ats_proof.specs.Ranges.{IsInRange}
use Rattle.ats_proof.specs.Value.{Prefix, Proof, IsProof, IsSpelled, kind_of_slot}
use Rattle.ats_proof.specs.declared.record.Slot.{Slot}
use Rattle.ats_proof.proofs.Public.{one_value}
use Rattle.ats_honest.specs.Honest.{IsHonest, IsProved, IsTooLong, length_of}
use Rattle.ats_client.specs.Strings.{proof_collision}
use Rattle.ats_refusal.specs.declared.proof.Rejection.TheVariants.{Shape, Check}
use Rattle.ats_client.proofs.Public.{accepted_not_refused}
use Rattle.ats_audit.specs.Verdicts.{IsVerdict}
use Rattle.ats_audit.specs.declared.auditing.Verdict.{Verdict}
use Rattle.ats_audit.specs.declared.auditing.Verdict.TheVariants.{BadShape, Refused, Right, Collision}
use Rattle.ats_accepts.proofs.Public.{proved_accepted, proved_unclashing}
use Rattle.ats_terms.specs.Query.{IsQueryOf}
use Rattle.ats_terms.specs.Faults.{IsFirstFault}
use Rattle.ats_terms.specs.declared.query.QueryFault.{QueryFault}
use Rattle.ats_terms.specs.declared.query.QueryFault.TheVariants as query
use Rattle.ats_impact.specs.Trial.{trial_query}
use Rattle.ats_base.specs.Outside.{ShelfTold}
use Rattle.ats_plan.specs.Runs.{IsDone, IsStopped}
use Rattle.ats_plan.proofs.Public.{done_try, done_end, at_memory, at_try}
use Rattle.ats_auditors.specs.Commands.{trial_plan}
use Rattle.ats_console.specs.Stops.{stop_of_query, line_of_long_proof}
use Rattle.ats_console.specs.Print.{line_of_root}
use Rattle.ats_auditors.specs.Trial.{line_of_proofs, lines_of_trial, shown_entries, trial_archive, turn, IsTried, AreQueries, AreTrialProofs, IsTrialProof, IsTrial, IsTrialTooLong, IsTrialAccepted}
use Rattle.ats_auditors.specs.Inner.Trial.{tally_of, counted, AreTried, AreTriedLines, AreTrialQueries, is_right, IsTryStop, IsTriesStop, IsTrialStop}
use Rattle.ats_console.specs.declared.stops.Stop.{Stop}
use Rattle.ats_console.specs.declared.stops.Stop.TheVariants.{Shelf, Input, Memory}
use Rattle.ats_auditors.specs.declared.trials.Tally.{Tally}
use Rattle.ats_auditors.proofs.OneTrial.{tried_short}

-- ---- the entries that are shown

pub entries_begin : (lists : List Prefix) (proof : Proof) → lists ≡ proof.lists → 0 + sum_by (λ (p : Prefix). length p.entries) lists ≡ shown_entries proof
entries_begin lists proof are = zero-add (sum_by (λ (p : Prefix). length p.entries) lists) ∙ ap (λ (all : List Prefix). sum_by (λ (p : Prefix). length p.entries) all) are

pub entries_few : (proof : Proof) → IsInRange proof → length proof.lists < 2 ^ 32 → shown_entries proof ≤ 2 ^ 48
entries_few proof range few =
    omega (arith, sum_by-le (λ (p : Prefix). length p.entries) 65536 proof.lists (λ k d inside. (range.fronts k d inside).few))

kind_few : (slot : Slot) → kind_of_slot slot ≤ 1
kind_few slot = elim (cases_Bool slot.present) [
  | inl stands ↦ let is : kind_of_slot slot ≡ 1 = cond-true slot.present 1 0 stands in omega (arith, is)
  | inr absent ↦ let is : kind_of_slot slot ≡ 0 = cond-false slot.present 1 0 absent in omega (arith, is)
]

-- there are no more lists than slots
pub lists_few : (proof : Proof) → IsSpelled proof → IsInRange proof → length proof.lists ≤ 32
lists_few proof spelled range =
    omega (
      arith,
      spelled.1.prefix_each,
      sum_by-le kind_of_slot 1 proof.slots (λ k d inside. kind_few (get_or proof.slots k d)),
      range.spots.few,
    )

-- ---- one proof

-- a proof that the bytes of an honest one spell is honest, accepted and without collision
pub tried : (H : List ℕ → List ℕ) (archive : Archive) (query : List (List ℕ × ℕ)) (algorithm : Algorithm) (bytes : List ℕ) (proof : Proof)
    → IsProved H archive query 10 algorithm bytes → IsProof bytes proof → length_of proof ≤ 2 ^ 26 → IsTried H archive query algorithm proof
tried H archive query algorithm bytes proof is says short = record {
  honest = subst (IsHonest H archive query 10 algorithm) (one_value bytes is.proof proof is.spells says) is.honest;
  short = short;
  accepted = proved_accepted H archive query 10 algorithm bytes is proof says;
  right = proved_unclashing H archive query 10 algorithm bytes is proof says;
}

none_found : {X : Type 0} (found : Option X) (x : X) → found ≡ None → found ≡ Some x → ⊥
none_found found x none some = let both = sym none ∙ some in cc

-- and an audit of them finds the rows right
pub audited_right : (H : List ℕ → List ℕ) (archive : Archive) (query : List (List ℕ × ℕ)) (algorithm : Algorithm) (bytes : List ℕ) (proof : Proof) (verdict : Verdict)
    → IsProved H archive query 10 algorithm bytes → IsProof bytes proof → IsVerdict H archive query 10 bytes verdict → is_right verdict ≡ true
audited_right H archive query algorithm bytes proof (BadShape fault) is says found =
    absurd (accepted_not_refused H (root_of H archive) query 10 bytes proof (Shape fault)
    (record { says = says; accepts = proved_accepted H archive query 10 algorithm bytes is proof says }) found)
audited_right H archive query algorithm bytes proof (Refused refusal) is says found =
    absurd (accepted_not_refused H (root_of H archive) query 10 bytes proof (Check refusal)
    (record { says = says; accepts = proved_accepted H archive query 10 algorithm bytes is proof says }) found)
audited_right H archive query algorithm bytes proof (Right rows) is says found = refl
audited_right H archive query algorithm bytes proof (Collision place ours theirs) is says found =
    absurd (none_found (proof_collision H archive query found.proof) _ (proved_unclashing H archive query 10 algorithm bytes is found.proof found.accepted.says) found.found)

-- ---- the tally

pub one_more : (proofs : List Proof) (proof : Proof) → counted proof (tally_of proofs) ≡ tally_of (proofs ++ proof ∷ [])
one_more proofs proof =
    let many : length proofs + 1 ≡ length (proofs ++ proof ∷ []) = sym (length-append proofs (proof ∷ [])) in
    let entries : sum_by shown_entries proofs + shown_entries proof ≡ sum_by shown_entries (proofs ++ proof ∷ []) =
    omega (arith, sum_by-append shown_entries proofs (proof ∷ []), sum_by-cons shown_entries proof []) in
    let bytes : sum_by length_of proofs + length_of proof ≡ sum_by length_of (proofs ++ proof ∷ []) =
    omega (arith, sum_by-append length_of proofs (proof ∷ []), sum_by-cons length_of proof []) in
    ap (λ (n : ℕ). let t : Tally = record { accepted = n; entries = sum_by shown_entries proofs + shown_entries proof; bytes = sum_by length_of proofs + length_of proof; right = n } in t) many
    ∙ ap₂ (λ (e b : ℕ). let t : Tally = record { accepted = length (proofs ++ proof ∷ []); entries = e; bytes = b; right = length (proofs ++ proof ∷ []) } in t) entries bytes

-- ---- the proofs of the first queries

-- the first queries, as many as there are proofs, have these
pub record AreFirst (H : List ℕ → List ℕ) (archive : Archive) (queries : List (List (List ℕ × ℕ))) (algorithm : Algorithm) (count : ℕ) (tally : Tally) : Type 0 where
  pub proofs : List Proof
  pub many : length proofs ≡ count
  pub each : (i : ℕ) (d : List (List ℕ × ℕ)) (e : Proof) → i < length proofs → IsTried H archive (get_or queries i d) algorithm (get_or proofs i e)
  pub same : tally ≡ tally_of proofs

pub first_more : (H : List ℕ → List ℕ) (archive : Archive) (queries : List (List (List ℕ × ℕ))) (algorithm : Algorithm) (count : ℕ) (before now : Tally) (proof : Proof)
    → AreFirst H archive queries algorithm count before → ((d : List (List ℕ × ℕ)) → IsTried H archive (get_or queries count d) algorithm proof)
    → now ≡ counted proof before → AreFirst H archive queries algorithm (count + 1) now
first_more H archive queries algorithm count before now proof first own is = record {
  proofs = first.proofs ++ proof ∷ [];
  many = length-append first.proofs (proof ∷ []) ∙ ap (λ (n : ℕ). n + 1) first.many;
  each = λ i d e inside.
      elim (cases_lt i (length first.proofs)) [
        | inl low ↦ subst (IsTried H archive (get_or queries i d) algorithm) (sym (get_or_append_left first.proofs (proof ∷ []) e i low)) (first.each i d e low)
        | inr high ↦
            let at : length first.proofs ≡ i = omega (arith, high, inside, length-append first.proofs (proof ∷ [])) in
            let here : count ≡ i = omega (arith, at, first.many) in
            let there : get_or (first.proofs ++ proof ∷ []) i e ≡ proof = ap (λ (k : ℕ). get_or (first.proofs ++ proof ∷ []) k e) (sym at) ∙ get_or-append_seam first.proofs proof [] e in
            subst (IsTried H archive (get_or queries i d) algorithm) (sym there)
            (subst (λ (k : ℕ). IsTried H archive (get_or queries k d) algorithm proof) here (own d))
      ];
  same = is ∙ ap (counted proof) first.same ∙ one_more first.proofs proof;
}

-- ---- the queries

pub queries_more : (number : ℕ) (queries : List (List (List ℕ × ℕ))) (query : List (List ℕ × ℕ)) → AreTrialQueries number queries
    → IsQueryOf (trial_query number (length queries)) query → AreTrialQueries number (queries ++ query ∷ [])
queries_more number queries query are is i d inside =
    elim (cases_lt i (length queries)) [
      | inl low ↦ subst (IsQueryOf (trial_query number i)) (sym (get_or_append_left queries (query ∷ []) d i low)) (are i d low)
      | inr high ↦
          let at : length queries ≡ i = omega (arith, high, inside, length-append queries (query ∷ [])) in
          let there : get_or (queries ++ query ∷ []) i d ≡ query = ap (λ (k : ℕ). get_or (queries ++ query ∷ []) k d) (sym at) ∙ get_or-append_seam queries query [] d in
          subst (IsQueryOf (trial_query number i)) (sym there) (subst (λ (k : ℕ). IsQueryOf (trial_query number k) query) at is)
    ]

pub are_queries : (number : ℕ) (queries : List (List (List ℕ × ℕ))) (count : ℕ) → length queries ≡ count → AreTrialQueries number queries → AreQueries number count
are_queries number queries count many are i low = (are i [] (omega (arith, low, many))).has

-- ---- why there is no text

-- the first text that is no query
query_refused : (H : List ℕ → List ℕ) (number i : ℕ) (fault : QueryFault) (line : List ℕ) → i < 20 → AreQueries number i → IsFirstFault (trial_query number i) fault
    → stop_of_query fault ≡ Input line → IsTrialStop H number (stop_of_query fault)
query_refused H number i fault line low before first same =
    inr (line, inl (record { i = i; inside = low; before = before; fault = fault; first = first; same = same }), same)

pub query_stops : (H : List ℕ → List ℕ) (number i : ℕ) (fault : QueryFault) → i < 20 → AreQueries number i → IsFirstFault (trial_query number i) fault
    → IsTrialStop H number (stop_of_query fault)
query_stops H number i (query.TooLong bytes) low before first = query_refused H number i (query.TooLong bytes) _ low before first refl
query_stops H number i query.NoTerm low before first = query_refused H number i query.NoTerm _ low before first refl
query_stops H number i (query.TooManyWords count) low before first = query_refused H number i (query.TooManyWords count) _ low before first refl
query_stops H number i (query.TooManyTerms distinct) low before first = query_refused H number i (query.TooManyTerms distinct) _ low before first refl
query_stops H number i query.OutOfMemory low before first = inl refl

module _ (H : List ℕ → List ℕ) (archive : Archive) (queries : List (List (List ℕ × ℕ))) where
  made_at : (algorithm : Algorithm) (k : ℕ) (proofs : List Proof) (d : List (List ℕ × ℕ))
      → ((i : ℕ) (d : List (List ℕ × ℕ)) (e : Proof) → i < length proofs → IsTried H archive (get_or queries i d) algorithm (get_or proofs i e))
      → k < length proofs → (proof : Proof) × IsTried H archive (get_or queries k d) algorithm proof
  made_at algorithm k [] d each low = absurd (omega (arith, low))
  made_at algorithm k (p ∷ proofs) d each low = (get_or (p ∷ proofs) k p, each k d p low)

  -- a proof of each query so far
  made : (algorithm : Algorithm) (count k : ℕ) (tally : Tally) → AreFirst H archive queries algorithm count tally → k < count
      → (d : List (List ℕ × ℕ)) → (proof : Proof) × IsTried H archive (get_or queries k d) algorithm proof
  made algorithm count k tally first low d = made_at algorithm k first.proofs d first.each (omega (arith, low, first.many))

  -- the proofs before the one by TRA are those of the earlier queries
  before_tra : (i : ℕ) (tra tnra : Tally) → AreFirst H archive queries Tra i tra → AreFirst H archive queries Tnra i tnra
      → (k : ℕ) (a : Algorithm) → turn k a < turn i Tra → (d : List (List ℕ × ℕ)) → (proof : Proof) × IsTried H archive (get_or queries k d) a proof
  before_tra i tra tnra first second k Tra less d = made Tra i k tra first (omega (arith, less)) d
  before_tra i tra tnra first second k Tnra less d = made Tnra i k tnra second (omega (arith, less)) d

  -- and before that by TNRA this one's by TRA too
  before_tnra : (i : ℕ) (tra tnra : Tally) → AreFirst H archive queries Tra (i + 1) tra → AreFirst H archive queries Tnra i tnra
      → (k : ℕ) (a : Algorithm) → turn k a < turn i Tnra → (d : List (List ℕ × ℕ)) → (proof : Proof) × IsTried H archive (get_or queries k d) a proof
  before_tnra i tra tnra first second k Tra less d = made Tra (i + 1) k tra first (omega (arith, less)) d
  before_tnra i tra tnra first second k Tnra less d = made Tnra i k tnra second (omega (arith, less)) d

  pub stops_at_tra : (i : ℕ) (tra tnra : Tally) (stop : Stop) → i < length queries → AreFirst H archive queries Tra i tra → AreFirst H archive queries Tnra i tnra
      → ((d : List (List ℕ × ℕ)) → IsTryStop H archive (get_or queries i d) Tra stop) → IsTriesStop H archive queries stop
  stops_at_tra i tra tnra stop inside first second stopped = record {
    i = i;
    algorithm = Tra;
    inside = inside;
    stopped = stopped;
    before = before_tra i tra tnra first second;
  }

  pub stops_at_tnra : (i : ℕ) (tra tnra : Tally) (stop : Stop) → i < length queries → AreFirst H archive queries Tra (i + 1) tra → AreFirst H archive queries Tnra i tnra
      → ((d : List (List ℕ × ℕ)) → IsTryStop H archive (get_or queries i d) Tnra stop) → IsTriesStop H archive queries stop
  stops_at_tnra i tra tnra stop inside first second stopped = record {
    i = i;
    algorithm = Tnra;
    inside = inside;
    stopped = stopped;
    before = before_tnra i tra tnra first second;
  }

-- what holds for the current query holds for the one at its place
pub at_query : (queries : List (List (List ℕ × ℕ))) (i : ℕ) (query : List (List ℕ × ℕ)) (P : List (List ℕ × ℕ) → Type 0)
    → i < length queries → query ≡ get_or queries i query → P query → (d : List (List ℕ × ℕ)) → P (get_or queries i d)
at_query queries i query P inside here holds d = subst P (get_or_read queries i query inside here d) holds

-- ---- a trial that is done was accepted

proof_at : (H : List ℕ → List ℕ) (number : ℕ) (algorithm : Algorithm) (proofs : List Proof) → AreTrialProofs H number algorithm proofs
    → (i : ℕ) → i < length proofs → (proof : Proof) × IsTrialProof H number algorithm i proof
proof_at H number algorithm [] are i inside = absurd (omega (arith, inside))
proof_at H number algorithm (p ∷ proofs) are i inside = (get_or (p ∷ proofs) i p, are i p inside)

module _ (H : List ℕ → List ℕ) (number : ℕ) (text : List ℕ) (tried : IsTrial H number text) where
  tried_at : (algorithm : Algorithm) (i : ℕ) → i < 20 → (proof : Proof) × IsTrialProof H number algorithm i proof
  tried_at Tra i inside = proof_at H number Tra tried.tra tried.tra_are i (omega (arith, inside, tried.tra_each))
  tried_at Tnra i inside = proof_at H number Tnra tried.tnra tried.tnra_are i (omega (arith, inside, tried.tnra_each))

  -- its texts are queries, and no proof is too long
  trial_accepted : IsTrialAccepted H number
  trial_accepted = (
    λ i inside. (tried_at Tra i inside).1.asked.has,
    λ bytes long.
        let found = tried_at long.algorithm long.i long.inside in
        tried_short H number long.algorithm long.i found.0 found.1 long.query bytes long.own long.long,
  )

-- ---- how a trial ends

module _ (H : List ℕ → List ℕ) (number : ℕ) (shelf : ShelfTold) where
  trial_done : (text : List ℕ) → IsTrial H number text → IsDone (trial_plan H (record { number = number })) shelf shelf text
  trial_done text is = done_try (trial_accepted H number text is) (done_end is)

  pub trial_stopped : (stop : Stop) → IsTrialStop H number stop → IsStopped Shelf Memory (trial_plan H (record { number = number })) shelf shelf stop
  trial_stopped stop (inl memory) = subst (IsStopped Shelf Memory (trial_plan H (record { number = number })) shelf shelf) (sym memory) at_memory
  trial_stopped stop (inr refuses) = at_try refuses

-- ---- the trial of a number

module _ (H : List ℕ → List ℕ) (number : ℕ) (queries : List (List (List ℕ × ℕ))) (are : AreTrialQueries number queries) (many : length queries ≡ 20) where
  past : (k i : ℕ) (a algorithm : Algorithm) → turn k a < turn i algorithm → i < length queries → k < length queries
  past k i Tra Tra less inside = omega (arith, less, inside)
  past k i Tra Tnra less inside = omega (arith, less, inside)
  past k i Tnra Tra less inside = omega (arith, less, inside)
  past k i Tnra Tnra less inside = omega (arith, less, inside)

  -- the first proof that is too long
  too_long : (i : ℕ) (algorithm : Algorithm) (bytes : ℕ) → i < length queries → IsTooLong H (trial_archive number) (get_or queries i []) 10 algorithm (2 ^ 26) bytes
      → ((k : ℕ) (a : Algorithm) → turn k a < turn i algorithm → (d : List (List ℕ × ℕ)) → (proof : Proof) × IsTried H (trial_archive number) (get_or queries k d) a proof)
      → IsTrialTooLong H number bytes
  too_long i algorithm bytes inside long before = record {
    i = i;
    algorithm = algorithm;
    inside = omega (arith, inside, many);
    asked = are_queries number queries 20 many are;
    before = λ k a less.
        let found = before k a less [] in
        (found.0, record { query = get_or queries k []; asked = are k [] (past k i a algorithm less inside); tried = found.1 });
    query = get_or queries i [];
    own = are i [] inside;
    long = long;
  }

  trial_stops_at : (stop : Stop) (i : ℕ) (algorithm : Algorithm) → i < length queries → IsTryStop H (trial_archive number) (get_or queries i []) algorithm stop
      → ((k : ℕ) (a : Algorithm) → turn k a < turn i algorithm → (d : List (List ℕ × ℕ)) → (proof : Proof) × IsTried H (trial_archive number) (get_or queries k d) a proof)
      → IsTrialStop H number stop
  trial_stops_at stop i algorithm inside (inl memory) before = inl memory
  trial_stops_at stop i algorithm inside (inr (bytes, long, is)) before =
      inr (line_of_long_proof bytes, inr (bytes, too_long i algorithm bytes inside long before, refl), is)

  trial_stops : (stop : Stop) → IsTriesStop H (trial_archive number) queries stop → IsTrialStop H number stop
  trial_stops stop is = trial_stops_at stop is.i is.algorithm is.inside (is.stopped []) is.before

  -- the tried proofs are the trial's
  trial_proofs : (algorithm : Algorithm) (proofs : List Proof) → AreTried H (trial_archive number) queries algorithm proofs → AreTrialProofs H number algorithm proofs
  trial_proofs algorithm proofs tried i d inside = record {
    query = get_or queries i [];
    asked = are i [] (omega (arith, inside, tried.many));
    tried = tried.each i [] d inside;
  }

  -- what holds for the tried proofs holds for the trial
  is_trial : (text : List ℕ) (tra tnra : List Proof) → AreTried H (trial_archive number) queries Tra tra → AreTried H (trial_archive number) queries Tnra tnra
      → text ≡ lines_of_trial (root_of H (trial_archive number)) tra tnra → IsTrial H number text
  is_trial text tra tnra by_tra by_tnra printed = record {
    tra = tra;
    tnra = tnra;
    tra_each = by_tra.many ∙ many;
    tnra_each = by_tnra.many ∙ many;
    tra_are = trial_proofs Tra tra by_tra;
    tnra_are = trial_proofs Tnra tnra by_tnra;
    printed = printed;
  }

  module _ (shelf : ShelfTold) (index : Archive) (own : index ≡ trial_archive number) (asked : List (List (List ℕ × ℕ))) (same : asked ≡ queries) (result : Result (Vec ℕ Global) Stop) where
    -- the lines of the tried proofs are the trial's
    pub tried_ok : IfOk result (λ text. AreTriedLines H index asked text.items)
        → IfOk result (λ text. IsDone (trial_plan H (record { number = number })) shelf shelf text.items)
    tried_ok = IfOk-weaker result (λ text. AreTriedLines H index asked text.items) (λ text. IsDone (trial_plan H (record { number = number })) shelf shelf text.items) (λ text lines.
        let here : AreTriedLines H (trial_archive number) queries text.items = subst (λ (a : Archive). AreTriedLines H a queries text.items) own
        (subst (λ (qs : List (List (List ℕ × ℕ))). AreTriedLines H index qs text.items) same lines) in
        trial_done H number shelf text.items (is_trial text.items here.tra here.tnra here.by_tra here.by_tnra here.printed))

    ending : (stop : Stop) → (stop ≡ Memory) ⊎ IsTriesStop H index asked stop → IsTrialStop H number stop
    ending stop (inl memory) = inl memory
    ending stop (inr stops) =
        trial_stops stop (subst (λ (a : Archive). IsTriesStop H a queries stop) own (subst (λ (qs : List (List (List ℕ × ℕ))). IsTriesStop H index qs stop) same stops))

    -- if there are none, a proof of the trial is the cause, or memory ran out
    pub tried_stop : IfErr result (λ stop. (stop ≡ Memory) ⊎ IsTriesStop H index asked stop) → IfErr result (IsStopped Shelf Memory (trial_plan H (record { number = number })) shelf shelf)
    tried_stop = IfErr-weaker result (λ stop. (stop ≡ Memory) ⊎ IsTriesStop H index asked stop) (IsStopped Shelf Memory (trial_plan H (record { number = number })) shelf shelf)
        (λ stop ends. trial_stopped H number shelf stop (ending stop ends))

-- ---- the lines

-- the lines joined
abbrev pub joined_lines : List ℕ → List ℕ → List ℕ → ℕ → List ℕ
joined_lines root tra tnra right =
    codes "documents 2000 terms 100000 queries 20\nroot " ++ (root ++ (tra ++ (tnra ++ (codes "audit right " ++ (decimal right ++ codes "\n")))))

pub lines_joined : (root root_line tra_line tnra_line : List ℕ) (right : ℕ) (tra tnra : List Proof) → root_line ≡ line_of_root root
    → tra_line ≡ line_of_proofs (codes "tra") tra → tnra_line ≡ line_of_proofs (codes "tnra") tnra → right ≡ length tra + length tnra
    → joined_lines root_line tra_line tnra_line right ≡ lines_of_trial root tra tnra
lines_joined root root_line tra_line tnra_line right tra tnra is first second all =
    ap (λ (r : List ℕ). joined_lines r tra_line tnra_line right) is
    ∙ ap (λ (l : List ℕ). joined_lines (line_of_root root) l tnra_line right) first
    ∙ ap (λ (l : List ℕ). joined_lines (line_of_root root) (line_of_proofs (codes "tra") tra) l right) second
    ∙ ap (λ (n : ℕ). joined_lines (line_of_root root) (line_of_proofs (codes "tra") tra) (line_of_proofs (codes "tnra") tnra) n) all
