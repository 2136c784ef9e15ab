-- What goes over a link, one part after another.
use Rattle.std.proofs.Common.{◌≡◌, ◌≤◌, ◌+◌, ◌∙◌, ◌++◌, ℕ, List, [], length, take, drop, Option, Some, None, ◌<◌, option_map, refl, sym, ap, arith, append_assoc, append-nil, take-add}
use Rattle.std.proofs.lemmas.List.{take-append-drop, drop-drop}
use Rattle.std.proofs.Math.Seq.{take-append_seam}
use Rattle.ats_base.specs.Outside.{SinkTold}
use Rattle.ats_base.specs.Links.{Traffic, Exchanged, Carries}
use Rattle.ats_base.specs.Inner.Links.{as_link}

carries_none : (before : Option Traffic) → Carries before before [] []
carries_none None = refl
carries_none (Some t) = (
  t.rest,
  refl,
  ap (λ (x : List ℕ). Some (record t { read = x })) (sym (append-nil t.read))
      ∙ ap (λ (x : List ℕ). Some (record t { read = t.read ++ []; written = x })) (sym (append-nil t.written)),
)

-- nothing went over it
pub exchanged_none : (before : Option Traffic) → Exchanged before before [] []
exchanged_none before = record { carried = carries_none before }

carries_then : (before mid now : Option Traffic) (read written more_read more_written : List ℕ)
    → Carries before mid read written → Carries mid now more_read more_written → Carries before now (read ++ more_read) (written ++ more_written)
carries_then None mid now read written more_read more_written first second = rw first at second
carries_then (Some t) mid now read written more_read more_written (rest, is, then) second =
    let next = rw then at second in (
      next.0,
      is ∙ ap (λ (x : List ℕ). read ++ x) next.1 ∙ sym (append_assoc read more_read next.0),
      next.2 ∙ ap (λ (x : List ℕ). Some (record t { read = x; rest = next.0; written = (t.written ++ written) ++ more_written })) (append_assoc t.read read more_read)
          ∙ ap (λ (x : List ℕ). Some (record t { read = t.read ++ (read ++ more_read); rest = next.0; written = x })) (append_assoc t.written written more_written),
    )

-- one part after another
pub exchanged_then : (before mid now : Option Traffic) (read written more_read more_written : List ℕ)
    → Exchanged before mid read written → Exchanged mid now more_read more_written → Exchanged before now (read ++ more_read) (written ++ more_written)
exchanged_then before mid now read written more_read more_written first second =
    record { carried = carries_then before mid now read written more_read more_written first.carried second.carried }

-- a further piece of what is written was written
pub wrote_more : (before mid now : Option Traffic) (bytes rest : List ℕ) (done n : ℕ)
    → Exchanged before mid [] (take done bytes) → rest ≡ drop done bytes → Exchanged mid now [] (take n rest) → Exchanged before now [] (take (done + n) bytes)
wrote_more before mid now bytes rest done n first same second =
    let both = exchanged_then before mid now [] (take done bytes) [] (take n rest) first second in
    let joined : take done bytes ++ take n rest ≡ take (done + n) bytes = ap (λ (x : List ℕ). take done bytes ++ take n x) same ∙ sym (take-add done n bytes) in
    rw joined at both

-- the next bytes of a link in memory were read
pub read_link : (address : Option (List ℕ)) (incoming written piece back : List ℕ) (place n : ℕ)
    → piece ≡ take n (drop place incoming) → length piece ≡ n
    → Exchanged (Some (record { address = address; read = take place incoming; rest = drop place incoming; written = written }))
    (Some (record { address = address; read = take (place + n) incoming; rest = drop (place + n) incoming; written = written })) (take n (piece ++ back)) []
read_link address incoming written piece back place n is long =
    let whole : take n (piece ++ back) ≡ take n (drop place incoming) =
    ap (λ (k : ℕ). take k (piece ++ back)) (sym long) ∙ take-append_seam piece back ∙ is in
    let split : drop place incoming ≡ take n (drop place incoming) ++ drop (place + n) incoming =
    sym (take-append-drop n (drop place incoming)) ∙ ap (λ (x : List ℕ). take n (drop place incoming) ++ x) (drop-drop n place incoming) in
    rw whole (record {
      carried = (
        drop (place + n) incoming,
        split,
        ap (λ (x : List ℕ). Some (record { address = address; read = x; rest = drop (place + n) incoming; written = written })) (take-add place n incoming)
            ∙ ap (λ (x : List ℕ). Some (record { address = address; read = take place incoming ++ take n (drop place incoming); rest = drop (place + n) incoming; written = x })) (sym (append-nil written)),
      );
    })

wrote_taken : (before now : Option (List ℕ)) (written : List ℕ)
    → Carries (option_map (λ taken. record { address = None; read = []; rest = []; written = taken }) before)
    (option_map (λ taken. record { address = None; read = []; rest = []; written = taken }) now) [] written
    → now ≡ option_map (λ taken. taken ++ written) before
wrote_taken None None written carries = refl
wrote_taken None (Some n) written carries = absurd (cc)
wrote_taken (Some b) None written (rest, is, then) = absurd (cc)
wrote_taken (Some b) (Some n) written (rest, is, then) = ap (option_map (λ (t : Traffic). t.written)) then

-- what a sink took, by what it reports in the form of a link
pub sink_took : (before now : SinkTold) (written : List ℕ)
    → Exchanged (as_link before).traffic (as_link now).traffic [] written → now.taken ≡ option_map (λ taken. taken ++ written) before.taken
sink_took before now written over = wrote_taken before.taken now.taken written over.carried

pub sink_took_part : (before now : SinkTold) (bytes : List ℕ)
    → ((n : ℕ) × (n < length bytes) × Exchanged (as_link before).traffic (as_link now).traffic [] (take n bytes) × (now.calls ≤ before.calls + (n + 1)))
    → (n : ℕ) × (n ≤ length bytes) × (now.taken ≡ option_map (λ taken. taken ++ take n bytes) before.taken)
sink_took_part before now bytes (n, few, over, turns) = (n, omega arith, sink_took before now (take n bytes) over)
