-- What arrives over a link is cut into frames in one way.
use Rattle.std.proofs.Common.{◌≡◌, ◌≤◌, ◌<◌, ◌+◌, ◌-◌, ◌^◌, ◌∙◌, ◌++◌, ◌∷◌, ◌⊎◌, inl, inr, ℕ, List, [], length, take, drop, map, refl, sym, subst, ap, arith, append_assoc, append-nil, length-append, Option, Some, None, IsSome, zero-add}
use Rattle.std.specs.Int.{to_be_bytes, w32}
use Rattle.std.specs.List.{All}
use Rattle.std.proofs.lemmas.List.{length-map}
use Rattle.std.proofs.lemmas.List.Elements.{All-head, All-tail}
use Rattle.std.proofs.Math.Seq.{take-append_seam, drop-append_seam}
use Rattle.byteorder.specs.Endian.{big_number}
use Rattle.byteorder.specs.Numbers.{big_number-reads_back}
use Rattle.ats_base.specs.Links.{LinkTold, Traffic, IsAtEnd}
use Rattle.ats_wire.specs.Requests.{Question, framed}
use Rattle.ats_wire.specs.Connections.{IsFrameLength, IsUnfinished, IsAnswered, IsServed, Ends, frames, replies, IsClean}
use Rattle.ats_wire.specs.declared.reply.Reply.{Reply}
use Rattle.ats_wire.specs.declared.serving.Served.{Served}
use Rattle.ats_wire.specs.declared.serving.ConnectionEnd.{ConnectionEnd}
use Rattle.ats_wire.specs.declared.serving.ConnectionEnd.TheVariants.{Ended, CutFrame, BadFrame, RequestLimit, ReadFault, WriteFault}

-- lists with fronts of one length that are one list have one front and one back
pub split_same : (a b c d : List ℕ) → length a ≡ length b → a ++ c ≡ b ++ d → (a ≡ b) × (c ≡ d)
split_same a b c d long is = (
  sym (take-append_seam a c) ∙ ap (λ (x : List ℕ). take (length a) x) is ∙ ap (λ (k : ℕ). take k (b ++ d)) long ∙ take-append_seam b d,
  sym (drop-append_seam a c) ∙ ap (λ (x : List ℕ). drop (length a) x) is ∙ ap (λ (k : ℕ). drop k (b ++ d)) long ∙ drop-append_seam b d,
)

-- equal lists that begin with a length have one length, and the same bytes after it
pub head_same : (m n : ℕ) (xs ys : List ℕ) → m < 2 ^ 32 → n < 2 ^ 32 → to_be_bytes w32 m ++ xs ≡ to_be_bytes w32 n ++ ys → (m ≡ n) × (xs ≡ ys)
head_same m n xs ys small_m small_n is = (
  sym (big_number-reads_back 4 m xs small_m) ∙ ap (λ (x : List ℕ). big_number 4 x) is ∙ big_number-reads_back 4 n ys small_n,
  ap (λ (x : List ℕ). drop 4 x) is,
)

-- what is left of the stream determines the end, if `left` requests may still come
abbrev Stops : (left : ℕ) → (tail rest : List ℕ) → ConnectionEnd → Type 0
Stops left tail rest Ended = (0 < left) × (tail ≡ []) × (rest ≡ [])
Stops left tail rest (CutFrame came) = (0 < left) × (came ≡ length tail) × (0 < came) × IsUnfinished tail × (rest ≡ [])
Stops left tail rest (BadFrame n) = (0 < left) × (tail ≡ to_be_bytes w32 n) × ((n < 6) ⊎ (4096 < n)) × (n < 2 ^ 32)
Stops left tail rest RequestLimit = (left ≡ 0) × (tail ≡ [])
Stops left tail rest ReadFault = ⊥
Stops left tail rest WriteFault = ⊥

-- the stream is these bodies in frames, and then it stops so
abbrev Cuts : (left : ℕ) → List (List ℕ) → (stream : List ℕ) → ConnectionEnd → Type 0
Cuts left [] stream end = (tail : List ℕ) × (rest : List ℕ) × (stream ≡ tail ++ rest) × Stops left tail rest end
Cuts left (body ∷ more) stream end =
    (0 < left) × IsFrameLength (length body) × ((rest : List ℕ) × (stream ≡ to_be_bytes w32 (length body) ++ (body ++ rest)) × Cuts (left - 1) more rest end)

-- an unfinished frame is no frame with something after it, and no bad length
not_unfinished : (tail : List ℕ) (n : ℕ) (rest : List ℕ) → n < 2 ^ 32 → IsUnfinished tail → tail ≡ to_be_bytes w32 n ++ rest
    → IsFrameLength n × (length rest < n)
not_unfinished tail n rest small (inl short) is = absurd (omega (arith, short, ap length is))
not_unfinished tail n rest small (inr (m, body, good, short, begun)) is =
    let same = head_same m n body rest (omega (arith, good.1)) small (sym begun ∙ is) in
    ((omega (arith, good.0, same.0), omega (arith, good.1, same.0)), omega (arith, short, same.0, ap length same.1))

-- if the stream stops in one way it goes on with no frame
no_frame : (left : ℕ) (tail rest : List ℕ) (end : ConnectionEnd) (body more : List ℕ) → 0 < left → Stops left tail rest end → IsFrameLength (length body)
    → tail ++ rest ≡ to_be_bytes w32 (length body) ++ (body ++ more) → ⊥
no_frame left tail rest Ended body more some (_, none, at_end) good is = omega (arith, ap length is, ap length none, ap length at_end, length-append tail rest)
no_frame left tail rest (CutFrame came) body more some (_, long, came_some, unfinished, at_end) good is =
    let whole : tail ≡ to_be_bytes w32 (length body) ++ (body ++ more) = sym (append-nil tail) ∙ ap (λ (x : List ℕ). tail ++ x) (sym at_end) ∙ is in
    let cut = not_unfinished tail (length body) (body ++ more) (omega (arith, good.1)) unfinished whole in
    omega (arith, cut.1, length-append body more)
no_frame left tail rest (BadFrame n) body more some (_, bad_is, bad, small) good is =
    let same = head_same n (length body) rest (body ++ more) small (omega (arith, good.1)) (ap (λ (x : List ℕ). x ++ rest) (sym bad_is) ∙ is) in
    elim bad [ inl few ↦ omega (arith, few, same.0, good.0) | inr many ↦ omega (arith, many, same.0, good.1) ]
no_frame left tail rest RequestLimit body more some (none, _) good is = omega (arith, none)
no_frame left tail rest ReadFault body more some stops good is = absurd stops
no_frame left tail rest WriteFault body more some stops good is = absurd stops

-- a cut frame is no bad length
cut_not_bad : (tail rest : List ℕ) (n : ℕ) → IsUnfinished tail → tail ≡ to_be_bytes w32 n ++ rest → (n < 6) ⊎ (4096 < n) → n < 2 ^ 32 → ⊥
cut_not_bad tail rest n unfinished is bad small =
    let good = not_unfinished tail n rest small unfinished is in
    elim bad [ inl few ↦ omega (arith, few, good.0.0) | inr many ↦ omega (arith, many, good.0.1) ]

-- a stream stops in one way
stops_once : (left : ℕ) (tail rest other more : List ℕ) (one two : ConnectionEnd) → tail ++ rest ≡ other ++ more → Stops left tail rest one → Stops left other more two → one ≡ two
stops_once left tail rest other more Ended Ended is first second = refl
stops_once left tail rest other more Ended (CutFrame came) is (_, none, at_end) (_, long, some, _, _) =
    absurd (omega (arith, ap length is, ap length none, ap length at_end, long, some, length-append tail rest, length-append other more))
stops_once left tail rest other more Ended (BadFrame n) is (_, none, at_end) (_, bad_is, _, _) =
    absurd (omega (arith, ap length is, ap length none, ap length at_end, ap length bad_is, length-append tail rest, length-append other more))
stops_once left tail rest other more Ended RequestLimit is first second = absurd (omega (arith, first.0, second.0))
stops_once left tail rest other more (CutFrame came) Ended is (_, long, some, _, _) (_, none, at_end) =
    absurd (omega (arith, ap length is, ap length none, ap length at_end, long, some, length-append tail rest, length-append other more))
stops_once left tail rest other more (CutFrame came) (CutFrame same) is (_, long, _, _, at_end) (_, other_long, _, _, other_end) =
    ap CutFrame (omega (arith, ap length is, ap length at_end, ap length other_end, long, other_long, length-append tail rest, length-append other more))
stops_once left tail rest other more (CutFrame came) (BadFrame n) is (_, _, _, unfinished, at_end) (_, bad_is, bad, small) =
    absurd (cut_not_bad tail more n unfinished
    (sym (append-nil tail) ∙ ap (λ (x : List ℕ). tail ++ x) (sym at_end) ∙ is ∙ ap (λ (x : List ℕ). x ++ more) bad_is) bad small)
stops_once left tail rest other more (CutFrame came) RequestLimit is first second = absurd (omega (arith, first.0, second.0))
stops_once left tail rest other more (BadFrame n) Ended is (_, bad_is, _, _) (_, none, at_end) =
    absurd (omega (arith, ap length is, ap length none, ap length at_end, ap length bad_is, length-append tail rest, length-append other more))
stops_once left tail rest other more (BadFrame n) (CutFrame came) is (_, bad_is, bad, small) (_, _, _, unfinished, at_end) =
    absurd (cut_not_bad other rest n unfinished
    (sym (append-nil other) ∙ ap (λ (x : List ℕ). other ++ x) (sym at_end) ∙ sym is ∙ ap (λ (x : List ℕ). x ++ rest) bad_is) bad small)
stops_once left tail rest other more (BadFrame n) (BadFrame m) is (_, bad_is, _, small) (_, same_is, _, same_small) =
    ap BadFrame (head_same n m rest more small same_small
    (ap (λ (x : List ℕ). x ++ rest) (sym bad_is) ∙ is ∙ ap (λ (x : List ℕ). x ++ more) same_is)).0
stops_once left tail rest other more (BadFrame n) RequestLimit is first second = absurd (omega (arith, first.0, second.0))
stops_once left tail rest other more RequestLimit Ended is first second = absurd (omega (arith, first.0, second.0))
stops_once left tail rest other more RequestLimit (CutFrame came) is first second = absurd (omega (arith, first.0, second.0))
stops_once left tail rest other more RequestLimit (BadFrame n) is first second = absurd (omega (arith, first.0, second.0))
stops_once left tail rest other more RequestLimit RequestLimit is first second = refl
stops_once left tail rest other more ReadFault two is first second = absurd first
stops_once left tail rest other more WriteFault two is first second = absurd first
stops_once left tail rest other more one ReadFault is first second = absurd second
stops_once left tail rest other more one WriteFault is first second = absurd second

-- a stream is cut in one way
cut_once : (left : ℕ) (bodies others : List (List ℕ)) (stream : List ℕ) (one two : ConnectionEnd)
    → Cuts left bodies stream one → Cuts left others stream two → (length bodies ≡ length others) × (one ≡ two)
cut_once left [] [] stream one two (tail, rest, is, stops) (other, more, also, ends) =
    (refl, stops_once left tail rest other more one two (sym is ∙ also) stops ends)
cut_once left [] (body ∷ others) stream one two (tail, rest, is, stops) (some, good, (more, also, _)) =
    absurd (no_frame left tail rest one body more some stops good (sym is ∙ also))
cut_once left (body ∷ bodies) [] stream one two (some, good, (more, also, _)) (tail, rest, is, stops) =
    absurd (no_frame left tail rest two body more some stops good (sym is ∙ also))
cut_once left (body ∷ bodies) (other ∷ others) stream one two (some, good, (rest, is, cuts)) (_, other_good, (more, also, other_cuts)) =
    let same = head_same (length body) (length other) (body ++ rest) (other ++ more) (omega (arith, good.1)) (omega (arith, other_good.1)) (sym is ∙ also) in
    let back = split_same body other rest more same.0 same.1 in
    let later = cut_once (left - 1) bodies others rest one two cuts (subst (λ (x : List ℕ). Cuts (left - 1) others x two) (sym back.1) other_cuts) in
    (omega (arith, later.0), later.1)

-- the end of a connection, by what is still to come at that moment
ends_stop : (gives : Question → Reply → Type 0) (now : LinkTold) (traffic : Traffic) (requests left : ℕ) (tail part : List ℕ) (end : ConnectionEnd)
    → now.traffic ≡ Some traffic → requests + left ≡ 65536 → IsClean end → Ends gives now requests tail part end → Stops left tail traffic.rest end
ends_stop gives now traffic requests left tail part Ended told sum clean (few, _, (none, at_end)) = (omega (arith, sum, few), none, subst IsAtEnd told at_end)
ends_stop gives now traffic requests left tail part (CutFrame came) told sum clean (few, _, (long, some, unfinished, at_end)) =
    (omega (arith, sum, few), long, some, unfinished, subst IsAtEnd told at_end)
ends_stop gives now traffic requests left tail part (BadFrame n) told sum clean (few, _, (bad_is, bad)) = (omega (arith, sum, few), bad_is, bad, clean)
ends_stop gives now traffic requests left tail part RequestLimit told sum clean (all, none, _) = (omega (arith, sum, all), none)
ends_stop gives now traffic requests left tail part ReadFault told sum clean ends = absurd clean
ends_stop gives now traffic requests left tail part WriteFault told sum clean ends = absurd clean

few_requests : (gives : Question → Reply → Type 0) (now : LinkTold) (requests : ℕ) (tail part : List ℕ) (end : ConnectionEnd)
    → Ends gives now requests tail part end → requests ≤ 65536
few_requests gives now requests tail part Ended ends = omega (arith, ends.0)
few_requests gives now requests tail part (CutFrame came) ends = omega (arith, ends.0)
few_requests gives now requests tail part (BadFrame n) ends = omega (arith, ends.0)
few_requests gives now requests tail part RequestLimit ends = omega (arith, ends.0)
few_requests gives now requests tail part ReadFault ends = omega (arith, ends.0)
few_requests gives now requests tail part WriteFault ends = omega (arith, ends.0)

-- whole frames and what follows them
turns_cut : (gives : Question → Reply → Type 0) (turns : List (List ℕ × Reply)) (left : ℕ) (tail rest stream : List ℕ) (end : ConnectionEnd)
    → All (IsAnswered gives) turns → stream ≡ (frames turns ++ tail) ++ rest → Stops left tail rest end
    → Cuts (length turns + left) (map (λ (turn : List ℕ × Reply). turn.0) turns) stream end
turns_cut gives [] left tail rest stream end all is stops =
    (tail, rest, is, subst (λ (k : ℕ). Stops k tail rest end) (sym (zero-add left)) stops)
turns_cut gives (turn ∷ turns) left tail rest stream end all is stops =
    let body : List ℕ = turn.0 in
    let answered = All-head (IsAnswered gives) turn turns all in
    let others = All-tail (IsAnswered gives) turn turns all in
    let following : List ℕ = (frames turns ++ tail) ++ rest in
    let whole : stream ≡ to_be_bytes w32 (length body) ++ (body ++ following) = is
    ∙ ap (λ (x : List ℕ). x ++ rest) (append_assoc (framed body) (frames turns) tail)
    ∙ append_assoc (framed body) (frames turns ++ tail) rest
    ∙ append_assoc (to_be_bytes w32 (length body)) body following in
    let later = turns_cut gives turns left tail rest following end others refl stops in (
      omega arith,
      answered.frame,
      (following, whole, subst (λ (k : ℕ). Cuts k (map (λ (t : List ℕ × Reply). t.0) turns) following end) (omega arith) later),
    )

served_cut : (gives : Question → Reply → Type 0) (before now : LinkTold) (traffic : Traffic) (served : Served)
    → before.traffic ≡ Some traffic → IsServed gives before now served → IsClean served.end
    → (bodies : List (List ℕ)) × (length bodies ≡ served.requests) × Cuts 65536 bodies traffic.rest served.end
served_cut gives before now traffic served told is clean =
    let carried = rw told at is.moved.over.carried in
    let few : served.requests ≤ 65536 = few_requests gives now served.requests is.tail is.part served.end is.ends in
    let left : ℕ = 65536 - served.requests in
    let stops = ends_stop gives now (record traffic { read = traffic.read ++ (frames is.turns ++ is.tail); rest = carried.0; written = traffic.written ++ (replies is.turns ++ is.part) })
    served.requests left is.tail is.part served.end carried.2 (omega (arith, few)) clean is.ends in
    let cuts = turns_cut gives is.turns left is.tail carried.0 traffic.rest served.end is.answered carried.1 stops in (
      map (λ (turn : List ℕ × Reply). turn.0) is.turns,
      length-map is.turns (λ (turn : List ℕ × Reply). turn.0) ∙ sym is.count,
      subst (λ (k : ℕ). Cuts k (map (λ (turn : List ℕ × Reply). turn.0) is.turns) traffic.rest served.end) (omega (arith, is.count, few)) cuts,
    )

told_once : (gives : Question → Reply → Type 0) (before now later : LinkTold) (one other : Served) (traffic : Option Traffic)
    → before.traffic ≡ traffic → IsSome traffic → IsServed gives before now one → IsServed gives before later other → IsClean one.end → IsClean other.end
    → (one.requests ≡ other.requests) × (one.end ≡ other.end)
told_once gives before now later one other None told tells first second clean also = absurd (cc)
told_once gives before now later one other (Some traffic) told tells first second clean also =
    let cuts = served_cut gives before now traffic one told first clean in
    let others = served_cut gives before later traffic other told second also in
    let same = cut_once 65536 cuts.0 others.0 traffic.rest one.end other.end cuts.2 others.2 in
    (sym cuts.1 ∙ same.0 ∙ others.1, same.1)

-- served connections over the same stream end in the same way
pub end_once : (gives : Question → Reply → Type 0) (before now later : LinkTold) (one other : Served)
    → IsServed gives before now one → IsServed gives before later other → IsSome before.traffic → IsClean one.end → IsClean other.end
    → (one.requests ≡ other.requests) × (one.end ≡ other.end)
end_once gives before now later one other first second tells clean also =
    told_once gives before now later one other before.traffic refl tells first second clean also
