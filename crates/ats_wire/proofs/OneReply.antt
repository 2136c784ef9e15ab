-- What arrives over a link is one reply.
use Rattle.std.proofs.Common.{◌≡◌, ◌≤◌, ◌<◌, ◌+◌, ◌^◌, ◌∙◌, ◌++◌, ◌∷◌, ◌⊎◌, inl, inr, ℕ, suc, List, [], length, get_or, refl, sym, subst, ap, arith, append_assoc, append-nil, length-append, Option, Some, None, IsSome, Result, Ok, Err}
use Rattle.std.specs.Int.{to_be_bytes, w32}
use Rattle.ats_base.specs.Links.{LinkTold, Traffic, IsAtEnd}
use Rattle.ats_wire.specs.Requests.{Question}
use Rattle.ats_wire.specs.Asking.{IsReplyLength, IsKind, BeginsWithKind, Says, IsAsked, IsHeard, Exchanges, request_frame}
use Rattle.ats_wire.specs.declared.asking.AskFault.{AskFault}
use Rattle.ats_wire.specs.declared.asking.AskFault.TheVariants.{ShortReply, LongReply, BadReply, PeerRefused, ReadFault, WriteFault, OutOfMemory}
use Rattle.ats_wire.proofs.OneWay.{head_same, split_same}

-- the result for a reply of this length, with these bytes after it
abbrev Hears : (n : ℕ) → (body : List ℕ) → Result (List ℕ) AskFault → Type 0
Hears n body (Ok bytes) = (n ≡ suc (length bytes)) × (n ≤ 2 ^ 26 + 1) × ((rest : List ℕ) × (body ≡ (0 ∷ bytes) ++ rest))
Hears n body (Err (ShortReply got wanted)) = IsReplyLength n × (length body < n) × BeginsWithKind n body × (wanted ≡ n + 4) × (got ≡ length body + 4)
Hears n body (Err (LongReply m)) = (m ≡ n) × (2 ^ 26 + 1 < n)
Hears n body (Err (BadReply m kind)) = (m ≡ n) × (((n ≡ 0) × (kind ≡ 0)) ⊎ (IsReplyLength n × (IsKind n kind → ⊥) × ((rest : List ℕ) × (body ≡ kind ∷ rest))))
Hears n body (Err (PeerRefused code)) = (n ≡ 2) × ((rest : List ℕ) × (body ≡ 1 ∷ code ∷ rest))
Hears n body (Err ReadFault) = ⊥
Hears n body (Err WriteFault) = ⊥
Hears n body (Err OutOfMemory) = ⊥

first_is : (a b : ℕ) (xs ys : List ℕ) → a ∷ xs ≡ b ∷ ys → a ≡ b
first_is a b xs ys is = cc

begins_so : (n kind : ℕ) (body rest : List ℕ) → body ≡ kind ∷ rest → BeginsWithKind n body → IsKind n kind
begins_so n kind body rest is begins = subst (λ (x : List ℕ). BeginsWithKind n x) is begins

same_bytes : (bytes others rest more : List ℕ) → suc (length bytes) ≡ suc (length others) → (0 ∷ bytes) ++ rest ≡ (0 ∷ others) ++ more → bytes ≡ others
same_bytes bytes others rest more long is =
    let front = (split_same (0 ∷ bytes) (0 ∷ others) rest more long is).0 in cc

-- kind and length of a whole reply of a proof or a code are good, and it is no short one
bad_not : (n kind good : ℕ) (body rest more : List ℕ) → IsKind n good → (IsKind n kind → ⊥) → body ≡ kind ∷ rest → body ≡ good ∷ more → ⊥
bad_not n kind good body rest more is not one other = not (subst (λ (k : ℕ). IsKind n k) (first_is good kind more rest (sym other ∙ one)) is)

hears_once : (n : ℕ) (body : List ℕ) (one other : Result (List ℕ) AskFault) → Hears n body one → Hears n body other → one ≡ other
hears_once n body (Ok bytes) (Ok others) (long, _, (rest, is)) (also, _, (more, same)) =
    ap Ok (same_bytes bytes others rest more (sym long ∙ also) (sym is ∙ same))
hears_once n body (Ok bytes) (Err (ShortReply got wanted)) (long, _, (rest, is)) (_, short, _, _, _) =
    absurd (omega (arith, long, short, ap length is, length-append (0 ∷ bytes) rest))
hears_once n body (Ok bytes) (Err (LongReply m)) (_, few, _) (_, many) = absurd (omega (arith, few, many))
hears_once n body (Ok bytes) (Err (BadReply m kind)) (long, _, _) (_, inl (none, _)) = absurd (omega (arith, long, none))
hears_once n body (Ok bytes) (Err (BadReply m kind)) (long, _, (rest, is)) (_, inr (_, not, (more, same))) =
    absurd (bad_not n kind 0 body more (bytes ++ rest) (inl refl) not same is)
hears_once n body (Ok bytes) (Err (PeerRefused code)) (_, _, (rest, is)) (_, (more, same)) =
    absurd (omega (arith, first_is 0 1 (bytes ++ rest) (code ∷ more) (sym is ∙ same)))
hears_once n body (Err (ShortReply got wanted)) (Ok bytes) (_, short, _, _, _) (long, _, (rest, is)) =
    absurd (omega (arith, long, short, ap length is, length-append (0 ∷ bytes) rest))
hears_once n body (Err (ShortReply got wanted)) (Err (ShortReply some all)) (_, _, _, wants, gets) (_, _, _, also, same) =
    let got_is : got ≡ some = gets ∙ sym same in
    let wanted_is : wanted ≡ all = wants ∙ sym also in
    ap (λ (g : ℕ). Err (ShortReply g wanted)) got_is ∙ ap (λ (w : ℕ). Err (ShortReply some w)) wanted_is
hears_once n body (Err (ShortReply got wanted)) (Err (LongReply m)) (good, _, _, _, _) (_, many) = absurd (omega (arith, good.1, many))
hears_once n body (Err (ShortReply got wanted)) (Err (BadReply m kind)) (good, _, _, _, _) (_, inl (none, _)) = absurd (omega (arith, good.0, none))
hears_once n body (Err (ShortReply got wanted)) (Err (BadReply m kind)) (_, _, begins, _, _) (_, inr (_, not, (rest, is))) =
    absurd (not (begins_so n kind body rest is begins))
hears_once n body (Err (ShortReply got wanted)) (Err (PeerRefused code)) (_, short, _, _, _) (two, (rest, is)) = absurd (omega (arith, short, two, ap length is))
hears_once n body (Err (LongReply m)) (Ok bytes) (_, many) (_, few, _) = absurd (omega (arith, few, many))
hears_once n body (Err (LongReply m)) (Err (ShortReply got wanted)) (_, many) (good, _, _, _, _) = absurd (omega (arith, good.1, many))
hears_once n body (Err (LongReply m)) (Err (LongReply k)) (is, _) (same, _) = ap (λ (x : ℕ). Err (LongReply x)) (is ∙ sym same)
hears_once n body (Err (LongReply m)) (Err (BadReply k kind)) (_, many) (_, inl (none, _)) = absurd (omega (arith, many, none))
hears_once n body (Err (LongReply m)) (Err (BadReply k kind)) (_, many) (_, inr (good, _, _)) = absurd (omega (arith, many, good.1))
hears_once n body (Err (LongReply m)) (Err (PeerRefused code)) (_, many) (two, _) = absurd (omega (arith, many, two))
hears_once n body (Err (BadReply m kind)) (Ok bytes) (_, inl (none, _)) (long, _, _) = absurd (omega (arith, long, none))
hears_once n body (Err (BadReply m kind)) (Ok bytes) (_, inr (_, not, (more, same))) (long, _, (rest, is)) =
    absurd (bad_not n kind 0 body more (bytes ++ rest) (inl refl) not same is)
hears_once n body (Err (BadReply m kind)) (Err (ShortReply got wanted)) (_, inl (none, _)) (good, _, _, _, _) = absurd (omega (arith, good.0, none))
hears_once n body (Err (BadReply m kind)) (Err (ShortReply got wanted)) (_, inr (_, not, (rest, is))) (_, _, begins, _, _) =
    absurd (not (begins_so n kind body rest is begins))
hears_once n body (Err (BadReply m kind)) (Err (LongReply k)) (_, inl (none, _)) (_, many) = absurd (omega (arith, many, none))
hears_once n body (Err (BadReply m kind)) (Err (LongReply k)) (_, inr (good, _, _)) (_, many) = absurd (omega (arith, many, good.1))
hears_once n body (Err (BadReply m kind)) (Err (BadReply k other)) (is, inl (_, zero_kind)) (same, inl (_, also)) =
    ap (λ (x : ℕ). Err (BadReply x kind)) (is ∙ sym same) ∙ ap (λ (x : ℕ). Err (BadReply k x)) (zero_kind ∙ sym also)
hears_once n body (Err (BadReply m kind)) (Err (BadReply k other)) (_, inl (none, _)) (_, inr (good, _, _)) = absurd (omega (arith, none, good.0))
hears_once n body (Err (BadReply m kind)) (Err (BadReply k other)) (_, inr (good, _, _)) (_, inl (none, _)) = absurd (omega (arith, none, good.0))
hears_once n body (Err (BadReply m kind)) (Err (BadReply k other)) (is, inr (_, _, (rest, first))) (same, inr (_, _, (more, second))) =
    ap (λ (x : ℕ). Err (BadReply x kind)) (is ∙ sym same) ∙ ap (λ (x : ℕ). Err (BadReply k x)) (first_is kind other rest more (sym first ∙ second))
hears_once n body (Err (BadReply m kind)) (Err (PeerRefused code)) (_, inl (none, _)) (two, _) = absurd (omega (arith, none, two))
hears_once n body (Err (BadReply m kind)) (Err (PeerRefused code)) (_, inr (_, not, (more, same))) (two, (rest, is)) =
    absurd (bad_not n kind 1 body more (code ∷ rest) (inr (refl, two)) not same is)
hears_once n body (Err (PeerRefused code)) (Ok bytes) (_, (more, same)) (_, _, (rest, is)) =
    absurd (omega (arith, first_is 0 1 (bytes ++ rest) (code ∷ more) (sym is ∙ same)))
hears_once n body (Err (PeerRefused code)) (Err (ShortReply got wanted)) (two, (rest, is)) (_, short, _, _, _) = absurd (omega (arith, short, two, ap length is))
hears_once n body (Err (PeerRefused code)) (Err (LongReply m)) (two, _) (_, many) = absurd (omega (arith, many, two))
hears_once n body (Err (PeerRefused code)) (Err (BadReply m kind)) (two, _) (_, inl (none, _)) = absurd (omega (arith, none, two))
hears_once n body (Err (PeerRefused code)) (Err (BadReply m kind)) (two, (rest, is)) (_, inr (_, not, (more, same))) =
    absurd (bad_not n kind 1 body more (code ∷ rest) (inr (refl, two)) not same is)
hears_once n body (Err (PeerRefused code)) (Err (PeerRefused other)) (_, (rest, is)) (_, (more, same)) =
    ap (λ (c : ℕ). Err (PeerRefused c)) (ap (λ (xs : List ℕ). get_or xs 1 0) (sym is ∙ same))
hears_once n body (Err ReadFault) other first second = absurd first
hears_once n body (Err WriteFault) other first second = absurd first
hears_once n body (Err OutOfMemory) other first second = absurd first
hears_once n body one (Err ReadFault) first second = absurd second
hears_once n body one (Err WriteFault) first second = absurd second
hears_once n body one (Err OutOfMemory) first second = absurd second

-- the result for a stream: fewer than the bytes of a length, or a length and what follows it
abbrev Heard : (stream : List ℕ) → Result (List ℕ) AskFault → Type 0
Heard stream result =
    ((length stream < 4) × (result ≡ Err (ShortReply (length stream) 4)))
    ⊎ ((n : ℕ) × (body : List ℕ) × (n < 2 ^ 32) × (stream ≡ to_be_bytes w32 n ++ body) × Hears n body result)

heard_once : (stream : List ℕ) (one two : Result (List ℕ) AskFault) → Heard stream one → Heard stream two → one ≡ two
heard_once stream one two (inl (_, first)) (inl (_, second)) = first ∙ sym second
heard_once stream one two (inl (short, _)) (inr (n, body, _, is, _)) = absurd (omega (arith, short, ap length is))
heard_once stream one two (inr (n, body, _, is, _)) (inl (short, _)) = absurd (omega (arith, short, ap length is))
heard_once stream one two (inr (n, body, small, is, hears)) (inr (m, more, also_small, also, second)) =
    let same = head_same n m body more small also_small (sym is ∙ also) in
    hears_once n body one two hears
    (subst (λ (k : ℕ). Hears k body two) (sym same.0) (subst (λ (x : List ℕ). Hears m x two) (sym same.1) second))

says_of : (frame : List ℕ) (now : LinkTold) (read written : List ℕ) (result : Result (List ℕ) AskFault)
    → IsHeard result → Exchanges frame now read written result → Says now read result
says_of frame now read written (Ok bytes) heard (_, says) = says
says_of frame now read written (Err (ShortReply got wanted)) heard (_, says) = says
says_of frame now read written (Err (LongReply n)) heard (_, says) = says
says_of frame now read written (Err (BadReply n kind)) heard (_, says) = says
says_of frame now read written (Err (PeerRefused code)) heard (_, says) = says
says_of frame now read written (Err ReadFault) heard exchanges = absurd heard
says_of frame now read written (Err WriteFault) heard exchanges = absurd heard
says_of frame now read written (Err OutOfMemory) heard exchanges = absurd heard

heard_of : (now : LinkTold) (read rest stream : List ℕ) (result : Result (List ℕ) AskFault)
    → stream ≡ read ++ rest → (IsAtEnd now.traffic → rest ≡ []) → IsHeard result → Says now read result → Heard stream result
heard_of now read rest stream (Ok bytes) is end heard (read_is, few) = inr (
  suc (length bytes),
  (0 ∷ bytes) ++ rest,
  omega (arith, few),
  is ∙ ap (λ (x : List ℕ). x ++ rest) read_is ∙ append_assoc (to_be_bytes w32 (suc (length bytes))) (0 ∷ bytes) rest,
  (refl, omega (arith, few), (rest, refl)),
)
heard_of now read rest stream (Err (ShortReply got wanted)) is end heard (got_is, inl (short, wanted_is), at_end) =
    let whole : stream ≡ read = is ∙ ap (λ (x : List ℕ). read ++ x) (end at_end) ∙ append-nil read in
    inl (
      omega (arith, short, ap length whole),
      ap (λ (g : ℕ). Err (ShortReply g wanted)) (got_is ∙ ap length (sym whole)) ∙ ap (λ (w : ℕ). Err (ShortReply (length stream) w)) wanted_is,
    )
heard_of now read rest stream (Err (ShortReply got wanted)) is end heard (got_is, inr (n, body, good, read_is, short, begins, wanted_is), at_end) =
    let whole : stream ≡ read = is ∙ ap (λ (x : List ℕ). read ++ x) (end at_end) ∙ append-nil read in
    inr (n, body, omega (arith, good.1), whole ∙ read_is, (good, short, begins, wanted_is, omega (arith, got_is, ap length read_is)))
heard_of now read rest stream (Err (LongReply n)) is end heard (read_is, many) =
    inr (n, rest, heard, is ∙ ap (λ (x : List ℕ). x ++ rest) read_is, (refl, many))
heard_of now read rest stream (Err (BadReply n kind)) is end heard (inl (none, zero_kind, read_is)) = inr (
  n,
  rest,
  heard,
  is ∙ ap (λ (x : List ℕ). x ++ rest) read_is ∙ ap (λ (k : ℕ). to_be_bytes w32 k ++ rest) (sym none),
  (refl, inl (none, zero_kind)),
)
heard_of now read rest stream (Err (BadReply n kind)) is end heard (inr (good, not, read_is)) = inr (
  n,
  kind ∷ rest,
  heard,
  is ∙ ap (λ (x : List ℕ). x ++ rest) read_is ∙ append_assoc (to_be_bytes w32 n) (kind ∷ []) rest,
  (refl, inr (good, not, (rest, refl))),
)
heard_of now read rest stream (Err (PeerRefused code)) is end heard read_is =
    inr (2, 1 ∷ code ∷ rest, omega arith, is ∙ ap (λ (x : List ℕ). x ++ rest) read_is, (refl, (rest, refl)))
heard_of now read rest stream (Err ReadFault) is end heard says = absurd heard
heard_of now read rest stream (Err WriteFault) is end heard says = absurd heard
heard_of now read rest stream (Err OutOfMemory) is end heard says = absurd heard

told_heard : (question : Question) (before now : LinkTold) (traffic : Traffic) (result : Result (List ℕ) AskFault)
    → before.traffic ≡ Some traffic → IsAsked question before now result → IsHeard result → Heard traffic.rest result
told_heard question before now traffic result told asked heard =
    let carried = rw told at asked.moved.over.carried in
    heard_of now asked.read carried.0 traffic.rest result carried.1 (λ at_end. subst IsAtEnd carried.2 at_end) heard
    (says_of (request_frame question) now asked.read asked.written result heard asked.says)

-- the same stream gives the same result, over whichever links
pub asked_alike : (question other : Question) (before now late later : LinkTold) (traffic more : Traffic) (one two : Result (List ℕ) AskFault)
    → before.traffic ≡ Some traffic → late.traffic ≡ Some more → traffic.rest ≡ more.rest
    → IsAsked question before now one → IsAsked other late later two → IsHeard one → IsHeard two → one ≡ two
asked_alike question other before now late later traffic more one two told also same first second heard too =
    heard_once traffic.rest one two (told_heard question before now traffic one told first heard)
    (subst (λ (stream : List ℕ). Heard stream two) (sym same) (told_heard other late later more two also second too))

told_once : (question other : Question) (before now later : LinkTold) (one two : Result (List ℕ) AskFault) (traffic : Option Traffic)
    → before.traffic ≡ traffic → IsSome traffic → IsAsked question before now one → IsAsked other before later two → IsHeard one → IsHeard two → one ≡ two
told_once question other before now later one two None told tells first second heard also = absurd (cc)
told_once question other before now later one two (Some traffic) told tells first second heard also =
    asked_alike question other before now before later traffic traffic one two told told refl first second heard also

-- one reply gives one result
pub asked_once : (question other : Question) (before now later : LinkTold) (one two : Result (List ℕ) AskFault)
    → IsAsked question before now one → IsAsked other before later two → IsSome before.traffic → IsHeard one → IsHeard two → one ≡ two
asked_once question other before now later one two first second tells heard also =
    told_once question other before now later one two before.traffic refl tells first second heard also
