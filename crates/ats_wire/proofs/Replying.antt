-- A reply that was read: its head, and what follows it.
use Rattle.std.proofs.Common.{◌≡◌, ◌≤◌, ◌<◌, ◌+◌, ◌-◌, ◌∙◌, ◌++◌, ◌∷◌, ◌⊎◌, inl, inr, ℕ, suc, Bool, false, List, [], length, get_or, take, refl, sym, subst, ap, arith, append_assoc, append-nil, length-append, Result, Ok, Err}
use Rattle.std.specs.Int.{to_be_bytes, w32}
use Rattle.std.proofs.lemmas.Bool.{cases_lt}
use Rattle.ats_base.specs.Links.{LinkTold}
use Rattle.ats_wire.specs.Requests.{Question, framed}
use Rattle.ats_wire.specs.Moving.{Moves}
use Rattle.ats_wire.specs.Asking.{breaks_link, is_broken, IsReplyLength, IsKind, IsBegun, ReplyFault, Says, Exchanges, IsAsked, request_frame}
use Rattle.ats_wire.specs.Inner.Asking.{RestFault}
use Rattle.ats_wire.specs.declared.asking.AskFault.{AskFault}
use Rattle.ats_wire.specs.declared.asking.AskFault.TheVariants.{ShortReply, LongReply, BadReply, PeerRefused, ReadFault, WriteFault, OutOfMemory}
use Rattle.ats_wire.proofs.Moved.{moves_then}

-- the one byte of a list
pub single : (bytes : List ℕ) → length bytes ≡ 1 → bytes ≡ get_or bytes 0 0 ∷ []
single [] long = absurd (omega arith)
single (b ∷ []) long = refl
single (b ∷ c ∷ rest) long = absurd (omega arith)

-- a length was read, and no kind
pub no_kind : {broken : Bool} (before mid now : LinkTold) (head body : List ℕ) (n came : ℕ)
    → Moves before mid head [] 0 false → Moves mid now (take came body) [] 1 broken → came < length body → length body ≡ 1
    → to_be_bytes w32 n ≡ head → length head ≡ 4 → IsReplyLength n
    → (read : List ℕ) × Moves before now read [] 1 broken × IsBegun read (n + 4) × (4 ≡ length read)
no_kind {broken} before mid now head body n came first second short one is four good =
    let none : came ≡ 0 = omega (arith, short) in
    let rest : Moves mid now [] [] 1 broken = subst (λ (k : ℕ). Moves mid now (take k body) [] 1 broken) none second in (
      head ++ [],
      moves_then before mid now head [] [] [] 1 first rest,
      inr (n, [], good, ap (λ (x : List ℕ). x ++ []) (sym is), omega (arith, good.0), tt, refl),
      omega (arith, length-append head [], four),
    )

-- a length and a kind were read
pub head_came : (before mid now : LinkTold) (head body : List ℕ) (n : ℕ)
    → Moves before mid head [] 0 false → Moves mid now body [] 0 false → length body ≡ 1 → to_be_bytes w32 n ≡ head
    → Moves before now (to_be_bytes w32 n ++ get_or body 0 0 ∷ []) [] 0 false
head_came before mid now head body n first second one is =
    let whole : head ++ body ≡ to_be_bytes w32 n ++ get_or body 0 0 ∷ [] =
    ap (λ (x : List ℕ). x ++ body) (sym is) ∙ ap (λ (x : List ℕ). to_be_bytes w32 n ++ x) (single body one) in
    subst (λ (x : List ℕ). Moves before now x [] 0 false) whole (moves_then before mid now head [] body [] 0 first second)

-- how many bytes a reply has whose head was read
begun : (n kind : ℕ) (came : List ℕ) → IsReplyLength n → IsKind n kind → length came < n - 1
    → IsBegun ((to_be_bytes w32 n ++ kind ∷ []) ++ came) (n + 4)
begun n kind came good is short =
    inr (n, kind ∷ came, good, append_assoc (to_be_bytes w32 n) (kind ∷ []) came, omega (arith, short), is, refl)

begun_or_whole : (n kind : ℕ) (came : List ℕ) → IsReplyLength n → IsKind n kind → length came ≤ n - 1
    → ((wanted : ℕ) × IsBegun ((to_be_bytes w32 n ++ kind ∷ []) ++ came) wanted) ⊎ ((body : List ℕ) × ((to_be_bytes w32 n ++ kind ∷ []) ++ came ≡ framed body))
begun_or_whole n kind came good is few = elim (cases_lt (length came) (n - 1)) [
  | inl short ↦ inl (n + 4, begun n kind came good is short)
  | inr long ↦ let size : n ≡ suc (length came) = omega (arith, few, long, good.0) in
      inr (kind ∷ came, append_assoc (to_be_bytes w32 n) (kind ∷ []) came ∙ ap (λ (k : ℕ). to_be_bytes w32 k ++ kind ∷ came) size)
]

-- a fault after a head is that fault of the reply
rest_fault : (now : LinkTold) (n kind : ℕ) (came : List ℕ) (fault : AskFault)
    → IsReplyLength n → IsKind n kind → RestFault now (n - 1) came fault
    → ReplyFault now ((to_be_bytes w32 n ++ kind ∷ []) ++ came) fault
rest_fault now n kind came (ShortReply got wanted) good is (short, got_is, wanted_is, end) =
    let all : n + 4 ≡ wanted = omega (arith, wanted_is, good.0) in (
      omega (arith, got_is),
      subst (λ (w : ℕ). IsBegun ((to_be_bytes w32 n ++ kind ∷ []) ++ came) w) all (begun n kind came good is short),
      end,
    )
rest_fault now n kind came (LongReply m) good is fails = absurd fails
rest_fault now n kind came (BadReply m k) good is fails = absurd fails
rest_fault now n kind came (PeerRefused code) good is fails = absurd fails
rest_fault now n kind came ReadFault good is short = (n + 4, begun n kind came good is short)
rest_fault now n kind came WriteFault good is fails = absurd fails
rest_fault now n kind came OutOfMemory good is few = begun_or_whole n kind came good is few

-- the head was read, and then a fault came
pub rest_said : (before mid now : LinkTold) (n kind : ℕ) (fault : AskFault) → IsReplyLength n × IsKind n kind × Moves before mid (to_be_bytes w32 n ++ kind ∷ []) [] 0 false
    → (came : List ℕ) × Moves mid now came [] 1 (breaks_link fault) × RestFault now (n - 1) came fault
    → (read : List ℕ) × Moves before now read [] 1 (breaks_link fault) × ReplyFault now read fault
rest_said before mid now n kind fault (good, is, head) (came, moved, fails) =
    let start = to_be_bytes w32 n ++ kind ∷ [] in
    (start ++ came, moves_then before mid now start [] came [] 1 head moved, rest_fault now n kind came fault good is fails)

exchanged : (frame : List ℕ) (now : LinkTold) (read : List ℕ) (result : Result (List ℕ) AskFault)
    → Says now read result → Exchanges frame now read frame result
exchanged frame now read (Ok bytes) says = (refl, says)
exchanged frame now read (Err (ShortReply got wanted)) says = (refl, says)
exchanged frame now read (Err (LongReply n)) says = (refl, says)
exchanged frame now read (Err (BadReply n kind)) says = (refl, says)
exchanged frame now read (Err (PeerRefused code)) says = (refl, says)
exchanged frame now read (Err ReadFault) says = (refl, says)
exchanged frame now read (Err WriteFault) says = absurd says
exchanged frame now read (Err OutOfMemory) says = inr (refl, says)

-- the frame was written, and a reply read
pub asked : (question : Question) (before mid now : LinkTold) (read : List ℕ) (result : Result (List ℕ) AskFault)
    → Moves before mid [] (request_frame question) 0 false → Moves mid now read [] 1 (is_broken result) → Says now read result → IsAsked question before now result
asked question before mid now read result sent came says =
    let both = moves_then before mid now [] (request_frame question) read [] 1 sent came in record {
      read = read;
      written = request_frame question;
      moved = subst (λ (x : List ℕ). Moves before now read x 1 (is_broken result)) (append-nil (request_frame question)) both;
      says = exchanged (request_frame question) now read result says;
    }
