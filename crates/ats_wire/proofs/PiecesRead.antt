-- A proof that is read while it arrives.
use Rattle.std.proofs.Common.{◌≡◌, ◌≢◌, ℕ, ◌+◌, ◌-◌, ◌≤◌, ◌^◌, List, [], ◌∷◌, ◌++◌, ◌∙◌, length, refl, sym, ap, subst, Bool, false, append_assoc, arith, inl, inr, Result, Ok, Err}
use Rattle.std.specs.Prelude.{IfOk, IfErr, if◌then◌else◌}
use Rattle.std.specs.Result.{is_ok, is_err}
use Rattle.std.proofs.lemmas.Bool.{true≢false}
use Rattle.std.specs.Int.{to_be_bytes, w32}
use Rattle.ats_base.specs.Links.{LinkTold}
use Rattle.ats_grammar.specs.declared.fault.ShapeFault.{ShapeFault}
use Rattle.ats_grammar.specs.declared.fault.ShapeKind.TheVariants.{Cut}
use Rattle.ats_grammar.specs.Front.{IsBad}
use Rattle.ats_grammar.specs.Grammar.{proof_schema}
use Rattle.ats_grammar.proofs.Public.{fault_stays}
use Rattle.ats_wire.specs.Moving.{Moves}
use Rattle.ats_wire.specs.Requests.{Question, framed}
use Rattle.ats_wire.specs.Asking.{request_frame, breaks_link, is_broken, IsReplyLength}
use Rattle.ats_wire.specs.Inner.Asking.{RestFault}
use Rattle.ats_wire.specs.Feeding.{IsFed, IsAskedFed}
use Rattle.ats_wire.specs.Inner.Feeding.{SaysFed}
use Rattle.ats_wire.specs.declared.asking.AskFault.{AskFault}
use Rattle.ats_wire.specs.declared.feeding.Fed.{Fed}
use Rattle.ats_wire.proofs.Replying.{asked, rest_said}
use Rattle.ats_wire.proofs.Moved.{moves_then, moves_idle}

-- a fault of a front of the bytes is theirs, if it is not a missing byte
pub bad_stays : (bytes more : List ℕ) (fault : ShapeFault) → IsBad proof_schema bytes fault → fault.kind ≢ Cut → length bytes + length more ≤ 2 ^ 26 → IsBad proof_schema (bytes ++ more) fault
bad_stays bytes more fault (inl long) here few = absurd (omega (arith, long.many, few))
bad_stays bytes more fault (inr first) here few = inr (fault_stays proof_schema bytes more fault first here few)

-- the frame was written, and a reply read whose proof was checked while it arrived
pub asked_fed : (question : Question) (before mid now : LinkTold) (read : List ℕ) (result : Result Fed AskFault)
    → Moves before mid [] (request_frame question) 0 false → Moves mid now read [] 1 (is_broken result) → SaysFed now read result → IsAskedFed question before now result
asked_fed question before mid now read (Ok fed) sent came says = (says.0, asked question before mid now read (Ok says.0) sent came says.1, says.2)
asked_fed question before mid now read (Err fault) sent came says = asked question before mid now read (Err fault) sent came says

abbrev HasRead : LinkTold → LinkTold → ℕ → Result Fed AskFault → Type 0
HasRead mid now size (Ok fed) = (bytes : List ℕ) × (length bytes ≡ size) × Moves mid now bytes [] 0 false × IsFed fed bytes
HasRead mid now size (Err fault) = (came : List ℕ) × Moves mid now came [] 1 (breaks_link fault) × RestFault now size came fault

-- what was read of a proof's reply, its head first
read_said : (before mid now : LinkTold) (n : ℕ) (result : Result Fed AskFault) → IsReplyLength n → Moves before mid (to_be_bytes w32 n ++ 0 ∷ []) [] 0 false → HasRead mid now (n - 1) result
    → (read : List ℕ) × Moves before now read [] 1 (is_broken result) × SaysFed now read result
read_said before mid now n (Ok fed) good head (bytes, long, moved, is) =
    let start = to_be_bytes w32 n ++ 0 ∷ [] in
    let whole : start ++ bytes ≡ framed (0 ∷ bytes) = append_assoc (to_be_bytes w32 n) (0 ∷ []) bytes
    ∙ ap (λ (m : ℕ). to_be_bytes w32 m ++ 0 ∷ bytes) (omega (arith, long, good.0)) in
    (start ++ bytes, moves_idle before now (start ++ bytes) [] (moves_then before mid now start [] bytes [] 0 head moved), (bytes, (whole, omega (arith, long, good.1)), is))
read_said before mid now n (Err fault) good head failed = rest_said before mid now n 0 fault (good, inl refl, head) failed

pub proof_said : (before mid now : LinkTold) (n kind : ℕ) (result : Result Fed AskFault) → kind ≡ 0 → IsReplyLength n → Moves before mid (to_be_bytes w32 n ++ kind ∷ []) [] 0 false
    → IfOk result (λ fed. (bytes : List ℕ) × (length bytes ≡ n - 1) × Moves mid now bytes [] 0 false × IsFed fed bytes)
    → IfErr result (λ fault. (came : List ℕ) × Moves mid now came [] 1 (breaks_link fault) × RestFault now (n - 1) came fault)
    → (read : List ℕ) × Moves before now read [] 1 (is_broken result) × SaysFed now read result
proof_said before mid now n kind (Ok fed) none good head ok err =
    read_said before mid now n (Ok fed) good (subst (λ (k : ℕ). Moves before mid (to_be_bytes w32 n ++ k ∷ []) [] 0 false) none head) ok
proof_said before mid now n kind (Err fault) none good head ok err =
    read_said before mid now n (Err fault) good (subst (λ (k : ℕ). Moves before mid (to_be_bytes w32 n ++ k ∷ []) [] 0 false) none head) err

-- an extension that did not fail
pub extended : {E : Type 0} (result : Result (Unit {0}) E) (failed : Bool) (now long short : List ℕ) → failed ≡ is_err result → failed ≡ false → now ≡ (if is_ok result then long else short) → now ≡ long
extended (Ok x) failed now long short is none e = e
extended (Err x) failed now long short is none e = absurd (true≢false (sym is ∙ none))
