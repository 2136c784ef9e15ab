-- A frame that was read: whole, bad, or up to the end or a fault.
use Rattle.std.proofs.Common.{Bool, false, ◌≡◌, ◌<◌, ◌+◌, ◌∙◌, ◌++◌, inr, ℕ, List, [], length, take, sym, subst, ap, arith, length-append}
use Rattle.std.specs.Int.{to_be_bytes, w32}
use Rattle.std.proofs.lemmas.List.{length-take-le}
use Rattle.std.proofs.Math.Seq.{take-append_seam}
use Rattle.ats_base.specs.Links.{LinkTold}
use Rattle.ats_wire.specs.Requests.{framed}
use Rattle.ats_wire.specs.Moving.{Moves}
use Rattle.ats_wire.specs.Connections.{IsFrameLength, IsUnfinished}
use Rattle.ats_wire.proofs.Moved.{moves_then}

-- the length and as many bytes are a frame
pub whole_frame : (before mid now : LinkTold) (head body back : List ℕ) (n : ℕ)
    → Moves before mid head [] 0 false → Moves mid now body [] 0 false → to_be_bytes w32 n ≡ head → length body ≡ n
    → Moves before now (framed (take n (body ++ back))) [] 0 false
whole_frame before mid now head body back n first second is long =
    let body_is : take n (body ++ back) ≡ body = ap (λ (k : ℕ). take k (body ++ back)) (sym long) ∙ take-append_seam body back in
    let framed_is : framed (take n (body ++ back)) ≡ head ++ body =
    ap framed body_is ∙ ap (λ (k : ℕ). to_be_bytes w32 k ++ body) long ∙ ap (λ (x : List ℕ). x ++ body) is in
    subst (λ (x : List ℕ). Moves before now x [] 0 false) (sym framed_is) (moves_then before mid now head [] body [] 0 first second)

-- a good length and fewer bytes
pub unfinished : {broken : Bool} (before mid now : LinkTold) (head body : List ℕ) (n came : ℕ)
    → Moves before mid head [] 0 false → Moves mid now (take came body) [] 1 broken → to_be_bytes w32 n ≡ head → length head ≡ 4 → IsFrameLength n → length body ≡ n → came < length body
    → (tail : List ℕ) × Moves before now tail [] 1 broken × IsUnfinished tail × (length tail ≡ came + 4)
unfinished before mid now head body n came first second is four good long short =
    let came_is = length-take-le came body (omega (arith, short)) in (
      head ++ take came body,
      moves_then before mid now head [] (take came body) [] 1 first second,
      inr (n, take came body, good, omega (arith, came_is, short, long), ap (λ (x : List ℕ). x ++ take came body) (sym is)),
      omega (arith, length-append head (take came body), came_is, four),
    )
