use Rattle.std.proofs.Common.{◌≡◌, ◌∙◌, ◌+◌, ◌++◌, ◌∷◌, [], ℕ, List, take, length, get_or, sym, ap, append_assoc, append-nil, arith}
use Rattle.std.specs.List.{concat}
use Rattle.std.proofs.Math.Seq.{take-length}
use Rattle.std.proofs.lemmas.List.{take_more}
use Rattle.std.proofs.lemmas.List.Folds.{concat-append}
use Rattle.ats_text_proof.proofs.giving.put_digests.Goals as goal

pub loop-digest-init : goal.loop-digest-init
loop-digest-init c = sym (append-nil c.args.bytes.now)

pub loop-digest-preserved : goal.loop-digest-preserved
loop-digest-preserved c =
    let start = c.args.bytes.now in
    let xs = c.as_slice-digest-items.result.now in
    let i : ℕ = c.loop-digest.digest-index in
    let more : concat (take (i + 1) xs) ≡ concat (take i xs) ++ get_or xs i [] =
    ap concat (take_more xs i [] c.loop-digest-test.true) ∙ concat-append (take i xs) (get_or xs i [] ∷ []) ∙ ap (λ (last : List ℕ). concat (take i xs) ++ last) (append-nil (get_or xs i [])) in
    c.in_ok-extend.ensures ∙ ap (λ (front : List ℕ). front ++ get_or xs i []) c.loop-digest.invariant
    ∙ append_assoc start (concat (take i xs)) (get_or xs i []) ∙ ap (λ (back : List ℕ). start ++ back) (sym more)

pub returns : goal.returns
returns c =
    let items = c.as_slice-digest-items.result.now in
    let whole : c.loop-digest.digest-index ≡ length items = omega arith in
    let all : take c.loop-digest.digest-index items ≡ items = ap (λ (n : ℕ). take n items) whole ∙ take-length items in
    c.loop-digest.invariant ∙ ap (λ (xs : List (List ℕ)). c.args.bytes.now ++ concat xs) (all ∙ c.as_slice-digest-items.ensures.value)
