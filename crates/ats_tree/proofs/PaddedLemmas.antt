-- A byte string in a block, with a part appended.
use Rattle.std.proofs.Common.{◌≡◌, ℕ, ◌+◌, ◌-◌, ◌≤◌, List, ◌++◌, length, take, drop, replicate, refl, sym, ◌∙◌, arith}
use Rattle.std.proofs.lemmas.List.{length-append, length-take-le, length-drop, drop-drop, drop-replicate}
use Rattle.std.proofs.lemmas.Slice.{drop-put_mid}
use borrow.Rule.Slice.PartMut.{put_mid}
use Rattle.ats_tree.specs.Inner.Padded.{IsPadded}

-- the bytes after a longer front are 0 too
rest-more : (len k end : ℕ) (block : List ℕ) → drop len block ≡ replicate (128 - len) 0 → len + k ≡ end
    → drop end block ≡ replicate (128 - end) 0
rest-more len k end block rest at =
    let back : drop end block ≡ drop k (drop len block) = rw (← at) (sym (drop-drop k len block))
    in let left : 128 - len - k ≡ 128 - end = omega arith
    in rw (back, rest, drop-replicate {X = ℕ} k (128 - len) 0, left) refl

-- a part of `k` bytes that is written after the string
pub padded-more : (len k end : ℕ) (block part : List ℕ) → IsPadded len block → length part ≡ k → len + k ≡ end → end ≤ 128
    → IsPadded end (put_mid len k block part)
padded-more len k end block part is size at few =
    let short : len ≤ length block = omega (arith, is.few, is.size)
    in let le : len + k ≤ end = omega arith
    in let rest : drop end (put_mid len k block part) ≡ drop end block = drop-put_mid len k block part end le short size
    in record {
      few = few;
      size = omega (
        arith,
        size,
        is.size,
        few,
        length-append (take len block) (part ++ drop k (drop len block)),
        length-append part (drop k (drop len block)),
        length-take-le len block short,
        length-drop k (drop len block),
        length-drop len block,
      );
      rest = rest ∙ rest-more len k end block is.rest at;
    }
