-- Leaves of equal bytes have equal parts.
use Rattle.std.proofs.Common.{◌≡◌, ◌<◌, ◌^◌, ◌++◌, ℕ, List, length}
use Rattle.std.specs.Int.{to_be_bytes, w16}
use Rattle.ats_tree.proofs.Public.{parted, first_and_rest, same_2}
use Rattle.ats_doctree.specs.Sentinels.{leaf_bytes}

pub leaf_parts : (term other : List ℕ) (m n : ℕ) → m < 2 ^ 16 → n < 2 ^ 16 → leaf_bytes (term, m) ≡ leaf_bytes (other, n) → (term ≡ other) × (m ≡ n)
unfolding leaf_bytes
leaf_parts term other m n small less same =
    let both = first_and_rest (length term) (length other) (term ++ to_be_bytes w16 m) (other ++ to_be_bytes w16 n) same in
    let parts = parted term other (to_be_bytes w16 m) (to_be_bytes w16 n) both.0 both.1 in
    (parts.0, same_2 m n small less parts.1)
