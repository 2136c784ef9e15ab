-- Leaves of equal bytes have equal parts.
use Rattle.std.proofs.Common.{◌≡◌, ◌<◌, ◌^◌, ◌∙◌, ◌++◌, ℕ, List, length, sym, append_assoc}
use Rattle.std.specs.Int.{to_be_bytes, w32}
use Rattle.ats_tree.proofs.Public.{parted, first_and_rest, numbered}
use Rattle.ats_dict.specs.Entry.{dict_leaf_bytes}

pub leaf_parts : (term other : List ℕ) (f g : ℕ) (root another : List ℕ) → f < 2 ^ 32 → g < 2 ^ 32
    → dict_leaf_bytes term f root ≡ dict_leaf_bytes other g another → (term ≡ other) × (f ≡ g) × (root ≡ another)
unfolding dict_leaf_bytes
leaf_parts term other f g root another small less same =
    let whole = first_and_rest (length term) (length other) (term ++ to_be_bytes w32 f ++ root) (other ++ to_be_bytes w32 g ++ another) same in
    let terms = parted term other (to_be_bytes w32 f ++ root) (to_be_bytes w32 g ++ another) whole.0
    (sym (append_assoc term (to_be_bytes w32 f) root) ∙ whole.1 ∙ append_assoc other (to_be_bytes w32 g) another) in
    let rest = numbered f g root another small less terms.1 in
    (terms.0, rest.0, rest.1)
