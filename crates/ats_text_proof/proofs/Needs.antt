-- How many digests one text needs: at most as many as its path has turns.
use Rattle.std.proofs.Common.{◌≡◌, ◌∙◌, ℕ, zero, suc, ◌+◌, ◌-◌, ◌*◌, ◌^◌, ◌<◌, ◌≤◌, List, ap, refl, inl, inr, arith}
use Rattle.std.proofs.Math.Nat.{two-pow-succ}
use Rattle.std.proofs.lemmas.Bool.{cases_lt}
use Rattle.ats_tree.specs.Rebuild.{need}
use Rattle.ats_text_proof.proofs.Parts.{text_tree, bare-place, shows, text-cut, text-one, need-left, need-right, power_some}

-- one of at most 2^h texts needs at most h digests
pub needs : (h from n doc : ℕ) (text : List ℕ) → 1 ≤ n → n ≤ 2 ^ h → from ≤ doc → doc < from + n → need (text_tree from n doc text) ≤ h
needs zero from n doc text some few low high =
    let one : n ≡ 1 = omega (arith, some, few) in
    let nothing : need (text_tree from n doc text) ≡ 0 =
    ap (λ (m : ℕ). need (text_tree from m doc text)) one ∙ ap need (text-one from doc text low (omega (arith, high, one))) in
    omega (arith, nothing)
needs (suc h) from n doc text some few low high =
    let two = two-pow-succ h in
    let k : ℕ = 2 ^ h in
    elim (cases_lt k n) [
      | inr small ↦ let rest = needs h from n doc text some small low high in omega (arith, rest)
      | inl large ↦
          let most : n ≤ 2 * k = omega (arith, few, two) in
          let cut = text-cut from k n doc text (h, refl) large most in
          elim (cases_lt doc (from + k)) [
            | inl left ↦
                let bare = bare-place (from + k) (n - k) doc text (omega (arith, large)) (λ i inside past same. omega (arith, left, inside, same)) in
                let rest = needs h from k doc text (omega (arith, low, left, power_some h)) (omega arith) low left in
                let sum = need-left (text_tree from n doc text) (text_tree from k doc text) (text_tree (from + k) (n - k) doc text) cut (shows from k doc text low left) bare in
                omega (arith, rest, sum)
            | inr right ↦
                let end : doc < from + k + (n - k) = omega (arith, high, large) in
                let bare = bare-place from k doc text (power_some h) (λ i inside past same. omega (arith, right, past, same)) in
                let rest = needs h (from + k) (n - k) doc text (omega (arith, large)) (omega (arith, most)) right end in
                let sum = need-right (text_tree from n doc text) (text_tree from k doc text) (text_tree (from + k) (n - k) doc text) cut bare (shows (from + k) (n - k) doc text right end) in
                omega (arith, rest, sum)
          ]
    ]
