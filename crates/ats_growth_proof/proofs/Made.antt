-- The bytes that are made are those of the honest growth.
use Rattle.std.proofs.Common.{◌≡◌, ℕ, ◌^◌, ◌≤◌, List, [], ◌∷◌, ◌++◌, length, take, drop, true, sym, ◌∙◌, ap, ap₂, arith, append_assoc}
use Rattle.std.specs.List.{concat}
use Rattle.std.proofs.Math.Seq.{take-length}
use Rattle.std.proofs.lemmas.List.{length-reverse}
use Rattle.ats_commit.specs.Archive.{Archive}
use Rattle.ats_commit.specs.Own.{AreTexts}
use Rattle.ats_commit.specs.Root.{header_parts}
use Rattle.ats_commit.proofs.Public.{header_in_range, few_within}
use Rattle.ats_proof.specs.Parts.{spelled}
use Rattle.ats_tree.specs.Tree.{tree_of}
use Rattle.ats_proof.proofs.Public.{spelled_1}
use Rattle.ats_growth_check.specs.Headline.{IsPrefix}
use Rattle.ats_growth_check.specs.Shape.{turns, need}
use Rattle.ats_growth_check.specs.Value.{IsInRange, AreInRange}
use Rattle.ats_growth_check.proofs.Public.{All-reverse, leads, depth, need-turns}
use Rattle.ats_growth_proof.specs.Honest.{shown, digests_of, honest}
use Rattle.ats_growth_proof.specs.Inner.Honest.{digest_bytes}
use Rattle.ats_growth_proof.proofs.Completeness.{prefix-shares, prefix-shorter, length-shown, sized-shown}

-- runs of bytes that are appended one after another
pub joined_2 : (old x y b c all : List ℕ) → b ≡ old ++ x → c ≡ b ++ y → x ++ y ≡ all → c ≡ old ++ all
joined_2 old x y b c all first second whole = second ∙ ap (λ (front : List ℕ). front ++ y) first ∙ append_assoc old x y ∙ ap (λ (back : List ℕ). old ++ back) whole

-- a growth needs few digests
pub need_small : (m n : ℕ) → 1 ≤ m → m ≤ n → n ≤ 65536 → need (turns m n) true ≤ 17
need_small m n some within few =
    let small : n ≤ 2 ^ 16 = few
    in omega (arith, need-turns (turns m n) true, depth (leads m n some within) 16 small)

pub own_header_range : (H : List ℕ → List ℕ) → ((m : List ℕ) → length (H m) ≡ 32) → (archive : Archive) → AreTexts archive.texts → IsInRange (header_parts H archive)
own_header_range H sized archive are = header_in_range H sized archive are.within (few_within archive.texts are.utf8 are.within)

module _ (H : List ℕ → List ℕ) (sized : (m : List ℕ) → length (H m) ≡ 32) (older newer : Archive) (old_are : AreTexts older.texts) (new_are : AreTexts newer.texts)
    (is : IsPrefix older.texts newer.texts) where
  pub many_digests : length (digests_of H (length older.texts) newer.texts) ≡ need (turns (length older.texts) (length newer.texts)) true
  many_digests =
      length-reverse (shown H (turns (length older.texts) (length newer.texts)) true (tree_of newer.texts))
      ∙ length-shown H (turns (length older.texts) (length newer.texts)) true (tree_of older.texts) (tree_of newer.texts) (prefix-shares older.texts newer.texts is old_are.within.some)

  pub honest_in_range : AreInRange (honest H older newer)
  honest_in_range = record {
    old = own_header_range H sized older old_are;
    new = own_header_range H sized newer new_are;
    few = omega (arith, many_digests, need_small (length older.texts) (length newer.texts) old_are.within.some (prefix-shorter older.texts newer.texts is) new_are.within.few);
    sized = All-reverse (λ (d : List ℕ). length d ≡ 32) (shown H (turns (length older.texts) (length newer.texts)) true (tree_of newer.texts))
        (sized-shown H sized (turns (length older.texts) (length newer.texts)) true (tree_of newer.texts));
  }

  module _ (m n : ℕ) (texts : List (List ℕ)) (is_m : m ≡ length older.texts) (is_n : n ≡ length newer.texts) (own : texts ≡ newer.texts) where
    -- the number of digests that is put
    pub count_put : (count : ℕ) → count ≡ need (turns m n) true → count ∷ [] ≡ spelled 1 (length (digests_of H (length older.texts) newer.texts))
    count_put count is =
        ap (λ (x : ℕ). x ∷ []) (is ∙ ap₂ (λ (x y : ℕ). need (turns x y) true) is_m is_n ∙ sym many_digests) ∙ sym (spelled_1 (length (digests_of H (length older.texts) newer.texts)))

    -- the digests that are put
    pub digests_put : digest_bytes H (turns m n) true (tree_of (take n (drop 0 texts))) ≡ concat (digests_of H (length older.texts) newer.texts)
    digests_put =
        ap₂ (λ (k : ℕ) (ts : List (List ℕ)). digest_bytes H (turns m n) true (tree_of (take k ts))) is_n own
        ∙ ap (λ (ts : List (List ℕ)). digest_bytes H (turns m n) true (tree_of ts)) (take-length newer.texts)
        ∙ ap₂ (λ (x y : ℕ). digest_bytes H (turns x y) true (tree_of newer.texts)) is_m is_n
