-- A command leaves the files as they were, or as its plan allows.
use Rattle.std.proofs.Common.{◌≡◌, ◌⊎◌, ◌∙◌, ℕ, List, length, inl, inr, ap, subst, arith}
use Rattle.std.proofs.Math.Seq.{take-length}
use Rattle.ats_base.specs.Outside.{ShelfTold, Puts}
use Rattle.ats_plan.specs.Files.{Files, PutsPart}
use Rattle.ats_plan.specs.Plan.{Plan, Finishes, Stores, Fails, Tries, Gets, Makes, Reads, Leaves}
use Rattle.ats_plan.specs.Runs.{Does, Stops}
use Rattle.ats_plan.proofs.Counts.{stops_keep}

-- all of the bytes are a prefix of them
puts_all : (before now : Files) (name bytes : List ℕ) → Puts before now name bytes → PutsPart before now name bytes
puts_all before now name bytes puts = record {
  n = length bytes;
  within = omega arith;
  stored = rw (take-length bytes) puts;
}

same_files : (before now : ShelfTold) → now ≡ before → now.files ≡ before.files
same_files before now same = ap (λ (told : ShelfTold). told.files) same

-- what a later step leaves is what the plan allows
left_past : {A B C : Type 0} → A ⊎ B → (B → C) → A ⊎ C
left_past (inl same) on = inl same
left_past (inr leaves) on = inr (on leaves)

-- what the steps after a read leave is what the plan allows
left_read : {F : Type 0} (plan next : Plan F) (before mid : ShelfTold) (now : Files) → mid.files ≡ before.files
    → (Leaves before.files now next → Leaves before.files now plan) → (now ≡ mid.files) ⊎ Leaves mid.files now next → (now ≡ before.files) ⊎ Leaves before.files now plan
left_read plan next before mid now read on left = left_past (subst (λ (files : Files). (now ≡ files) ⊎ Leaves files now next) read left) on

pub does_leaves : {F : Type 0} (plan : Plan F) (before now : ShelfTold) (text : List ℕ) → Does plan before now text
    → (now.files ≡ before.files) ⊎ Leaves before.files now.files plan
does_leaves (Finishes says) before now text (same, holds) = inl (same_files before now same)
does_leaves (Stores name bytes says) before now text (asked, counts, puts, holds) = inr (puts_all before.files now.files name bytes puts)
does_leaves (Fails fault) before now text done = absurd done
does_leaves (Tries holds fault rest) before now text (is, done) = left_past (does_leaves rest before now text done) (λ leaves. (is, leaves))
does_leaves (Gets A is fault rest) before now text (a, holds, done) = left_past (does_leaves (rest a) before now text done) (λ leaves. (a, holds, leaves))
does_leaves (Makes A is rest) before now text (a, holds, done) = left_past (does_leaves (rest a) before now text done) (λ leaves. (a, holds, leaves))
does_leaves (Reads name limit long rest) before now text (mid, read, counts, inl (longer, done)) =
    left_read (Reads name limit long rest) long before mid now.files read.files (λ leaves. inl (longer, leaves)) (does_leaves long mid now text done)
does_leaves (Reads name limit long rest) before now text (mid, read, counts, inr (bytes, file, done)) =
    left_read (Reads name limit long rest) (rest bytes) before mid now.files read.files (λ leaves. inr (bytes, file, leaves)) (does_leaves (rest bytes) mid now text done)

module _ {F : Type 0} (shelf memory : F) where
  pub stops_leaves : (plan : Plan F) (before now : ShelfTold) (stop : F) → Stops shelf memory plan before now stop
      → (now.files ≡ before.files) ⊎ Leaves before.files now.files plan
  stops_leaves (Finishes says) before now stop (same, is) = inl (same_files before now same)
  stops_leaves (Stores name bytes says) before now stop (inl (same, is)) = inl (same_files before now same)
  stops_leaves (Stores name bytes says) before now stop (inr (is, later, rose, asked, files)) = files
  stops_leaves (Fails fault) before now stop (same, is) = inl (same_files before now same)
  stops_leaves (Tries holds fault rest) before now stop (inl (same, is)) = inl (same_files before now same)
  stops_leaves (Tries holds fault rest) before now stop (inr (is, later)) = left_past (stops_leaves rest before now stop later) (λ leaves. (is, leaves))
  stops_leaves (Gets A is fault rest) before now stop (inl (same, here)) = inl (same_files before now same)
  stops_leaves (Gets A is fault rest) before now stop (inr (a, holds, later)) = left_past (stops_leaves (rest a) before now stop later) (λ leaves. (a, holds, leaves))
  stops_leaves (Makes A is rest) before now stop (inl (same, here)) = inl (same_files before now same)
  stops_leaves (Makes A is rest) before now stop (inr (a, holds, later)) = left_past (stops_leaves (rest a) before now stop later) (λ leaves. (a, holds, leaves))
  stops_leaves (Reads name limit long rest) before now stop (inl (same, is)) = inl (same_files before now same)
  stops_leaves (Reads name limit long rest) before now stop (inr (inl (read, unread))) = inl read.files
  stops_leaves (Reads name limit long rest) before now stop (inr (inr (mid, read, counts, inl (longer, later)))) =
      left_read (Reads name limit long rest) long before mid now.files read.files (λ leaves. inl (longer, leaves)) (stops_leaves long mid now stop later)
  stops_leaves (Reads name limit long rest) before now stop (inr (inr (mid, read, counts, inr (bytes, file, later)))) =
      left_read (Reads name limit long rest) (rest bytes) before mid now.files read.files (λ leaves. inr (bytes, file, leaves)) (stops_leaves (rest bytes) mid now stop later)

  -- a stop for another cause than the shelf leaves the files as they were
  pub stops_files : (plan : Plan F) (before now : ShelfTold) (stop : F) → Stops shelf memory plan before now stop → (stop ≡ shelf → ⊥)
      → now.files ≡ before.files
  stops_files plan before now stop stops other = stops_keep shelf memory (λ (before now : ShelfTold). now.files ≡ before.files) stop same_files
      (λ before now is later. absurd (other is)) (λ before now name limit read unread. read.files)
      (λ before mid now name limit read counts rest. rest ∙ read.files) plan before now stops
