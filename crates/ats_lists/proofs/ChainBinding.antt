-- A rebuilt digest of a list in blocks binds the shown leaves to each list with that digest, unless there is a collision.
use Rattle.std.proofs.Common.{◌≡◌, ℕ, zero, suc, ◌+◌, ◌-◌, ◌*◌, ◌/◌, ◌%◌, ◌^◌, ◌<◌, ◌≤◌, List, [], ◌∷◌, ◌++◌, length, map, drop, Bool, true, ◌&&◌, sym, ◌∙◌, ap, arith, inl, inr, Option, Some, None, subst, MatchOption, All, get_or, slice_get, nat_le, nat_eq}
use Rattle.std.specs.List.{range_with_len, flat_map}
use Rattle.std.specs.Str.{bytes_eq}
use Rattle.std.proofs.lemmas.Bool.{cond-true, cond-false, cases_lt, cases_Bool, and_parts, lt-ltb, eq-eqb, leb-true, eqb-true}
use Rattle.std.proofs.Math.Pow.{pow_mono}
use Rattle.std.proofs.lemmas.List.{length-take, length-drop, get_or-take, get_or-drop}
use Rattle.std.proofs.lemmas.Option.{get_or_from_slice_get, slice_get_within, slice_get-get_or}
use Rattle.std.proofs.lemmas.Slice.Eq.{bytes_eq-Decides}
use Rattle.ats_tree.specs.Tree.{tree_of, mth}
use Rattle.ats_tree.specs.Shown.{Shown, shown_at}
use Rattle.ats_tree.specs.Rebuild.{need}
use Rattle.ats_tree.specs.Nodes.{NodeNumbers, by_path}
use Rattle.ats_tree.specs.Paths.{Path, number_of}
use Rattle.ats_tree.specs.Strings.{strings, string_at}
use Rattle.ats_tree.specs.Differences.{Hashed, Difference, difference_or, first_difference}
use Rattle.ats_tree.proofs.Public.{part-bound, ShowsOwn, difference-alike, difference-append, length-mth, length-rebuilt, part-shallow, known-moved, or_else, Collides, own_place, node-some, number_of-below, parted, first_and_rest}
use Rattle.ats_lists.specs.Blocks.{blocks_in, items_in, block}
use Rattle.ats_lists.specs.Chain.{link, no_block, chain_digest, chain_from, chain, chain_string}
use Rattle.ats_lists.specs.ChainPrefix.{block_tree, block_need, block_root, chain_need, next_digest, shown_from, chain_rebuilt, tree_strings, block_strings, chain_strings}
use Rattle.ats_lists.specs.ChainBound.{IsChainBoundTo}
use Rattle.ats_lists.proofs.Fronts.{front-rises, front-past}
use Rattle.ats_lists.proofs.BlockLemmas.{IsShownFront, full-block}

-- ---- one block

-- what is known of later strings is known of them and a first one, unless that one collides
known-first : {P : Type 0} (H : List ℕ → List ℕ) (A : Type 0) (ours : P → Option (List ℕ)) (s : Hashed P) (own : List ℕ) (later : Option (Difference P))
    → ours s.place ≡ Some own → H s.text ≡ H own → (own ≡ s.text → MatchOption later A (Collides H))
    → MatchOption (difference_or (ours s.place) s later) A (Collides H)
known-first {P} H A ours s own later is digest known =
    let Goal : Option (Difference P) → Type 0 = λ c. MatchOption c A (Collides H)
    in let At : Option (List ℕ) → Type 0 = λ o. Goal (difference_or o s later)
    in subst At (sym is) (elim (cases_Bool (bytes_eq own s.text)) [
      | inl same ↦ subst Goal (sym (cond-true (bytes_eq own s.text) _ _ same)) (known ((bytes_eq-Decides own s.text).0 same))
      | inr other ↦ subst Goal (sym (cond-false (bytes_eq own s.text) _ _ other)) digest
    ])

known-both : {P : Type 0} (H : List ℕ → List ℕ) (A B : Type 0) (a b : Option (Difference P)) → MatchOption a A (Collides H) → MatchOption b B (Collides H)
    → MatchOption (or_else a b) (A × B) (Collides H)
known-both H A B None None p q = (p, q)
known-both H A B None (Some c) p q = q
known-both H A B (Some c) b p q = p

known-more : {P : Type 0} (A B : Type 0) (Q : Difference P → Type 0) (c : Option (Difference P)) → (A → B) → MatchOption c A Q → MatchOption c B Q
known-more A B Q None f known = f known
known-more A B Q (Some c) f known = known

-- the own strings of a list, by their two numbers
abbrev pub own_at : (List ℕ → List ℕ) → List (List ℕ) → NodeNumbers → Option (List ℕ)
own_at H leaves at = chain_string H leaves at.depth at.turns

-- the numbers of a node of block j
abbrev pub in_block : ℕ → Path → NodeNumbers
in_block j path = record { depth = 1 + length path; turns = 64 * j + number_of path }

-- the string with the numbers of a node of block j is that node's string
pub node-own : (H : List ℕ → List ℕ) (leaves : List (List ℕ)) (j : ℕ) (path : Path) → length path ≤ 6
    → own_at H leaves (in_block j path) ≡ string_at H (tree_of (block leaves j)) path
node-own H leaves j path short =
    let depth : 1 + length path ≡ suc (length path) = omega arith
    in let few : 2 ^ length path ≤ 2 ^ 6 = pow_mono short
    in let below : number_of path < 2 ^ length path = number_of-below path
    in let small : number_of path < 64 = omega arith
    in let rest : (64 * j + number_of path) % 64 ≡ number_of path = omega arith
    in let at : (64 * j + number_of path) / 64 ≡ j = omega arith
    in ap (λ d. chain_string H leaves d (64 * j + number_of path)) depth
    ∙ rw (rest, at) (cond-true _ _ _ (lt-ltb (number_of path) (2 ^ length path) below)
    ∙ ap (string_at H (tree_of (block leaves j))) (node-some (by_path path)).0)

-- the string of block j stands at depth 0 and turns 64 j
pub link-own : (H : List ℕ → List ℕ) (leaves : List (List ℕ)) (j : ℕ) → j < blocks_in (length leaves)
    → chain_string H leaves 0 (64 * j) ≡ Some (link (mth H (block leaves j)) (chain_from H leaves (j + 1)))
link-own H leaves j less =
    let rest : (64 * j) % 64 ≡ 0 = omega arith
    in let at : (64 * j) / 64 ≡ j = omega arith
    in cond-true _ _ _ (eq-eqb ((64 * j) % 64) 0 rest)
    ∙ rw at (cond-true _ _ _ (lt-ltb j (blocks_in (length leaves)) less))

pub length-block : (f j : ℕ) (leaves : List (List ℕ)) → length leaves ≡ f → length (block leaves j) ≡ items_in f j
length-block f j leaves len =
    omega (arith, length-take 64 (drop (64 * j) leaves), length-drop (64 * j) leaves)

-- a leaf of a block is a leaf of the list
block-leaf : (leaves : List (List ℕ)) (j i : ℕ) (x : List ℕ) → slice_get (block leaves j) i ≡ Some x → slice_get leaves (64 * j + i) ≡ Some x
block-leaf leaves j i x got =
    let within : i < length (block leaves j) = slice_get_within (block leaves j) i x got
    in let low : i < 64 = omega (arith, length-take 64 (drop (64 * j) leaves))
    in let high : 64 * j + i < length leaves = omega (arith, length-take 64 (drop (64 * j) leaves), length-drop (64 * j) leaves)
    in slice_get-get_or leaves (64 * j + i) [] high
    ∙ ap Some (sym (get_or-drop (64 * j) leaves i []) ∙ sym (get_or-take 64 (drop (64 * j) leaves) i [] low) ∙ get_or_from_slice_get (block leaves j) i x [] got)

-- ---- the digest of a block and those after it

pub shown_from-step : (H : List ℕ → List ℕ) (f : ℕ) (shown : List Shown) (ds : List (List ℕ)) (j : ℕ) → j < blocks_in (length shown)
    → shown_from H f shown ds j ≡ H (link (block_root H f shown ds j) (shown_from H f shown ds (j + 1)))
shown_from-step H f shown ds j less =
    let count : blocks_in (length shown) - j ≡ suc (blocks_in (length shown) - (j + 1)) = omega arith
    in ap (λ n. chain_digest H (map (block_root H f shown ds) (range_with_len j n)) (next_digest f shown ds)) count

pub chain_from-step : (H : List ℕ → List ℕ) (leaves : List (List ℕ)) (j : ℕ) → j < blocks_in (length leaves)
    → chain_from H leaves j ≡ H (link (mth H (block leaves j)) (chain_from H leaves (j + 1)))
chain_from-step H leaves j less =
    let count : blocks_in (length leaves) - j ≡ suc (blocks_in (length leaves) - (j + 1)) = omega arith
    in ap (λ n. chain_digest H (map (λ i. mth H (block leaves i)) (range_with_len j n)) no_block) count

-- past the list's last block no digest comes
pub chain-end : (H : List ℕ → List ℕ) (leaves : List (List ℕ)) (j : ℕ) → blocks_in (length leaves) ≤ j → chain_from H leaves j ≡ no_block
chain-end H leaves j past =
    let none : blocks_in (length leaves) - j ≡ 0 = omega arith
    in ap (λ n. chain_digest H (map (λ i. mth H (block leaves i)) (range_with_len j n)) no_block) none

-- ---- all shown blocks from block j on

-- what is shown from block j on is the list's
abbrev OwnFrom : List Shown → List (List ℕ) → ℕ → Type 0
OwnFrom shown leaves j = (p : ℕ) (x : List ℕ) → 64 * j ≤ p → p < length shown → shown_at shown p ≡ Some x → slice_get leaves p ≡ Some x

own-more : (f j : ℕ) (shown : List Shown) (leaves : List (List ℕ)) → length shown ≤ f
    → ShowsOwn (64 * j) (items_in f j) shown (block leaves j) × OwnFrom shown leaves (j + 1) → OwnFrom shown leaves j
own-more f j shown leaves within both p x low high here =
    elim (cases_lt p (64 * j + 64)) [
      | inl inside ↦
          let at : 64 * j + (p - 64 * j) ≡ p = omega arith
          in let few : p - 64 * j < items_in f j = omega arith
          in let here' : shown_at shown (64 * j + (p - 64 * j)) ≡ Some x = ap (shown_at shown) at ∙ here
          in ap (slice_get leaves) (sym at) ∙ block-leaf leaves j (p - 64 * j) x (both.0 (p - 64 * j) x few here')
      | inr past ↦ let low' : 64 * (j + 1) ≤ p = omega arith in both.1 p x low' high here
    ]

-- what each shown block needs is there
pub record IsEnough (f : ℕ) (shown : List Shown) (ds : List (List ℕ)) : Type 0 where
  pub front : IsShownFront shown
  pub within : length shown ≤ f
  pub some : 1 ≤ length shown
  pub digests : block_need f shown ≤ length ds
  pub sized : All (λ d. length d ≡ 32) ds

pub enough-block : (f j : ℕ) (shown : List Shown) (ds : List (List ℕ)) → IsEnough f shown ds → j < blocks_in (length shown)
    → need (block_tree f shown j) ≤ length ds
enough-block f j shown ds is less =
    elim (cases_lt (j + 1) (blocks_in (length shown))) [
      | inl more ↦
          let full : 64 * j + 64 ≤ length shown = omega arith in omega (arith, full-block f j shown is.front full)
      | inr end ↦
          let last : blocks_in (length shown) - 1 ≡ j = omega arith
          in let same : block_need f shown ≡ need (block_tree f shown j) = ap (λ i. need (block_tree f shown i)) last
          in omega (arith, is.digests)
    ]

block-bound : (H : List ℕ → List ℕ) → ((m : List ℕ) → length (H m) ≡ 32) → (f j : ℕ) (shown : List Shown) (ds leaves : List (List ℕ))
    → IsEnough f shown ds → length leaves ≡ f → j < blocks_in (length shown) → block_root H f shown ds j ≡ mth H (block leaves j)
    → MatchOption (first_difference (own_at H leaves) (tree_strings H f shown ds j)) (ShowsOwn (64 * j) (items_in f j) shown (block leaves j)) (Collides H)
block-bound H sized f j shown ds leaves is len less same =
    let n : ℕ = items_in f j
    in let A : Type 0 = ShowsOwn (64 * j) n shown (block leaves j)
    in let ss : List (Hashed Path) = strings H (block_tree f shown j) ds
    in let few : n ≤ 2 ^ 6 = omega arith
    in let deep : All (λ s. length s.place ≤ 6) ss = part-shallow H 6 (64 * j) n shown ds few
    in let alike : first_difference (λ path. own_at H leaves (in_block j path)) ss ≡ first_difference (string_at H (tree_of (block leaves j))) ss =
    difference-alike (λ path. own_at H leaves (in_block j path)) (string_at H (tree_of (block leaves j))) ss
    (λ k d at. node-own H leaves j (get_or ss k d).place (deep k d at))
    in let Goal : Option (Difference Path) → Type 0 = λ c. MatchOption c A (Collides H)
    in known-moved H A (in_block j) (own_at H leaves) ss
    (subst Goal (sym alike)
    (part-bound H sized (64 * j) n shown ds (block leaves j) is.sized (length-block f j leaves len) (enough-block f j shown ds is less) same))

-- the strings of the m blocks from block j on
abbrev pub strings_from : (List ℕ → List ℕ) → ℕ → List Shown → List (List ℕ) → ℕ → ℕ → List (Hashed NodeNumbers)
strings_from H f shown ds j m = flat_map (block_strings H f shown ds) (range_with_len j m)

chain-bound : (H : List ℕ → List ℕ) → ((m : List ℕ) → length (H m) ≡ 32) → (f : ℕ) (shown : List Shown) (ds leaves : List (List ℕ))
    → IsEnough f shown ds → length leaves ≡ f → (m j : ℕ) → j + m ≡ blocks_in (length shown)
    → shown_from H f shown ds j ≡ chain_from H leaves j
    → MatchOption (first_difference (own_at H leaves) (strings_from H f shown ds j m)) (OwnFrom shown leaves j) (Collides H)
chain-bound H sized f shown ds leaves is len zero j end same = λ p x low high here. absurd (omega arith)
chain-bound H sized f shown ds leaves is len (suc m) j end same =
    let within : length shown ≤ f = is.within
    in let less : j < blocks_in (length shown) = omega arith
    in let less' : j < blocks_in (length leaves) = omega arith
    in let end' : j + 1 + m ≡ blocks_in (length shown) = omega arith
    in let root : List ℕ = block_root H f shown ds j
    in let next : List ℕ = shown_from H f shown ds (j + 1)
    in let own : List ℕ = link (mth H (block leaves j)) (chain_from H leaves (j + 1))
    in let s : Hashed NodeNumbers = record { place = record { depth = 0; turns = 64 * j }; text = link root next }
    in let tree : List (Hashed NodeNumbers) = tree_strings H f shown ds j
    in let later : List (Hashed NodeNumbers) = strings_from H f shown ds (j + 1) m
    in let A : Type 0 = ShowsOwn (64 * j) (items_in f j) shown (block leaves j)
    in let B : Type 0 = OwnFrom shown leaves (j + 1)
    in let digest : H (link root next) ≡ H own =
    sym (shown_from-step H f shown ds j less) ∙ same ∙ chain_from-step H leaves j less'
    in let size : length (mth H (block leaves j)) ≡ length root =
    length-mth H sized (block leaves j) ∙ sym (length-rebuilt H sized (block_tree f shown j) ds is.sized (enough-block f j shown ds is less))
    in let Goal : Option (Difference NodeNumbers) → Type 0 = λ c. MatchOption c (A × B) (Collides H)
    in known-more (A × B) (OwnFrom shown leaves j) (Collides H) (first_difference (own_at H leaves) (s ∷ (tree ++ later)))
    (own-more f j shown leaves within)
    (known-first H (A × B) (own_at H leaves) s own (first_difference (own_at H leaves) (tree ++ later)) (link-own H leaves j less') digest
    (λ equal.
    let parts : (mth H (block leaves j) ≡ root) × (chain_from H leaves (j + 1) ≡ next) =
    parted (mth H (block leaves j)) root (chain_from H leaves (j + 1)) next size
    (first_and_rest 3 3 (mth H (block leaves j) ++ chain_from H leaves (j + 1)) (root ++ next) equal).1
    in subst Goal (sym (difference-append (own_at H leaves) tree later))
    (known-both H A B (first_difference (own_at H leaves) tree) (first_difference (own_at H leaves) later)
    (block-bound H sized f j shown ds leaves is len less (sym parts.0))
    (chain-bound H sized f shown ds leaves is len m (j + 1) end' (sym parts.1)))))

-- ---- the theorem

-- a list's digest is rebuilt
pub record IsChain (H : List ℕ → List ℕ) (f : ℕ) (shown : List Shown) (ds : List (List ℕ)) (x : List ℕ) : Type 0 where
  pub some : 1 ≤ length shown
  pub within : length shown ≤ f
  pub exact : length ds ≡ chain_need f shown
  pub value : x ≡ shown_from H f shown ds 0

some_same : {X : Type 0} (x y : X) → Some x ≡ Some y → y ≡ x
some_same x y e = cc

pub is_chain : (H : List ℕ → List ℕ) (f : ℕ) (shown : List Shown) (ds : List (List ℕ)) (x : List ℕ) → chain_rebuilt H f shown ds ≡ Some x
    → IsChain H f shown ds x
is_chain H f shown ds x is =
    let test : Bool = nat_le 1 (length shown) && nat_le (length shown) f && nat_eq (length ds) (chain_need f shown)
    in elim (cases_Bool test) [
      | inl meets ↦
          let outer : ((nat_le 1 (length shown) && nat_le (length shown) f) ≡ true) × (nat_eq (length ds) (chain_need f shown) ≡ true) =
          and_parts _ _ meets
          in let inner : (nat_le 1 (length shown) ≡ true) × (nat_le (length shown) f ≡ true) = and_parts _ _ outer.0
          in record {
            some = leb-true 1 (length shown) inner.0;
            within = leb-true (length shown) f inner.1;
            exact = eqb-true _ _ outer.1;
            value = some_same _ _ (sym (cond-true test _ _ meets) ∙ is);
          }
      | inr fails ↦ let none : None ≡ Some x = sym (cond-false test _ _ fails) ∙ is in absurd (cc)
    ]

pub chain-bound_to : (H : List ℕ → List ℕ) → ((m : List ℕ) → length (H m) ≡ 32) → (f : ℕ) (shown : List Shown) (ds : List (List ℕ)) (x : List ℕ)
    → IsShownFront shown → All (λ d. length d ≡ 32) ds → chain_rebuilt H f shown ds ≡ Some x
    → (leaves : List (List ℕ)) → length leaves ≡ f → chain H leaves ≡ x → IsChainBoundTo H f shown ds leaves
chain-bound_to H sized f shown ds x front all is leaves len root =
    let w : IsChain H f shown ds x = is_chain H f shown ds x is
    in let digests : block_need f shown ≤ length ds = omega (arith, w.exact)
    in let enough : IsEnough f shown ds = record { front = front; within = w.within; some = w.some; digests = digests; sized = all }
    in let blocks : ℕ = blocks_in (length shown)
    in let count : blocks ≡ blocks - 0 = omega arith
    in let same : shown_from H f shown ds 0 ≡ chain_from H leaves 0 = sym w.value ∙ sym root
    in let end : 0 + (blocks - 0) ≡ blocks = omega arith
    in known-more (OwnFrom shown leaves 0) (All (λ s. slice_get leaves s.0 ≡ Some s.1) shown) (Collides H)
    (first_difference (own_at H leaves) (chain_strings H f shown ds)) own-all
    (chain-bound H sized f shown ds leaves enough len (blocks - 0) 0 end same)
  where
    own-all : OwnFrom shown leaves 0 → All (λ s. slice_get leaves s.0 ≡ Some s.1) shown
    own-all own k d less =
        let here : shown_at shown (get_or shown k d).0 ≡ Some (get_or shown k d).1 =
        (own_place 0 shown k d (front-rises 0 (length shown) shown front) less).0
        in elim (cases_lt (get_or shown k d).0 (length shown)) [
          | inl inside ↦ own (get_or shown k d).0 (get_or shown k d).1 (omega arith) inside here
          | inr past ↦
              let none : shown_at shown (get_or shown k d).0 ≡ None = front-past 0 (length shown) (get_or shown k d).0 shown front (omega arith)
              in absurd (some_none _ (sym none ∙ here))
        ]
      where
        some_none : (y : List ℕ) → None ≡ Some y → ⊥
        some_none y e = cc
