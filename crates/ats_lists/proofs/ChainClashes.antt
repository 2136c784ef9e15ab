-- The first collision of the strings of a list in blocks, from those of its blocks.
use Rattle.std.proofs.Common.{◌≡◌, ℕ, zero, suc, ◌+◌, ◌-◌, ◌*◌, ◌%◌, ◌^◌, ◌<◌, ◌≤◌, List, [], ◌∷◌, ◌++◌, length, map, drop, min, true, false, refl, sym, ◌∙◌, ap, ap₂, arith, inl, inr, Option, Some, None, All, IsSome, IfSome, get_or}
use Rattle.std.specs.List.{range_with_len, flat_map}
use Rattle.std.specs.Option.{option_map, option_or, is_some}
use Rattle.std.proofs.Math.Seq.{drop-cons}
use Rattle.std.proofs.Math.Nat.{mod-eq_of_lt}
use Rattle.std.proofs.lemmas.Bool.{cond-true, cond-false, cases_lt, le-leb, lt-leb}
use Rattle.std.proofs.lemmas.List.Concat.{flat_map-cons}
use Rattle.std.proofs.lemmas.List.FromFn.{get_or-map-range_with_len}
use Rattle.ats_tree.specs.Tree.{tree_of}
use Rattle.ats_tree.specs.Shown.{Shown, places}
use Rattle.ats_tree.specs.Paths.{Path, path_of, number_of}
use Rattle.ats_tree.specs.Nodes.{Node, by_path, NodeNumbers}
use Rattle.ats_tree.specs.Differences.{Hashed, moved, Difference, collision_or, first_collision}
use Rattle.ats_tree.specs.Clashes.{difference_of}
use Rattle.ats_tree.specs.Part.{shown_from as left_from}
use Rattle.ats_tree.specs.Rebuild.{need}
use Rattle.ats_tree.specs.Strings.{strings}
use Rattle.ats_tree.specs.declared.clashing.Clash.{Clash}
use Rattle.ats_tree.proofs.Public.{collision-append, moved_collision, collision-moved, collision_or-or, collision-alike, collision-own, length-path_of, number_of-path_of, part-shallow}
use Rattle.ats_lists.specs.Blocks.{blocks_in, items_in, blocks_from}
use Rattle.ats_lists.specs.Chain.{link, chain_digest}
use Rattle.ats_lists.specs.ChainPrefix.{block_tree, block_need, block_root, next_digest, tree_strings, block_strings, chain_strings}
use Rattle.ats_lists.proofs.BlockLemmas.{IsShownFront, taken, taken-none, taken-all, taken-next, block-left}
use Rattle.ats_lists.specs.ChainClash.{list_difference_of}
use Rattle.ats_lists.specs.Inner.ChainClash.{numbers_in, ours_in, tree_collision, IsFirstInTrees, link_at}

-- ---- one block's tree

-- our string at a node of a block's tree, by the number of its turns
pub own-node : (ours : NodeNumbers → Option (List ℕ)) (j depth turns : ℕ) → depth ≤ 6
    → ours_in ours j (by_path (path_of depth turns)) ≡ ours (record { depth = 1 + depth; turns = 64 * j + turns % 2 ^ depth })
own-node ours j depth turns few =
    let deep : length (path_of depth turns) ≤ 6 = omega (arith, length-path_of depth turns)
    in cond-true _ _ _ (le-leb (length (path_of depth turns)) 6 deep)
    ∙ ap₂ (λ (d n : ℕ). ours (record { depth = 1 + d; turns = 64 * j + n })) (length-path_of depth turns) (number_of-path_of depth turns)

-- no node is deeper
pub no-node : (ours : NodeNumbers → Option (List ℕ)) (j depth turns : ℕ) → 6 < depth → None ≡ ours_in ours j (by_path (path_of depth turns))
no-node ours j depth turns deep =
    let deeper : 6 < length (path_of depth turns) = omega (arith, length-path_of depth turns)
    in sym (cond-false _ _ _ (lt-leb (length (path_of depth turns)) 6 deeper))

-- a node of which we have a string is at most 6 deep
has-node : (ours : NodeNumbers → Option (List ℕ)) (j : ℕ) (path : Path) (own : List ℕ) → ours_in ours j (by_path path) ≡ Some own → length path ≤ 6
has-node ours j path own is =
    elim (cases_lt 6 (length path)) [
      | inl deep ↦ absurd (none (sym (cond-false _ _ _ (lt-leb (length path) 6 deep)) ∙ is))
      | inr few ↦ few
    ]
  where
    none : None ≡ Some own → ⊥
    none e = absurd (cc)

module _ (H : List ℕ → List ℕ) (ours : NodeNumbers → Option (List ℕ)) (j : ℕ) (ss : List (Hashed Path)) (shallow : All (λ s. length s.place ≤ 6) ss) where
  -- the first collision, with paths for places
  abbrev by_paths : Option (Difference Path)
  by_paths = first_collision H (λ p. ours_in ours j (by_path p)) ss

  in_tree : first_collision H (ours_in ours j) (map (moved by_path) ss) ≡ option_map (moved_collision by_path) by_paths
  in_tree = collision-moved H by_path (ours_in ours j) ss

  alike : (p : Path) → length p ≤ 6 → ours (numbers_in j p) ≡ ours_in ours j (by_path p)
  alike p few = sym (cond-true _ _ _ (le-leb (length p) 6 few))

  in_list : first_collision H ours (map (moved (numbers_in j)) ss) ≡ option_map (moved_collision (numbers_in j)) by_paths
  in_list =
      collision-moved H (numbers_in j) ours ss
      ∙ ap (option_map (moved_collision (numbers_in j)))
      (collision-alike H (λ p. ours (numbers_in j p)) (λ p. ours_in ours j (by_path p)) ss (λ k d at. alike (get_or ss k d).place (shallow k d at)))

-- the tree has no collision
pub no-clash : (H : List ℕ → List ℕ) (ours : NodeNumbers → Option (List ℕ)) (j : ℕ) (ss : List (Hashed Path)) → All (λ s. length s.place ≤ 6) ss
    → None ≡ first_collision H (ours_in ours j) (map (moved by_path) ss) → None ≡ first_collision H ours (map (moved (numbers_in j)) ss)
no-clash H ours j ss shallow none =
    sym (in_list H ours j ss shallow ∙ still (by_paths H ours j ss shallow) (none ∙ in_tree H ours j ss shallow))
  where
    still : (c : Option (Difference Path)) → None ≡ option_map (moved_collision by_path) c → option_map (moved_collision (numbers_in j)) c ≡ None
    still None e = refl
    still (Some d) e = absurd (cc)

-- a clash in the tree of block j, with these numbers, is one of the list
abbrev in_list_at : ℕ → Clash (List ℕ) → Difference NodeNumbers
in_list_at j clash =
    record { place = record { depth = 1 + clash.depth; turns = 64 * j + clash.turns }; ours = clash.ours; theirs = clash.theirs }

pub record IsTreeClash (H : List ℕ → List ℕ) (ours : NodeNumbers → Option (List ℕ)) (j : ℕ) (ss : List (Hashed Path)) (clash : Clash (List ℕ)) : Type 0 where
  pub few : clash.depth ≤ 6
  pub inside : clash.turns < 2 ^ clash.depth
  pub value : Some (in_list_at j clash) ≡ first_collision H ours (map (moved (numbers_in j)) ss)

same-value : {X : Type 0} (x y : X) → Some x ≡ Some y → x ≡ y
same-value x y e = cc

same-node : (p q : Path) → by_path p ≡ by_path q → p ≡ q
same-node p q e = cc

tree-clash : (H : List ℕ → List ℕ) (ours : NodeNumbers → Option (List ℕ)) (j : ℕ) (ss : List (Hashed Path)) (clash : Clash (List ℕ)) → All (λ s. length s.place ≤ 6) ss
    → clash.turns < 2 ^ clash.depth → Some (difference_of (λ s. s) clash) ≡ first_collision H (ours_in ours j) (map (moved by_path) ss)
    → IsTreeClash H ours j ss clash
tree-clash H ours j ss clash shallow inside is =
    let own : ours_in ours j (by_path (path_of clash.depth clash.turns)) ≡ Some clash.ours =
    collision-own H (ours_in ours j) (map (moved by_path) ss) (difference_of (λ s. s) clash) (sym is)
    in let deep : length (path_of clash.depth clash.turns) ≤ 6 = has-node ours j (path_of clash.depth clash.turns) clash.ours own
    in record {
      few = omega (arith, length-path_of clash.depth clash.turns);
      inside = inside;
      value = sym (in_list H ours j ss shallow ∙ some (by_paths H ours j ss shallow) (is ∙ in_tree H ours j ss shallow));
    }
  where
    at : number_of (path_of clash.depth clash.turns) ≡ clash.turns
    at = number_of-path_of clash.depth clash.turns ∙ mod-eq_of_lt inside

    some : (c : Option (Difference Path)) → Some (difference_of (λ s. s) clash) ≡ option_map (moved_collision by_path) c
        → option_map (moved_collision (numbers_in j)) c ≡ Some (in_list_at j clash)
    some None e = absurd (cc)
    some (Some d) e =
        let same : difference_of (λ s. s) clash ≡ moved_collision by_path d = same-value (difference_of (λ s. s) clash) (moved_collision by_path d) e
        in let path : d.place ≡ path_of clash.depth clash.turns = sym (same-node (path_of clash.depth clash.turns) d.place (ap (λ (x : Difference Node). x.place) same))
        in let a : d.ours ≡ clash.ours = sym (ap (λ (x : Difference Node). x.ours) same)
        in let b : d.theirs ≡ clash.theirs = sym (ap (λ (x : Difference Node). x.theirs) same)
        in let depth : length d.place ≡ clash.depth = ap length path ∙ length-path_of clash.depth clash.turns
        in let turns : number_of d.place ≡ clash.turns = ap number_of path ∙ at
        in rw (depth, turns, a, b) refl

-- a clash that is found in the part of the tree in block j
pub part-clash : (H : List ℕ → List ℕ) (ours : NodeNumbers → Option (List ℕ)) (j n : ℕ) (shown : List Shown) (ds : List (List ℕ))
    (found : Option (Clash (List ℕ))) (clash : Clash (List ℕ)) → n ≤ 2 ^ 6 → found ≡ Some clash → IfSome found (λ c. c.turns < 2 ^ c.depth)
    → option_map (difference_of (λ s. s)) found ≡ first_collision H (ours_in ours j) (map (moved by_path) (strings H (tree_of (places (64 * j) n shown)) ds))
    → IsTreeClash H ours j (strings H (tree_of (places (64 * j) n shown)) ds) clash
part-clash H ours j n shown ds found clash few is place same =
    tree-clash H ours j (strings H (tree_of (places (64 * j) n shown)) ds) clash (part-shallow H 6 (64 * j) n shown ds few)
    (rw is at place) (ap (option_map (difference_of (λ s. s))) (sym is) ∙ same)

-- ---- all blocks

-- nothing is known of the trees of no blocks
pub first-start : (H : List ℕ → List ℕ) (ours : NodeNumbers → Option (List ℕ)) (f : ℕ) (shown : List Shown) (ds : List (List ℕ)) (b : ℕ)
    → IsFirstInTrees H ours f shown ds 0 b None
first-start H ours f shown ds b = record { before = λ i less low. absurd (omega arith); there = λ low. absurd (omega arith); none = λ past. refl }

-- block n has the first collision
pub first-here : (H : List ℕ → List ℕ) (ours : NodeNumbers → Option (List ℕ)) (f : ℕ) (shown : List Shown) (ds : List (List ℕ)) (n b : ℕ) (c : Difference NodeNumbers)
    → n ≤ b → IsFirstInTrees H ours f shown ds n b None → Some c ≡ tree_collision H ours f shown ds n
    → IsFirstInTrees H ours f shown ds (n + 1) n (Some c)
first-here H ours f shown ds n b c ahead is here = record {
  before = λ (i : ℕ) (less : i < n) (low : i < n + 1). let less' : i < b = omega arith in is.before i less' less;
  there = λ (low : n < n + 1). (refl, here);
  none = λ (past : n + 1 ≤ n). absurd (omega arith);
}

-- block n has none, and none was found before it
pub first-later : (H : List ℕ → List ℕ) (ours : NodeNumbers → Option (List ℕ)) (f : ℕ) (shown : List Shown) (ds : List (List ℕ)) (n b : ℕ) (c : Option (Difference NodeNumbers))
    → n + 1 ≤ b → IsFirstInTrees H ours f shown ds n b c → None ≡ tree_collision H ours f shown ds n
    → IsFirstInTrees H ours f shown ds (n + 1) b c
first-later H ours f shown ds n b c ahead is none = record {
  before = λ (i : ℕ) (less : i < b) (low : i < n + 1). elim (cases_lt i n) [
    | inl inside ↦ is.before i less inside
    | inr end ↦ let at : i ≡ n = omega arith in ap (tree_collision H ours f shown ds) at ∙ sym none
  ];
  there = λ (low : b < n + 1). absurd (omega arith);
  none = λ (past : n + 1 ≤ b). let past' : n ≤ b = omega arith in is.none past';
}

-- one was found before block n
pub first-found : (H : List ℕ → List ℕ) (ours : NodeNumbers → Option (List ℕ)) (f : ℕ) (shown : List Shown) (ds : List (List ℕ)) (n b : ℕ) (c : Option (Difference NodeNumbers))
    → b < n → IsFirstInTrees H ours f shown ds n b c → IsFirstInTrees H ours f shown ds (n + 1) b c
first-found H ours f shown ds n b c low is = record {
  before = λ (i : ℕ) (less : i < b) (end : i < n + 1). let inside : i < n = omega arith in is.before i less inside;
  there = λ (low' : b < n + 1). is.there low;
  none = λ (past : n + 1 ≤ b). absurd (omega arith);
}

-- the block that is searched next has the digests that it needs
pub block-enough : (f j n : ℕ) (shown shown₁ : List Shown) (ds ds₁ : List (List ℕ))
    → IsShownFront shown → j < blocks_in (length shown) → n ≡ items_in f j
    → shown₁ ≡ left_from (64 * j) shown → ds₁ ≡ drop (taken f shown j) ds → block_need f shown ≤ length ds
    → need (tree_of (places (64 * j) n shown₁)) ≤ length ds₁
block-enough f j n shown shown₁ ds ds₁ is less count left digests enough =
    let t : tree_of (places (64 * j) n shown₁) ≡ block_tree f shown j = block-left f j n shown shown₁ left count
    in let all : ds₁ ≡ ds = digests ∙ ap (λ m. drop m ds) (taken-none f j shown less)
    in let needs : need (tree_of (places (64 * j) n shown₁)) ≡ taken f shown (j + 1) = ap need t ∙ sym (taken-next f j shown is less)
    in let size : length ds₁ ≡ length ds = ap length all
    in elim (cases_lt (j + 1) (blocks_in (length shown))) [
      | inl more ↦ omega (arith, taken-none f (j + 1) shown more)
      | inr end ↦ omega (arith, taken-all f (j + 1) shown end)
    ]

-- its first collision is that of the block
pub block-collision : (H : List ℕ → List ℕ) (ours : NodeNumbers → Option (List ℕ)) (f j n : ℕ) (shown shown₁ : List Shown) (ds ds₁ : List (List ℕ))
    (found : Option (Difference NodeNumbers)) → j < blocks_in (length shown) → n ≡ items_in f j
    → shown₁ ≡ left_from (64 * j) shown → ds₁ ≡ drop (taken f shown j) ds
    → found ≡ first_collision H ours (map (moved (numbers_in j)) (strings H (tree_of (places (64 * j) n shown₁)) ds₁))
    → found ≡ tree_collision H ours f shown ds j
block-collision H ours f j n shown shown₁ ds ds₁ found less count left digests is =
    let all : ds₁ ≡ ds = digests ∙ ap (λ m. drop m ds) (taken-none f j shown less)
    in is ∙ ap₂ (λ t es. first_collision H ours (map (moved (numbers_in j)) (strings H t es))) (block-left f j n shown shown₁ left count) all

module _ (H : List ℕ → List ℕ) (ours : NodeNumbers → Option (List ℕ)) (f : ℕ) (shown : List Shown) (ds : List (List ℕ)) (n b : ℕ) where
  -- the first clash of block n, if none was found before it
  pub first-taken : (old tree : Option (Clash (List ℕ))) → is_some old ≡ false → is_some tree ≡ true
      → IsFirstInTrees H ours f shown ds n b (option_map list_difference_of old) → option_map list_difference_of tree ≡ tree_collision H ours f shown ds n
      → IsFirstInTrees H ours f shown ds (n + 1) n (option_map list_difference_of tree)
  first-taken (Some x) tree none some is here = absurd (cc)
  first-taken None None none some is here = absurd (cc)
  first-taken None (Some clash) none some is here =
      elim (cases_lt b n) [
        | inl low ↦ absurd (no-some (is.there low).0)
        | inr ahead ↦ first-here H ours f shown ds n b (list_difference_of clash) ahead is here
      ]
    where
      no-some : IsSome {T = Difference NodeNumbers} None → ⊥
      no-some e = absurd (cc)

  -- block n has none, nor has any before it
  pub first-none : (end : ℕ) (old tree : Option (Clash (List ℕ))) → is_some old ≡ false → is_some tree ≡ false → n < end → (n ≤ b → end ≤ b)
      → IsFirstInTrees H ours f shown ds n b (option_map list_difference_of old) → option_map list_difference_of tree ≡ tree_collision H ours f shown ds n
      → IsFirstInTrees H ours f shown ds (n + 1) b (option_map list_difference_of old)
  first-none end (Some x) tree none some inside past is here = absurd (cc)
  first-none end None (Some x) none some inside past is here = absurd (cc)
  first-none end None None none some inside past is here =
      elim (cases_lt b n) [
        | inl low ↦ first-found H ours f shown ds n b None low is
        | inr ahead ↦ let more : n + 1 ≤ b = omega (arith, past ahead) in first-later H ours f shown ds n b None more is here
      ]

  -- one was found before block n
  pub first-kept : (old : Option (Clash (List ℕ))) → is_some old ≡ true
      → IsFirstInTrees H ours f shown ds n b (option_map list_difference_of old)
      → IsFirstInTrees H ours f shown ds (n + 1) b (option_map list_difference_of old)
  first-kept None some is = absurd (cc)
  first-kept (Some clash) some is =
      elim (cases_lt b n) [
        | inl low ↦ first-found H ours f shown ds n b (Some (list_difference_of clash)) low is
        | inr ahead ↦ absurd (some-none (list_difference_of clash) (is.none ahead))
      ]
    where
      some-none : (d : Difference NodeNumbers) → Some d ≡ None → ⊥
      some-none d e = absurd (cc)

-- ---- a block's string before its tree

-- the digest of one more block
pub link-digest : (H : List ℕ → List ℕ) (roots : List (List ℕ)) (next : List ℕ) (i k : ℕ) (digest x : List ℕ) → i + 1 ≡ k → i < length roots
    → x ≡ H (link (get_or roots i []) digest) → digest ≡ chain_digest H (drop k roots) next → x ≡ chain_digest H (drop i roots) next
link-digest H roots next i k digest x up inside is linked =
    let up' : k ≡ suc i = omega arith
    in is ∙ ap (λ d. H (link (get_or roots i []) d)) (linked ∙ ap (λ b. chain_digest H (drop b roots) next) up')
    ∙ sym (ap (λ rs. chain_digest H rs next) (drop-cons roots i [] inside))

-- one more string before those of the blocks after it
pub link-more : (H : List ℕ → List ℕ) (ours : NodeNumbers → Option (List ℕ)) (roots : List (List ℕ)) (next : List ℕ) (i k m : ℕ) (text digest : List ℕ)
    (found later c : Option (Difference NodeNumbers)) → i + 1 ≡ k → i < m
    → text ≡ link (get_or roots i []) digest → digest ≡ chain_digest H (drop k roots) next
    → later ≡ option_or (first_collision H ours (map (link_at H roots next) (range_with_len k (m - k)))) c
    → found ≡ collision_or H (ours (record { depth = 0; turns = 64 * i })) (record { place = record { depth = 0; turns = 64 * i }; text = text }) later
    → found ≡ option_or (first_collision H ours (map (link_at H roots next) (range_with_len i (m - i)))) c
link-more H ours roots next i k m text digest found later c up less string linked is here =
    let L : ℕ → Hashed NodeNumbers = link_at H roots next
    in let count : m - i ≡ suc (m - (i + 1)) = omega arith
    in let is' : later ≡ option_or (first_collision H ours (map L (range_with_len (i + 1) (m - (i + 1))))) c =
    is ∙ ap (λ b. option_or (first_collision H ours (map L (range_with_len b (m - b)))) c) (sym up)
    in let whole : text ≡ link (get_or roots i []) (chain_digest H (drop (i + 1) roots) next) =
    string ∙ ap (link (get_or roots i [])) (linked ∙ ap (λ b. chain_digest H (drop b roots) next) (sym up))
    in here
    ∙ ap₂ (λ t d. collision_or H (ours (L i).place) (record { place = (L i).place; text = t }) d) whole is'
    ∙ collision_or-or H (ours (L i).place) (L i) (first_collision H ours (map L (range_with_len (i + 1) (m - (i + 1))))) c
    ∙ sym (ap (λ n. option_or (first_collision H ours (map L (range_with_len i n))) c) count)

-- the strings of blocks, of which block b is the first whose tree has a collision
blocks-first : (H : List ℕ → List ℕ) (ours : NodeNumbers → Option (List ℕ)) (L : ℕ → Hashed NodeNumbers) (T : ℕ → List (Hashed NodeNumbers))
    (j n b : ℕ) (c : Option (Difference NodeNumbers)) → j ≤ b
    → ((i : ℕ) → i < b → i < j + n → first_collision H ours (T i) ≡ None)
    → (b < j + n → IsSome c × (c ≡ first_collision H ours (T b))) → (j + n ≤ b → c ≡ None)
    → first_collision H ours (flat_map (λ i. L i ∷ T i) (range_with_len j n))
    ≡ option_or (first_collision H ours (map L (range_with_len j (min n (b + 1 - j))))) c
blocks-first H ours L T j zero b c low before there none =
    let past : j + 0 ≤ b = omega arith
    in let nothing : min zero (b + 1 - j) ≡ 0 = omega arith
    in sym (ap (λ m. option_or (first_collision H ours (map L (range_with_len j m))) c) nothing ∙ none past)
blocks-first H ours L T j (suc n) b c low before there none =
    let rest : List (Hashed NodeNumbers) = flat_map (λ i. L i ∷ T i) (range_with_len (j + 1) n)
    in let split : first_collision H ours (flat_map (λ i. L i ∷ T i) (range_with_len j (suc n)))
    ≡ collision_or H (ours (L j).place) (L j) (option_or (first_collision H ours (T j)) (first_collision H ours rest)) =
    ap (first_collision H ours) (flat_map-cons (λ i. L i ∷ T i) j (range_with_len (j + 1) n))
    ∙ ap (collision_or H (ours (L j).place) (L j)) (collision-append H ours (T j) rest)
    in let count : min (suc n) (b + 1 - j) ≡ suc (min n (b + 1 - (j + 1))) = omega arith
    in let later : first_collision H ours (map L (range_with_len j (min (suc n) (b + 1 - j))))
    ≡ collision_or H (ours (L j).place) (L j) (first_collision H ours (map L (range_with_len (j + 1) (min n (b + 1 - (j + 1)))))) =
    ap (λ m. first_collision H ours (map L (range_with_len j m))) count
    in elim (cases_lt j b) [
      | inl less ↦
          let inside : j < j + suc n = omega arith
          in let low' : j + 1 ≤ b = omega arith
          in let end : j + 1 + n ≡ j + suc n = omega arith
          in let none' : j + 1 + n ≤ b → c ≡ None = λ past. none (omega arith)
          in let there' : b < j + 1 + n → IsSome c × (c ≡ first_collision H ours (T b)) = λ within. there (omega arith)
          in let before' : (i : ℕ) → i < b → i < j + 1 + n → first_collision H ours (T i) ≡ None = λ i under within. before i under (omega arith)
          in split
          ∙ ap (λ d. collision_or H (ours (L j).place) (L j) (option_or d (first_collision H ours rest))) (before j less inside)
          ∙ ap (collision_or H (ours (L j).place) (L j)) (blocks-first H ours L T (j + 1) n b c low' before' there' none')
          ∙ collision_or-or H (ours (L j).place) (L j) (first_collision H ours (map L (range_with_len (j + 1) (min n (b + 1 - (j + 1)))))) c
          ∙ ap (λ d. option_or d c) (sym later)
      | inr past ↦
          let here : b ≡ j = omega arith
          in let inside : b < j + suc n = omega arith
          in let found : c ≡ first_collision H ours (T j) = (there inside).1 ∙ ap (λ i. first_collision H ours (T i)) here
          in let one : min n (b + 1 - (j + 1)) ≡ 0 = omega arith
          in let only : first_collision H ours (map L (range_with_len j (min (suc n) (b + 1 - j)))) ≡ collision_or H (ours (L j).place) (L j) None =
          later ∙ ap (λ m. collision_or H (ours (L j).place) (L j) (first_collision H ours (map L (range_with_len (j + 1) m)))) one
          in split
          ∙ ap (collision_or H (ours (L j).place) (L j)) (ap (λ d. option_or d (first_collision H ours rest)) (sym found) ∙ it c (first_collision H ours rest) (there inside).0)
          ∙ collision_or-or H (ours (L j).place) (L j) None c
          ∙ ap (λ d. option_or d c) (sym only)
    ]
  where
    it : (c d : Option (Difference NodeNumbers)) → IsSome c → option_or c d ≡ c
    it None d some = absurd (cc)
    it (Some e) d some = refl

blocks-alike : (f g : ℕ → List (Hashed NodeNumbers)) (j n : ℕ) → ((i : ℕ) → i < j + n → f i ≡ g i)
    → flat_map f (range_with_len j n) ≡ flat_map g (range_with_len j n)
blocks-alike f g j zero same = refl
blocks-alike f g j (suc n) same =
    let here : j < j + suc n = omega arith
    in let later : (i : ℕ) → i < j + 1 + n → f i ≡ g i = λ i less. same i (omega arith)
    in flat_map-cons f j (range_with_len (j + 1) n)
    ∙ ap₂ (λ (a b : List (Hashed NodeNumbers)). a ++ b) (same j here) (blocks-alike f g (j + 1) n later)
    ∙ sym (flat_map-cons g j (range_with_len (j + 1) n))

drop-range : {X : Type 0} (f : ℕ → X) (a n k : ℕ) → k ≤ n → drop k (map f (range_with_len a n)) ≡ map f (range_with_len (a + k) (n - k))
drop-range f a n zero le = let at : a + 0 ≡ a = omega arith in let all : n - 0 ≡ n = omega arith in sym (ap₂ (λ b m. map f (range_with_len b m)) at all)
drop-range f a zero (suc k) le = absurd (omega arith)
drop-range f a (suc n) (suc k) le =
    let le' : k ≤ n = omega arith
    in let at : a + 1 + k ≡ a + suc k = omega arith
    in let left : n - k ≡ suc n - suc k = omega arith
    in drop-range f (a + 1) n k le' ∙ ap₂ (λ b m. map f (range_with_len b m)) at left

-- the string of a block, from the roots
link-of : (H : List ℕ → List ℕ) (f : ℕ) (shown : List Shown) (ds roots : List (List ℕ)) (next : List ℕ) (i : ℕ)
    → roots ≡ map (block_root H f shown ds) (range_with_len 0 (blocks_in (length shown))) → next ≡ next_digest f shown ds → i < blocks_in (length shown)
    → link_at H roots next i ∷ tree_strings H f shown ds i ≡ block_strings H f shown ds i
link-of H f shown ds roots next i is next_is less =
    let at : 0 + i ≡ i = omega arith
    in let root : get_or roots i [] ≡ block_root H f shown ds i =
    ap (λ rs. get_or rs i []) is ∙ get_or-map-range_with_len (block_root H f shown ds) 0 (blocks_in (length shown)) i i [] less at
    in let le : i + 1 ≤ blocks_in (length shown) = omega arith
    in let start : 0 + (i + 1) ≡ i + 1 = omega arith
    in let rest : drop (i + 1) roots ≡ map (block_root H f shown ds) (range_with_len (i + 1) (blocks_in (length shown) - (i + 1))) =
    ap (drop (i + 1)) is ∙ drop-range (block_root H f shown ds) 0 (blocks_in (length shown)) (i + 1) le
    ∙ ap (λ a. map (block_root H f shown ds) (range_with_len a (blocks_in (length shown) - (i + 1)))) start
    in rw (root, rest, next_is) refl

-- the first collision of all strings
pub chain-first : (H : List ℕ → List ℕ) (ours : NodeNumbers → Option (List ℕ)) (f : ℕ) (shown : List Shown) (ds roots : List (List ℕ)) (next : List ℕ)
    (n b : ℕ) (c found : Option (Difference NodeNumbers)) → n ≡ blocks_in (length shown)
    → roots ≡ map (block_root H f shown ds) (blocks_from (length shown) 0) → next ≡ next_digest f shown ds
    → IsFirstInTrees H ours f shown ds n b c
    → found ≡ option_or (first_collision H ours (map (link_at H roots next) (range_with_len 0 (min n (b + 1))))) c
    → found ≡ first_collision H ours (chain_strings H f shown ds)
chain-first H ours f shown ds roots next n b c found size is next_is first value =
    let low : 0 ≤ b = omega arith
    in let all : 0 + n ≡ n = omega arith
    in let none : 0 + n ≤ b → c ≡ None = λ past. first.none (omega arith)
    in let there : b < 0 + n → IsSome c × (c ≡ tree_collision H ours f shown ds b) = λ within. first.there (omega arith)
    in let before : (i : ℕ) → i < b → i < 0 + n → tree_collision H ours f shown ds i ≡ None = λ i under within. first.before i under (omega arith)
    in let count : min n (b + 1) ≡ min n (b + 1 - 0) = omega arith
    in let blocks : blocks_in (length shown) ≡ blocks_in (length shown) - 0 = omega arith
    in let is' : roots ≡ map (block_root H f shown ds) (range_with_len 0 (blocks_in (length shown))) =
    is ∙ ap (λ m. map (block_root H f shown ds) (range_with_len 0 m)) (sym blocks)
    in value
    ∙ ap (λ m. option_or (first_collision H ours (map (link_at H roots next) (range_with_len 0 m))) c) count
    ∙ sym (blocks-first H ours (link_at H roots next) (tree_strings H f shown ds) 0 n b c low before there none)
    ∙ ap (first_collision H ours)
    (blocks-alike (λ i. link_at H roots next i ∷ tree_strings H f shown ds i) (block_strings H f shown ds) 0 n
    (λ (i : ℕ) (less : i < 0 + n). link-of H f shown ds roots next i is' next_is (omega arith))
    ∙ ap (λ m. flat_map (block_strings H f shown ds) (range_with_len 0 m)) (size ∙ blocks))
