-- The first collision of an accepted growth: the headers, then the texts, part by part.
use Rattle.std.proofs.Common.{◌≡◌, ◌∙◌, ℕ, ◌≤◌, List, ◌∷◌, length, take, reverse, true, Option, Some, None, MatchOption, refl, sym, ap, ap₂, subst, arith}
use Rattle.std.specs.List.{flat_map}
use Rattle.std.specs.Option.{option_map}
use Rattle.std.specs.Str.{bytes_eq}
use Rattle.std.proofs.Math.Seq.{take-length}
use Rattle.std.proofs.lemmas.Bool.{cond-false}
use Rattle.std.proofs.lemmas.Option.{MatchOption-at_none}
use Rattle.std.proofs.lemmas.Slice.Eq.{bytes_eq-Decides}
use Rattle.ats_commit.specs.Archive.{Archive}
use Rattle.ats_commit.specs.Own.{AreTexts}
use Rattle.ats_commit.specs.Root.{header_string, root_of}
use Rattle.ats_commit.specs.Inner.Root.{own_header_string, HasOwnHeader}
use Rattle.ats_commit.proofs.Public.{own_numbers}
use Rattle.ats_dict.specs.declared.header.Header.{Header}
use Rattle.ats_lists.specs.declared.format.Format.{Format}
use Rattle.ats_tree.specs.Differences.{Hashed, Difference, first_difference}
use Rattle.ats_tree.specs.Strings.{string_at}
use Rattle.ats_tree.specs.Tree.{tree_of}
use Rattle.ats_tree.proofs.Public.{difference-collides}
use Rattle.ats_growth_check.specs.Headline.{HasGrown, IsPrefix}
use Rattle.ats_growth_check.specs.Rules.{AcceptsGrowth, digests_needed}
use Rattle.ats_growth_check.specs.Shape.{turns, need}
use Rattle.ats_growth_check.specs.Strings.{Beside, beside, header_pair, new_strings, old_strings, ranges, range_pairs, pairs, second_of, growth_collision, part_of}
use Rattle.ats_growth_check.specs.Value.{Growth, IsGrowth, IsInRange, AreInRange}
use Rattle.ats_growth_check.specs.declared.checking.Grown.{Grown}
use Rattle.ats_growth_check.proofs.Public.{growth-binds}
use Rattle.ats_growth_proof.specs.Inner.Compared.{taken, AreCompared}
use Rattle.ats_growth_proof.specs.Inner.Found.{IsHeaderCollision, new_pairs, old_pairs, shared_pairs, texts_pairs, difference_of}
use Rattle.ats_growth_proof.specs.Inner.FirstDifference.{Two, first_unlike, strings_of, in_part}
use Rattle.ats_growth_proof.specs.Verdicts.{IsFoundGrown}
use Rattle.ats_growth_proof.specs.declared.auditing.Collided.{Collided}
use Rattle.ats_growth_proof.specs.declared.joining.Compared.{Compared}
use Rattle.ats_growth_proof.specs.declared.joining.FirstDifference.{FirstDifference}
use Rattle.ats_growth_proof.proofs.Completeness.{prefix-shares}
use Rattle.ats_growth_proof.proofs.HonestStrings.{past-header}
use Rattle.ats_growth_proof.proofs.Ranging.{none-shared}
use Rattle.ats_growth_proof.proofs.Told.{in-moved, in-ranges, in-first, in-second, in-third}
use Rattle.ats_growth_proof.proofs.FirstDifferences.{unlike-moved}

-- ---- the headers

-- as many texts were read as the header says
pub same-number : (H : List ℕ → List ℕ) → ((m : List ℕ) → length (H m) ≡ 32) → (archive : Archive) (format : Format) (header : Header) → AreTexts archive.texts
    → IsInRange header → HasOwnHeader H archive format header → (texts : List (List ℕ)) (n : ℕ) → texts ≡ archive.texts → n ≡ length texts → n ≡ header.documents
same-number H sized archive format header are range equal texts n own many =
    many ∙ ap length own ∙ sym (own_numbers H sized archive format header are range equal).number

module _ (H : List ℕ → List ℕ) (older newer : Archive) (g : Growth) where
  abbrev first : Hashed Beside
  first = header_pair H 1 (header_string g.old_format g.old) older

  abbrev second : Hashed Beside
  second = header_pair H 2 (header_string g.new_format g.new) newer

  abbrev texts : List (Hashed Beside)
  texts = texts_pairs H older newer g

  -- a header that differs
  told-header : (part : ℕ) (archive : Archive) (format : Format) (header : Header) (rest : List (Hashed Beside)) (c : Collided) → IsHeaderCollision H part archive format header c
      → Some (difference_of c) ≡ first_difference second_of (header_pair H part (header_string format header) archive ∷ rest)
  told-header part archive format header rest c is =
      (λ i. Some (in_part (is.place i) (record { first = is.first i; second = is.second i })))
      ∙ sym (cond-false (bytes_eq (own_header_string H archive) (header_string format header)) (first_difference second_of rest) _ is.differs)

  pub told-old : (c : Collided) → IsHeaderCollision H 1 older g.old_format g.old c → Some (difference_of c) ≡ first_difference second_of (pairs H older newer g)
  told-old c is = told-header 1 older g.old_format g.old (second ∷ texts) c is

  past-old : HasOwnHeader H older g.old_format g.old → first_difference second_of (pairs H older newer g) ≡ first_difference second_of (second ∷ texts)
  past-old equal =
      past-header (own_header_string H older) first (first_difference second_of (second ∷ texts)) refl
      ((bytes_eq-Decides (own_header_string H older) (header_string g.old_format g.old)).0 equal)

  pub told-new : (c : Collided) → HasOwnHeader H older g.old_format g.old → IsHeaderCollision H 2 newer g.new_format g.new c
      → Some (difference_of c) ≡ first_difference second_of (pairs H older newer g)
  told-new c equal is = told-header 2 newer g.new_format g.new texts c is ∙ sym (past-old equal)

  pub past-headers : HasOwnHeader H older g.old_format g.old → HasOwnHeader H newer g.new_format g.new
      → first_difference second_of texts ≡ first_difference second_of (pairs H older newer g)
  past-headers equal same =
      sym (past-old equal ∙ past-header (own_header_string H newer) second (first_difference second_of texts) refl
      ((bytes_eq-Decides (own_header_string H newer) (header_string g.new_format g.new)).0 same))

  -- ---- the first difference is the first collision

  module _ (sized : (m : List ℕ) → length (H m) ≡ 32) (old_are : AreTexts older.texts) (new_are : AreTexts newer.texts) (range : AreInRange g)
      (accepts : AcceptsGrowth H (root_of H older) (root_of H newer) g) where
    pub collision_is_difference : first_difference second_of (pairs H older newer g) ≡ growth_collision H older newer g
    collision_is_difference =
        sym (difference-collides H (HasGrown older newer g.old.documents g.new.documents) second_of (pairs H older newer g)
        (growth-binds H sized older newer g old_are new_are range accepts))

    -- without a collision nothing was withdrawn
    pub grown_or_none : growth_collision H older newer g ≡ None → HasGrown older newer g.old.documents g.new.documents
    grown_or_none none =
        let Grown : Type 0 = HasGrown older newer g.old.documents g.new.documents
        in subst (λ (o : Option (Difference Beside)). MatchOption o Grown (λ c. H c.theirs ≡ H c.ours)) (collision_is_difference ∙ none)
        (growth-binds H sized older newer g old_are new_are range accepts)

-- a header that does not differ is the archive's own
pub own-header : (H : List ℕ → List ℕ) (part : ℕ) (archive : Archive) (f format : Format) (h header : Header) (o : Option Collided) → f ≡ format → h ≡ header → o ≡ None
    → MatchOption o (HasOwnHeader H archive f h) (IsHeaderCollision H part archive f h) → HasOwnHeader H archive format header
own-header H part archive f format h header o same also none found =
    (λ i. bytes_eq (own_header_string H archive) (header_string ((sym same) i) ((sym also) i)))
    ∙ MatchOption-at_none (HasOwnHeader H archive f h) (IsHeaderCollision H part archive f h) none found

-- without a collision the growth is found right
pub found-grown : (H : List ℕ → List ℕ) → ((m : List ℕ) → length (H m) ≡ 32) → (older newer : Archive) (bytes : List ℕ) (g : Growth) (grown : Grown)
    → AreTexts older.texts → AreTexts newer.texts → IsGrowth bytes g → (old new : List ℕ) → old ≡ root_of H older → new ≡ root_of H newer → AcceptsGrowth H old new g
    → (grown.old ≡ g.old.documents) × (grown.new ≡ g.new.documents) → AreInRange g → growth_collision H older newer g ≡ None → IsFoundGrown H older newer bytes grown
found-grown H sized older newer bytes g grown old_are new_are says old new is_old is_new accepts numbers range none =
    let under : AcceptsGrowth H (root_of H older) (root_of H newer) g =
    subst (λ (root : List ℕ). AcceptsGrowth H root (root_of H newer) g) is_old (subst (λ (root : List ℕ). AcceptsGrowth H old root g) is_new accepts)
    in let grows : HasGrown older newer g.old.documents g.new.documents = grown_or_none H older newer g sized old_are new_are range under none
    in record {
      growth = g;
      accepted = record { says = says; accepts = under };
      none = none;
      grows = record { old = grows.old ∙ sym numbers.0; new = grows.new ∙ sym numbers.1; prefix = grows.prefix };
    }

-- ---- the texts

-- the digests are as many as the comparison takes
pub needed-all : (g : Growth) (m n : ℕ) (ds : List (List ℕ)) → m ≡ g.old.documents → n ≡ g.new.documents → ds ≡ g.digests
    → length g.digests ≡ digests_needed g.old.documents g.new.documents → need (turns m n) true ≤ length ds
needed-all g m n ds many_old many_new same many =
    omega (arith, many, ap length same, ap₂ (λ (x y : ℕ). need (turns x y) true) many_old many_new)

-- all texts, as the comparison has them
whole : (texts own : List (List ℕ)) (n : ℕ) → texts ≡ own → n ≡ length texts → part_of 0 n texts ≡ tree_of own
whole texts own n same all = ap (λ (k : ℕ). tree_of (take k texts)) all ∙ ap tree_of (take-length texts ∙ same)

module _ (H : List ℕ → List ℕ) (older newer : Archive) (g : Growth) where
  abbrev Found : Option (Difference Beside) → Type 0
  Found o = o ≡ first_difference second_of (texts_pairs H older newer g)

  abbrev InNew : Option FirstDifference → Type 0
  InNew o = option_map strings_of o ≡ first_unlike second_of (new_pairs H newer g)

  abbrev InOld : Option FirstDifference → Type 0
  InOld o = option_map strings_of o ≡ first_unlike second_of (old_pairs H older g)

  abbrev InShared : Option FirstDifference → Type 0
  InShared o = option_map strings_of o ≡ first_unlike second_of (shared_pairs H older newer g)

  -- ---- the first difference, from the parts

  in_3 : first_difference second_of (new_pairs H newer g) ≡ option_map (in_part 3) (first_unlike second_of (new_pairs H newer g))
  in_3 = in-moved H 3 (tree_of newer.texts) (new_strings H g.old.texts_root (turns g.old.documents g.new.documents) true (reverse g.digests))

  in_4 : first_difference second_of (old_pairs H older g) ≡ option_map (in_part 4) (first_unlike second_of (old_pairs H older g))
  in_4 = in-moved H 4 (tree_of older.texts) (old_strings H g.old.texts_root (turns g.old.documents g.new.documents) true (reverse g.digests))

  in_5 : first_difference second_of (shared_pairs H older newer g) ≡ option_map (in_part 5) (first_unlike second_of (shared_pairs H older newer g))
  in_5 = in-ranges H (ranges (turns g.old.documents g.new.documents) (tree_of older.texts) (tree_of newer.texts))

  none-of : (o : Option FirstDifference) (found : Option Two) → option_map strings_of o ≡ found → o ≡ None → found ≡ None
  none-of o found is none = sym is ∙ ap (option_map strings_of) none

  pub found-new : (o : Option FirstDifference) (unlike : FirstDifference) → InNew o → o ≡ Some unlike → Found (Some (in_part 3 (strings_of unlike)))
  found-new o unlike is some =
      sym (in-first (new_pairs H newer g) (old_pairs H older g) (shared_pairs H older newer g) 3 4 5 in_3 in_4 in_5 (strings_of unlike) (sym is ∙ ap (option_map strings_of) some))

  pub found-old : (o p : Option FirstDifference) (unlike : FirstDifference) → InNew o → o ≡ None → InOld p → p ≡ Some unlike → Found (Some (in_part 4 (strings_of unlike)))
  found-old o p unlike is none also some =
      sym (in-second (new_pairs H newer g) (old_pairs H older g) (shared_pairs H older newer g) 3 4 5 in_3 in_4 in_5 (strings_of unlike)
      (none-of o (first_unlike second_of (new_pairs H newer g)) is none) (sym also ∙ ap (option_map strings_of) some))

  pub found-shared : (o p q : Option FirstDifference) → InNew o → o ≡ None → InOld p → p ≡ None → InShared q → Found (option_map (in_part 5) (option_map strings_of q))
  found-shared o p q is none also none' last =
      sym (in-third (new_pairs H newer g) (old_pairs H older g) (shared_pairs H older newer g) 3 4 5 in_3 in_4 in_5 (option_map strings_of q)
      (none-of o (first_unlike second_of (new_pairs H newer g)) is none) (none-of p (first_unlike second_of (old_pairs H older g)) also none') (sym last))

  -- ---- the parts, from the comparison of all texts

  module _ (olds news : List (List ℕ)) (m n : ℕ) (own_old : olds ≡ older.texts) (own_new : news ≡ newer.texts)
      (many_old : m ≡ g.old.documents) (many_new : n ≡ g.new.documents) (all_old : m ≡ length olds) (all_new : n ≡ length news) where
    module _ (root : List ℕ) (ds left : List (List ℕ)) (c : Compared) (same_root : root ≡ g.old.texts_root) (same : ds ≡ g.digests)
        (many : length g.digests ≡ digests_needed g.old.documents g.new.documents)
        (is : AreCompared H root (turns m n) true ds (part_of 0 m olds) (part_of 0 n news) c left) where
      all-taken : taken (turns m n) true ds ≡ reverse g.digests
      all-taken =
          (λ i. reverse (take (need (turns (many_old i) (many_new i)) true) (same i)))
          ∙ ap (λ (k : ℕ). reverse (take k g.digests)) (sym many) ∙ ap reverse (take-length g.digests)

      pub compared-new : InNew c.new.unlike
      compared-new =
          is.new_unlike
          ∙ (λ i. first_unlike (string_at H (whole news newer.texts n own_new all_new i)) (new_strings H (same_root i) (turns (many_old i) (many_new i)) true (all-taken i)))
          ∙ sym (unlike-moved (beside H 3 (tree_of newer.texts)) second_of (new_strings H g.old.texts_root (turns g.old.documents g.new.documents) true (reverse g.digests)))

      pub compared-old : InOld c.old.unlike
      compared-old =
          is.old_unlike
          ∙ (λ i. first_unlike (string_at H (whole olds older.texts m own_old all_old i)) (old_strings H (same_root i) (turns (many_old i) (many_new i)) true (all-taken i)))
          ∙ sym (unlike-moved (beside H 4 (tree_of older.texts)) second_of (old_strings H g.old.texts_root (turns g.old.documents g.new.documents) true (reverse g.digests)))

    pub compared-shared : (o : Option FirstDifference) → option_map strings_of o ≡ first_unlike second_of (flat_map (range_pairs H) (ranges (turns m n) (part_of 0 m olds) (part_of 0 n news)))
        → InShared o
    compared-shared o is =
        is ∙ (λ i. first_unlike second_of
        (flat_map (range_pairs H) (ranges (turns (many_old i) (many_new i)) (whole olds older.texts m own_old all_old i) (whole news newer.texts n own_new all_new i))))

    -- texts of which none is withdrawn differ in no range
    pub prefix-shared : 1 ≤ m → IsPrefix olds news → InShared None
    prefix-shared some prefix =
        let is : IsPrefix older.texts newer.texts = subst (λ (xs : List (List ℕ)). IsPrefix xs newer.texts) own_old (subst (λ (ys : List (List ℕ)). IsPrefix olds ys) own_new prefix)
        in let some' : 1 ≤ length older.texts = omega (arith, some, all_old, ap length own_old)
        in let old : length older.texts ≡ g.old.documents = sym (sym many_old ∙ all_old ∙ ap length own_old)
        in let new : length newer.texts ≡ g.new.documents = sym (sym many_new ∙ all_new ∙ ap length own_new)
        in sym (none-shared H (turns (length older.texts) (length newer.texts)) (tree_of older.texts) (tree_of newer.texts) (prefix-shares older.texts newer.texts is some'))
        ∙ (λ i. first_unlike second_of (flat_map (range_pairs H) (ranges (turns (old i) (new i)) (tree_of older.texts) (tree_of newer.texts))))
