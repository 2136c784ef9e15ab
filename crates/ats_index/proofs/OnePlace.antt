-- Bytes have at most one place of fault, and an archive's index has none.
use Rattle.std.proofs.Common.{◌≡◌, ◌≢◌, ◌⊎◌, inl, inr, ◌<◌, ◌≤◌, ◌^◌, ◌+◌, ◌∙◌, ℕ, List, [], ◌∷◌, ◌++◌, length, drop, refl, sym, ap, ap₂, subst, arith, append_assoc, length-append}
use Rattle.std.specs.Prelude.{codes, sum_by, nat_eq}
use Rattle.std.specs.Int.{to_be_bytes, w32}
use Rattle.std.specs.List.{All, flat_map, common_prefix_len}
use Rattle.std.specs.Str.{IsUtf8}
use Rattle.std.proofs.lemmas.List.Elements.{All-head, All-tail}
use Rattle.std.proofs.lemmas.List.Sums.{sum_by-append, sum_by-cons}
use Rattle.byteorder.specs.Endian.{big_number}
use Rattle.byteorder.specs.Numbers.{big_number-reads_back}
use Rattle.ats_impact.specs.Limits.{AllShort}
use Rattle.ats_commit.specs.Archive.{Archive}
use Rattle.ats_lists.specs.declared.format.Format.{Format}
use Rattle.ats_index.specs.Parts.{archive_in}
use Rattle.ats_lists.specs.FormatNumber.{number_of_format}
use Rattle.ats_index.specs.Spelling.{IsSpelling, front_bytes, text_bytes, index_bytes}
use Rattle.ats_index.specs.FirstPart.{Field, Magic, Version, Documents, TextLength, TextBytes, HasSpaceFor, AreFirst, IsReached, IsGood, front_of}
use Rattle.ats_index.specs.LoadFaults.{BeginWith, IsLoadFault}
use Rattle.ats_index.specs.declared.load.LoadFault.TheVariants.{BadIndex}
use Rattle.ats_index.proofs.Reading.{front_number, front_rest}
use Rattle.ats_index.proofs.Size.{front_size}
use Rattle.ats_index.proofs.OneArchive.{text_tells, front_first, one_beginning, spelled_begins}

-- ---- two runs of texts in the same bytes

-- the first run has at least one text more, which follows the second
record Longer (texts others : List (List ℕ)) (following : List ℕ) : Type 0 where
  text : List ℕ
  more : List (List ℕ)
  rest : List ℕ
  are : texts ≡ others ++ text ∷ more
  next : following ≡ text_bytes text ++ rest

-- they are the same, or one of them is longer
abbrev Meet : List (List ℕ) → List (List ℕ) → List ℕ → List ℕ → Type 0
Meet texts others a b = ((texts ≡ others) × (a ≡ b)) ⊎ (Longer texts others b ⊎ Longer others texts a)

longer_by : (text : List ℕ) (texts others : List (List ℕ)) (other b : List ℕ) → text ≡ other → Longer texts others b → Longer (text ∷ texts) (other ∷ others) b
longer_by text texts others other b same longer = record {
  text = longer.text;
  more = longer.more;
  rest = longer.rest;
  are = ap₂ (λ one some. one ∷ some) same longer.are;
  next = longer.next;
}

meet_by : (text other : List ℕ) (texts others : List (List ℕ)) (a b : List ℕ) → text ≡ other → Meet texts others a b → Meet (text ∷ texts) (other ∷ others) a b
meet_by text other texts others a b same (inl is) = inl (ap₂ (λ one some. one ∷ some) same is.0, is.1)
meet_by text other texts others a b same (inr (inl longer)) = inr (inl (longer_by text texts others other b same longer))
meet_by text other texts others a b same (inr (inr longer)) = inr (inr (longer_by other others texts text a (sym same) longer))

meet : (texts others : List (List ℕ)) (a b : List ℕ) → AllShort texts → AllShort others → flat_map text_bytes texts ++ a ≡ flat_map text_bytes others ++ b
    → Meet texts others a b
meet [] [] a b short short' same = inl (refl, same)
meet (text ∷ texts) [] a b short short' same =
    inr (inl (record { text = text; more = texts; rest = flat_map text_bytes texts ++ a; are = refl; next = sym same ∙ append_assoc (text_bytes text) (flat_map text_bytes texts) a }))
meet [] (other ∷ others) a b short short' same =
    inr (inr (record { text = other; more = others; rest = flat_map text_bytes others ++ b; are = refl; next = same ∙ append_assoc (text_bytes other) (flat_map text_bytes others) b }))
meet (text ∷ texts) (other ∷ others) a b short short' same =
    let Short : List ℕ → Type 0 = λ some. length some ≤ 2 ^ 20 in
    let following : List ℕ = flat_map text_bytes texts ++ a in
    let following' : List ℕ = flat_map text_bytes others ++ b in
    let joined : text_bytes text ++ following ≡ text_bytes other ++ following' =
    sym (append_assoc (text_bytes text) (flat_map text_bytes texts) a) ∙ same ∙ append_assoc (text_bytes other) (flat_map text_bytes others) b in
    let head = text_tells (text_bytes text ++ following) text other following following' (omega (arith, short 0 [] (omega arith))) (omega (arith, short' 0 [] (omega arith))) refl joined in
    meet_by text other texts others a b head.0
    (meet texts others a b (All-tail Short text texts short) (All-tail Short other others short') head.1)

-- ---- a text more is good

-- each is a text within the limits, and so are all together
record AreGood (texts : List (List ℕ)) : Type 0 where
  utf8 : All IsUtf8 texts
  short : AllShort texts
  small : sum_by length texts ≤ 2 ^ 24

middle : (P : List ℕ → Type 0) (others : List (List ℕ)) (text : List ℕ) (more : List (List ℕ)) → All P (others ++ text ∷ more) → P text
middle P [] text more all = All-head P text more all
middle P (other ∷ others) text more all = middle P others text more (All-tail P other (others ++ text ∷ more) all)

module _ (texts others : List (List ℕ)) (following : List ℕ) (good : AreGood texts) (longer : Longer texts others following) where
  more_utf8 : IsUtf8 longer.text
  more_utf8 = middle IsUtf8 others longer.text longer.more (subst (All IsUtf8) longer.are good.utf8)

  more_short : length longer.text ≤ 2 ^ 20
  more_short = middle (λ (text : List ℕ). length text ≤ 2 ^ 20) others longer.text longer.more (subst AllShort longer.are good.short)

  more_space : HasSpaceFor others (length longer.text)
  more_space =
      let Length : List ℕ → ℕ = λ (text : List ℕ). length text in
      record {
        short = more_short;
        small = omega (
          arith,
          good.small,
          ap (sum_by Length) longer.are,
          sum_by-append Length others (longer.text ∷ longer.more),
          sum_by-cons Length longer.text longer.more,
        );
      }

  more_next : following ≡ to_be_bytes w32 (length longer.text) ++ (longer.text ++ longer.rest)
  unfolding text_bytes
  more_next = longer.next

-- the bytes begin with no good field
abbrev NoneGood : Field → List ℕ → Type 0
NoneGood field following = (good rest : List ℕ) → IsGood field good → following ≢ good ++ rest

-- bytes that begin with a number determine it, and the bytes after it
numbers_tell : (m n : ℕ) (a b : List ℕ) → m < 2 ^ 32 → n < 2 ^ 32 → to_be_bytes w32 m ++ a ≡ to_be_bytes w32 n ++ b → (m ≡ n) × (a ≡ b)
numbers_tell m n a b small small' same = (
  sym (big_number-reads_back 4 m a small) ∙ ap (big_number 4) same ∙ big_number-reads_back 4 n b small',
  ap (drop 4) same,
)

-- if one run of texts is longer, the field after the other is good
length_stands : (texts others : List (List ℕ)) (f : Format) (n : ℕ) (b : List ℕ) → AreGood texts → Longer texts others b → NoneGood (TextLength f n others) b → ⊥
length_stands texts others f n b good longer bad =
    bad (to_be_bytes w32 (length longer.text)) (longer.text ++ longer.rest) (length longer.text, more_space texts others b good longer, refl) (more_next texts others b good longer)

bytes_stand : (texts others : List (List ℕ)) (f : Format) (n size : ℕ) (b : List ℕ) → AreGood texts → HasSpaceFor others size → Longer texts others (to_be_bytes w32 size ++ b)
    → NoneGood (TextBytes f n others size) b → ⊥
bytes_stand texts others f n size b good space longer bad =
    let tail : List ℕ = to_be_bytes w32 size ++ b in
    let told = numbers_tell size (length longer.text) b (longer.text ++ longer.rest) (omega (arith, space.short)) (omega (arith, more_short texts others tail good longer))
    (more_next texts others tail good longer) in
    bad longer.text longer.rest (sym told.0, more_utf8 texts others tail good longer) told.1

-- ---- a field that is bad, and texts after it or with it

-- bytes that are a front and then texts, as far as these are good: a field of the front is not bad
abbrev IsEarly : Field → Type 0
IsEarly Magic = Unit {0}
IsEarly Version = Unit {0}
IsEarly (Documents f) = Unit {0}
IsEarly _ = ⊥

early_good : (field : Field) (b : List ℕ) (format : Format) (n : ℕ) (rest : List ℕ) → IsEarly field → 1 ≤ n → n ≤ 65536 → NoneGood field b
    → front_of field ++ b ≡ front_bytes format n ++ rest → ⊥
unfolding front_bytes
early_good Magic b format n rest early some few bad same = bad (codes "ATSI") (number_of_format format ∷ to_be_bytes w32 n ++ rest) refl same
early_good Version b format n rest early some few bad same = bad (number_of_format format ∷ []) (to_be_bytes w32 n ++ rest) (format, refl) (ap (drop 4) same)
early_good (Documents f) b format n rest early some few bad same = bad (to_be_bytes w32 n) rest (n, some, few, refl) (ap (drop 5) same)
early_good _ b format n rest early some few bad same = early

late_length : (f : Format) (n : ℕ) (texts : List (List ℕ)) (b : List ℕ) → front_of (TextLength f n texts) ++ b ≡ front_bytes f n ++ (flat_map text_bytes texts ++ b)
late_length f n texts b = append_assoc (front_bytes f n) (flat_map text_bytes texts) b

late_bytes : (f : Format) (n : ℕ) (texts : List (List ℕ)) (size : ℕ) (b : List ℕ)
    → front_of (TextBytes f n texts size) ++ b ≡ front_bytes f n ++ (flat_map text_bytes texts ++ (to_be_bytes w32 size ++ b))
late_bytes f n texts size b =
    append_assoc (front_bytes f n ++ flat_map text_bytes texts) (to_be_bytes w32 size) b
    ∙ append_assoc (front_bytes f n) (flat_map text_bytes texts) (to_be_bytes w32 size ++ b)

are_good : (n : ℕ) (texts : List (List ℕ)) → AreFirst n texts → AreGood texts
are_good n texts first = record { utf8 = first.utf8; short = first.short; small = first.small }

-- fronts with numbers of texts within the limits determine the bytes after them
fronts_tell : (f g : Format) (m n : ℕ) (a b : List ℕ) → m ≤ 65536 → n ≤ 65536 → front_bytes f m ++ a ≡ front_bytes g n ++ b → (m ≡ n) × (a ≡ b)
fronts_tell f g m n a b few few' same =
    let bytes : List ℕ = front_bytes f m ++ a in (
      sym (front_number bytes f m a (omega arith) refl) ∙ front_number bytes g n b (omega arith) same,
      sym (front_rest bytes f m a (omega arith) refl) ∙ front_rest bytes g n b (omega arith) same,
    )

-- the bytes up to the last of some texts
abbrev up_to : Format → ℕ → List (List ℕ) → List ℕ
up_to f n texts = front_bytes f n ++ flat_map text_bytes texts

module _ (f g : Format) (n m : ℕ) (texts others : List (List ℕ)) (first : AreFirst n texts) (second : AreFirst m others) where
  good : AreGood texts
  good = are_good n texts first

  good' : AreGood others
  good' = are_good m others second

  told : (a b : List ℕ) → front_bytes f n ++ (flat_map text_bytes texts ++ a) ≡ front_bytes g m ++ (flat_map text_bytes others ++ b) → (n ≡ m) × Meet texts others a b
  told a b same =
      let fronts = fronts_tell f g n m (flat_map text_bytes texts ++ a) (flat_map text_bytes others ++ b) first.few second.few same in
      (fronts.0, meet texts others a b first.short second.short fronts.1)

  ends_alike : texts ≡ others → length (up_to f n texts) ≡ length (up_to g m others)
  ends_alike is =
      front_size f n (flat_map text_bytes texts)
      ∙ ap (λ (some : List (List ℕ)). 9 + length (flat_map text_bytes some)) is
      ∙ sym (front_size g m (flat_map text_bytes others))

  of_lengths : (a b : List ℕ) → NoneGood (TextLength f n texts) a → NoneGood (TextLength g m others) b → (n ≡ m) × Meet texts others a b
      → length (up_to f n texts) ≡ length (up_to g m others)
  of_lengths a b bad bad' (same, inl is) = ends_alike is.0
  of_lengths a b bad bad' (same, inr (inl longer)) = absurd (length_stands texts others g m b good longer bad')
  of_lengths a b bad bad' (same, inr (inr longer)) = absurd (length_stands others texts f n a good' longer bad)

  -- either the length or the bytes after it are good
  mixed : (size : ℕ) (a b : List ℕ) → HasSpaceFor others size → NoneGood (TextLength f n texts) a → NoneGood (TextBytes g m others size) b
      → (n ≡ m) × Meet texts others a (to_be_bytes w32 size ++ b) → ⊥
  mixed size a b space bad bad' (same, inl is) =
      bad (to_be_bytes w32 size) b (size, subst (λ (some : List (List ℕ)). HasSpaceFor some size) (sym is.0) space, refl) is.1
  mixed size a b space bad bad' (same, inr (inl longer)) = bytes_stand texts others g m size b good space longer bad'
  mixed size a b space bad bad' (same, inr (inr longer)) = length_stands others texts f n a good' longer bad

  of_bytes : (size size' : ℕ) (a b : List ℕ) → HasSpaceFor texts size → HasSpaceFor others size' → NoneGood (TextBytes f n texts size) a → NoneGood (TextBytes g m others size') b
      → (n ≡ m) × Meet texts others (to_be_bytes w32 size ++ a) (to_be_bytes w32 size' ++ b)
      → length (up_to f n texts ++ to_be_bytes w32 size) ≡ length (up_to g m others ++ to_be_bytes w32 size')
  of_bytes size size' a b space space' bad bad' (same, inl is) =
      let alike : length (up_to f n texts) ≡ length (up_to g m others) = ends_alike is.0 in
      omega (arith, alike, length-append (up_to f n texts) (to_be_bytes w32 size), length-append (up_to g m others) (to_be_bytes w32 size'))
  of_bytes size size' a b space space' bad bad' (same, inr (inl longer)) = absurd (bytes_stand texts others g m size' b good space' longer bad')
  of_bytes size size' a b space space' bad bad' (same, inr (inr longer)) = absurd (bytes_stand others texts f n size a good' space longer bad)

-- a field of the front that is bad, and one after the front
abbrev IsLate : Field → Type 0
IsLate (TextLength f n texts) = Unit {0}
IsLate (TextBytes f n texts size) = Unit {0}
IsLate _ = ⊥

early_late : (field late : Field) (a b : List ℕ) → IsEarly field → IsLate late → IsReached late → NoneGood field a → front_of field ++ a ≡ front_of late ++ b → ⊥
early_late field (TextLength f n texts) a b early late reached bad same =
    early_good field a f n (flat_map text_bytes texts ++ b) early reached.some reached.few bad (same ∙ late_length f n texts b)
early_late field (TextBytes f n texts size) a b early late reached bad same =
    early_good field a f n (flat_map text_bytes texts ++ (to_be_bytes w32 size ++ b)) early reached.0.some reached.0.few bad (same ∙ late_bytes f n texts size b)
early_late field _ a b early late reached bad same = late

-- two first bad fields of the same bytes start at one place
one_field : (f g : Field) (a b : List ℕ) → IsReached f → IsReached g → NoneGood f a → NoneGood g b → front_of f ++ a ≡ front_of g ++ b
    → length (front_of f) ≡ length (front_of g)
one_field Magic Magic a b reached reached' bad bad' same = refl
one_field Magic Version a b reached reached' bad bad' same = absurd (bad (codes "ATSI") b refl same)
one_field Magic (Documents g) a b reached reached' bad bad' same = absurd (bad (codes "ATSI") (number_of_format g ∷ b) refl same)
one_field Magic late a b reached reached' bad bad' same = absurd (early_late Magic late a b tt tt reached' bad same)
one_field Version Magic a b reached reached' bad bad' same = absurd (bad' (codes "ATSI") a refl (sym same))
one_field Version Version a b reached reached' bad bad' same = refl
one_field Version (Documents g) a b reached reached' bad bad' same = absurd (bad (number_of_format g ∷ []) b (g, refl) (ap (drop 4) same))
one_field Version late a b reached reached' bad bad' same = absurd (early_late Version late a b tt tt reached' bad same)
one_field (Documents f) Magic a b reached reached' bad bad' same = absurd (bad' (codes "ATSI") (number_of_format f ∷ a) refl (sym same))
one_field (Documents f) Version a b reached reached' bad bad' same = absurd (bad' (number_of_format f ∷ []) a (f, refl) (ap (drop 4) (sym same)))
one_field (Documents f) (Documents g) a b reached reached' bad bad' same = refl
one_field (Documents f) late a b reached reached' bad bad' same = absurd (early_late (Documents f) late a b tt tt reached' bad same)
one_field (TextLength f n texts) (TextLength g m others) a b reached reached' bad bad' same =
    of_lengths f g n m texts others reached reached' a b bad bad'
    (told f g n m texts others reached reached' a b (sym (late_length f n texts a) ∙ same ∙ late_length g m others b))
one_field (TextLength f n texts) (TextBytes g m others size) a b reached reached' bad bad' same =
    absurd (mixed f g n m texts others reached reached'.0 size a b reached'.1 bad bad'
    (told f g n m texts others reached reached'.0 a (to_be_bytes w32 size ++ b) (sym (late_length f n texts a) ∙ same ∙ late_bytes g m others size b)))
one_field (TextBytes f n texts size) (TextLength g m others) a b reached reached' bad bad' same =
    absurd (mixed g f m n others texts reached' reached.0 size b a reached.1 bad' bad
    (told g f m n others texts reached' reached.0 b (to_be_bytes w32 size ++ a) (sym (late_length g m others b) ∙ sym same ∙ late_bytes f n texts size a)))
one_field (TextBytes f n texts size) (TextBytes g m others size') a b reached reached' bad bad' same =
    of_bytes f g n m texts others reached.0 reached'.0 size size' a b reached.1 reached'.1 bad bad'
    (told f g n m texts others reached.0 reached'.0 (to_be_bytes w32 size ++ a) (to_be_bytes w32 size' ++ b)
    (sym (late_bytes f n texts size a) ∙ same ∙ late_bytes g m others size' b))
one_field late Magic a b reached reached' bad bad' same = absurd (early_late Magic late b a tt tt reached bad' (sym same))
one_field late Version a b reached reached' bad bad' same = absurd (early_late Version late b a tt tt reached bad' (sym same))
one_field late (Documents g) a b reached reached' bad bad' same = absurd (early_late (Documents g) late b a tt tt reached bad' (sym same))

-- ---- a field that is bad, and a collection

-- bytes that begin with a collection have no bad field
module _ (bytes : List ℕ) (g : Format) (others : List (List ℕ)) (begins : BeginWith bytes g others) where
  all_good : AreGood others
  all_good = record { utf8 = begins.utf8; short = begins.within.short; small = begins.within.small }

  met : (f : Format) (n : ℕ) (texts : List (List ℕ)) (a : List ℕ) → AreFirst n texts → bytes ≡ front_bytes f n ++ (flat_map text_bytes texts ++ a) → Longer others texts a
  met f n texts a first is =
      let fronts = fronts_tell f g n (length others) (flat_map text_bytes texts ++ a) (flat_map text_bytes others ++ begins.rest) first.few begins.within.few
      (sym is ∙ front_first bytes g others begins) in
      shorter n texts a first fronts.0 (meet texts others a begins.rest first.short begins.within.short fronts.1)
    where
      shorter : (n : ℕ) (texts : List (List ℕ)) (a : List ℕ) → AreFirst n texts → n ≡ length others → Meet texts others a begins.rest → Longer others texts a
      shorter n texts a first count (inl is) = absurd (omega (arith, first.more, count, ap (λ (some : List (List ℕ)). length some) is.0))
      shorter n texts a first count (inr (inl longer)) =
          absurd (omega (arith, first.more, count, ap (λ (some : List (List ℕ)). length some) longer.are, length-append others (longer.text ∷ longer.more)))
      shorter n texts a first count (inr (inr longer)) = longer

  none_early : (field : Field) (a : List ℕ) → IsEarly field → NoneGood field a → bytes ≡ front_of field ++ a → ⊥
  none_early field a early bad is =
      early_good field a g (length others) (flat_map text_bytes others ++ begins.rest) early begins.within.some begins.within.few bad (sym is ∙ front_first bytes g others begins)

  none_bad : (field : Field) (a : List ℕ) → IsReached field → NoneGood field a → bytes ≡ front_of field ++ a → ⊥
  none_bad (TextLength f n texts) a reached bad is = length_stands others texts f n a all_good (met f n texts a reached (is ∙ late_length f n texts a)) bad
  none_bad (TextBytes f n texts size) a reached bad is =
      bytes_stand others texts f n size a all_good reached.1 (met f n texts (to_be_bytes w32 size ++ a) reached.0 (is ∙ late_bytes f n texts size a)) bad
  none_bad early a reached bad is = none_early early a tt bad is

-- ---- the laws

module _ (H : List ℕ → List ℕ) (bytes : List ℕ) where
  -- the same bytes have one place
  pub one_place : (at other : ℕ) → IsLoadFault H bytes (BadIndex at) → IsLoadFault H bytes (BadIndex other) → at ≡ other
  one_place at other (inl is) (inl also) =
      is.place ∙ one_field is.field also.field is.following also.following is.reached also.reached is.bad also.bad (sym is.same ∙ also.same) ∙ sym also.place
  one_place at other (inl is) (inr also) = absurd (none_bad bytes also.format also.texts also.begins is.field is.following is.reached is.bad is.same)
  one_place at other (inr is) (inl also) = absurd (none_bad bytes is.format is.texts is.begins also.field also.following also.reached also.bad also.same)
  one_place at other (inr is) (inr also) =
      let same : archive_in is.format is.texts ≡ archive_in also.format also.texts = one_beginning bytes is.format also.format is.texts also.texts is.begins also.begins in
      is.differs.prefix ∙ ap (λ (some : Archive). common_prefix_len nat_eq bytes (index_bytes H some)) same ∙ sym also.differs.prefix

  -- an archive's index has none
  pub no_place : (at : ℕ) (archive : Archive) → IsLoadFault H bytes (BadIndex at) → IsSpelling H bytes archive → ⊥
  no_place at archive (inl is) spelling =
      none_bad bytes archive.format archive.texts (spelled_begins H bytes archive spelling) is.field is.following is.reached is.bad is.same
  no_place at archive (inr is) spelling =
      let same : archive_in is.format is.texts ≡ archive =
      one_beginning bytes is.format archive.format is.texts archive.texts is.begins (spelled_begins H bytes archive spelling) in
      is.differs.other (spelling.same ∙ sym (ap (index_bytes H) same))
