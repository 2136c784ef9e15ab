-- Bytes are an archive's index, or have a place of fault.
use Rattle.std.proofs.Common.{◌≡◌, ◌≢◌, ◌⊎◌, inl, inr, ◌<◌, ◌≤◌, ◌^◌, ◌+◌, ◌-◌, ◌∙◌, ℕ, zero, suc, Bool, true, false, List, [], ◌∷◌, ◌++◌, length, get_or, take, drop, refl, sym, ap, subst, arith, length-append, length-drop}
use Rattle.std.specs.Prelude.{codes, nat_eq, sum_by, min}
use Rattle.std.specs.Int.{to_be_bytes, w32}
use Rattle.std.specs.List.{All, flat_map, common_prefix_len}
use Rattle.std.specs.Str.{IsUtf8, bytes_eq, is_utf8}
use Rattle.std.proofs.lemmas.Bool.{cases_lt}
use Rattle.std.proofs.lemmas.List.{append-nil, take-append-drop}
use Rattle.std.proofs.lemmas.List.Elements.{All-head, All-tail, All-drop, All-push, All-nil}
use Rattle.std.proofs.lemmas.List.Sums.{sum_by-append, sum_by-cons}
use Rattle.std.proofs.lemmas.Nat.{be_bytes_4}
use Rattle.std.proofs.lemmas.Slice.Eq.{bytes_eq-Decides}
use Rattle.std.proofs.lemmas.Str.{IsUtf8-from_is_utf8, is_utf8-from_IsUtf8}
use Rattle.std.proofs.Math.Seq.{take-append_seam, drop-append_seam}
use Rattle.byteorder.specs.Endian.{big_number}
use Rattle.byteorder.specs.Numbers.{big_number-reads_back}
use Rattle.ats_impact.specs.Limits.{AllShort}
use Rattle.ats_commit.specs.Archive.{Archive}
use Rattle.ats_lists.specs.declared.format.Format.{Format}
use Rattle.ats_lists.specs.declared.format.Format.TheVariants.{One, Two}
use Rattle.ats_index.specs.Parts.{archive_in}
use Rattle.ats_lists.specs.FormatNumber.{number_of_format}
use Rattle.ats_index.specs.Spelling.{IsSpelling, front_bytes, text_bytes, index_bytes}
use Rattle.ats_index.specs.FirstPart.{Magic, Version, Documents, IsGood, HasSpaceFor, AreFirst, IsFirstBad}
use Rattle.ats_index.specs.LoadFaults.{BeginWith, IsLoadFault}
use Rattle.ats_index.specs.declared.load.LoadFault.TheVariants.{BadIndex}
use Rattle.ats_index.proofs.ReadingTexts.{front_stands, length_bad, bytes_bad, text_read}

abbrev AreBytes : List ℕ → Type 0
AreBytes bytes = All (λ b. b < 256) bytes

-- ---- a number at the front

byte_at : (bytes : List ℕ) → AreBytes bytes → (i : ℕ) → get_or bytes i 0 < 256
byte_at [] all i = omega arith
byte_at (b ∷ bytes) all zero = All-head (λ (n : ℕ). n < 256) b bytes all
byte_at (b ∷ bytes) all (suc i) = byte_at bytes (All-tail (λ (n : ℕ). n < 256) b bytes all) i

small_four : (a b c d : ℕ) → a < 256 → b < 256 → c < 256 → d < 256 → (i : ℕ) → get_or (a ∷ b ∷ c ∷ d ∷ []) i 0 < 256
small_four a b c d first second third fourth zero = first
small_four a b c d first second third fourth (suc zero) = second
small_four a b c d first second third fourth (suc (suc zero)) = third
small_four a b c d first second third fourth (suc (suc (suc zero))) = fourth
small_four a b c d first second third fourth (suc (suc (suc (suc i)))) = omega arith

number_4 : (bytes : List ℕ) → length bytes ≡ 4 → ((i : ℕ) → get_or bytes i 0 < 256) → to_be_bytes w32 (big_number 4 bytes) ≡ bytes
number_4 bytes long small = be_bytes_4 bytes (big_number 4 bytes) long small (omega arith)

number_stands : (bytes : List ℕ) → 4 ≤ length bytes → ((i : ℕ) → get_or bytes i 0 < 256) → bytes ≡ to_be_bytes w32 (big_number 4 bytes) ++ drop 4 bytes
number_stands (a ∷ b ∷ c ∷ d ∷ rest) space small =
    ap (λ xs. xs ++ rest) (sym (number_4 (a ∷ b ∷ c ∷ d ∷ []) refl (small_four a b c d (small 0) (small 1) (small 2) (small 3))))
number_stands bytes space small = absurd (omega arith)

-- the bytes begin with a number of this range
record Stands (bytes : List ℕ) (low high : ℕ) : Type 0 where
  n : ℕ
  least : low ≤ n
  most : n ≤ high
  same : bytes ≡ to_be_bytes w32 n ++ drop 4 bytes

abbrev NoneStands : List ℕ → ℕ → ℕ → Type 0
NoneStands bytes low high = (n : ℕ) (more : List ℕ) → low ≤ n → n ≤ high → bytes ≢ to_be_bytes w32 n ++ more

module _ (bytes : List ℕ) (low high : ℕ) (all : AreBytes bytes) (small : high < 2 ^ 32) where
  read : (n : ℕ) (more : List ℕ) → n ≤ high → bytes ≡ to_be_bytes w32 n ++ more → big_number 4 bytes ≡ n
  read n more most same = ap (big_number 4) same ∙ big_number-reads_back 4 n more (omega arith)

  above : 4 ≤ length bytes → low ≤ big_number 4 bytes → (big_number 4 bytes ≤ high) ⊎ (high < big_number 4 bytes) → Stands bytes low high ⊎ NoneStands bytes low high
  above space least (inl most) = inl (record { n = big_number 4 bytes; least = least; most = most; same = number_stands bytes space (byte_at bytes all) })
  above space least (inr more) = inr (λ n following low_n n_high same. omega (arith, read n following n_high same))

  within : 4 ≤ length bytes → (big_number 4 bytes < low) ⊎ (low ≤ big_number 4 bytes) → Stands bytes low high ⊎ NoneStands bytes low high
  within space (inl less) = inr (λ n following low_n n_high same. omega (arith, read n following n_high same))
  within space (inr least) = above space least (other (cases_lt high (big_number 4 bytes)))
    where
      other : (high < big_number 4 bytes) ⊎ (big_number 4 bytes ≤ high) → (big_number 4 bytes ≤ high) ⊎ (high < big_number 4 bytes)
      other (inl is) = inr is
      other (inr is) = inl is

  there : (length bytes < 4) ⊎ (4 ≤ length bytes) → Stands bytes low high ⊎ NoneStands bytes low high
  there (inl short) = inr (λ n following low_n n_high same. omega (arith, ap (λ (xs : List ℕ). length xs) same))
  there (inr space) = within space (cases_lt (big_number 4 bytes) low)

  number_or_none : Stands bytes low high ⊎ NoneStands bytes low high
  number_or_none = there (cases_lt (length bytes) 4)

-- ---- a fixed field at the front

module _ (bytes fixed : List ℕ) where
  fixed_by : (equal : Bool) → bytes_eq (take (length fixed) bytes) fixed ≡ equal → (bytes ≡ fixed ++ drop (length fixed) bytes) ⊎ ((rest : List ℕ) → bytes ≢ fixed ++ rest)
  fixed_by true test =
      inl (sym (take-append-drop (length fixed) bytes) ∙ ap (λ xs. xs ++ drop (length fixed) bytes) ((bytes_eq-Decides (take (length fixed) bytes) fixed).0 test))
  fixed_by false test =
      inr (λ rest same.
      let equal : take (length fixed) bytes ≡ fixed = ap (take (length fixed)) same ∙ take-append_seam fixed rest in
      let clash : true ≡ false = sym ((bytes_eq-Decides (take (length fixed) bytes) fixed).1 equal) ∙ test in cc)

  fixed_or_none : (bytes ≡ fixed ++ drop (length fixed) bytes) ⊎ ((rest : List ℕ) → bytes ≢ fixed ++ rest)
  fixed_or_none = fixed_by (bytes_eq (take (length fixed) bytes) fixed) refl

-- ---- a text at the front

-- the bytes begin with a text of this length
record TextStands (bytes : List ℕ) (size : ℕ) : Type 0 where
  text : List ℕ
  following : List ℕ
  long : length text ≡ size
  utf8 : IsUtf8 text
  same : bytes ≡ text ++ following

abbrev NoText : List ℕ → ℕ → Type 0
NoText bytes size = (text more : List ℕ) → length text ≡ size → IsUtf8 text → bytes ≢ text ++ more

module _ (bytes : List ℕ) (size : ℕ) where
  text_by : size ≤ length bytes → (valid : Bool) → is_utf8 (take size bytes) ≡ valid → TextStands bytes size ⊎ NoText bytes size
  text_by space true test =
      inl (record {
        text = take size bytes;
        following = drop size bytes;
        long = omega (arith, length-append (take size bytes) (drop size bytes), ap (λ (xs : List ℕ). length xs) (take-append-drop size bytes), length-drop size bytes);
        utf8 = IsUtf8-from_is_utf8 (take size bytes) test;
        same = sym (take-append-drop size bytes);
      })
  text_by space false test =
      inr (λ text more long utf8 same.
      let taken : take size bytes ≡ text = ap (λ n. take n bytes) (sym long) ∙ ap (take (length text)) same ∙ take-append_seam text more in
      let clash : true ≡ false = sym (is_utf8-from_IsUtf8 text utf8) ∙ ap is_utf8 (sym taken) ∙ test in cc)

  text_there : (length bytes < size) ⊎ (size ≤ length bytes) → TextStands bytes size ⊎ NoText bytes size
  text_there (inl short) = inr (λ text more long utf8 same. omega (arith, ap (λ (xs : List ℕ). length xs) same, length-append text more))
  text_there (inr space) = text_by space (is_utf8 (take size bytes)) refl

  text_or_none : TextStands bytes size ⊎ NoText bytes size
  text_or_none = text_there (cases_lt (length bytes) size)

-- ---- the whole

-- these texts are read, and these bytes are left
record AreRead (bytes : List ℕ) (format : Format) (documents : ℕ) (texts : List (List ℕ)) (rest : List ℕ) : Type 0 where
  some : 1 ≤ documents
  few : documents ≤ 65536
  utf8 : All IsUtf8 texts
  short : AllShort texts
  small : sum_by length texts ≤ 2 ^ 24
  left : AreBytes rest
  same : bytes ≡ (front_bytes format documents ++ flat_map text_bytes texts) ++ rest

abbrev IsIndexOrFault : (List ℕ → List ℕ) → List ℕ → Type 0
IsIndexOrFault H bytes = ((archive : Archive) × IsSpelling H bytes archive) ⊎ ((at : ℕ) × IsLoadFault H bytes (BadIndex at))

module _ (H : List ℕ → List ℕ) (bytes : List ℕ) where
  last_by : (format : Format) (texts : List (List ℕ)) → BeginWith bytes format texts → (equal : Bool) → bytes_eq bytes (index_bytes H (archive_in format texts)) ≡ equal → IsIndexOrFault H bytes
  last_by format texts begins true test =
      inl (archive_in format texts, record { utf8 = begins.utf8; within = begins.within; same = (bytes_eq-Decides bytes (index_bytes H (archive_in format texts))).0 test })
  last_by format texts begins false test =
      let all : List ℕ = index_bytes H (archive_in format texts) in
      inr (
        common_prefix_len nat_eq bytes all,
        inr (record {
          format = format;
          texts = texts;
          begins = begins;
          differs = record {
            other = λ same. let clash : true ≡ false = sym ((bytes_eq-Decides bytes all).1 same) ∙ test in cc;
            prefix = refl;
          };
        }),
      )

  last : (format : Format) (texts : List (List ℕ)) → BeginWith bytes format texts → IsIndexOrFault H bytes
  last format texts begins = last_by format texts begins (bytes_eq bytes (index_bytes H (archive_in format texts))) refl

  bad_at : (at : ℕ) → IsFirstBad bytes at → IsIndexOrFault H bytes
  bad_at at bad = inr (at, inl bad)

module _ (H : List ℕ → List ℕ) (bytes : List ℕ) (format : Format) (k documents : ℕ) (texts : List (List ℕ)) (rest : List ℕ) (count : length texts + suc k ≡ documents)
    (so_far : AreRead bytes format documents texts rest)
    (next : (more : List (List ℕ)) (following : List ℕ) → length more + k ≡ documents → AreRead bytes format documents more following → IsIndexOrFault H bytes) where
  first : AreFirst documents texts
  first = record { some = so_far.some; few = so_far.few; more = omega (arith, count); utf8 = so_far.utf8; short = so_far.short; small = so_far.small }

  read_more : (size : ℕ) → HasSpaceFor texts size → rest ≡ to_be_bytes w32 size ++ drop 4 rest → (found : TextStands (drop 4 rest) size)
      → AreRead bytes format documents (texts ++ found.text ∷ []) found.following
  read_more size space number found =
      let Length : List ℕ → ℕ = λ (t : List ℕ). length t in
      let passed : drop (length found.text) (drop 4 rest) ≡ found.following = ap (drop (length found.text)) found.same ∙ drop-append_seam found.text found.following in
      record {
        some = so_far.some;
        few = so_far.few;
        utf8 = All-push IsUtf8 texts found.text so_far.utf8 found.utf8;
        short = All-push (λ (t : List ℕ). length t ≤ 2 ^ 20) texts found.text so_far.short (omega (arith, found.long, space.short));
        small = omega (arith, space.small, found.long, sum_by-append Length texts (found.text ∷ []), sum_by-cons Length found.text []);
        left = subst AreBytes passed (All-drop (λ (n : ℕ). n < 256) (length found.text) (drop 4 rest) (All-drop (λ (n : ℕ). n < 256) 4 rest so_far.left));
        same = text_read bytes format documents texts rest so_far.same size found.text found.following found.long number found.same;
      }

  text_next : (size : ℕ) → HasSpaceFor texts size → rest ≡ to_be_bytes w32 size ++ drop 4 rest → TextStands (drop 4 rest) size ⊎ NoText (drop 4 rest) size → IsIndexOrFault H bytes
  text_next size space number (inl found) =
      next (texts ++ found.text ∷ []) found.following (omega (arith, count, length-append texts (found.text ∷ []))) (read_more size space number found)
  text_next size space number (inr none) = bad_at H bytes (length bytes - length rest + 4) (bytes_bad bytes format documents texts rest so_far.same size first space number none)

  most : ℕ
  most = min (2 ^ 20) (2 ^ 24 - sum_by length texts)

  most_space : (size : ℕ) → size ≤ most → HasSpaceFor texts size
  unfolding most
  most_space size within = record { short = omega (arith, within); small = omega (arith, within, so_far.small) }

  space_most : (size : ℕ) → HasSpaceFor texts size → size ≤ most
  unfolding most
  space_most size space = omega (arith, space.short, space.small)

  most_small : most < 2 ^ 32
  unfolding most
  most_small = omega arith

  length_next : Stands rest 0 most ⊎ NoneStands rest 0 most → IsIndexOrFault H bytes
  length_next (inl found) = text_next found.n (most_space found.n found.most) found.same (text_or_none (drop 4 rest) found.n)
  length_next (inr none) =
      bad_at H bytes (length bytes - length rest) (length_bad bytes format documents texts rest so_far.same first
      (λ size more space. none size more (omega arith) (space_most size space)))

  one_next : IsIndexOrFault H bytes
  one_next = length_next (number_or_none rest 0 most so_far.left most_small)

all_from : (H : List ℕ → List ℕ) (bytes : List ℕ) (format : Format) (k documents : ℕ) (texts : List (List ℕ)) (rest : List ℕ) → length texts + k ≡ documents
    → AreRead bytes format documents texts rest → IsIndexOrFault H bytes
all_from H bytes format zero documents texts rest count so_far =
    let is : documents ≡ length texts = omega (arith, count) in
    last H bytes format texts (record {
      utf8 = so_far.utf8;
      within = record { some = omega (arith, is, so_far.some); few = omega (arith, is, so_far.few); short = so_far.short; small = so_far.small };
      rest = rest;
      same = so_far.same ∙ ap (λ n. (front_bytes format n ++ flat_map text_bytes texts) ++ rest) is;
    })
all_from H bytes format (suc k) documents texts rest count so_far =
    one_next H bytes format k documents texts rest count so_far (λ more following count' read. all_from H bytes format k documents more following count' read)

module _ (H : List ℕ → List ℕ) (bytes : List ℕ) (all : AreBytes bytes) where
  number_next : Stands (drop 1 (drop 4 bytes)) 1 65536 ⊎ NoneStands (drop 1 (drop 4 bytes)) 1 65536
  number_next =
      let Byte : ℕ → Type 0 = λ n. n < 256 in
      number_or_none (drop 1 (drop 4 bytes)) 1 65536 (All-drop Byte 1 (drop 4 bytes) (All-drop Byte 4 bytes all)) (omega arith)

  -- neither version follows
  no_version : ((rest : List ℕ) → drop 4 bytes ≢ (1 ∷ []) ++ rest) → ((rest : List ℕ) → drop 4 bytes ≢ (2 ∷ []) ++ rest)
      → (good rest : List ℕ) → IsGood Version good → drop 4 bytes ≢ good ++ rest
  no_version none none' good rest (One, is) same = none rest (same ∙ ap (λ xs. xs ++ rest) is)
  no_version none none' good rest (Two, is) same = none' rest (same ∙ ap (λ xs. xs ++ rest) is)

  counted_next : (format : Format) → bytes ≡ codes "ATSI" ++ drop 4 bytes → drop 4 bytes ≡ (number_of_format format ∷ []) ++ drop 1 (drop 4 bytes)
      → Stands (drop 1 (drop 4 bytes)) 1 65536 ⊎ NoneStands (drop 1 (drop 4 bytes)) 1 65536 → IsIndexOrFault H bytes
  counted_next format magic version (inl found) =
      let Byte : ℕ → Type 0 = λ n. n < 256 in
      let rest : List ℕ = drop 4 (drop 1 (drop 4 bytes)) in
      all_from H bytes format found.n found.n [] rest (omega arith) (record {
        some = found.least;
        few = found.most;
        utf8 = All-nil IsUtf8;
        short = All-nil (λ (t : List ℕ). length t ≤ 2 ^ 20);
        small = omega arith;
        left = All-drop Byte 4 (drop 1 (drop 4 bytes)) (All-drop Byte 1 (drop 4 bytes) (All-drop Byte 4 bytes all));
        same = front_stands bytes (drop 4 bytes) (drop 1 (drop 4 bytes)) rest format found.n magic version found.same
            ∙ ap (λ xs. xs ++ rest) (sym (append-nil (front_bytes format found.n)));
      })
  counted_next format magic version (inr none) = bad_at H bytes 5 (record {
    field = Documents format;
    following = drop 1 (drop 4 bytes);
    reached = tt;
    place = refl;
    same = magic ∙ ap (λ xs. codes "ATSI" ++ xs) version;
    bad = λ good rest (n, some, few, is) same. none n rest some few (same ∙ ap (λ xs. xs ++ rest) is);
  })

  version_next : bytes ≡ codes "ATSI" ++ drop 4 bytes
      → (drop 4 bytes ≡ (1 ∷ []) ++ drop 1 (drop 4 bytes)) ⊎ ((rest : List ℕ) → drop 4 bytes ≢ (1 ∷ []) ++ rest)
      → (drop 4 bytes ≡ (2 ∷ []) ++ drop 1 (drop 4 bytes)) ⊎ ((rest : List ℕ) → drop 4 bytes ≢ (2 ∷ []) ++ rest)
      → IsIndexOrFault H bytes
  version_next magic (inl version) other = counted_next One magic version number_next
  version_next magic (inr none) (inl version) = counted_next Two magic version number_next
  version_next magic (inr none) (inr none') = bad_at H bytes 4 (record {
    field = Version;
    following = drop 4 bytes;
    reached = tt;
    place = refl;
    same = magic;
    bad = no_version none none';
  })

  magic_next : (bytes ≡ codes "ATSI" ++ drop 4 bytes) ⊎ ((rest : List ℕ) → bytes ≢ codes "ATSI" ++ rest) → IsIndexOrFault H bytes
  magic_next (inl magic) = version_next magic (fixed_or_none (drop 4 bytes) (1 ∷ [])) (fixed_or_none (drop 4 bytes) (2 ∷ []))
  magic_next (inr none) = bad_at H bytes 0 (record {
    field = Magic;
    following = bytes;
    reached = tt;
    place = refl;
    same = refl;
    bad = λ good rest is same. none rest (same ∙ ap (λ xs. xs ++ rest) is);
  })

  -- one of both holds
  pub index_or_fault : IsIndexOrFault H bytes
  index_or_fault = magic_next (fixed_or_none bytes (codes "ATSI"))
