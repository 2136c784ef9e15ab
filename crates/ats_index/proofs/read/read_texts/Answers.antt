use Rattle.std.proofs.Common.{◌≡◌, ◌≤◌, ◌^◌, ◌++◌, ◌+◌, ◌∷◌, [], List, ℕ, length, sym, ap, ◌∙◌, arith, length-append}
use Rattle.std.specs.Prelude.{sum_by}
use Rattle.std.specs.List.{flat_map}
use Rattle.std.specs.Str.{IsUtf8}
use Rattle.std.proofs.lemmas.List.Elements.{All-push}
use Rattle.std.proofs.lemmas.List.Sums.{sum_by-append, sum_by-cons}
use Rattle.ats_index.specs.Spelling.{front_bytes, text_bytes}
use Rattle.ats_index.proofs.Reading.{to_end}
use Rattle.ats_index.proofs.ReadingTexts.{length_bad, bytes_bad, text_read}
use Rattle.ats_index.proofs.read.read_texts.Goals as goal

pub returns-in_default : goal.returns-in_default
returns-in_default c =
    let so_far = c.loop-document.invariant in
    length_bad c.args.bytes.now c.in-Ok.found.0 c.in-Ok.found.1 c.loop-document.texts c.loop-document.rest.now so_far.same
    (record {
      some = c.in-Ok.ensures.some;
      few = c.in-Ok.ensures.few;
      more = omega (arith, so_far.count, c.loop-document-test.true);
      utf8 = so_far.utf8;
      short = so_far.short;
      small = omega (arith, so_far.sum, so_far.small);
    })
    (λ size more space. c.in_default.ensures.none size more (omega arith) (omega (arith, space.short, space.small, so_far.sum, so_far.small, c.min-most.ensures)))

pub returns-in_default-text_of : goal.returns-in_default-text_of
returns-in_default-text_of c =
    let so_far = c.loop-document.invariant in
    let rest : List ℕ = c.loop-document.rest.now in
    bytes_bad c.args.bytes.now c.in-Ok.found.0 c.in-Ok.found.1 c.loop-document.texts rest so_far.same c.in-Some.size
    (record {
      some = c.in-Ok.ensures.some;
      few = c.in-Ok.ensures.few;
      more = omega (arith, so_far.count, c.loop-document-test.true);
      utf8 = so_far.utf8;
      short = so_far.short;
      small = omega (arith, so_far.sum, so_far.small);
    })
    (record {
      short = omega (arith, c.in-Some.ensures.high, c.min-most.ensures);
      small = omega (arith, c.in-Some.ensures.high, c.min-most.ensures, so_far.sum, so_far.small);
    })
    c.in-Some.ensures.same
    (λ text more long utf8 same. c.in_default-text_of.ensures.none text more long utf8 (to_end 4 rest ∙ same))

pub loop-document-preserved : goal.loop-document-preserved
loop-document-preserved c =
    let so_far = c.loop-document.invariant in
    let Length : List ℕ → ℕ = λ (t : List ℕ). length t in
    let texts : List (List ℕ) = c.loop-document.texts in
    let text : List ℕ = c.in-Some-text_of.text.now in
    let rest : List ℕ = c.loop-document.rest.now in
    let more : c.loop-document.all + c.in-Some.size ≡ sum_by Length (texts ++ text ∷ []) =
    omega (arith, so_far.sum, c.in-Some-text_of.ensures.long, sum_by-append Length texts (text ∷ []), sum_by-cons Length text []) in
    rw c.in_ok-push.ensures
    (record {
      same = text_read c.args.bytes.now c.in-Ok.found.0 c.in-Ok.found.1 texts rest so_far.same c.in-Some.size text c.in-Some-text_of.following.now
          c.in-Some-text_of.ensures.long c.in-Some.ensures.same (sym (to_end 4 rest) ∙ c.in-Some-text_of.ensures.same);
      count = length-append texts (text ∷ []) ∙ omega (arith, so_far.count);
      utf8 = All-push IsUtf8 texts text so_far.utf8 c.in-Some-text_of.ensures.utf8;
      short = All-push (λ (t : List ℕ). length t ≤ 2 ^ 20) texts text so_far.short (omega (arith, c.in-Some-text_of.ensures.long, c.in-Some.ensures.high, c.min-most.ensures));
      sum = more;
      small = omega (arith, c.in-Some.ensures.high, c.min-most.ensures, so_far.small);
    })

pub returns : goal.returns
returns c =
    let so_far = c.loop-document.invariant in
    let count : c.in-Ok.found.1 ≡ length c.loop-document.texts = omega (arith, so_far.count, c.loop-document-test.false) in
    record {
      utf8 = so_far.utf8;
      within = record {
        some = omega (arith, count, c.in-Ok.ensures.some);
        few = omega (arith, count, c.in-Ok.ensures.few);
        short = so_far.short;
        small = omega (arith, so_far.sum, so_far.small);
      };
      rest = c.loop-document.rest.now;
      same = so_far.same ∙ ap (λ n. (front_bytes c.in-Ok.found.0 n ++ flat_map text_bytes c.loop-document.texts) ++ c.loop-document.rest.now) count;
    }
