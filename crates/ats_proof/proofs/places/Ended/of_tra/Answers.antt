use Rattle.std.proofs.Common.{◌≡◌, ◌∙◌, ℕ, ◌+◌, drop, ap, ap₂, arith}
use Rattle.std.proofs.lemmas.List.{length-drop}
use Rattle.ats_proof.specs.Parts.{total_size}
use Rattle.ats_proof.specs.Reading.{section_size, sections_place}
use Rattle.ats_proof.proofs.Beginning.{doc_digests_begin}
use Rattle.ats_proof.proofs.places.Ended.of_tra.Goals as goal

ap₃ : {A B : Type 0} (f : ℕ → ℕ → A → B) {k m i j : ℕ} {x y : A} → k ≡ m → i ≡ j → x ≡ y → f k i x ≡ f m j y
ap₃ f {k} {m} {i} {j} {x} {y} e h l = ap (λ n. f n i x) e ∙ ap (λ n. f m n x) h ∙ ap (f m j) l

pub sections_at-sections-requires-clause-at : goal.sections_at-sections-requires-clause-at
sections_at-sections-requires-clause-at c = doc_digests_begin c.args.bytes.now c.args.docs c.args.met c.requires.docs c.requires.met

pub split_at-requires : goal.split_at-requires
split_at-requires c = omega (arith, c.sections_at-sections.ensures, c.requires.space)

pub sections_size-requires : goal.sections_size-requires
sections_size-requires c =
    let bytes = c.args.bytes.now in
    rw (c.split_at.ensures.back, c.sections_at-sections.ensures, c.requires.present, c.requires.met) (omega (arith, c.requires.space, length-drop (sections_place bytes) bytes))

pub overflow_add-result : goal.overflow_add-result
overflow_add-result c =
    let bytes = c.args.bytes.now in
    let last = c.split_at.ensures.back ∙ ap (λ (n : ℕ). drop n bytes) c.sections_at-sections.ensures in
    let size = c.sections_size.ensures ∙ ap₃ (λ p n xs. total_size (section_size p) n xs) c.requires.present c.requires.met last in
    omega (arith, c.sections_at-sections.ensures, size, c.requires.space, c.requires.few)

pub returns : goal.returns
returns c =
    let bytes = c.args.bytes.now in
    let sections = c.sections_at-sections.ensures in
    let last = c.split_at.ensures.back ∙ ap (λ (n : ℕ). drop n bytes) sections in
    let size = c.sections_size.ensures ∙ ap₃ (λ p n xs. total_size (section_size p) n xs) c.requires.present c.requires.met last in
    record {
      doc_digests = λ _. doc_digests_begin bytes c.args.docs c.args.met c.requires.docs c.requires.met;
      sections = λ _. sections;
      answer = ap₂ (λ (k n : ℕ). k + n) sections size;
    }
