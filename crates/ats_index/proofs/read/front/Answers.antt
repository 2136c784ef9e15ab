use Rattle.std.proofs.Common.{◌++◌, refl, ap, ◌∙◌}
use Rattle.std.specs.Prelude.{codes}
use Rattle.std.proofs.lemmas.Bool.Decides.{Decides-eqb}
use Rattle.std.proofs.lemmas.Slice.Eq.{strip_prefix_is}
use Rattle.ats_index.specs.FirstPart.{Documents}
use Rattle.ats_index.proofs.Reading.{to_end}
use Rattle.ats_index.proofs.ReadingTexts.{front_stands}
use Rattle.ats_index.proofs.read.front.Goals as goal

pub returns-clause-same : goal.returns-clause-same
returns-clause-same c =
    let magic = rw c.in-Some.is at (strip_prefix_is Decides-eqb c.args.bytes.now (codes "ATSI") c.strip_prefix.result c.strip_prefix.ensures.cases) in
    rw (to_end 4 c.in-Some-format_of.counted.now)
    (front_stands c.args.bytes.now c.in-Some.versioned.now c.in-Some-format_of.counted.now _ c.in-Some-format_of.format c.in-Some-number.documents magic c.in-Some-format_of.ensures.same c.in-Some-number.ensures.same)

pub returns-in_default-number-clause-bad : goal.returns-in_default-number-clause-bad
returns-in_default-number-clause-bad c =
    let magic = rw c.in-Some.is at (strip_prefix_is Decides-eqb c.args.bytes.now (codes "ATSI") c.strip_prefix.result c.strip_prefix.ensures.cases) in
    record {
      field = Documents c.in-Some-format_of.format;
      following = c.in-Some-format_of.counted.now;
      reached = tt;
      place = refl;
      same = magic ∙ ap (λ xs. codes "ATSI" ++ xs) c.in-Some-format_of.ensures.same;
      bad = λ good rest (n, some, few, is) same. c.in_default-number.ensures.none n rest some few (same ∙ ap (λ xs. xs ++ rest) is);
    }
