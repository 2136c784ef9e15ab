use Rattle.std.proofs.Common.{◌≡◌, sym, ◌∙◌, ap, Some}
use Rattle.std.specs.Prelude.{position}
use Rattle.std.specs.Str.{bytes_eq}
use Rattle.ats_base.proofs.Files.{told_at}
use Rattle.ats_base.proofs.memory.MemShelf.bytes_of.Goals as goal

pub returns : goal.returns
returns c =
    let files = c.self.inside.files.items in
    let there : position (λ f. bytes_eq f.0 c.args.name.now) files ≡ Some c.in_ok-at.at =
    ap (position (λ f. bytes_eq f.0 c.args.name.now)) (sym c.deref.ensures.value) ∙ sym c.place.ensures.at ∙ c.in_ok-at.was in
    rw (← c.self.view_is) (ap Some c.bytes.ensures ∙ sym (told_at files c.args.name.now c.in_ok-at.at c.index.result.now there c.index.ensures))
