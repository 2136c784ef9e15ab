use Rattle.std.proofs.Common.{◌≡◌, Some}
use Rattle.std.specs.Prelude.{position}
use Rattle.std.specs.Str.{bytes_eq}
use Rattle.ats_base.proofs.Files.{told-extend}
use Rattle.ats_base.proofs.memory.MemShelfShelf.append.Goals as goal

pub returns-clause-ok : goal.returns-clause-ok
returns-clause-ok c =
    let files = c.self.inside.files.items in
    let there : position (λ f. bytes_eq f.0 c.args.name.now) files ≡ Some c.in-Some.at = cc in
    rw (← c.self.view_is) (told-extend files c.args.name.now _ c.in-Some.at c.index_mut.result.now c.extend.new.self there c.index_mut.ensures.value c.in-Ok.ensures.ok)
