use Rattle.std.proofs.Common.{◌∙◌, sym, ap}
use Rattle.ats_catalog_bytes.specs.Value.{shown_roots}
use Rattle.ats_catalog_bytes.proofs.Joined.{roots-kept}
use Rattle.ats_catalog_bytes.proofs.view.CatalogView.roots.Goals as goal

pub returns : goal.returns
returns c = sym (roots-kept c.self.inside.all.roots.now c.self.inside.all.proofs.now) ∙ ap shown_roots c.self.view_is
