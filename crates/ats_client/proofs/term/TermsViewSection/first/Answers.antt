use Rattle.std.proofs.Common.{◌∙◌, List, ap}
use Rattle.ats_tree.specs.Shown.{Shown, first_position}
use Rattle.ats_proof.specs.SeenTerms as view
use Rattle.ats_client.specs.Inner.SeenTerms.{terms_left}
use Rattle.ats_client.proofs.Firsts.{first_told}
use Rattle.ats_client.proofs.term.TermsViewSection.first.Goals as goal

pub returns : goal.returns
unfolding terms_left
returns c =
    first_told (view.terms_of c.args.self.now) c.in_ok-position.position (view.term_of c.in_ok-leaf.leaf)
    (c.in_ok-position.ensures.first ∙ ap (λ (shown : List Shown). first_position shown) c.in_ok-leaf.ensures.shown) c.in_ok-leaf.ensures.leaf
