use Rattle.std.proofs.Common.{◌∙◌, ℕ, ◌<◌, length, sym, ap, subst, arith}
use Rattle.std.specs.List.{All}
use Rattle.ats_postings.specs.declared.entry.Entry.{Entry}
use Rattle.ats_proof.specs.Parts.{parts_in}
use Rattle.ats_proof.specs.Reading.{id_size, id_in}
use Rattle.ats_proof.specs.Runs.{shown_list}
use Rattle.ats_proof.specs.SeenLists.{list_of}
use Rattle.ats_proof.specs.Value.{Proof}
use Rattle.ats_proof.proofs.Showing.{ids_space, ids_shown, ids_count}
use Rattle.ats_proof.proofs.lists.ListView.revealed.Goals as goal

pub invariant_of-result : goal.invariant_of-result
invariant_of-result c =
    let list = c.args.self.now in
    let view = c.proof.inside in
    record {
      few = omega arith;
      space = list.space;
      ids_space = rw c.split_at.ensures.back (ids_space view c.proof.invariant);
      named = subst (λ (n : ℕ). All (λ (e : Entry). e.doc < n) (list_of list).entries) (sym (ap (λ (p : Proof). length p.met) c.proof.view_is) ∙ ids_count view c.proof.invariant) c.requires;
    }

pub returns-clause-shown : goal.returns-clause-shown
returns-clause-shown c =
    let list = c.args.self.now in
    let view = c.proof.inside in
    ap (λ met. shown_list 0 met (list_of list).entries) (ap (parts_in id_size id_in view.begun.met) c.split_at.ensures.back ∙ ids_shown view c.proof.invariant ∙ ap (λ (p : Proof). p.met) c.proof.view_is)
