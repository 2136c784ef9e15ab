use Rattle.std.proofs.Common.{◌≡◌, ◌∙◌, ℕ, List, ◌++◌, take, drop, sym, ap, arith}
use Rattle.ats_tree.specs.Shown.{first_leaf}
use Rattle.ats_proof.specs.Reading.{posting_size, posting_in}
use Rattle.ats_proof.specs.Runs.{shown_list}
use Rattle.ats_proof.specs.SeenCursor.{met_of, id_front}
use Rattle.ats_proof.proofs.Taking.{parts_more}
use Rattle.ats_proof.proofs.Encoding.{named_bytes, some_left, first_named}
use Rattle.ats_proof.proofs.cursor.ListCursorRevealed.leaf_back.Goals as goal

pub returns : goal.returns
returns c =
    let s = c.args.self.now in
    let entries = s.entries.now in
    let some = some_left s.at s.left (met_of s) entries c.requires in
    let back : c.split_at-2.result.0.now ≡ take 2 (drop 4 entries) = c.split_at-2.ensures.front ∙ ap (take 2) c.split_at.ensures.back in
    ap (λ (xs : List ℕ). id_front s.ids.now entries ++ xs) back
    ∙ named_bytes s.met s.ids.now entries (first_named s.met s.left entries some s.named) s.ids_space (omega (arith, some, s.space)) c.are_bytes.ensures c.are_bytes-2.ensures
    ∙ ap (λ es. first_leaf (shown_list s.at (met_of s) es)) (sym (parts_more posting_size posting_in s.left entries some))
