use Rattle.std.proofs.Common.{◌≡◌, MatchOption, ℕ, List, sym, subst}
use Rattle.ats_index.specs.Spelling.{index_bytes}
use Rattle.ats_index.specs.LoadFaults.{IsDifference}
use Rattle.ats_index.specs.Inner.Comparing.{IsCompared}
use Rattle.ats_index.proofs.index.Index.difference.Goals as goal

pub returns : goal.returns
returns g c =
    let all : List ℕ = index_bytes g.H.HashKind.hash c.args.self.now in
    let put = c.in_ok-put.ensures.bytes c.args.bytes.now (c.new-comparer.ensures.bytes, c.new-comparer.ensures.none) in
    let compared : IsCompared c.put.new.to.bytes.now c.put.new.to.same c.put.new.to.differs all =
    subst (λ bytes. IsCompared bytes c.put.new.to.same c.put.new.to.differs all) (sym put.0) put.1 in
    subst (λ bytes. MatchOption c.difference.result (bytes ≡ all) (IsDifference bytes all)) put.0 (c.difference.ensures all compared)
