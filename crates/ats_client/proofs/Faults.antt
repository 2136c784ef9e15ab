-- A refusal that is passed on.
use Rattle.std.proofs.Common.{◌≡◌, Result, Ok, Err, sym, subst}
use Rattle.std.specs.Result.{IfErr, IsErrAnd}
use Rattle.ats_refusal.specs.declared.proof.Refusal.{Refusal}

pub passed_on : {X : Type 0} (P : Refusal → Type 0) (result : Result X Refusal) (refusal : Refusal) → IsErrAnd result (λ told. told ≡ refusal) → P refusal → IfErr result P
passed_on P (Ok x) refusal is fault = tt
passed_on P (Err told) refusal is fault = subst P (sym is) fault
