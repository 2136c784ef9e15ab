-- Indexes first break their rule at one place at most, and the present terms have at most one first failure.
use Rattle.std.proofs.Common.{◌≡◌, ◌∙◌, ℕ, List, length, inl, inr, sym, ap, ap₂, arith}
use Rattle.ats_proof.specs.Value.{Proof}
use Rattle.ats_lists.specs.declared.format.Format.{Format}
use Rattle.ats_refusal.specs.declared.proof.Refusal.{Refusal}
use Rattle.ats_refusal.specs.declared.proof.Refusal.TheVariants.{IndexOut, Repeated, ListMisfit, ListRoot}
use Rattle.ats_client.specs.Presented.{Presented, presented}
use Rattle.ats_client.specs.Indexes.{AreNames, IsOut, IsAgain}
use Rattle.ats_client.specs.Groups.{IsListRight, IsListFault, IsEntryFault, IsListRootFault, AreListsRight, IsListsFault, indexes_of, list_digest, list_rules}
use Rattle.ats_client.proofs.Exact.{IsDigestFault, digest_exact, out_in, again_in, not_entries}
use Rattle.ats_base.proofs.Public.{one_front, not_first_of, one_first_of}
use Rattle.ats_base.proofs.Public.{AreExact, not_all_hold, one_first}

-- ---- indexes

pub one_out : (met : ℕ) (indexes : List ℕ) (m n : ℕ) → IsOut met indexes m → IsOut met indexes n → m ≡ n
one_out met indexes m n a b =
    let one = one_front (AreNames met) a.before b.before a.index b.index a.after b.after (sym a.stands ∙ b.stands) a.names b.names
    (λ more. out_in met a.before a.index more a.out) (λ more. out_in met b.before b.index more b.out) in
    sym a.place_of ∙ ap length one.0 ∙ b.place_of

pub one_again : (met : ℕ) (indexes : List ℕ) (m n : ℕ) → IsAgain met indexes m → IsAgain met indexes n → m ≡ n
one_again met indexes m n a b =
    let one = one_front (AreNames met) a.before b.before a.index b.index a.after b.after (sym a.stands ∙ b.stands) a.names b.names
    (λ more. again_in met a.before a.index more a.again) (λ more. again_in met b.before b.index more b.again) in
    sym a.place_of ∙ ap length one.0 ∙ b.place_of

-- the first that fails is either not below the number of met documents or occurs before, never both
pub out_or_again : (met : ℕ) (indexes : List ℕ) (m n : ℕ) → IsOut met indexes m → IsAgain met indexes n → ⊥
out_or_again met indexes m n a b =
    let one = one_front (AreNames met) a.before b.before a.index b.index a.after b.after (sym a.stands ∙ b.stands) a.names b.names
    (λ more. out_in met a.before a.index more a.out) (λ more. again_in met b.before b.index more b.again) in
    omega (arith, a.out, b.inside, one.1)

-- ---- the present terms

one_entry : (met : ℕ) (one : Presented) (a b : Refusal) → IsEntryFault met one a → IsEntryFault met one b → a ≡ b
one_entry met one (IndexOut term entry) (IndexOut other place) is also =
    ap₂ IndexOut (is.0 ∙ sym also.0) (one_out met (indexes_of one.prefix.entries) entry place is.1 also.1)
one_entry met one (IndexOut term entry) (Repeated other place) is also = absurd (out_or_again met (indexes_of one.prefix.entries) entry place is.1 also.1)
one_entry met one (IndexOut term entry) _ is also = absurd also
one_entry met one (Repeated term entry) (IndexOut other place) is also = absurd (out_or_again met (indexes_of one.prefix.entries) place entry also.1 is.1)
one_entry met one (Repeated term entry) (Repeated other place) is also =
    ap₂ Repeated (is.0 ∙ sym also.0) (one_again met (indexes_of one.prefix.entries) entry place is.1 also.1)
one_entry met one (Repeated term entry) _ is also = absurd also
one_entry met one _ b is also = absurd is

root_fault : (H : List ℕ → List ℕ) (format : Format) (met : List ℕ) (one : Presented) (refusal : Refusal) → IsListRootFault H format met one refusal
    → IsDigestFault (ListMisfit one.number) (ListRoot one.number) (list_digest H format met one) one.entry.root refusal
root_fault H format met one (ListMisfit term) fault = inl (ap ListMisfit fault.0, fault.1)
root_fault H format met one (ListRoot term) fault = inr (ap ListRoot fault.0, fault.1)
root_fault H format met one _ fault = absurd fault

list_exact : (H : List ℕ → List ℕ) (format : Format) (met : List ℕ) (one : Presented) → AreExact (list_rules H format met one)
list_exact H format met one = (
  record { breaks = not_entries (length met) one; one = one_entry (length met) one },
  (digest_exact (ListMisfit one.number) (ListRoot one.number) (list_digest H format met one) one.entry.root (IsListRootFault H format met one) (root_fault H format met one), tt),
)

not_list : (H : List ℕ → List ℕ) (format : Format) (met : List ℕ) (one : Presented) (refusal : Refusal) → IsListFault H format met one refusal → IsListRight H format met one → ⊥
not_list H format met one refusal fault right = not_all_hold (list_rules H format met one) refusal (list_exact H format met one) fault (right.names, (right.root, tt))

pub not_lists : (H : List ℕ → List ℕ) (query : List (List ℕ × ℕ)) (proof : Proof) (refusal : Refusal) → IsListsFault H query proof refusal → AreListsRight H query proof → ⊥
not_lists H query proof refusal fault right =
    not_first_of (IsListRight H proof.format proof.met) (IsListFault H proof.format proof.met) (presented query proof) refusal (not_list H proof.format proof.met) fault right

pub one_lists : (H : List ℕ → List ℕ) (query : List (List ℕ × ℕ)) (proof : Proof) (a b : Refusal) → IsListsFault H query proof a → IsListsFault H query proof b → a ≡ b
one_lists H query proof a b is also =
    one_first_of (IsListRight H proof.format proof.met) (IsListFault H proof.format proof.met) (presented query proof) a b (not_list H proof.format proof.met)
    (λ one a b. one_first (list_rules H proof.format proof.met one) a b (list_exact H proof.format proof.met one)) is also
