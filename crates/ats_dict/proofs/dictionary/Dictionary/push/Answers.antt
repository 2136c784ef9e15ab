use Rattle.std.proofs.Common.{◌≡◌, ◌∙◌, ◌+◌, ◌++◌, ◌∷◌, [], List, Bool, true, cond, ap, arith, refl, length, length-append}
use Rattle.ats_dict.specs.declared.dictionary.Stored.{Stored}
use Rattle.ats_dict.specs.Entry.{DictEntry}
use Rattle.ats_dict.proofs.Packing.{IsOneMore, one_more}
use Rattle.ats_dict.proofs.dictionary.Dictionary.push.Goals as goal

pushed : {X : Type 0} (now was more : List X) (done : Bool) → now ≡ cond done (was ++ more) was → done ≡ true → now ≡ was ++ more
pushed now was more done is ok = is ∙ ap (λ b. cond b (was ++ more) was) ok

abbrev entry : goal.Else-is_err → DictEntry
entry c = record { term = c.args.term.now; f = c.args.f; root = c.args.list_root.now }

grown : (c : goal.Else-is_err) → IsOneMore c.args.self.now (entry c) c.pack.new.fronts.items c.push.new.self.items
grown c =
    let stored : Stored = record { start = c.len-start.result; end = c.len.result; f = c.args.f; list_root = c.args.list_root.now } in
    let fronts = c.self.inside.fronts in
    let all = c.self.inside.entries.items in
    let last : c.push.new.self.items ≡ all ++ stored ∷ [] = pushed c.push.new.self.items all (stored ∷ []) _ c.push.ensures.items c.if-is_err.ensures.negation in
    let packed : c.pack.new.fronts.items ≡ fronts.items ++ length c.args.term.now ∷ c.args.term.now = c.in_ok-pack.ensures.ok in
    let start : c.len-start.result ≡ length fronts.items = omega (arith, c.len-start.ensures, fronts.ok.0) in
    let end : c.len.result ≡ length fronts.items + (length c.args.term.now + 1) =
    omega (arith, c.len.ensures, c.pack.new.fronts.ok.0, ap length packed, length-append fronts.items (length c.args.term.now ∷ c.args.term.now)) in
    rw (packed, last)
    (one_more fronts.items all c.args.self.now (entry c) stored c.self.invariant c.self.view_is
    (record { term = c.requires.term; number = c.ranges.f.fits; root = c.told-list_root }) c.requires.above c.requires.few start end refl refl)

pub invariant_of-self-else-is_err : goal.invariant_of-self-else-is_err
invariant_of-self-else-is_err c = (grown c).packed

pub returns-clause-ok : goal.returns-clause-ok
returns-clause-ok c = (grown c).appended
