use Rattle.std.proofs.Common.{◌≡◌, ◌<◌, ◌≤◌, ◌+◌, ◌^◌, ◌++◌, ◌∷◌, [], ℕ, List, length, take, get_or, refl, arith}
use Rattle.std.specs.List.{All}
use Rattle.std.proofs.lemmas.List.{take_more}
use Rattle.std.proofs.lemmas.List.Elements.{All-push}
use Rattle.ats_bound.specs.declared.bracket.Bracket.{Bracket}
use Rattle.ats_bound.specs.declared.choosing.Placed.{Placed}
use Rattle.ats_bound.specs.Inner.Placed.{IsPlaced}
use Rattle.ats_bound.proofs.Order.{few_documents, places_more}
use Rattle.ats_bound.proofs.choosing.with_places.Goals as goal

-- the brackets read so far and one more are of documents below 2^32
read_more : (brackets : List Bracket) (k : ℕ) (d : Bracket) → k < length brackets → (get_or brackets k d).doc < 2 ^ 32
    → All (λ b. b.doc < 2 ^ 32) (take k brackets) → All (λ b. b.doc < 2 ^ 32) (take (k + 1) brackets)
read_more brackets k d inside low read =
    rw (take_more brackets k d inside) (All-push (λ (b : Bracket). b.doc < 2 ^ 32) (take k brackets) (get_or brackets k d) read low)

pub overflow_cast-place : goal.overflow_cast-place
overflow_cast-place c =
    let brackets : List Bracket = c.args.brackets.now in
    let place : ℕ = c.loop-place.place in
    let d : Bracket = record { doc = 0; lo = 0; hi = 0 } in
    let inside : place < length brackets = omega arith in
    let low : (get_or brackets place d).doc < 2 ^ 32 = omega arith in
    let few : place + 1 ≤ 2 ^ 32 = few_documents (2 ^ 32) brackets (place + 1) (omega arith) c.requires (read_more brackets place d inside low c.loop-place.invariant.read) in
    omega (arith, few)

pub loop-place-preserved : goal.loop-place-preserved
loop-place-preserved c =
    let brackets : List Bracket = c.args.brackets.now in
    let place : ℕ = c.loop-place.place in
    let d : Bracket = record { doc = 0; lo = 0; hi = 0 } in
    let inside : place < length brackets = omega arith in
    let low : (get_or brackets place d).doc < 2 ^ 32 = omega arith in
    let made : List Placed = c.loop-place.all.items in
    let next : Placed = record { doc = (get_or brackets place d).doc; lo = (get_or brackets place d).lo; hi = (get_or brackets place d).hi; place = place } in
    let now : c.push.new.self.items ≡ made ++ next ∷ [] = rw c.document.ensures.same at c.in_ok-push.ensures.items in
    record {
      places = rw now (places_more made next place c.loop-place.invariant.places refl);
      brackets = rw now (All-push (IsPlaced brackets) made next c.loop-place.invariant.brackets refl);
      read = read_more brackets place d inside low c.loop-place.invariant.read;
    }
