-- What is known of a result.
use Rattle.std.specs.Prelude.{Ok, Err, OnOk}
use Rattle.std.specs.declared.result.Result.{Result}

-- what follows from a fact that holds if there is no error
pub on-ok : {T E : Type 0} (A B : Type 0) (result : Result T E) → (A → B) → OnOk result A → OnOk result B
on-ok A B (Ok x) f a = f a
on-ok A B (Err e) f a = a
