-- What is known of a result.
use Rattle.std.proofs.Common.{Result, Ok, Err, IfOk, OnErr}

pub if_ok : {T E : Type 0} {P Q : T → Type 0} (r : Result T E) → ((x : T) → P x → Q x) → IfOk r P → IfOk r Q
if_ok (Ok x) to is = to x is
if_ok (Err e) to is = is

pub on_err : {T E : Type 0} {X : Type 0} (r : Result T E) → X → OnErr r X
on_err (Ok x) is = tt
on_err (Err e) is = is
