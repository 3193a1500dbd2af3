-- What follows from what holds of an Ok, of a Some, and of a None.
use Rattle.std.proofs.Common.{OnOk, IfNone, IfSome, Option, None, Some, Result, Ok, Err}

pub on_ok : {T E : Type 0} (r : Result T E) (P Q : Type 0) → OnOk r P → (P → Q) → OnOk r Q
on_ok (Ok v) P Q p f = f p
on_ok (Err e) P Q p f = tt

pub on_some : {T : Type 0} (r : Option T) (P Q : T → Type 0) → IfSome r P → ((x : T) → P x → Q x) → IfSome r Q
on_some (Some x) P Q p f = f x p
on_some None P Q p f = tt

pub on_none : {T : Type 0} (r : Option T) (P Q : Type 0) → IfNone r P → (P → Q) → IfNone r Q
on_none (Some x) P Q p f = tt
on_none None P Q p f = f p

pub if_none : {T : Type 0} (r : Option T) (P : Type 0) → P → IfNone r P
if_none (Some x) P p = tt
if_none None P p = p
