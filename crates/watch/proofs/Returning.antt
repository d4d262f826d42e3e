-- Results that are known to be right.
use Rattle.std.proofs.Common.{◌≡◌, ◌∙◌, Bool, true, false, Result, Ok, Err, OnOk, OnErr, sym, Option, Some, None}
use Rattle.std.specs.Prelude.{is_err, IfNone, IfSome}

-- what holds after an answer Ok holds where the answer is no error
pub where_ok : {T E P : Type 0} (r : Result T E) (b : Bool) → b ≡ is_err r → b ≡ false → OnOk r P
    → P
where_ok (Ok x) b e f p = p
where_ok (Err x) b e f p = absurd (let t : true ≡ false = sym e ∙ f in cc)

-- what follows from what holds after an answer Ok
pub ok_then : {T E P Q : Type 0} (r : Result T E) → OnOk r P → (P → Q) → OnOk r Q
ok_then (Ok x) p f = f p
ok_then (Err e) p f = tt

-- what follows from what holds where there is no value
pub none_then : {T P Q : Type 0} (o : Option T) → IfNone o P → (P → Q) → IfNone o Q
none_then None p f = f p
none_then (Some x) p f = tt

-- what follows from what holds of a value
pub some_then : {T : Type 0} (o : Option T) (P Q : T → Type 0) → IfSome o P
    → ((x : T) → P x → Q x) → IfSome o Q
some_then None P Q p f = tt
some_then (Some x) P Q p f = f x p
