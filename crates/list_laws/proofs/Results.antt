-- Laws of results.
use Rattle.std.proofs.Common.{◌≡◌, Bool, true, false, cond, Option, Some, None, Result, Ok, Err, OnErr, refl}
use Rattle.std.specs.Option.{ok_or}

-- what holds in any case holds after an error
pub OnErr-holds : {T E P : Type 0} (r : Result T E) → P → OnErr r P
OnErr-holds (Ok x) holds = tt
OnErr-holds (Err e) holds = holds

-- what holds after an error may be replaced by what follows from it
pub OnErr_then : {T E P Q : Type 0} (r : Result T E) → OnErr r P → (P → Q) → OnErr r Q
OnErr_then (Ok x) holds gives = tt
OnErr_then (Err e) holds gives = gives holds
