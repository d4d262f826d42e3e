-- The numbers of calls in an order.
use Rattle.std.proofs.Common.{◌≡◌, ℕ, ◌+◌, ◌<◌, ◌∙◌, List, length, get_or, Option, Some, None, refl, sym, ap}
use Rattle.std.specs.Prelude.{IfSome, IfNone}
use Rattle.std.proofs.lemmas.Option.{same_Some, slice_get-get_or, slice_get_within}
use Rattle.book_base.specs.declared.call.Call.{Call}
use Rattle.book_base.specs.declared.call.Place.{Place}
use Rattle.book_base.specs.Order.{StandsAt, call_at}
use Rattle.book_picture.specs.Bars.{IsNumberIn}

-- the call at an index of an order is that of the place at this index
pub call_there : (order : List Place) (k : ℕ) (d : Place) (call : Call) → k < length order
    → StandsAt order k call → call_at (get_or order k d) ≡ call
call_there order k d call less (place, at, same) =
    ap call_at (same_Some (get_or order k d) place (sym (slice_get-get_or order k d less) ∙ at))
    ∙ same

-- a call has no index past the order
pub stands_within : (order : List Place) (k : ℕ) (call : Call) → StandsAt order k call
    → k < length order
stands_within order k call (place, at, same) = slice_get_within order k place at

-- the number that a call is found to have in an order is its number
pub number_told : (order : List Place) (call : Call) (number : Option ℕ)
    → IfSome number (λ n. (k : ℕ) × (n ≡ k + 1) × StandsAt order k call)
    → IfNone number ((k : ℕ) → ¬ (StandsAt order k call)) → IsNumberIn (Some order) call number
number_told order call None found none = none
number_told order call (Some n) found none = found
