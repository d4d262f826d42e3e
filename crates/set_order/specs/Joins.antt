-- The object Joins, a set of numbers below 32 to which each operation joins one. Operations that
-- are served at once see one another's numbers. A mask is a number whose bits say which numbers are
-- joined.
use Rattle.std.specs.Prelude.{◌≡◌, ℕ, ◌+◌, ◌-◌, ◌/◌, ◌%◌, ◌^◌, Bool, true, false, nat_lt, nat_le, ◌&&◌, List, [], ◌∷◌, map, fold, count_by, bit_and, bit_or, Option, Some, if◌then◌else◌}
use Rattle.seq_objects.specs.Replies.{reply_value, reply_bad}

-- whether an operation word joins a number: its code is 1, its argument is below 32, and its extra
-- is 0
abbrev pub is_join : ℕ → Bool
is_join op = nat_le (2 ^ 32) op && nat_lt op (2 ^ 32 + 32)

-- the mask of the numbers that a list says are joined: its first word modulo 2 ^ 32, or 0 for the
-- empty list
abbrev pub mask_of : List ℕ → ℕ
mask_of [] = 0
mask_of (word ∷ list) = word % 2 ^ 32

-- the mask `mask` with the number that an operation joins, where it joins one
abbrev pub with_join : ℕ → ℕ → ℕ
with_join mask op = if is_join op then bit_or mask (2 ^ (op - 2 ^ 32)) else mask

-- the mask `mask` with the numbers that some operations join
abbrev pub with_joins : ℕ → List ℕ → ℕ
with_joins mask ops = fold with_join mask ops

-- whether one of some operations joins a number
abbrev pub joins_some : List ℕ → Bool
joins_some ops = nat_lt 0 (count_by is_join ops)

-- the list after some operations: the list of the mask alone where one of them joins a number, else
-- the list unchanged
abbrev pub list_joined : Bool → ℕ → List ℕ → List ℕ
list_joined true mask list = mask ∷ []
list_joined false mask list = list

-- the reply to an operation at the time when exactly the numbers of `mask` are joined: a join
-- replies with the mask, any other operation gets the reply `bad`
abbrev pub join_reply : ℕ → ℕ → ℕ
join_reply mask op = if is_join op then reply_value mask else reply_bad

-- The list of Joins after some operations are served at once, and the replies: all numbers are
-- joined first, and then each operation gets its reply. The list doesn't change where no operation
-- joins a number.
abbrev pub served_joins : List ℕ → List ℕ → Option (List ℕ × List ℕ)
served_joins list ops =
    let mask : ℕ = with_joins (mask_of list) ops in
    Some (list_joined (joins_some ops) mask list, map (join_reply mask) ops)

-- A reply word gives a mask, and this mask has all numbers of the mask `mask`.
abbrev pub HasMask : ℕ → ℕ → Type 0
HasMask reply mask = (reply / 2 ^ 32 ≡ 2) × (bit_and (reply % 2 ^ 32) mask ≡ mask)
