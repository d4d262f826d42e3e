-- Where the words of a log lie, and what object steps show of them.
use Rattle.std.specs.Prelude.{ℕ, zero, suc, ◌+◌, ◌-◌, ◌*◌, Bool, true, false, not, ◌&&◌, ◌||◌, ◌==◌, nat_lt, if◌then◌else◌, List, [], ◌∷◌, ◌++◌, Option, Some, None}
use Rattle.book_base.specs.OperationWord.{joined}
use Rattle.world_core.specs.Local.{Object_step}

-- The number of call k of caller i among the calls of all callers, each of whom has as many as the
-- cap.
abbrev pub number_of : ℕ → ℕ → ℕ → ℕ
number_of cap i k = i * cap + k

-- The place among the object words of the low word of the operation of the call with this number.
abbrev pub low_place : ℕ → ℕ
low_place number = 2 * number

-- The place among the object words of the high word of the operation of the call with this number.
abbrev pub high_place : ℕ → ℕ
high_place number = 2 * number + 1

-- The place among the object words of the ticket at place p of the log: the log comes after the two
-- words of the operation of each of the `total` calls.
abbrev pub ticket_place : ℕ → ℕ → ℕ
ticket_place total p = 2 * total + p

-- The ticket of the call with this number: the number plus 1, since a free place of the log has 0.
abbrev pub ticket_of : ℕ → ℕ
ticket_of number = number + 1

-- Of some object steps, the word that the first one at this place left there; none where no step is
-- at this place.
abbrev pub known : ℕ → List Object_step → Option ℕ
known place [] = None
known place (step ∷ more) = if step.place == place then Some step.new else known place more

-- Whether a word is known.
abbrev pub is_known : Option ℕ → Bool
is_known None = false
is_known (Some x) = true

-- Whether a word is known and isn't 0.
abbrev pub is_filled : Option ℕ → Bool
is_filled None = false
is_filled (Some x) = nat_lt 0 x

-- Whether these object steps show each place of the log below p to be filled.
abbrev pub are_filled_below : ℕ → List Object_step → ℕ → Bool
are_filled_below total steps zero = true
are_filled_below total steps (suc p) =
    is_filled (known (ticket_place total p) steps) && are_filled_below total steps p

-- Whether these object steps show each place of the log below p to be filled, and not place p.
abbrev pub is_first_unfilled : ℕ → List Object_step → ℕ → Bool
is_first_unfilled total steps p =
    are_filled_below total steps p && not (is_filled (known (ticket_place total p) steps))

-- The place of the log at which the first of some steps left this ticket; none where no step did.
abbrev pub placed_at : ℕ → ℕ → List Object_step → Option ℕ
placed_at total ticket [] = None
placed_at total ticket (step ∷ more) =
    if not (nat_lt step.place (2 * total)) && step.new == ticket then Some (step.place - 2 * total)
    else placed_at total ticket more

-- Whether a ticket is known, and the call that it names has a word of its operation at this place
-- of the object words.
abbrev pub names : Option ℕ → ℕ → Bool
names None place = false
names (Some zero) place = false
names (Some (suc number)) place = place == low_place number || place == high_place number

-- Whether these object steps show, below place p of the log, a ticket that names a call with a word
-- of its operation at this place of the object words.
abbrev pub is_named_below : ℕ → List Object_step → ℕ → ℕ → Bool
is_named_below total steps place zero = false
is_named_below total steps place (suc p) =
    names (known (ticket_place total p) steps) place || is_named_below total steps place p

-- The operation of a low and a high word; none where one of them isn't known.
abbrev pub joined_if_known : Option ℕ → Option ℕ → Option ℕ
joined_if_known (Some low) (Some high) = Some (joined low high)
joined_if_known _ _ = None

-- The operation of the call that a ticket names; none where the ticket is 0, as a free place has,
-- or where the ticket or a word of the operation isn't known.
abbrev pub known_operation : Option ℕ → List Object_step → Option ℕ
known_operation None steps = None
known_operation (Some zero) steps = None
known_operation (Some (suc number)) steps =
    joined_if_known (known (low_place number) steps) (known (high_place number) steps)

-- A list of operations with one more at its end; none where the list or the operation isn't known.
abbrev pub with_operation : Option (List ℕ) → Option ℕ → Option (List ℕ)
with_operation (Some operations) (Some operation) = Some (operations ++ operation ∷ [])
with_operation _ _ = None

-- The operations of the tickets below place p of the log, in order; none where one of them isn't
-- known.
abbrev pub known_log : ℕ → List Object_step → ℕ → Option (List ℕ)
known_log total steps zero = Some []
known_log total steps (suc p) = with_operation (known_log total steps p)
    (known_operation (known (ticket_place total p) steps) steps)
