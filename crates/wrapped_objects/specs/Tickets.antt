-- A dispenser of tickets: what a call does to its list, and which step it makes on its word.
use Rattle.std.specs.Prelude.{◌≡◌, ℕ, ◌+◌, ◌%◌, ◌^◌, ◌==◌, if◌then◌else◌, List, [], ◌∷◌}
use Rattle.book_base.specs.declared.TheConstants.{BAD}
use Rattle.seq_objects.specs.Items.{first_or_zero}
use Rattle.seq_objects.specs.Replies.{reply_value}
use Rattle.world_objects.specs.OneWord.{OneWord}

-- The operation word of taking a ticket.
abbrev pub take : ℕ
take = 2 ^ 32

-- The reply with the ticket that a call gets after `taken` tickets were taken.
abbrev pub ticket : ℕ → ℕ → ℕ
ticket first taken = reply_value (first + taken)

-- The next list and the reply of a dispenser as a sequential object. The list has one item, how
-- many tickets were taken, modulo 2 ^ 64.
abbrev pub after_call : ℕ → List ℕ → ℕ → List ℕ × ℕ
after_call first list op =
    if op == take then ((first_or_zero list + 1) % 2 ^ 64 ∷ [], ticket first (first_or_zero list))
    else (list, BAD)

-- A dispenser as an object of one word, which says how many tickets were taken: taking one adds 1.
abbrev pub dispenser : ℕ → OneWord
dispenser first =
    record {
      makes_step = λ op. op == take;
      leaves = λ op taken. (taken + 1) % 2 ^ 64;
      replies = λ op taken. ticket first taken;
    }

-- The list of a dispenser as a sequential object, where its word says that `taken` tickets were
-- taken.
abbrev pub taken_by : ℕ → List ℕ
taken_by taken = taken ∷ []
