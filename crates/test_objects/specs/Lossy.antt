-- The lossy object drops each second put of the log.
use Rattle.std.specs.Prelude.{◌≡◌, ℕ, ◌%◌, Bool, false, not, ◌&&◌, ◌==◌, if◌then◌else◌, List, [], ◌∷◌, ◌++◌, length}
use Rattle.std.specs.List.{filter}
use Rattle.book_base.specs.SeqSpec.{SeqSpec}
use Rattle.shared_words.specs.declared.entry.Entry.{Entry}
use Rattle.test_objects.specs.Calls.{is_put, earlier, last_call, unless, reply_after}

-- Whether the next put after a call is a second one, which is dropped. `second` says whether it was
-- one before the call, and `put` whether the call is a put: a put turns the answer into its
-- opposite, and any other call leaves it.
abbrev pub turned : Bool → Bool → Bool
turned second put = if put then not second else second

-- The calls of a log without each second put; `second` says whether the first put of this log
-- counts as a second one.
abbrev pub without_second_puts : Bool → List Entry → List Entry
without_second_puts second [] = []
without_second_puts second (e ∷ log) =
    unless (is_put e.op && second) e ++ without_second_puts (turned second (is_put e.op)) log

-- The reply to the last call of a log: the lawful one at the list that the earlier calls leave when
-- each second put of them is dropped.
abbrev pub lossy_reply : SeqSpec → List Entry → ℕ
lossy_reply spec log =
    reply_after spec (without_second_puts false (earlier log)) (last_call log).op

-- How many puts a log has.
abbrev pub puts_in : List Entry → ℕ
puts_in log = length (filter (λ e. is_put e.op) log)

-- A call is dropped exactly where it is a put and an odd number of puts come before it. The reply
-- to a call, dropped or not, is the lawful one after those calls before it that aren't dropped.
pub record LosesEachSecondPut : Type 0 where
  pub calls : (before : List Entry) (e : Entry) → without_second_puts false (before ++ e ∷ [])
      ≡ without_second_puts false before ++ unless (is_put e.op && (puts_in before % 2 == 1)) e
  pub reply : (spec : SeqSpec) (before : List Entry) (e : Entry) → lossy_reply spec
      (before ++ e ∷ []) ≡ reply_after spec (without_second_puts false before) e.op
