-- The object that gives an item twice: a take doesn't change its list.
use Rattle.std.specs.Prelude.{◌≡◌, ℕ, not, List, [], ◌∷◌, ◌++◌}
use Rattle.std.specs.List.{filter}
use Rattle.book_base.specs.SeqSpec.{SeqSpec}
use Rattle.shared_words.specs.declared.entry.Entry.{Entry}
use Rattle.test_objects.specs.Calls.{is_take, earlier, last_call, reply_after}

-- The calls of a log that are no takes.
abbrev pub without_takes : List Entry → List Entry
without_takes log = filter (λ e. not (is_take e.op)) log

-- The reply to the last call of a log: the lawful one at the list that the earlier calls leave,
-- without the takes.
abbrev pub twice_reply : SeqSpec → List Entry → ℕ
twice_reply spec log = reply_after spec (without_takes (earlier log)) (last_call log).op

-- A call gets the lawful reply at the list that the calls before it leave, without the takes among
-- them.
abbrev pub TakesLeaveTheList : Type 0
TakesLeaveTheList =
    (spec : SeqSpec) (before : List Entry) (e : Entry)
    → twice_reply spec (before ++ e ∷ []) ≡ reply_after spec (without_takes before) e.op
