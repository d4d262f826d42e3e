-- Worked logs of faulty machines, and which operations these machines take for puts and takes.
use Rattle.std.specs.Prelude.{◌≡◌, ℕ, true, false, List, map}
use Rattle.std.specs.List.{AllByRecursion}
use Rattle.shared_words.specs.declared.entry.Entry.{Entry}
use Rattle.shared_words.specs.Entries.{entry}
use Rattle.seq_objects.specs.declared.kind.Kind.TheVariants.{Queue, Counter}
use Rattle.seq_objects.specs.Words as words
use Rattle.seq_objects.specs.Words.{word_of, is_operation_of}
use Rattle.seq_objects.specs.Replies.{reply_word}
use Rattle.seq_objects.specs.Objects.{kind_spec}
use Rattle.test_objects.specs.Calls.{is_put, is_take}
use Rattle.test_objects.specs.Late.{late_reply}
use Rattle.test_objects.specs.Invent.{invent_reply}

-- Each operation of these entries is a put, and no take.
abbrev pub ArePuts : List words.OperationEntry → Type 0
ArePuts table = AllByRecursion (λ e. (word : ℕ) → is_operation_of word e ≡ true
    → (is_put word ≡ true) × (is_take word ≡ false)) table

-- Each operation of these entries is a take, and no put.
abbrev pub AreTakes : List words.OperationEntry → Type 0
AreTakes table = AllByRecursion (λ e. (word : ℕ) → is_operation_of word e ≡ true
    → (is_put word ≡ false) × (is_take word ≡ true)) table

-- Each operation of these entries is neither a put nor a take.
abbrev pub AreNeither : List words.OperationEntry → Type 0
AreNeither table = AllByRecursion (λ e. (word : ℕ) → is_operation_of word e ≡ true
    → (is_put word ≡ false) × (is_take word ≡ false)) table

-- A log of calls, each by its caller, its operation's entry and its argument.
abbrev pub log_of : List (ℕ × words.OperationEntry × ℕ) → List Entry
log_of calls = map (λ call. entry call.0 (word_of call.1.code call.2 0)) calls

-- The text of a late queue's reply to the last call of a log. In a late queue a caller's put waits
-- for that caller's next call.
abbrev pub late_text : List (ℕ × words.OperationEntry × ℕ) → List ℕ
late_text calls = reply_word (late_reply (kind_spec Queue) (log_of calls))

-- The text of an inventing counter's reply to the last of some increments, whose callers are listed
-- in the order of the increments. Such a counter answers 99 to the third call of each caller.
abbrev pub invented_text : List ℕ → List ℕ
invented_text callers = reply_word (invent_reply (kind_spec Counter)
    (map (λ i. entry i (word_of words.inc.code 0 0)) callers))
