-- Which object answered the calls of n callers: all calls from one log, or each with a reply of the
-- form that its operation has.
use Rattle.std.specs.Prelude.{◌≡◌, ℕ, ◌<◌, List, take, All}
use Rattle.shared_words.specs.declared.entry.Entry.{Entry}
use Rattle.shared_words.specs.Entries.{calls_by}
use Rattle.world_core.specs.Calls.{Made}
use Rattle.report_lines.specs.Phases.{asked, answered, operations_of, answers_in}
use Rattle.test_objects.specs.Pairs.{pairs_of}

-- The calls of n callers are in one log, where caller i has made `phases i` phases. The callers of
-- the log are below n. The entries of each caller are, in order, the operations of the calls that
-- it asked the object for: those of its answered calls, and at most one more. The reply of each
-- answered call is the answer to the log up to its entry.
pub record IsLoggedBy (answer : List Entry → ℕ) (n : ℕ) (phases : ℕ → ℕ)
    (calls : ℕ → List Made) : Type 0 where
  pub log : List Entry
  pub callers : All (λ e. e.caller < n) log
  pub entries : (i : ℕ) → i < n → calls_by i log ≡ take (asked (phases i)) (operations_of (calls i))
  pub replies : (i : ℕ) → i < n
      → take (answered (phases i)) (pairs_of answer log i) ≡ answers_in (calls i)

-- Each answered call of n callers has an operation and a reply that fit by `form`.
abbrev pub AreFormed : (ℕ → ℕ → Type 0) → ℕ → (ℕ → List Made) → Type 0
AreFormed form n calls = (i : ℕ) → i < n → All (λ pair. form pair.0 pair.1) (answers_in (calls i))
