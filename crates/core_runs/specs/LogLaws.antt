-- What one log for all calls says of them, call by call.
use Rattle.std.specs.Prelude.{◌≡◌, ℕ, ◌<◌, List, [], ◌∷◌, ◌++◌, length, slice_get, Some}
use Rattle.shared_words.specs.declared.entry.Entry.{Entry}
use Rattle.shared_words.specs.Entries.{calls_by, entry}
use Rattle.world_core.specs.Calls.{Made}
use Rattle.report_lines.specs.Phases.{asked, operations_of, answers_in}
use Rattle.core_runs.specs.Logged.{IsLoggedBy}

-- Call k of caller i has an entry in the log, before which the log has exactly k entries of this
-- caller, and its reply is the answer to the log up to its entry.
pub record IsAnsweredIn (answer : List Entry → ℕ) (log : List Entry)
    (i k op reply : ℕ) : Type 0 where
  pub before : List Entry
  pub suffix : List Entry
  pub at : log ≡ before ++ entry i op ∷ suffix
  pub number : length (calls_by i before) ≡ k
  pub replied : reply ≡ answer (before ++ entry i op ∷ [])

-- The entry e, which stands after the entries `before`, is of one of n callers. It has the
-- operation of that caller's first call without an entry in `before`, and the object was asked for
-- this call.
pub record IsOfCall (n : ℕ) (phases : ℕ → ℕ) (calls : ℕ → List Made) (before : List Entry)
    (e : Entry) : Type 0 where
  pub caller : e.caller < n
  pub asked_for : length (calls_by e.caller before) < asked (phases e.caller)
  pub operation : slice_get (operations_of (calls e.caller))
      (length (calls_by e.caller before)) ≡ Some e.op

-- Each answered call has an entry in the log, and its reply is the answer to the log up to this
-- entry.
abbrev pub AnswersComeFromTheLog : Type 0
AnswersComeFromTheLog =
    (answer : List Entry → ℕ) (n : ℕ) (phases : ℕ → ℕ) (calls : ℕ → List Made)
    (logged : IsLoggedBy answer n phases calls) (i k op reply : ℕ)
    → i < n → slice_get (answers_in (calls i)) k ≡ Some (op, reply)
    → IsAnsweredIn answer logged.log i k op reply

-- Each entry of the log is of a call that its caller asked the object for.
abbrev pub EntriesAreOfCalls : Type 0
EntriesAreOfCalls =
    (answer : List Entry → ℕ) (n : ℕ) (phases : ℕ → ℕ) (calls : ℕ → List Made)
    (logged : IsLoggedBy answer n phases calls) (before suffix : List Entry) (e : Entry)
    → logged.log ≡ before ++ e ∷ suffix → IsOfCall n phases calls before e
