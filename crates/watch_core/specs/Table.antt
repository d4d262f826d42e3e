-- The table of the open calls of a stream.
use Rattle.std.specs.Prelude.{◌≡◌, ℕ, true, false, List, Some, slice_get}
use Rattle.streams.specs.Stream.{StreamEvent, IsWaiting}
use Rattle.late_residue.specs.declared.open_call.OpenCall.{OpenCall}
use Rattle.late_residue.specs.Reached.{Has}
use Rattle.late_residue.specs.LateOnes.{AreOpen}

-- a process waits for some call to return, after a whole stream
abbrev pub Waits : List StreamEvent → ℕ → Type 0
Waits stream process = (call : ℕ) × IsWaiting stream process call

-- A table has the open calls of a stream, each once, and says which of them are lost: those for
-- which their processes don't wait.
pub record IsTable (stream : List StreamEvent) (calls : List OpenCall) : Type 0 where
  pub are_open : AreOpen stream calls
  pub once : (j k : ℕ) (a b : OpenCall) → slice_get calls j ≡ Some a → slice_get calls k ≡ Some b
      → a.call ≡ b.call → j ≡ k
  pub waiting : (one : OpenCall) → Has calls one → one.is_lost ≡ false
      → IsWaiting stream one.process one.call
  pub lost : (one : OpenCall) → Has calls one → one.is_lost ≡ true
      → IsWaiting stream one.process one.call → ⊥

-- What is known of calls is known of others with the same numbers.
abbrev pub Derives : List OpenCall → List OpenCall → Type 0
Derives calls more = (one : OpenCall) → Has more one → (reply : ℕ) → one.reply ≡ Some reply
    → (old : OpenCall) × Has calls old × (old.call ≡ one.call) × (old.reply ≡ Some reply)
