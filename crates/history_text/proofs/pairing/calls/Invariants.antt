use Rattle.std.proofs.Common.{◌≡◌, ℕ, ◌-◌, List, length, drop, reverse, bytes_eq}
use Rattle.std.specs.HashMap as hash
use Rattle.history_text.specs.Pairing.{first_event, calls_of}
use Rattle.history_text.proofs.pairing.calls.Given as goal

-- the calls so far are those of the last entries, backwards, and the first event of each process
-- among them is known
abbrev pub invariant-loop-done : goal.invariant-loop-done
invariant-loop-done l = record {
  calls : reverse l.calls.items ≡ calls_of l.clock (drop (length l.entries - l.done) l.entries);
  next : (process : List ℕ) → hash.get_by (λ key. bytes_eq process key.now) l.next.events
      ≡ first_event process (drop (length l.entries - l.done) l.entries);
}
