-- Counts of faults, and the counters that keep them.
use Rattle.std.specs.Prelude.{◌≡◌, ◌⊎◌, ℕ, ◌+◌, ◌-◌, ◌^◌, ◌<◌, ◌≤◌, min}
use Rattle.byte_streams.specs.declared.status.Status.{Status}
use Rattle.byte_streams.specs.declared.status.Status.TheVariants.{WriteFault, NoMemory}

-- The count after this one, in a counter of 64 bits that stays at its greatest value.
abbrev pub next_count : ℕ → ℕ
next_count n = min (n + 1) (2 ^ 64 - 1)

-- A count rose in a call: it is greater after the call than before, or has the greatest value of
-- its counter after the call.
abbrev pub Rose : ℕ → ℕ → Type 0
Rose before after = (before < after) ⊎ (after ≡ 2 ^ 64 - 1)

-- How a call that writes to a sink, with this answer, left the sink's count of faults. `WriteFault`
-- is answered only where the count rose in this call, and every other answer only where it stayed.
-- With `NoMemory` the sink is as it was.
pub record LeavesSink {K : Type 0} (faults : K → ℕ) (answer : Status)
    (sink sink' : K) : Type 0 where
  pub fault : answer ≡ WriteFault → Rose (faults sink) (faults sink')
  pub calm : ¬ (answer ≡ WriteFault) → faults sink' ≡ faults sink
  pub unwritten : answer ≡ NoMemory → sink' ≡ sink
  pub later : faults sink ≤ faults sink'
