-- An allotment of phases is spent as a client makes them.
use Rattle.std.proofs.Common.{◌≡◌, ℕ, ◌≤◌, arith}
use Rattle.client_calls.specs.declared.stand.CallerState.{CallerState}
use Rattle.client_calls.specs.declared.stand.CallerState.TheVariants.{Idle, Announced, Answered, Viewed, Published, Halted, Unjudged}
use Rattle.client_calls.specs.Stands.{phases_at, GoesOnFrom}
use Rattle.client_calls.specs.Clients.{Spent}

module _ {P : Type 0} where
  -- an allotment of exactly this many phases is spent, whatever state the caller is in
  pub spent_by : (allotment lines : ℕ) (s : CallerState P) → phases_at lines s ≡ allotment
      → Spent allotment lines s
  spent_by allotment lines (Idle c) is = is
  spent_by allotment lines (Announced a) is = is
  spent_by allotment lines (Answered a) is = is
  spent_by allotment lines (Viewed v) is = is
  spent_by allotment lines (Published p) is = is
  spent_by allotment lines (Halted c) is = omega (arith, is)
  spent_by allotment lines (Unjudged u) is = omega (arith, is)

  -- a caller that isn't halted and has spent its allotment has made all phases of it
  pub spent_exact : (allotment lines : ℕ) (s : CallerState P) → GoesOnFrom s
      → Spent allotment lines s
      → phases_at lines s ≡ allotment
  spent_exact allotment lines (Idle c) goes is = is
  spent_exact allotment lines (Announced a) goes is = is
  spent_exact allotment lines (Answered a) goes is = is
  spent_exact allotment lines (Viewed v) goes is = is
  spent_exact allotment lines (Published p) goes is = is
  spent_exact allotment lines (Halted c) goes is = absurd goes
  spent_exact allotment lines (Unjudged u) goes is = absurd goes

  -- a caller that is halted has also spent each greater allotment
  pub spent_more : (allotment greater lines : ℕ) (s : CallerState P) → (GoesOnFrom s → ⊥)
      → allotment ≤ greater → Spent allotment lines s → Spent greater lines s
  spent_more allotment greater lines (Idle c) stops more is = absurd (stops tt)
  spent_more allotment greater lines (Announced a) stops more is = absurd (stops tt)
  spent_more allotment greater lines (Answered a) stops more is = absurd (stops tt)
  spent_more allotment greater lines (Viewed v) stops more is = absurd (stops tt)
  spent_more allotment greater lines (Published p) stops more is = absurd (stops tt)
  spent_more allotment greater lines (Halted c) stops more is = omega (arith, is, more)
  spent_more allotment greater lines (Unjudged u) stops more is = omega (arith, is, more)
