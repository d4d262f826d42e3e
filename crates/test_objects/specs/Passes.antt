-- The passes of a box: their callers, their calls, and the log that they saw.
use Rattle.std.specs.Prelude.{◌≡◌, ℕ, ◌*◌, ◌<◌, ◌≤◌, List, [], map, All, length, vec_len, vec_capacity}
use Rattle.std.specs.List.{range_with_len}
use Rattle.shared_words.specs.declared.entry.Entry.{Entry}
use Rattle.shared_words.specs.declared.seat.LogSeat.{LogSeat}
use Rattle.shared_words.specs.Seats.{caller_of, cap_of_seat, log_of, made_by, callers_of, cap_of, IsSeatOf}
use Rattle.test_objects.specs.declared.scratch.Scratch.{Scratch}
use Rattle.test_objects.specs.declared.log_pass.LogPass.{LogPass}
use Rattle.test_objects.specs.declared.log_box.LogBox.{LogBox}
use Rattle.test_objects.specs.Scratches.{HasCapacity}
use Rattle.test_objects.specs.Pairs.{pairs_of}

-- The seat of a pass.
abbrev pub seat_in : LogPass → LogSeat
seat_in p = p.seat

-- The caller of a pass.
abbrev pub caller_of_pass : LogPass → ℕ
caller_of_pass p = caller_of p.seat

-- How many calls a pass made.
abbrev pub made_with : LogPass → ℕ
made_with p = made_by p.seat

-- How many calls a pass may make.
abbrev pub cap_of_pass : LogPass → ℕ
cap_of_pass p = cap_of_seat p.seat

-- The calls of a pass, each as an operation and a reply.
abbrev pub pairs_in : LogPass → List (ℕ × ℕ)
pairs_in p = p.tools.pairs.items

-- The log that a pass last saw: up to its caller's last call, and empty before the first one.
abbrev pub log_in : LogPass → List Entry
log_in p = log_of p.seat

-- The pass has made no call, and may make `calls` calls.
pub record IsFresh (calls : ℕ) (p : LogPass) : Type 0 where
  pub made : made_with p ≡ 0
  pub cap : cap_of_pass p ≡ calls
  pub pairs : pairs_in p ≡ []

module _ {M : Type 0} where
  -- How many callers a box has.
  abbrev pub callers_in : LogBox M → ℕ
  callers_in b = callers_of b.log

  -- How many calls each caller of a box may make.
  abbrev pub cap_in : LogBox M → ℕ
  cap_in b = cap_of b.log

  -- The machine of a box.
  abbrev pub machine_in : LogBox M → M
  machine_in b = b.machine

  -- The pass belongs to this box and has capacity for all calls of its caller. Its pairs are its
  -- caller's calls in the log that it saw, each with the machine's reply; and where this log isn't
  -- empty, the pass's scratch holds what the machine keeps of it.
  pub record IsPassOf (reply_to : M → List Entry → ℕ) (has_seen : M → List Entry → Scratch → Type 0)
      (b : LogBox M) (p : LogPass) : Type 0 where
    pub seat : IsSeatOf b.log p.seat
    pub pairs : pairs_in p ≡ pairs_of (reply_to (machine_in b)) (log_in p) (caller_of_pass p)
    pub count : length (pairs_in p) ≡ made_with p
    pub room : cap_in b ≤ vec_capacity p.tools.pairs
    pub scratch : HasCapacity (callers_in b * cap_in b) p.tools.scratch
    pub waiting : vec_len p.tools.scratch.waiting ≡ callers_in b
    pub seen : 0 < length (log_in p) → has_seen (machine_in b) (log_in p) p.tools.scratch

  -- The passes are those of all callers of a box, in order.
  pub record ArePassesOf (reply_to : M → List Entry → ℕ)
      (has_seen : M → List Entry → Scratch → Type 0) (b : LogBox M)
      (passes : List LogPass) : Type 0 where
    pub callers : map caller_of_pass passes ≡ range_with_len 0 (callers_in b)
    pub each : All (IsPassOf reply_to has_seen b) passes
