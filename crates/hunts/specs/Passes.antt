-- What a counting pass says of itself.
use Rattle.std.specs.Prelude.{ℕ}
use Rattle.hunts.specs.declared.counting_pass.CountingPass.{CountingPass}

-- The caller of a pass.
abbrev pub caller_of : CountingPass → ℕ
caller_of pass = pass.caller

-- How many calls were made with a pass.
abbrev pub made_with : CountingPass → ℕ
made_with pass = pass.made

-- How many calls may be made with a pass in all.
abbrev pub cap_of : CountingPass → ℕ
cap_of pass = pass.cap

-- An object that is called with counting passes takes each of them as its own.
abbrev pub any_pass : CountingPass → Type 0
any_pass pass = Unit {0}
