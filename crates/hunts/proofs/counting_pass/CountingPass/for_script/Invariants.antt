use Rattle.std.proofs.Common.{◌≡◌, vec_len}
use Rattle.run_report.specs.Places.{AreInOrder}
use Rattle.run_report.specs.Passes.{IsUnusedPass}
use Rattle.hunts.specs.Passes.{caller_of, made_with, cap_of, any_pass}
use Rattle.hunts.proofs.counting_pass.CountingPass.for_script.Given as goal

abbrev pub invariant-loop-caller : goal.invariant-loop-caller
invariant-loop-caller l =
    (vec_len l.passes ≡ l.caller) × AreInOrder
    (IsUnusedPass any_pass caller_of made_with cap_of l.script.operations) l.passes.items
