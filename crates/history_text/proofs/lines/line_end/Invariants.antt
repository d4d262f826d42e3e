use Rattle.std.proofs.Common.{◌≡◌, ℕ, [], drop, take}
use Rattle.history_text.specs.Lines.{lines_from}
use Rattle.history_text.proofs.lines.line_end.Given as goal

-- what is read so far is the beginning of a line
abbrev pub invariant-loop-at : goal.invariant-loop-at
invariant-loop-at l =
    (n : ℕ) → lines_from n (take l.at l.text) (drop l.at l.text) ≡ lines_from n [] l.text
