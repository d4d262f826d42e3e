-- The replies of lines are words.
use Rattle.std.specs.Prelude.{◌<◌, ◌^◌}
use Rattle.report_lines.specs.declared.line.LineEnd.{LineEnd}
use Rattle.report_lines.specs.declared.line.LineEnd.TheVariants.{Pending, Unchecked, Delivered, Error}

-- The reply of a line, where its end has one, is a word of 64 bits.
abbrev pub HasWord : LineEnd → Type 0
HasWord Pending = Unit {0}
HasWord (Unchecked r) = r.reply < 2 ^ 64
HasWord (Delivered r cut) = r.reply < 2 ^ 64
HasWord (Error r cut) = r.reply < 2 ^ 64
