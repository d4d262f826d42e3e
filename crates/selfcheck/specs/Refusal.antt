-- Why the reading of an input failed: a fault of its text, or want of memory.
use Rattle.std.specs.Prelude.{ℕ, List}
use Rattle.book_base.specs.declared.fault.TextFault.{TextFault}
use Rattle.book_base.specs.declared.fault.ReadFault.{ReadFault}
use Rattle.text_fields.specs.Faults.{IsFaultOf}
use Rattle.selfcheck.specs.Input.{IsRefusedFor}

-- The reading of the input `bytes` failed with `fault`: with want of memory, of which nothing is
-- said, or with the fault of the text for which the input is refused. That one is `Long` in line 0
-- where the input has more than `INPUT_LIMIT` bytes, and otherwise the first one as `IsFirst` says.
abbrev pub IsReadFault : (List ℕ → TextFault → Type 0) → List ℕ → ReadFault → Type 0
IsReadFault IsFirst bytes fault = IsFaultOf (IsRefusedFor IsFirst bytes) fault
