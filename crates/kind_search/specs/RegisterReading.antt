-- How a register is read: as puts and takes of the value that it holds. A take doesn't remove the
-- value.
use Rattle.std.specs.Prelude.{ℕ, List, map, Option, Some, None}
use Rattle.legal_orders.specs.Container.{Effect, Puts, Takes, Neither, Reading}
use Rattle.seq_objects.specs.declared.register.RegisterOperation.{RegisterOperation}
use Rattle.seq_objects.specs.declared.register.RegisterOperation.TheVariants.{Write, Read}
use Rattle.seq_objects.specs.Items.{first_or_zero}
use Rattle.seq_objects.specs.RegisterSteps.{register_operation}
use Rattle.seq_objects.specs.Replies.{value_of, shown_value}

-- The value that a register's list holds: the low 32 bits of its first word, or 0 where the list is
-- empty.
abbrev pub held_in : List ℕ → ℕ
held_in list = value_of (first_or_zero list)

-- The effect of a register's operation: a write counts as a put of its value, a read as a take, and
-- an unknown operation as neither.
abbrev pub register_deed : Option RegisterOperation → Effect
register_deed (Some (Write value)) = Puts value
register_deed (Some Read) = Takes
register_deed None = Neither

-- How a register is read: a write puts in, a read takes, and the values of a list are the low 32
-- bits of its words.
abbrev pub register_reading : Reading
register_reading = record {
  deed = λ word. register_deed (register_operation word);
  shown = shown_value;
  values = map value_of;
}
