-- In which world a run is, by the object that answers its calls.
use Rattle.std.specs.Prelude.{ℕ, Option, Some, None, unwrap_or}
use Rattle.book_base.specs.declared.TheConstants.{MAX_CALLS}
use Rattle.seq_objects.specs.declared.kind.Kind.{Kind}
use Rattle.seq_objects.specs.declared.kind.Kind.TheVariants.{Counter, Register}
use Rattle.seq_objects.specs.Objects.{kind_spec}
use Rattle.world_core.specs.Shape.{Shape}
use Rattle.world_objects.specs.OneWord.{one_word_shape}
use Rattle.world_objects.specs.TallyAndCell.{tally, cell}
use Rattle.world_objects.specs.LogProgram.{log_shape}
use Rattle.run_report.specs.Reporting.{outside_shape}
use Rattle.test_objects.specs.declared.behaviour.Behaviour.{Behaviour}
use Rattle.test_objects.specs.declared.behaviour.Behaviour.TheVariants.{Lawful, Tally, Cell}

-- The shape of the world of a run, by its number of callers and with the greatest cap, where the
-- object of the behaviour is inside the world for scripts of this kind: the shape of the log for
-- the lawful object, of the tally for a counter's script, and of the cell for a register's script.
-- `None` where the object is outside the world.
abbrev pub inside_of : Behaviour → Kind → Option (ℕ → Shape)
inside_of Lawful kind = Some (λ n. log_shape (kind_spec kind) n MAX_CALLS)
inside_of Tally Counter = Some (λ n. one_word_shape n MAX_CALLS tally)
inside_of Cell Register = Some (λ n. one_word_shape n MAX_CALLS cell)
inside_of behaviour kind = None

-- The shape of the world in which n callers run a script of this kind over the object of this
-- behaviour.
abbrev pub world_of : Behaviour → Kind → ℕ → Shape
world_of behaviour kind = unwrap_or (inside_of behaviour kind) outside_shape
