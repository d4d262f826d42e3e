-- Replies that operations can have.
use Rattle.std.proofs.Common.{◌≡◌, ℕ, [], ◌∷◌, Some, None, ap}
use Rattle.book_base.specs.declared.TheConstants.{BAD}
use Rattle.seq_objects.specs.declared.kind.Kind.TheVariants.{Register, Counter}
use Rattle.seq_objects.specs.declared.counter.CounterOperation.{CounterOperation}
use Rattle.seq_objects.specs.declared.counter.CounterOperation.TheVariants.{Increment}
use Rattle.seq_objects.specs.declared.register.RegisterOperation.TheVariants.{Write, Read}
use Rattle.seq_objects.specs.Replies.{reply_done, reply_value}
use Rattle.seq_objects.specs.Objects.{kind_next}
use Rattle.seq_objects.specs.CounterSteps.{counter_operation, counter_after}
use Rattle.seq_objects.specs.RegisterSteps.{register_operation, register_after}
use Rattle.wrapped_objects.specs.Replies.{IsPossible}

-- A write can be done.
pub write-possible : (value op : ℕ) → register_operation op ≡ Some (Write value)
    → IsPossible Register op reply_done
unfolding kind_next
write-possible value op is =
    record { state = []; gives = ap (λ o. (register_after [] o).1) is }

-- A read can find any value.
pub read-possible : (found op : ℕ) → register_operation op ≡ Some Read
    → IsPossible Register op (reply_value found)
unfolding kind_next
read-possible found op is =
    record { state = found ∷ []; gives = ap (λ o. (register_after (found ∷ []) o).1) is }

-- A word that a register doesn't know can have the reply bad.
pub no_register-possible : (op : ℕ) → register_operation op ≡ None → IsPossible Register op BAD
unfolding kind_next
no_register-possible op is =
    record { state = []; gives = ap (λ o. (register_after [] o).1) is }

-- An increment can find any count.
pub increment-possible : (found op : ℕ) (operation : CounterOperation)
    → counter_operation op ≡ Some operation → IsPossible Counter op (reply_value found)
unfolding kind_next
increment-possible found op Increment is =
    record { state = found ∷ []; gives = ap (λ o. (counter_after (found ∷ []) o).1) is }

-- A word that a counter doesn't know can have the reply bad.
pub no_counter-possible : (op : ℕ) → counter_operation op ≡ None → IsPossible Counter op BAD
unfolding kind_next
no_counter-possible op is =
    record { state = []; gives = ap (λ o. (counter_after [] o).1) is }
