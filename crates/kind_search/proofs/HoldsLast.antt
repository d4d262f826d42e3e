-- A register holds the value written last.
use Rattle.std.proofs.Common.{◌≡◌, ◌≢◌, ℕ, ◌^◌, ◌<◌, List, Option, None, Some, refl, arith}
use Rattle.std.proofs.lemmas.Bool.{cond_both}
use Rattle.legal_orders.specs.Container.{Puts, Takes}
use Rattle.list_pruning.specs.HoldsLast.{HoldsLast}
use Rattle.seq_objects.specs.declared.register.RegisterOperation.{RegisterOperation}
use Rattle.seq_objects.specs.declared.register.RegisterOperation.TheVariants.{Write, Read}
use Rattle.seq_objects.specs.Words as words
use Rattle.seq_objects.specs.Words.{is_operation_of}
use Rattle.seq_objects.specs.Items.{first_or_zero}
use Rattle.seq_objects.specs.RegisterSteps.{register_operation, register_after}
use Rattle.seq_objects.specs.Replies.{shown_value}
use Rattle.kind_search.specs.RegisterReading.{held_in, register_deed, register_reading}
use Rattle.kind_search.proofs.Reading.{shown_item}

abbrev writes_small : Option RegisterOperation → Type 0
writes_small (Some (Write value)) = value < 2 ^ 32
writes_small (Some Read) = Unit {0}
writes_small None = Unit {0}

written_is_small : (word : ℕ) → writes_small (register_operation word)
written_is_small word =
    cond_both {A = Option RegisterOperation} (is_operation_of word words.write) _ _ writes_small
    (λ write. omega arith)
    (λ _. cond_both {A = Option RegisterOperation}
    (is_operation_of word words.read) _ _ writes_small (λ read. tt) (λ other. tt))

step_write : (list : List ℕ) (o : Option RegisterOperation) (v : ℕ) → writes_small o
    → register_deed o ≡ Puts v → held_in (register_after list o).0 ≡ v
step_write list (Some (Write value)) v small e = let same : value ≡ v = cc in
    omega (arith, small, same)
step_write list (Some Read) v small e = absurd cc
step_write list None v small e = absurd cc

step_keep : (list : List ℕ) (o : Option RegisterOperation) → ((v : ℕ) → register_deed o ≢ Puts v)
    → held_in (register_after list o).0 ≡ held_in list
step_keep list (Some (Write value)) other = absurd (other value refl)
step_keep list (Some Read) other = refl
step_keep list None other = refl

step_shows : (list : List ℕ) (o : Option RegisterOperation) → register_deed o ≡ Takes
    → shown_value (register_after list o).1 ≡ Some (held_in list)
step_shows list (Some (Write value)) e = absurd cc
step_shows list (Some Read) e = shown_item (first_or_zero list)
step_shows list None e = absurd cc

step_alike : (one other : List ℕ) (o : Option RegisterOperation)
    → (register_deed o ≡ Takes → held_in one ≡ held_in other)
    → (register_after one o).1 ≡ (register_after other o).1
step_alike one other (Some (Write value)) same = refl
step_alike one other (Some Read) same = omega (arith, same refl)
step_alike one other None same = refl

pub register_holds_last : HoldsLast register_reading held_in
    (λ list op. register_after list (register_operation op))
register_holds_last = record {
  write = λ list op v e. step_write list (register_operation op) v (written_is_small op) e;
  keep = λ list op other. step_keep list (register_operation op) other;
  shows = λ list op e. step_shows list (register_operation op) e;
  alike = λ one other op same. step_alike one other (register_operation op) same;
}
