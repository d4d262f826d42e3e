-- Random scripts, drawn by a seed.
use Rattle.std.specs.Prelude.{ℕ, ◌+◌, ◌*◌, ◌%◌, ◌≤◌, nat_lt, List, [], map, replicate, None, if◌then◌else◌}
use Rattle.std.specs.List.{range_with_len}
use Rattle.text_fields.specs.declared.TheConstants.{TEXT_CALLERS, TEXT_CALLS}
use Rattle.seq_objects.specs.declared.kind.Kind.{Kind}
use Rattle.seq_objects.specs.declared.kind.Kind.TheVariants.{Queue, Stack, Register, Counter, IntSet, Pqueue, CasRegister, Map}
use Rattle.seq_objects.specs.Words as words
use Rattle.client_scripts.specs.Plans.{Plan}
use Rattle.client_scripts.specs.Generator.{operation}
use Rattle.client_scripts.specs.declared.workload.OperationChoice.{OperationChoice}
use Rattle.client_scripts.specs.declared.workload.OperationChoice.TheVariants.{First, Second, Third}
use Rattle.client_scripts.specs.declared.workload.Weights.{Weights}
use Rattle.client_scripts.specs.declared.workload.Workload.{Workload}
use Rattle.client_scripts.specs.Draws.{key_of, drawn}

-- A workload within the limits of scripts' texts, with at least one value to draw, and a weight
-- above 0.
pub record IsWorkload (w : Workload) : Type 0 where
  pub some : 1 ≤ w.callers
  pub few : w.callers ≤ TEXT_CALLERS
  pub calls : w.calls ≤ TEXT_CALLS
  pub values : 1 ≤ w.values
  pub weights : 1 ≤ w.weights.first + w.weights.second + w.weights.third

-- Which operation a draw chooses, by its remainder modulo the sum of the weights: the first one
-- where the remainder is below the first weight, else the second one where it is below the sum of
-- the first two weights, else the third one.
abbrev pub chosen : Weights → ℕ → OperationChoice
chosen w draw =
    let share = draw % (w.first + w.second + w.third) in
    if nat_lt share w.first then First
    else (if nat_lt share (w.first + w.second) then Second else Third)

-- The operation word of a chosen operation of a kind, with `value` as its first argument and
-- `further` as its second, as far as it takes them.
abbrev pub operation_of : Kind → OperationChoice → ℕ → ℕ → ℕ
operation_of Queue First value further = operation words.enq value 0
operation_of Queue _ value further = operation words.deq 0 0
operation_of Stack First value further = operation words.push value 0
operation_of Stack _ value further = operation words.pop 0 0
operation_of Register First value further = operation words.write value 0
operation_of Register _ value further = operation words.read 0 0
operation_of Counter choice value further = operation words.inc 0 0
operation_of IntSet First value further = operation words.add value 0
operation_of IntSet Second value further = operation words.remove value 0
operation_of IntSet Third value further = operation words.has value 0
operation_of Pqueue First value further = operation words.insert value 0
operation_of Pqueue _ value further = operation words.min 0 0
operation_of CasRegister First value further = operation words.write value 0
operation_of CasRegister Second value further = operation words.read 0 0
operation_of CasRegister Third value further = operation words.cas value further
operation_of Map First value further = operation words.put value further
operation_of Map Second value further = operation words.get value 0
operation_of Map Third value further = operation words.del value 0

-- The number of the first of the four draws that belong to one call of a caller alone.
abbrev pub first_draw : ℕ → ℕ → ℕ
first_draw caller number = (caller * 256 + number) * 4

-- The operation of a caller's call, decided by three draws under the key of a seed.
abbrev pub drawn_operation : Workload → ℕ → ℕ → ℕ → ℕ
drawn_operation w key caller number =
    let first = first_draw caller number in
    operation_of w.kind (chosen w.weights (drawn key first)) (drawn key (first + 1) % w.values)
    (drawn key (first + 2) % w.values)

-- The operations of all calls of a caller, drawn under the key of a seed.
abbrev pub drawn_operations : Workload → ℕ → ℕ → List ℕ
drawn_operations w key caller = map (drawn_operation w key caller) (range_with_len 0 w.calls)

-- The script of a seed: no caller stops, and there are no turns.
abbrev pub drawn_plan : Workload → ℕ → Plan
drawn_plan w seed = record {
  kind = w.kind;
  operations = map (drawn_operations w (key_of seed)) (range_with_len 0 w.callers);
  stops = replicate w.callers None;
  turns = [];
}
