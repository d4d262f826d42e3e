-- Scripts made from a number.
use Rattle.std.specs.Prelude.{ℕ, ◌+◌, ◌*◌, ◌%◌, ◌^◌, ◌==◌, List, [], map, replicate, None, if◌then◌else◌}
use Rattle.std.specs.List.{range_with_len}
use Rattle.seq_objects.specs.declared.kind.Kind.{Kind}
use Rattle.seq_objects.specs.declared.kind.Kind.TheVariants.{Queue, Stack, Register, Counter, IntSet, Pqueue, CasRegister, Map}
use Rattle.seq_objects.specs.Words as words
use Rattle.seq_objects.specs.Words.{OperationEntry, word_of}
use Rattle.client_scripts.specs.Plans.{Plan}

-- the value of call `k` of a caller, in the script made from `number`
abbrev pub value_of : ℕ → ℕ → ℕ → ℕ
value_of number caller k = (number % 2 ^ 20) * 4096 + caller * 256 + k

-- the operation word of a table's entry with an argument and an extra, each given as 0 where the
-- entry takes none
abbrev pub operation : OperationEntry → ℕ → ℕ → ℕ
operation entry argument extra = word_of entry.code argument extra

-- the operation `even` where the number `k` is even, and `odd` where it is odd
abbrev pub by_halves : ℕ → ℕ → ℕ → ℕ
by_halves k even odd = if k % 2 == 0 then even else odd

-- the operation `first`, `second` or `third`, where `k` modulo 3 is 0, 1 or 2
abbrev pub by_thirds : ℕ → ℕ → ℕ → ℕ → ℕ
by_thirds k first second third =
    if k % 3 == 0 then first else (if k % 3 == 1 then second else third)

-- the operation that is generated for call `k` of a caller, where the value of this call is `v`
abbrev pub generated_operation : Kind → ℕ → ℕ → ℕ
generated_operation Queue v k = by_halves k (operation words.enq v 0) (operation words.deq 0 0)
generated_operation Stack v k = by_halves k (operation words.push v 0) (operation words.pop 0 0)
generated_operation Register v k =
    by_halves k (operation words.write v 0) (operation words.read 0 0)
generated_operation Counter v k = operation words.inc 0 0
generated_operation IntSet v k = by_thirds k (operation words.add (v % 8) 0)
    (operation words.has (v % 8) 0) (operation words.remove (v % 8) 0)
generated_operation Pqueue v k = by_halves k (operation words.insert v 0) (operation words.min 0 0)
generated_operation CasRegister v k = by_thirds k (operation words.write (v % 8) 0)
    (operation words.cas (v % 8) ((v + 1) % 8)) (operation words.read 0 0)
generated_operation Map v k = by_thirds k (operation words.put (v % 8) v)
    (operation words.get (v % 8) 0) (operation words.del (v % 8) 0)

-- the operations that are generated for a caller
abbrev pub generated_operations : ℕ → ℕ → Kind → ℕ → List ℕ
generated_operations number calls kind caller =
    map (λ k. generated_operation kind (value_of number caller k) k) (range_with_len 0 calls)

-- The script made from a number: this many callers with this many calls each, no stop and no turns.
abbrev pub generated : ℕ → ℕ → ℕ → Kind → Plan
generated number callers calls kind = record {
  kind = kind;
  operations = map (generated_operations number calls kind) (range_with_len 0 callers);
  stops = replicate callers None;
  turns = [];
}
