-- The words of operations: which words a kind knows, and the one text of each word.
use Rattle.std.specs.Prelude.{◌≡◌, ℕ, ◌+◌, ◌*◌, ◌/◌, ◌%◌, ◌^◌, ◌<◌, Bool, true, false, ◌&&◌, ◌==◌, nat_lt, List, [], ◌∷◌, ◌++◌, length, All, find, codes, decimal, Option, Some, None, is_some, if◌then◌else◌}
use Rattle.std.specs.List.{join_with_byte}
use Rattle.book_base.specs.OperationWord.{low_of, high_of, joined}
use Rattle.seq_objects.specs.declared.entry.Arity.{Arity}
use Rattle.seq_objects.specs.declared.entry.Arity.TheVariants.{Nullary, Unary, Binary}
use Rattle.seq_objects.specs.declared.kind.Kind.{Kind}
use Rattle.seq_objects.specs.declared.kind.Kind.TheVariants.{Queue, Stack, Register, Counter, IntSet, Pqueue, CasRegister, Map}

-- The name of a kind in texts.
unfoldable pub kind_name : Kind → List ℕ
kind_name Queue = codes "queue"
kind_name Stack = codes "stack"
kind_name Register = codes "register"
kind_name Counter = codes "counter"
kind_name IntSet = codes "set"
kind_name Pqueue = codes "pqueue"
kind_name CasRegister = codes "casreg"
kind_name Map = codes "map"

-- All kinds.
abbrev pub all_kinds : List Kind
all_kinds = Queue ∷ Stack ∷ Register ∷ Counter ∷ IntSet ∷ Pqueue ∷ CasRegister ∷ Map ∷ []

-- Whether a kind is one of the first six, which are all that texts of version 1 know.
abbrev pub is_first_kind : Kind → Bool
is_first_kind Queue = true
is_first_kind Stack = true
is_first_kind Register = true
is_first_kind Counter = true
is_first_kind IntSet = true
is_first_kind Pqueue = true
is_first_kind CasRegister = false
is_first_kind Map = false

-- An entry of a kind's table: the name of an operation, its code, and how many numbers follow the
-- name.
pub record OperationEntry : Type 0 where
  pub name : List ℕ
  pub code : ℕ
  pub arity : Arity

-- The entry of an operation that has this name and code, and whose name one number follows.
abbrev pub with_argument : List ℕ → ℕ → OperationEntry
with_argument name code = record { name = name; code = code; arity = Unary }

-- The entry of an operation that has this name and code, and whose name two numbers follow.
abbrev pub with_extra : List ℕ → ℕ → OperationEntry
with_extra name code = record { name = name; code = code; arity = Binary }

-- The entry of an operation that has this name and code, and whose name no number follows.
abbrev pub name_alone : List ℕ → ℕ → OperationEntry
name_alone name code = record { name = name; code = code; arity = Nullary }

-- The entry of a queue's put.
abbrev pub enq : OperationEntry
enq = with_argument (codes "enq") 1

-- The entry of a queue's take.
abbrev pub deq : OperationEntry
deq = name_alone (codes "deq") 2

-- The entry of a stack's put.
abbrev pub push : OperationEntry
push = with_argument (codes "push") 1

-- The entry of a stack's take.
abbrev pub pop : OperationEntry
pop = name_alone (codes "pop") 2

-- The entry of a register's write.
abbrev pub write : OperationEntry
write = with_argument (codes "write") 1

-- The entry of a register's read.
abbrev pub read : OperationEntry
read = name_alone (codes "read") 2

-- The entry of a counter's increment.
abbrev pub inc : OperationEntry
inc = name_alone (codes "inc") 1

-- The entry of a set's insertion.
abbrev pub add : OperationEntry
add = with_argument (codes "add") 1

-- The entry of a set's removal.
abbrev pub remove : OperationEntry
remove = with_argument (codes "remove") 2

-- The entry of a set's test whether it has a value.
abbrev pub has : OperationEntry
has = with_argument (codes "has") 3

-- The entry of a priority queue's insertion.
abbrev pub insert : OperationEntry
insert = with_argument (codes "insert") 1

-- The entry of a priority queue's take.
abbrev pub min : OperationEntry
min = name_alone (codes "min") 2

-- The entry of a register's compare-and-set.
abbrev pub cas : OperationEntry
cas = with_extra (codes "cas") 3

-- The entry of a map's put.
abbrev pub put : OperationEntry
put = with_extra (codes "put") 1

-- The entry of a map's get.
abbrev pub get : OperationEntry
get = with_argument (codes "get") 2

-- The entry of a map's delete.
abbrev pub del : OperationEntry
del = with_argument (codes "del") 3

-- A kind's table of operations: an entry for each operation that the kind knows.
unfoldable pub entries : Kind → List OperationEntry
entries Queue = enq ∷ deq ∷ []
entries Stack = push ∷ pop ∷ []
entries Register = write ∷ read ∷ []
entries Counter = inc ∷ []
entries IntSet = add ∷ remove ∷ has ∷ []
entries Pqueue = insert ∷ min ∷ []
entries CasRegister = write ∷ read ∷ cas ∷ []
entries Map = put ∷ get ∷ del ∷ []

-- The code of an operation word: the part of its low word above the low 32 bits.
abbrev pub code_of : ℕ → ℕ
code_of word = low_of word / 2 ^ 32

-- The argument of an operation word: the low 32 bits of its low word.
abbrev pub argument_of : ℕ → ℕ
argument_of word = low_of word % 2 ^ 32

-- The extra of an operation word, its second argument: its high word.
abbrev pub extra_of : ℕ → ℕ
extra_of word = high_of word

-- The operation word of a code, an argument and an extra.
abbrev pub word_of : ℕ → ℕ → ℕ → ℕ
word_of code argument extra = joined (code * 2 ^ 32 + argument) extra

-- Whether an operation word has the arguments of an arity: a number that the arity leaves out is 0,
-- and each number that the arity has is below 2 ^ 32.
abbrev pub has_arguments : Arity → ℕ → Bool
has_arguments Nullary word = (argument_of word == 0) && (extra_of word == 0)
has_arguments Unary word = extra_of word == 0
has_arguments Binary word = nat_lt (extra_of word) (2 ^ 32)

-- Whether an operation word is one of the entry `entry`: it has the entry's code, and arguments of
-- the entry's arity.
abbrev pub is_operation_of : ℕ → OperationEntry → Bool
is_operation_of word entry = (code_of word == entry.code) && has_arguments entry.arity word

-- The entry of an operation word in a kind's table, where the kind knows the word.
unfoldable pub entry_of : Kind → ℕ → Option OperationEntry
entry_of kind word = find (is_operation_of word) (entries kind)

-- Whether a kind knows a word: the word is an operation of an entry of the kind's table.
unfoldable pub is_known_word : Kind → ℕ → Bool
is_known_word kind word = is_some (entry_of kind word)

-- The arguments of an operation word as words of a text, in decimal digits.
abbrev pub argument_words : Arity → ℕ → List (List ℕ)
argument_words Nullary word = []
argument_words Unary word = decimal (argument_of word) ∷ []
argument_words Binary word = decimal (argument_of word) ∷ decimal (extra_of word) ∷ []

-- A whole operation word in digits: its low word, and after a colon its high word where this
-- isn't 0.
abbrev pub whole_digits : ℕ → List ℕ
whole_digits word =
    if high_of word == 0 then decimal (low_of word)
    else decimal (low_of word) ++ (codes ":" ++ decimal (high_of word))

-- The words of a text that stand for an operation word, given its entry: the entry's name and the
-- arguments, or, without an entry, '#' and the whole word in digits.
abbrev pub words_by_entry : Option OperationEntry → ℕ → List (List ℕ)
words_by_entry (Some entry) word = entry.name ∷ argument_words entry.arity word
words_by_entry None word = (codes "#" ++ whole_digits word) ∷ []

-- The words of a text that stand for an operation word of a kind.
unfoldable pub operation_words : Kind → ℕ → List (List ℕ)
operation_words kind word = words_by_entry (entry_of kind word) word

-- The text of an operation word: its words, with one space between two.
unfoldable pub operation_text : Kind → ℕ → List ℕ
operation_text kind word = join_with_byte 32 (operation_words kind word)

-- The second and the third word of a text as a list, as far as the text has them; empty where it
-- has no second word.
abbrev pub further : Option (List ℕ) → Option (List ℕ) → List (List ℕ)
further None third = []
further (Some second) None = second ∷ []
further (Some second) (Some third) = second ∷ third ∷ []

-- A list of words of a text begins with the words of the operation word `op` of a kind. These are
-- one word and `used` further ones.
pub record Spells (kind : Kind) (words : List (List ℕ)) (op used : ℕ) : Type 0 where
  pub suffix : List (List ℕ)
  pub whole : words ≡ operation_words kind op ++ suffix
  pub count : length (operation_words kind op) ≡ used + 1

-- A printed character of ASCII, so no space and no line feed.
abbrev pub IsPrinted : ℕ → Type 0
IsPrinted byte = (32 < byte) × (byte < 127)

-- A word of a text: it isn't empty, and each of its bytes is a printed character.
pub record IsWord (word : List ℕ) : Type 0 where
  pub some : 0 < length word
  pub printed : All IsPrinted word

-- The list `new` is the list `old` with a prefix of `text` added at its end.
pub record AppendsPrefix (old new text : List ℕ) : Type 0 where
  pub prefix : List ℕ
  pub rest : List ℕ
  pub split : text ≡ prefix ++ rest
  pub appended : new ≡ old ++ prefix
