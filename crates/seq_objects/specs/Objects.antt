-- The sequential objects by kind: the list that each begins with, and for every list and every
-- operation word the new list and the reply. The first list has at most one item, an operation adds
-- at most one, and an unknown word changes no list and gets the reply `BAD`.
use Rattle.std.proofs.Common.{◌≡◌, ℕ, ◌+◌, ◌≤◌, false, List, [], ◌∷◌, length}
use Rattle.book_base.specs.declared.TheConstants.{BAD}
use Rattle.book_base.specs.SeqSpec.{SeqSpec}
use Rattle.seq_objects.specs.declared.kind.Kind.{Kind}
use Rattle.seq_objects.specs.declared.kind.Kind.TheVariants as kinds
use Rattle.seq_objects.specs.Words.{is_known_word}
use Rattle.seq_objects.specs.Items.{length-none, length-one}
use Rattle.seq_objects.specs.QueueSteps.{queue_operation, queue_after, length-queue_after, queue_after-unknown}
use Rattle.seq_objects.specs.StackSteps.{stack_operation, stack_after, length-stack_after, stack_after-unknown}
use Rattle.seq_objects.specs.RegisterSteps.{register_operation, register_after, length-register_after, register_after-unknown}
use Rattle.seq_objects.specs.CounterSteps.{counter_operation, counter_after, length-counter_after, counter_after-unknown}
use Rattle.seq_objects.specs.IntSetSteps.{set_operation, set_after, length-set_after, set_after-unknown}
use Rattle.seq_objects.specs.PqueueSteps.{pqueue_operation, pqueue_after, length-pqueue_after, pqueue_after-unknown}
use Rattle.seq_objects.specs.CasRegisterSteps.{cas_register_operation, cas_register_after, length-cas_register_after, cas_register_after-unknown}
use Rattle.seq_objects.specs.MapSteps.{map_operation, map_after, length-map_after, map_after-unknown}

-- The list that an object of a kind begins with.
abbrev pub kind_init : Kind → List ℕ
kind_init kinds.Queue = []
kind_init kinds.Stack = []
kind_init kinds.Register = 0 ∷ []
kind_init kinds.Counter = 0 ∷ []
kind_init kinds.IntSet = []
kind_init kinds.Pqueue = []
kind_init kinds.CasRegister = 0 ∷ []
kind_init kinds.Map = []

-- The list of a kind's object after an operation word, and the reply to the word.
unfoldable pub kind_next : Kind → List ℕ → ℕ → List ℕ × ℕ
kind_next kinds.Queue list word = queue_after list (queue_operation word)
kind_next kinds.Stack list word = stack_after list (stack_operation word)
kind_next kinds.Register list word = register_after list (register_operation word)
kind_next kinds.Counter list word = counter_after list (counter_operation word)
kind_next kinds.IntSet list word = set_after list (set_operation word)
kind_next kinds.Pqueue list word = pqueue_after list (pqueue_operation word)
kind_next kinds.CasRegister list word = cas_register_after list (cas_register_operation word)
kind_next kinds.Map list word = map_after list (map_operation word)

-- The sequential object of a kind.
abbrev pub kind_spec : Kind → SeqSpec
kind_spec kind = record { init = kind_init kind; next = kind_next kind }

-- The list that an object of a kind begins with has at most one item.
pub length-kind_init : (kind : Kind) → length (kind_init kind) ≤ 1
length-kind_init kinds.Queue = length-none
length-kind_init kinds.Stack = length-none
length-kind_init kinds.Register = length-one
length-kind_init kinds.Counter = length-one
length-kind_init kinds.IntSet = length-none
length-kind_init kinds.Pqueue = length-none
length-kind_init kinds.CasRegister = length-one
length-kind_init kinds.Map = length-none

-- An operation word makes a list longer by at most one item.
pub length-kind_next : (kind : Kind) (list : List ℕ) (word : ℕ)
    → length (kind_next kind list word).0 ≤ length list + 1
unfolding kind_next
length-kind_next kinds.Queue list word = length-queue_after list (queue_operation word)
length-kind_next kinds.Stack list word = length-stack_after list (stack_operation word)
length-kind_next kinds.Register list word = length-register_after list (register_operation word)
length-kind_next kinds.Counter list word = length-counter_after list (counter_operation word)
length-kind_next kinds.IntSet list word = length-set_after list (set_operation word)
length-kind_next kinds.Pqueue list word = length-pqueue_after list (pqueue_operation word)
length-kind_next kinds.CasRegister list word =
    length-cas_register_after list (cas_register_operation word)
length-kind_next kinds.Map list word = length-map_after list (map_operation word)

-- A word that a kind doesn't know changes no list of its object, and gets the reply `BAD`.
pub kind_next-unknown : (kind : Kind) (list : List ℕ) (word : ℕ) → is_known_word kind word ≡ false
    → kind_next kind list word ≡ (list, BAD)
unfolding kind_next
kind_next-unknown kinds.Queue list word unknown = queue_after-unknown list word unknown
kind_next-unknown kinds.Stack list word unknown = stack_after-unknown list word unknown
kind_next-unknown kinds.Register list word unknown = register_after-unknown list word unknown
kind_next-unknown kinds.Counter list word unknown = counter_after-unknown list word unknown
kind_next-unknown kinds.IntSet list word unknown = set_after-unknown list word unknown
kind_next-unknown kinds.Pqueue list word unknown = pqueue_after-unknown list word unknown
kind_next-unknown kinds.CasRegister list word unknown = cas_register_after-unknown list word unknown
kind_next-unknown kinds.Map list word unknown = map_after-unknown list word unknown
