-- Worked books of a bag, of one caller, which are written out.
use Rattle.std.specs.Prelude.{ℕ, zero, suc, List, [], ◌∷◌, Option, Some, None}
use Rattle.book_base.specs.SeqSpec.{SeqSpec}
use Rattle.book_base.specs.Book.{Page}
use Rattle.legal_orders.specs.Container.{Effect, Puts, Takes, Neither, Reading}
use Rattle.judging_examples.specs.Books.{answer, caller_page}

-- A bag holds ones and twos, and gives out the value that was put in last. The operation 0 takes,
-- and replies one more than the value, or 0 where there is none; the operations 1 and 2 put
-- themselves in, and reply 0; other operations do nothing.
abbrev pub bag_deed : ℕ → Effect
bag_deed zero = Takes
bag_deed (suc zero) = Puts 1
bag_deed (suc (suc zero)) = Puts 2
bag_deed (suc (suc (suc n))) = Neither

-- the value that a reply of the bag to a take shows: none for 0, and v for v + 1
abbrev pub bag_shown : ℕ → Option ℕ
bag_shown zero = None
bag_shown (suc v) = Some v

-- how the operations, replies and lists of the bag are read
abbrev pub bag : Reading
bag = record { deed = bag_deed; shown = bag_shown; values = λ list. list }

-- a list without its first item, and one more than this item; for the empty list, the empty list
-- and 0
abbrev pub without_first : List ℕ → List ℕ × ℕ
without_first [] = ([], 0)
without_first (v ∷ rest) = (rest, suc v)

-- the bag's next list and its reply, by the effect of the operation
abbrev pub bag_after : List ℕ → Effect → List ℕ × ℕ
bag_after list (Puts v) = (v ∷ list, 0)
bag_after list Takes = without_first list
bag_after list Neither = (list, 0)

-- the bag's next list and its reply, by the operation
abbrev pub bag_next : List ℕ → ℕ → List ℕ × ℕ
bag_next list op = bag_after list (bag_deed op)

-- The sequential object of the bag, which begins with no item.
abbrev pub bag_spec : SeqSpec
bag_spec = record { init = []; next = bag_next }

-- A book of the bag in which one caller takes, and the reply shows a 1, which nobody put in.
abbrev pub taken_unput : List Page
taken_unput = caller_page (0 ∷ []) (answer 2 (1 ∷ []) ∷ []) ∷ []

-- A book of the bag in which one caller puts in 1 and then takes. The reply of the take is a
-- parameter: 2 shows the 1, and 0 shows that nothing is there.
abbrev pub put_and_taken : ℕ → List Page
put_and_taken reply = caller_page (1 ∷ 0 ∷ [])
    (answer 0 (1 ∷ []) ∷ answer reply (2 ∷ []) ∷ []) ∷ []
