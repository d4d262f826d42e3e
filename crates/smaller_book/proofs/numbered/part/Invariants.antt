use Rattle.std.proofs.Common.{◌≡◌, ℕ, ◌<◌, ◌≤◌, length}
use Rattle.book_base.specs.declared.call.Call.{Call}
use Rattle.book_base.specs.Book.{calls_of, answers_of, IsCall, IsAnswered, operation_of}
use Rattle.smaller_book.specs.Part.{numbers_of, original, IsPart}
use Rattle.smaller_book.specs.Numbers.{numbers_in}
use Rattle.smaller_book.proofs.numbered.part.Given as goal

abbrev pub invariant-loop-caller : goal.invariant-loop-caller
invariant-loop-caller l =
    (length l.part ≡ length l.book)
    × ((i : ℕ) → calls_of l.part i ≡ length (numbers_of (numbers_in l.numbers) i))
    × ((i : ℕ) → answers_of l.part i ≡ 0)
    × ((call : Call) → call.caller < l.caller → IsCall l.part call
    → operation_of l.part call ≡ operation_of l.book (original (numbers_in l.numbers) call))

abbrev pub invariant-loop-answering : goal.invariant-loop-answering
invariant-loop-answering l =
    IsPart l.book (numbers_in l.numbers) l.part
    × ((i : ℕ) → l.answering ≤ i → answers_of l.part i ≡ 0)
    × ((call : Call) → call.caller < l.answering → IsCall l.part call
    → IsAnswered l.book (original (numbers_in l.numbers) call) → IsAnswered l.part call)
