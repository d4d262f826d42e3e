-- What a right verdict says of a book, and what the first error line of a run is.
use Rattle.std.proofs.Common.{ℕ, List, Option, Some, None, IfSome, IfNone}
use Rattle.book_base.specs.declared.call.Call.{Call}
use Rattle.book_base.specs.Book.{Page}
use Rattle.frontier_check.specs.Verdict.{IsRight}
use Rattle.frontier_check.specs.declared.verdict.Verdict.{Verdict}
use Rattle.frontier_check.specs.declared.verdict.Verdict.TheVariants.{Legal, Illegal}
use Rattle.given_book.specs.FirstError.{IsFirstErrorGiven}
use Rattle.seq_objects.specs.declared.kind.Kind.{Kind}
use Rattle.seq_objects.specs.Objects.{kind_spec}
use Rattle.book_picture.specs.Bars.{order_in}
use Rattle.given_book.specs.Texts.{IsJudged, IsErrorTold}

pub judged_by : (kind : Kind) (book : List Page) (verdict : Verdict)
    → IsRight (kind_spec kind) book verdict → IsJudged kind book (order_in verdict)
judged_by kind book (Legal order) right = right
judged_by kind book Illegal right = right

pub told_by : (bytes : List ℕ) (error : Option Call) → IfSome error (IsFirstErrorGiven bytes)
    → IfNone error ((call : Call) → ¬ (IsFirstErrorGiven bytes call)) → IsErrorTold bytes error
told_by bytes (Some call) found none = found
told_by bytes None found none = none
