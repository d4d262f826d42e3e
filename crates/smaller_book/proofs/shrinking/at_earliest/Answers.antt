use Rattle.std.proofs.Common.{List, sym, subst}
use Rattle.book_base.specs.Book.{Page}
use Rattle.smaller_book.specs.Evidence.{IsEvidence}
use Rattle.smaller_book.proofs.Steps.{cut_evidence}
use Rattle.smaller_book.proofs.shrinking.at_earliest.Goals as goal

pub returns : goal.returns
returns c =
    let kind = c.args.kind in
    let book = c.args.book.now in
    let part : List Page = c.in_ok-part.part in
    record {
      evidence = subst (λ names. IsEvidence kind book names part) (sym c.in_ok-numbers.ensures)
          (cut_evidence kind book part c.callers-callers.ensures.valid c.in_ok-part.ensures.at_cut);
      illegal = c.in_ok-part.ensures.illegal;
      earliest = c.in_ok-part.ensures.earliest;
    }
