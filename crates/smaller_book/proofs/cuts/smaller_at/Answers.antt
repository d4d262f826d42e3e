use Rattle.std.proofs.Common.{ℕ, List, sym, subst}
use Rattle.book_base.specs.Book.{Page}
use Rattle.legal_orders.proofs.BookAtLaws.{is_the_only_one}
use Rattle.seq_objects.specs.Objects.{kind_spec}
use Rattle.smaller_book.specs.Earliest.{all_numbers, IsAtSomeCut}
use Rattle.smaller_book.specs.Minimal.{IsSmaller}
use Rattle.smaller_book.proofs.LeastCuts.{illegal_from_cut}
use Rattle.smaller_book.proofs.Removing.{size-less_at}
use Rattle.smaller_book.proofs.Steps.{cut_evidence, evidence_part}
use Rattle.smaller_book.proofs.cuts.smaller_at.Goals as goal

pub returns : goal.returns
returns c =
    let kind = c.args.kind in
    let book = c.args.book.now in
    let part : List Page = c.in_ok-part.part in
    let cut : List ℕ = c.args.cut.now in
    let valid = c.callers-callers.ensures.valid in
    let at : IsAtSomeCut book part = record {
      cut = cut;
      within = c.requires.within;
      at_cut = is_the_only_one book cut part valid c.in_ok-part.ensures;
    } in
    let evidence = cut_evidence kind book part valid at in
    let fewer = c.has_fewer.ensures c.if-not-has_fewer.false in
    let whole : IsSmaller kind book (all_numbers part) part = record {
      evidence = evidence;
      illegal =
          illegal_from_cut (kind_spec kind) book cut part valid c.requires c.in_ok-part.ensures;
      fewer = size-less_at book (all_numbers part) part fewer.0
          (evidence_part kind book (all_numbers part) part evidence) fewer.1;
    } in
    subst (λ names. IsSmaller kind book names part) (sym c.in_ok-numbers.ensures) whole
