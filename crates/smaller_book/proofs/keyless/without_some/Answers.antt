use Rattle.smaller_book.specs.Part.{IsPart}
use Rattle.smaller_book.specs.Keys.{keys_from_to, all_without}
use Rattle.smaller_book.proofs.Removing.{size-less_at}
use Rattle.smaller_book.proofs.keyless.without_some.Goals as goal

pub returns-then-branch : goal.returns-then-branch
returns-then-branch c =
    let book = c.args.book.now in
    let kind = c.args.kind in
    let smaller = c.in_ok-smaller.smaller in
    let keys = keys_from_to c.args.first c.args.last in
    let is : IsPart book (all_without kind keys book) smaller.book = c.in_ok-smaller.ensures.part in
    let fewer = c.has_fewer.ensures c.if-not-has_fewer.false in
    record {
      evidence = c.in_ok-smaller.ensures.evidence
          (c.keys_may_go.ensures.may c.if-not-keys_may_go.false);
      illegal = c.in_ok-is_illegal.ensures.illegal c.if-branch.true;
      fewer = size-less_at book (all_without kind keys book) smaller.book fewer.0 is fewer.1;
    }
