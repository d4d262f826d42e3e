use Rattle.std.proofs.Common.{◌≡◌, ◌∙◌, true, ap}
use Rattle.smaller_book.specs.Part.{IsPart}
use Rattle.smaller_book.specs.Keys.{key_of_call, is_among, keys_from_to, all_without}
use Rattle.smaller_book.proofs.KeyRemoval.{own_key, size-less_without}
use Rattle.smaller_book.proofs.keyless.without_key.Goals as goal

pub returns-then-branch-clause-smaller : goal.returns-then-branch-clause-smaller
returns-then-branch-clause-smaller c =
    let book = c.args.book.now in
    let kind = c.args.kind in
    let key = c.args.key in
    let smaller = c.in_ok-smaller.smaller in
    let is : IsPart book (all_without kind (keys_from_to key key) book) smaller.book =
    c.in_ok-smaller.ensures.part in
    let goes : is_among (keys_from_to key key) (key_of_call kind book c.args.call) ≡ true =
    ap (is_among (keys_from_to key key)) c.requires.key ∙ own_key key in
    record {
      evidence = c.in_ok-smaller.ensures.evidence c.requires.may;
      illegal = c.in_ok-is_illegal.ensures.illegal c.if-branch.true;
      fewer = size-less_without kind
          (keys_from_to key key) book c.args.call smaller.book c.requires.call goes is;
    }

pub returns-else-branch-clause-none : goal.returns-else-branch-clause-none
returns-else-branch-clause-none c = (
  c.in_ok-smaller.smaller.book,
  c.in_ok-smaller.ensures.part,
  c.in_ok-smaller.ensures.answers,
  c.in_ok-is_illegal.ensures.legal c.if-branch.false,
)
