use Rattle.std.proofs.Common.{◌≡◌, ◌∙◌, sym}
use Rattle.smaller_book.specs.Part.{numbers_of}
use Rattle.smaller_book.specs.Numbers.{numbers_in}
use Rattle.smaller_book.proofs.Building.{numbers_in-at}
use Rattle.smaller_book.proofs.Named.{named_if_found, found_if_named}
use Rattle.smaller_book.proofs.unseen_calls.is_among.Goals as goal

pub returns : goal.returns
returns c =
    let names = numbers_in c.args.numbers.now in
    let call = c.args.call in
    let row = c.deref.result.now in
    let own : numbers_of names call.caller ≡ row =
    numbers_in-at c.args.numbers.now call.caller c.index-numbers-call.result c.requires
    c.index-numbers-call.is ∙ sym c.deref.ensures.value in (
      λ found. named_if_found names call row own (sym c.contains.ensures.value ∙ found),
      λ named. c.contains.ensures.value ∙ found_if_named names call row own named,
    )
