use Rattle.std.proofs.Common.{◌<◌, length, ap, arith}
use Rattle.std.proofs.lemmas.List.{length-map}
use Rattle.book_base.proofs.PageLemmas.{caller_from_call}
use Rattle.smaller_book.proofs.Building.{numbers_in-at}
use Rattle.refutation_text.proofs.part_steps.number_of.Goals as goal

pub number_at-requires : goal.number_at-requires
number_at-requires c =
    let rows = c.args.left.now.numbers.items in
    let here : c.args.call.caller < length rows = omega (
      arith,
      caller_from_call c.args.left.now.book c.args.call.caller c.args.call.number c.requires.call,
      c.requires.names.wide,
      length-map rows (λ row. row.items),
    ) in
    omega (
      arith,
      c.requires.names.inside c.args.call.caller c.args.call.number c.requires.call,
      ap length (numbers_in-at rows c.args.call.caller c.index.result.now here c.index.ensures),
      ap length c.deref.ensures.value,
    )
