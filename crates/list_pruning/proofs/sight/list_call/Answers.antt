use Rattle.std.proofs.lemmas.Result.{on_ok_weaker}
use Rattle.list_pruning.proofs.Listing.{lists_put, lists_take, lists_neither}
use Rattle.list_pruning.proofs.sight.list_call.Goals as goal

pub returns-in-Some : goal.returns-in-Some
returns-in-Some g c =
    let reading = g.R.Reader.reading c.args.reader.now in
    record {
      read = on_ok_weaker c.list_put.result
          (λ has. lists_put reading c.args.book.now c.args.call c.in-Some.value c.args.sight.now
          c.list_put.new.sight c.in-Some.ensures.some c.requires.read has) c.list_put.ensures;
    }

pub returns-in-Some-value_taken : goal.returns-in-Some-value_taken
returns-in-Some-value_taken g c =
    let reading = g.R.Reader.reading c.args.reader.now in
    record {
      read = on_ok_weaker c.list_take.result
          (λ has. lists_take reading c.args.book.now c.args.call c.in-Some-value_taken.value
          c.args.sight.now c.list_take.new.sight c.in-Some-value_taken.ensures.some
          c.requires.read has)
          c.list_take.ensures;
    }

pub returns-in-None : goal.returns-in-None
returns-in-None g c =
    let reading = g.R.Reader.reading c.args.reader.now in
    record {
      read = lists_neither reading c.args.book.now c.args.call c.args.sight.now
          c.in_default.ensures.none c.in-None.ensures.none c.requires.read;
    }
