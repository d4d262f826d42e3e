use Rattle.std.proofs.Common.{◌≡◌, ℕ, ◌+◌, List, sym, subst, arith}
use Rattle.book_base.specs.Book.{calls_of}
use Rattle.queue_pairs.specs.declared.table.TimedCall.{TimedCall}
use Rattle.queue_pairs.specs.Tables.{IsRowTo, AreFindsTo}
use Rattle.queue_pairs.proofs.Tabling.{row-none, row-more, finds-step, finds-caller}
use Rattle.queue_pairs.proofs.table.row_of.Goals as goal

pub loop-number-init : goal.loop-number-init
loop-number-init g c = record {
  row = subst (IsRowTo (g.R.Reader.reading c.args.reader.now) c.args.book.now c.args.caller 0)
      (sym c.new-row.ensures.items)
      (row-none (g.R.Reader.reading c.args.reader.now) c.args.book.now c.args.caller);
  finds = c.requires.finds;
}

pub loop-number-preserved : goal.loop-number-preserved
loop-number-preserved g c =
    let reading = g.R.Reader.reading c.args.reader.now in
    let book = c.args.book.now in
    let h = c.loop-number.invariant in
    record {
      row = subst (IsRowTo reading book c.args.caller (c.loop-number.number + 1))
          (sym c.in_ok-push.ensures.items)
          (row-more reading book c.args.caller c.loop-number.number c.loop-number.row.items
          c.timed-timed.result h.row c.timed-timed.ensures);
      finds = finds-step reading book c.args.caller c.loop-number.number c.loop-number.finds.items
          c.add_find.new.finds.items c.timed-timed.result h.finds c.timed-timed.ensures
          c.in_ok-add_find.ensures.found c.in_ok-add_find.ensures.other;
    }

pub returns : goal.returns
returns g c =
    let reading = g.R.Reader.reading c.args.reader.now in
    let book = c.args.book.now in
    let h = c.loop-number.invariant in
    let all : c.loop-number.number ≡ calls_of book c.args.caller =
    omega (arith, c.calls-number-end.ensures, c.loop-number-test.false) in
    record {
      row =
          subst (λ (n : ℕ). IsRowTo reading book c.args.caller n c.loop-number.row.items) all h.row;
      finds = finds-caller reading book c.args.caller c.loop-number.finds.items
          (subst (λ (n : ℕ). AreFindsTo reading book c.args.caller n c.loop-number.finds.items)
          all h.finds);
    }
