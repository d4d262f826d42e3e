use Rattle.std.proofs.Common.{arith}
use Rattle.book_base.specs.declared.call.Call.{Call}
use Rattle.book_text.proofs.Texts.{words_more}
use Rattle.model_text.proofs.BookLines.{caller_written, end_written, book_written}
use Rattle.model_text.proofs.writer.write_book.Goals as goal

pub loop-caller-preserved : goal.loop-caller-preserved
loop-caller-preserved c =
    record {
      text = caller_written c.args.book.now c.loop-caller.out.items
          c.put_calls.new.out.items c.loop-caller.caller
          (omega (arith, c.callers-caller-end.ensures.count, c.loop-caller-test.true))
          c.loop-caller.invariant.text c.in_ok-put_calls.ensures.ok;
      words = words_more c.args.book.now c.loop-caller.caller c.loop-caller.invariant.words
          c.in_ok-put_calls.ensures.words;
    }

pub returns : goal.returns
returns c =
    book_written c.args.book.now c.extend_from_slice.new.self.items
    c.callers-caller-end.ensures.valid c.callers-caller-end.ensures.small
    (λ (call : Call) lt is. c.loop-caller.invariant.words call
    (omega (arith, lt, c.callers-caller-end.ensures.count, c.loop-caller-test.false)) is)
    (end_written c.args.book.now c.loop-caller.out.items
    c.extend_from_slice.new.self.items c.loop-caller.caller
    (omega (arith, c.callers-caller-end.ensures.count, c.loop-caller-test.false))
    c.loop-caller.invariant.text c.in_ok-extend_from_slice.ensures.items)
