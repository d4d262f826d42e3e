use Rattle.std.proofs.Common.{◌∙◌, ap, sym, reverse}
use Rattle.history_text.specs.Pairing.{event_or, first_event, calls_of}
use Rattle.history_text.proofs.Stepping.{calls_more}
use Rattle.history_text.proofs.pairing.calls.Goals as goal

pub loop-done-preserved : goal.loop-done-preserved
loop-done-preserved c =
    let entry = c.before_last-entry.result.now in
    let known = c.loop-done.invariant in
    let made = c.call_of-call.ensures _ known.next in
    record {
      calls = ap reverse c.in_ok-add.ensures
          ∙ (calls_more c.args.clock entry _ c.call_of-call.result c.loop-done.calls.items made known.calls
          ∙ ap (calls_of c.args.clock) (sym c.before_last-entry.ensures));
      next = λ process. c.in_ok-note.ensures process
          ∙ (ap (event_or process entry.line entry.entry) (known.next process)
          ∙ ap (first_event process) (sym c.before_last-entry.ensures));
    }
