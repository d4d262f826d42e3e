use Rattle.std.proofs.Common.{ℕ, ◌-◌, length, ap, arith}
use Rattle.std.proofs.lemmas.List.{length-replicate}
use Rattle.std.specs.Prelude.{Option, None}
use Rattle.book_base.specs.State.{Contents}
use Rattle.shared_words.specs.declared.entry.Entry.{Entry}
use Rattle.test_objects.proofs.Waiting.{late_answered}
use Rattle.test_objects.proofs.late.LateMachine.answer.Goals as goal

pub returns-clause-reply : goal.returns-clause-reply
returns-clause-reply g c =
    let object = c.args.self.now.object in
    let log = c.args.log.now in
    let long = ap (λ l. length l) c.clear.ensures in
    let none : Option ℕ = None in
    let d : Entry = record { caller = 0; op = 0 } in
    let within =
    c.requires.callers (length log - 1) d (let some = c.requires.some in omega arith) in
    late_answered (g.S.SeqObject.spec object) log d
    c.replay.new.scratch.waiting.items _ c.replay.new.scratch.state.words
    c.make_waiting.new.scratch.state.words c.step.result c.requires.some
    (ap (λ (s : Contents). s.words) c.reset.ensures) c.replay.ensures.list
    (c.replay.ensures.waiting _ (omega (
      arith,
      long,
      within,
      c.clear.new.waiting.ok.0,
      length-replicate c.args.scratch.now.waiting.len none,
    )))
    c.make_waiting.ensures.list c.step.ensures.reply
