use Rattle.std.proofs.Common.{◌<◌, false, get_or, refl, arith}
use Rattle.std.proofs.lemmas.Bool.{both_ways}
use Rattle.book_base.specs.declared.call.Call.{Call}
use Rattle.book_base.specs.Next.{HoldsAnswered}
use Rattle.set_order.proofs.search.SetSearch.holds_answered.Goals as goal

pub returns-then-from-answers : goal.returns-then-from-answers
returns-then-from-answers g c = (
  λ true_so. absurd (both_ways false refl true_so),
  λ (all : HoldsAnswered c.args.self.now.book.now c.args.counts.now).
      let counts = c.args.counts.now in
      let caller = c.loop-caller.caller in
      let call : Call = record { caller = caller; number = get_or counts caller 0 } in
      let held : get_or counts caller 0 < get_or counts caller 0 =
      all call (omega (arith, c.from.ensures, c.answers.ensures)) in
      absurd (omega arith),
)
