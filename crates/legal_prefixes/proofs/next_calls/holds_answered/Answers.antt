use Rattle.std.proofs.Common.{◌<◌, false, get_or, refl, arith}
use Rattle.std.proofs.lemmas.Bool.{both_ways}
use Rattle.book_base.specs.declared.call.Call.{Call}
use Rattle.book_base.specs.Next.{HoldsAnswered}
use Rattle.legal_prefixes.proofs.next_calls.holds_answered.Goals as goal

pub returns-then-get-answers : goal.returns-then-get-answers
returns-then-get-answers c = (
  λ true_so. absurd (both_ways false refl true_so),
  λ (all : HoldsAnswered c.args.book.now c.args.cut.now).
      let cut = c.args.cut.now in
      let caller = c.loop-caller.caller in
      let call : Call = record { caller = caller; number = get_or cut caller 0 } in
      let held : get_or cut caller 0 < get_or cut caller 0 =
      all call (omega (arith, c.get.ensures, c.answers.ensures)) in
      absurd (omega arith),
)
