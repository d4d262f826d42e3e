use Rattle.std.proofs.Common.{ℕ, ◌<◌, false, get_or, refl, subst, arith}
use Rattle.std.proofs.lemmas.Bool.{both_ways}
use Rattle.book_base.specs.declared.call.Call.{Call}
use Rattle.book_base.specs.Book.{IsAnswered, Precedes}
use Rattle.book_base.proofs.PageLemmas.{caller_from_answer}
use Rattle.book_base.specs.Next.{next_call, MayComeNext}
use Rattle.legal_orders.proofs.Precedence.{may_come_next-from_first}
use Rattle.legal_prefixes.proofs.next_calls.may_come.Goals as goal

pub returns-then-precedes : goal.returns-then-precedes
returns-then-precedes c = (
  λ true_so. absurd (both_ways false refl true_so),
  λ (may : MayComeNext c.args.book.now c.args.cut.now (next_call c.args.cut.now c.args.caller)).
      let book = c.args.book.now in
      let cut = c.args.cut.now in
      let first : Call = record { caller = c.loop-other.other; number = c.get.result } in
      let made : ℕ → Call = λ n. record { caller = c.args.caller; number = n } in
      let before : Precedes book first (made c.get-number.result) =
      c.precedes.ensures.0 c.if-precedes.true in
      let held : c.get.result < get_or cut c.loop-other.other 0 = may.preceded first
      (subst (λ (n : ℕ). Precedes book first (made n)) c.get-number.ensures before) in
      absurd (omega (arith, c.get.ensures)),
)

pub returns : goal.returns
returns c = (
  λ _. may_come_next-from_first c.args.book.now c.args.cut.now
      (next_call c.args.cut.now c.args.caller) c.callers-other-end.ensures.valid
      (omega (arith, c.get-number.ensures, c.calls.ensures)) refl
      (λ (i : ℕ) (answered : IsAnswered c.args.book.now (next_call c.args.cut.now i)).
      c.loop-other.invariant i
      (let there = caller_from_answer c.args.book.now i (get_or c.args.cut.now i 0)
      answered in omega (arith, there, c.callers-other-end.ensures.count)) answered),
  λ _. refl,
)
