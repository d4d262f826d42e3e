use Rattle.std.proofs.Common.{ℕ, ◌<◌, false, get_or, refl, subst, arith}
use Rattle.std.proofs.lemmas.Bool.{both_ways}
use Rattle.book_base.specs.declared.call.Call.{Call}
use Rattle.book_base.specs.Book.{IsAnswered, Precedes}
use Rattle.book_base.proofs.PageLemmas.{caller_from_answer}
use Rattle.book_base.specs.Next.{next_call, MayComeNext}
use Rattle.legal_orders.proofs.Precedence.{may_come_next-from_first}
use Rattle.set_order.proofs.search.SetSearch.may_come.Goals as goal

pub returns-then-precedes : goal.returns-then-precedes
returns-then-precedes g c = (
  λ true_so. absurd (both_ways false refl true_so),
  λ (may : MayComeNext c.args.self.now.book.now c.args.counts.now
      (next_call c.args.counts.now c.args.caller)).
      let book = c.args.self.now.book.now in
      let counts = c.args.counts.now in
      let first : Call = record { caller = c.loop-other.other; number = c.from.result } in
      let made : ℕ → Call = λ n. record { caller = c.args.caller; number = n } in
      let before : Precedes book first (made c.from-number.result) =
      c.precedes.ensures.0 c.if-precedes.true in
      let held : c.from.result < get_or counts c.loop-other.other 0 = may.preceded first
      (subst (λ (n : ℕ). Precedes book first (made n)) c.from-number.ensures before) in
      absurd (omega (arith, c.from.ensures)),
)

pub returns : goal.returns
returns g c = (
  λ _. may_come_next-from_first c.args.self.now.book.now c.args.counts.now
      (next_call c.args.counts.now c.args.caller) c.callers-other-end.ensures.valid
      (omega (arith, c.from-number.ensures, c.calls.ensures)) refl
      (λ (i : ℕ) (answered : IsAnswered c.args.self.now.book.now (next_call c.args.counts.now i)).
      c.loop-other.invariant i
      (let there = caller_from_answer c.args.self.now.book.now i (get_or c.args.counts.now i 0)
      answered in omega (arith, there, c.callers-other-end.ensures.count)) answered),
  λ _. refl,
)
