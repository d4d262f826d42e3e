use Rattle.std.proofs.Common.{◌≡◌, ℕ, List, length, set, Option, Some, None, refl, sym, ap, subst, arith, ◌∙◌}
use Rattle.std.proofs.lemmas.Option.{same_Some, slice_get_read}
use Rattle.book_base.specs.Book.{announced, with_answer}
use Rattle.book_base.specs.Refusal.{MayAnswer}
use Rattle.book_base.proofs.GrowthLemmas.{announced-with_answer}
use Rattle.history_books.specs.Sweep.{IsNotDue}
use Rattle.history_books.specs.Calls.{IsDue}
use Rattle.history_books.proofs.Growing.{slice_get-set_here, slice_get-set_other}
use Rattle.history_books.proofs.Sweeping.{pending_within, pending_is, may_answer, swept-with_answer, swept_along}
use Rattle.history_books.proofs.sweep.Sweep.settle_caller.Goals as goal

pub due_answer-requires : goal.due_answer-requires
due_answer-requires c = pending_within c.args.calls.now c.args.self.now.book
    c.args.self.now.names.items c.args.self.now.pending.items c.requires.swept c.args.caller
    c.index.result.now (omega (arith, c.requires.swept.wide, c.requires.caller)) c.index.ensures

pub put_answer-requires-clause-may : goal.put_answer-requires-clause-may
put_answer-requires-clause-may c =
    let due = c.in-Some.ensures.due in
    subst (MayAnswer c.args.self.now.book c.args.caller) (sym c.requires.view)
    (may_answer c.args.calls.now c.args.self.now.book c.args.self.now.names.items
    c.args.self.now.pending.items c.args.caller due.0
    c.callers-callers.ensures.valid c.requires.swept
    (pending_is c.args.self.now.pending.items c.args.caller due.0 c.index.result.now
    (omega (arith, c.requires.swept.wide, c.requires.caller)) c.index.ensures due.2))

pub returns-in_ok-put_answer-clause-swept : goal.returns-in_ok-put_answer-clause-swept
returns-in_ok-put_answer-clause-swept c =
    let due = c.in-Some.ensures.due in
    let book = c.args.self.now.book in
    let names = c.args.self.now.names.items in
    let pending = c.args.self.now.pending.items in
    let reply = c.in-Some.answer.reply in
    let count : c.len.result ≡ length names =
    omega (arith, c.len.ensures, c.args.self.now.names.ok) in
    swept_along c.args.calls.now
    (with_answer book c.args.caller (record { reply = reply; view = announced book })) _ names names
    (set pending c.args.caller None) _
    (c.in_ok-put_answer.ensures.ok
    ∙ ap (λ (v : List ℕ). with_answer book c.args.caller (record { reply = reply; view = v }))
    c.requires.view) refl refl
    (swept-with_answer c.args.calls.now book names pending c.args.caller due.0 due.1
    c.in-Some.answer c.requires.swept c.requires.caller
    (pending_is pending c.args.caller due.0 c.index.result.now
    (omega (arith, c.requires.swept.wide, c.requires.caller)) c.index.ensures due.2) due.3 due.4
    (subst (λ (n : ℕ). IsDue c.args.calls.now n c.in-Some.answer.returned) count due.5))

pub returns-in_ok-put_answer-clause-view : goal.returns-in_ok-put_answer-clause-view
returns-in_ok-put_answer-clause-view c =
    c.requires.view ∙ (sym (announced-with_answer c.args.self.now.book c.args.caller
    (record { reply = c.in-Some.answer.reply; view = c.args.view }))
    ∙ ap announced (sym c.in_ok-put_answer.ensures.ok))

pub returns-in_ok-put_answer-clause-others : goal.returns-in_ok-put_answer-clause-others
returns-in_ok-put_answer-clause-others c =
    λ j other. slice_get-set_other c.args.self.now.pending.items c.args.caller j None other

pub returns-in_ok-put_answer-clause-none : goal.returns-in_ok-put_answer-clause-none
returns-in_ok-put_answer-clause-none c = λ its at j call answer is its_at answered due.
    let none : None ≡ Some j = sym (same_Some its None (sym at
    ∙ slice_get-set_here c.args.self.now.pending.items c.args.caller None
    (omega (arith, c.requires.swept.wide, c.requires.caller)))) ∙ is in
    cc

pub returns-in_default-clause-none : goal.returns-in_default-clause-none
returns-in_default-clause-none c = λ its at.
    let same : c.index.result.now ≡ its = same_Some c.index.result.now its
    (sym (slice_get_read c.args.self.now.pending.items (length c.args.self.now.pending.items)
    c.args.caller c.index.result.now refl
    (omega (arith, c.requires.swept.wide, c.requires.caller)) c.index.ensures) ∙ at) in
    let count : c.len.result ≡ length c.args.self.now.names.items =
    omega (arith, c.len.ensures, c.args.self.now.names.ok) in
    subst (λ (o : Option ℕ). IsNotDue c.args.calls.now (length c.args.self.now.names.items) o) same
    (subst (λ (n : ℕ). IsNotDue c.args.calls.now n c.index.result.now) count
    c.in_default.ensures.none)
