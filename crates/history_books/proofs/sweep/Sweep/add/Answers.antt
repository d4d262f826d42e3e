use Rattle.std.proofs.Common.{◌≡◌, ℕ, arith, ◌∷◌, [], ◌++◌, Some, set, length, ap, ◌∙◌}
use Rattle.book_base.specs.declared.call.Call.{Call}
use Rattle.book_base.specs.Book.{with_call, calls_of}
use Rattle.history_books.proofs.Sweeping.{swept-with_call, swept_along}
use Rattle.history_books.proofs.sweep.Sweep.add.Goals as goal

pub returns-clause-swept : goal.returns-clause-swept
returns-clause-swept c =
    let book = c.args.self.now.book in
    let names = c.args.self.now.names.items in
    let pending = c.args.self.now.pending.items in
    let new : ℕ → Call = λ number. record { caller = c.args.caller; number = number } in
    let place : c.len-place.result ≡ length names =
    omega (arith, c.len-place.ensures, c.args.self.now.names.ok) in
    swept_along c.args.calls.now (with_call book c.args.caller c.args.call.now.op) _
    (names ++ (new (calls_of book c.args.caller)) ∷ []) _
    (set pending c.args.caller (Some (length names))) _
    c.in_ok-add_call.ensures
    (c.in_ok-push.ensures.items ∙ ap (λ (n : ℕ). names ++ (new n) ∷ []) c.calls-number.ensures)
    (ap (λ (n : ℕ). set pending c.args.caller (Some n)) place)
    (swept-with_call c.args.calls.now book names pending c.args.call.now c.args.caller
    c.requires.order c.callers-callers.ensures.valid c.requires.swept c.requires.next
    c.requires.caller c.requires.free c.requires.none)
