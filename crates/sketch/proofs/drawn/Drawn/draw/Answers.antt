use Rattle.std.proofs.Common.{ℕ, ◌+◌, ◌∙◌, List, set, sym, ap, subst, arith}
use Rattle.book_base.specs.declared.call.Call.{Call}
use Rattle.sketch.specs.declared.event.Event.TheVariants.{Invoke, Return}
use Rattle.sketch.specs.Sketch.{IsEventOf}
use Rattle.sketch.specs.Drawing.{IsPartOf, IsNext}
use Rattle.sketch.proofs.Drawing.{part_more}
use Rattle.sketch.proofs.drawn.Drawn.draw.Goals as goal

pub overflow_add-call : goal.overflow_add-call
overflow_add-call c =
    let call : Call = c.in-Invoke.call in
    let is : IsEventOf c.args.book.now (Invoke call) =
    subst (IsEventOf c.args.book.now) c.in-Invoke.is c.requires.next.is_event in
    omega (arith, is, c.requires.small.calls call.caller)

pub overflow_add-call-in-Return : goal.overflow_add-call-in-Return
overflow_add-call-in-Return c =
    let call : Call = c.in-Return.call in
    let is : IsEventOf c.args.book.now (Return call) =
    subst (IsEventOf c.args.book.now) c.in-Return.is c.requires.next.is_event in
    omega (arith, is, c.requires.valid.answers call.caller, c.requires.small.calls call.caller)

pub returns-in-Return-clause-part : goal.returns-in-Return-clause-part
returns-in-Return-clause-part c =
    let call : Call = c.in-Return.call in
    let next : IsNext c.args.book.now c.args.self.now (Return call) =
    subst (IsNext c.args.book.now c.args.self.now) c.in-Return.is c.requires.next in
    let same = c.set-in-Return.ensures
    ∙ ap (λ (n : ℕ). set c.args.self.now.returned call.caller (n + 1)) next.follows in
    subst (λ (cut : List ℕ). IsPartOf c.args.book.now
    (record { invoked = c.args.self.now.invoked; returned = cut })) (sym same)
    (part_more c.args.book.now c.args.self.now c.requires.valid (Return call) c.requires.part next)
