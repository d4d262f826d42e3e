use Rattle.std.proofs.Common.{◌≡◌, ℕ, ◌+◌, length, sym, subst, arith}
use Rattle.queue_pairs.specs.Spans.{IsFirstBelow}
use Rattle.queue_pairs.proofs.Spanning.{first-none, first-more}
use Rattle.queue_pairs.proofs.spans.first_of.Goals as goal

pub loop-caller-init : goal.loop-caller-init
loop-caller-init c = first-none c.args.book.now c.args.call

pub loop-caller-preserved : goal.loop-caller-preserved
loop-caller-preserved c =
    subst (IsFirstBelow c.args.book.now c.args.call (c.loop-caller.caller + 1))
    (sym c.min-first.ensures)
    (first-more c.args.book.now c.args.call c.loop-caller.caller c.loop-caller.first
    c.first_of_caller.result
    c.loop-caller.invariant c.first_of_caller.ensures.few c.first_of_caller.ensures.held
    c.first_of_caller.ensures.least)

pub returns : goal.returns
returns c =
    let all : c.loop-caller.caller ≡ length c.args.book.now =
    omega (arith, c.callers-caller-end.ensures.count, c.loop-caller-test.false) in
    subst (λ (n : ℕ). IsFirstBelow c.args.book.now c.args.call n c.loop-caller.first) all
    c.loop-caller.invariant
