use Rattle.std.proofs.Common.{◌≡◌, ℕ, ◌+◌, None, get_or, sym, subst, arith}
use Rattle.book_base.specs.declared.TheConstants.{MAX_CALLERS}
use Rattle.queue_pairs.specs.NextEntries.{last_of, IsLeastOf}
use Rattle.queue_pairs.proofs.Tabling.{least-none, least-more}
use Rattle.queue_pairs.proofs.next_entries.least_last.Goals as goal

pub loop-i-init : goal.loop-i-init
loop-i-init c = least-none (λ (i : ℕ). last_of (get_or c.args.calls.now i None))

pub loop-i-preserved : goal.loop-i-preserved
loop-i-preserved c =
    let values = λ (i : ℕ). last_of (get_or c.args.calls.now i None) in
    subst (IsLeastOf values (c.loop-i.i + 1)) (sym c.min-least.ensures)
    (least-more values c.loop-i.i c.loop-i.least c.last_of.result c.loop-i.invariant
    c.last_of.ensures)

pub returns : goal.returns
returns c =
    let values = λ (i : ℕ). last_of (get_or c.args.calls.now i None) in
    let all : c.loop-i.i ≡ MAX_CALLERS = omega (arith, c.loop-i-test.false) in
    subst (λ (n : ℕ). IsLeastOf values n c.loop-i.least) all c.loop-i.invariant
