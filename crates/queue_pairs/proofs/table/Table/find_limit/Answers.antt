use Rattle.std.proofs.Common.{◌≡◌, ℕ, ◌+◌, length, sym, subst, arith}
use Rattle.std.specs.List.{slice_get}
use Rattle.queue_pairs.specs.NextEntries.{last_after, IsLeastOf}
use Rattle.queue_pairs.proofs.Tabling.{least-none, least-more}
use Rattle.queue_pairs.proofs.table.Table.find_limit.Goals as goal

pub loop-k-init : goal.loop-k-init
loop-k-init c =
    least-none (λ (k : ℕ). last_after c.args.found (slice_get c.args.self.now.finds.items k))

pub loop-k-preserved : goal.loop-k-preserved
loop-k-preserved c =
    let values = λ (k : ℕ). last_after c.args.found (slice_get c.args.self.now.finds.items k) in
    subst (IsLeastOf values (c.loop-k.k + 1)) (sym c.min-least.ensures)
    (least-more values c.loop-k.k c.loop-k.least c.last_after.result c.loop-k.invariant
    c.last_after.ensures)

pub returns : goal.returns
returns c =
    let values = λ (k : ℕ). last_after c.args.found (slice_get c.args.self.now.finds.items k) in
    let all : c.loop-k.k ≡ length c.args.self.now.finds.items =
    omega (arith, c.len-k-end.ensures, c.loop-k-test.false) in
    subst (λ (n : ℕ). IsLeastOf values n c.loop-k.least) all c.loop-k.invariant
