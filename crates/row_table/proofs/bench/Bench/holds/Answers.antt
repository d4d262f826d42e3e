use Rattle.std.proofs.Common.{sym, arith, subst, Bool, IsTrue, ◌↔◌}
use Rattle.row_table.specs.Callers.{Holds}
use Rattle.row_table.proofs.Moving.{holds_found, holds_outside}
use Rattle.row_table.proofs.bench.Bench.holds.Goals as goal

pub returns-then-place-len : goal.returns-then-place-len
returns-then-place-len g c = holds_outside c.args.self.now.callers c.args.self.now.places.items _
    c.args.caller c.args.self.now.tied (omega arith)

pub returns : goal.returns
returns g c =
    subst (λ (b : Bool). IsTrue b ↔ Holds c.args.self.now c.args.caller) (sym c.is_some.ensures)
    (holds_found c.args.self.now.callers c.args.self.now.places.items c.args.self.now.seat.me.0
    c.args.caller c.args.self.now.tied c.index.result.now c.index.ensures (omega arith))
