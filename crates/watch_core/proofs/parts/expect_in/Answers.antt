use Rattle.std.proofs.Common.{Some, sym, ap}
use Rattle.watch_core.proofs.Lookups.{written, told_updated}
use Rattle.watch_core.proofs.Partly.{told_none}
use Rattle.watch_core.proofs.parts.expect_in.Goals as goal

pub returns-in-Some : goal.returns-in-Some
returns-in-Some c spec =
    let m = c.args.parts.now in
    let n = c.get_mut.follows.lender c.expect.new.self in
    let is = sym c.in-Some.ensures.value in
    told_updated m n c.args.key c.expect.new.self
    (written m n c.args.key c.in-Some.part.now c.expect.new.self is
    (c.get_mut.follows.holds c.expect.new.self)) spec c.args.process c.args.reply
    (Some c.in-Some.part.now) is (c.expect.ensures spec)

pub returns-in_default : goal.returns-in_default
returns-in_default c spec = told_none spec c.args.key c.args.process c.args.reply
    c.args.parts.now.entries c.get_mut.follows.lender-at-none.entries
    (sym c.in_default.ensures.value) (ap (λ m. m.entries) c.get_mut.follows.holds-at-none)
