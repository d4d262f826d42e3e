use Rattle.std.proofs.Common.{Some, sym, ap}
use Rattle.streams.specs.Stream.{Lost}
use Rattle.watch_core.proofs.Lookups.{written, take_updated}
use Rattle.watch_core.proofs.Partly.{takes_none}
use Rattle.watch_core.proofs.parts.lose_in.Goals as goal

pub returns-in-Some : goal.returns-in-Some
returns-in-Some c spec =
    let m = c.args.parts.now in
    let n = c.get_mut.follows.lender c.lose.new.self in
    let is = sym c.in-Some.ensures.value in
    take_updated m n c.args.key c.lose.new.self
    (written m n c.args.key c.in-Some.part.now c.lose.new.self is
    (c.get_mut.follows.holds c.lose.new.self)) spec (Lost c.args.process)
    (Some c.in-Some.part.now) is
    (c.lose.ensures spec)

pub returns-in_default : goal.returns-in_default
returns-in_default c spec =
    takes_none spec c.args.key (Lost c.args.process) c.args.parts.now.entries
    c.get_mut.follows.lender-at-none.entries tt (sym c.in_default.ensures.value)
    (ap (λ m. m.entries) c.get_mut.follows.holds-at-none)
