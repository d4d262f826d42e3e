use Rattle.std.proofs.Common.{ℕ, subst, arith}
use Rattle.stack_levels.specs.Levels.{IsFollowed}
use Rattle.stack_levels.specs.Tables.{layer_of, layers_of, nodes_of}
use Rattle.stack_levels.proofs.closure.Closure.caller_is_followed.Goals as goal

pub returns-then-not-has : goal.returns-then-not-has
returns-then-not-has g c told marked =
    let so = c.has.ensures.1 marked in
    absurd (cc (so, c.if-not-has.true))

pub is_followed-requires-clause-call : goal.is_followed-requires-clause-call
is_followed-requires-clause-call g c =
    let may = (c.requires.all c.args.caller).0
    (c.requires.fewer c.args.caller (c.has.ensures.0 c.if-not-has.false)) in
    omega (arith, may.is_call, c.get-number.ensures)

pub returns : goal.returns
returns g c told marked =
    let book = c.args.self.now.on.now.book.now in
    subst (λ (n : ℕ). IsFollowed (g.R.Reader.reading c.args.self.now.on.now.reader.now) book
    (layers_of c.args.self.now.table.now.levels.items)
    (nodes_of book c.args.self.now.table.now.cuts.keys c.args.self.now.table.now.nodes.keys)
    c.args.node.now.level
    (layer_of c.args.level.now) c.args.look.now.cut (record { caller = c.args.caller; number = n }))
    c.get-number.ensures (c.is_followed.ensures told)
