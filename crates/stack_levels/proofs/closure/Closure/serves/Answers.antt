use Rattle.std.proofs.Common.{ℕ, subst, arith}
use Rattle.book_base.specs.declared.call.Call.{Call}
use Rattle.stack_levels.specs.Levels.{ServesAtLevel, CallLeads}
use Rattle.stack_levels.specs.Tables.{layer_of, layers_of, nodes_of}
use Rattle.stack_levels.proofs.closure.Closure.serves.Goals as goal

pub serves-requires-clause-one : goal.serves-requires-clause-one
serves-requires-clause-one g c =
    let may = (c.requires.all c.args.caller).0 (c.has.ensures.0 c.if-not-has.false) in
    omega (arith, may.is_call, c.get-number.ensures)

pub leads-requires-clause-call : goal.leads-requires-clause-call
leads-requires-clause-call g c =
    let may = (c.requires.all c.args.caller).0 (c.has.ensures.0 c.if-not-has.false) in
    omega (arith, may.is_call, c.get-number.ensures)

pub returns : goal.returns
returns g c told =
    let reading = g.R.Reader.reading c.args.self.now.on.now.reader.now in
    let book = c.args.self.now.on.now.book.now in
    let made : ℕ → Call = λ n. record { caller = c.args.caller; number = n } in (
      c.args.caller,
      (c.requires.all c.args.caller).0 (c.has.ensures.0 c.if-not-has.false),
      subst (λ (n : ℕ). ServesAtLevel reading book c.args.level.now.top.last (made n) c.args.call)
          c.get-number.ensures (c.serves.ensures c.if-not-serves.false),
      subst (λ (n : ℕ). CallLeads reading book (layers_of c.args.self.now.table.now.levels.items)
          (nodes_of book c.args.self.now.table.now.cuts.keys c.args.self.now.table.now.nodes.keys)
          c.args.node.now.level (layer_of c.args.level.now) c.args.look.now.cut (made n))
          c.get-number.ensures (c.leads.ensures told),
    )
