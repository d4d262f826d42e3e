use Rattle.std.proofs.Common.{ℕ, List, length, get_or, ap, arith}
use Rattle.std.proofs.lemmas.List.{get_or-take}
use Rattle.legal_orders.specs.declared.reader.Role.TheVariants as roles
use Rattle.stack_levels.specs.Tables.{layer_of, layers_of, nodes_of}
use Rattle.stack_levels.proofs.Closing.{call_leads}
use Rattle.stack_levels.proofs.closure.Closure.leads.Goals as goal

pub raised-counts-requires-clause-few : goal.raised-counts-requires-clause-few
raised-counts-requires-clause-few g c =
    let book = c.args.self.now.on.now.book.now in
    omega (
      arith,
      c.requires.call,
      c.callers-callers.ensures.small.calls c.args.call.caller,
      c.requires.number,
      ap (λ (cut : List ℕ). get_or cut c.args.call.caller 0) c.requires.cut,
      get_or-take (length book) c.args.node.now.counts c.args.call.caller 0 c.requires.caller,
    )

pub returns-in-Put : goal.returns-in-Put
returns-in-Put g c told =
    let book = c.args.self.now.on.now.book.now in
    let by = c.put_leads.ensures told in
    call_leads (g.R.Reader.reading c.args.self.now.on.now.reader.now) book
    (layers_of c.args.self.now.table.now.levels.items)
    (nodes_of book c.args.self.now.table.now.cuts.keys c.args.self.now.table.now.nodes.keys)
    c.args.node.now (layer_of c.args.level.now) c.args.look.now.cut c.raised-counts.result
    c.args.call c.op.result c.role.result (roles.Put c.in-Put.value)
    c.op.ensures c.role.ensures c.in-Put.is c.requires.cut c.requires.caller c.raised-counts.ensures
    (by.0, by.1.0, by.1.1, by.1.2, by.1.3, by.2)

pub returns-in-Take : goal.returns-in-Take
returns-in-Take g c told =
    let book = c.args.self.now.on.now.book.now in
    call_leads (g.R.Reader.reading c.args.self.now.on.now.reader.now) book
    (layers_of c.args.self.now.table.now.levels.items)
    (nodes_of book c.args.self.now.table.now.cuts.keys c.args.self.now.table.now.nodes.keys)
    c.args.node.now (layer_of c.args.level.now) c.args.look.now.cut c.raised-counts.result
    c.args.call c.op.result c.role.result roles.Take
    c.op.ensures c.role.ensures c.in-Take.is c.requires.cut c.requires.caller
    c.raised-counts.ensures (c.take_leads.ensures told)

pub returns-in-Other : goal.returns-in-Other
returns-in-Other g c told =
    let book = c.args.self.now.on.now.book.now in
    call_leads (g.R.Reader.reading c.args.self.now.on.now.reader.now) book
    (layers_of c.args.self.now.table.now.levels.items)
    (nodes_of book c.args.self.now.table.now.cuts.keys c.args.self.now.table.now.nodes.keys)
    c.args.node.now (layer_of c.args.level.now) c.args.look.now.cut c.raised-counts.result
    c.args.call c.op.result c.role.result roles.Other
    c.op.ensures c.role.ensures c.in-Other.is c.requires.cut c.requires.caller
    c.raised-counts.ensures (c.has_at.ensures told)
