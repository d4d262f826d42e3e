use Rattle.std.proofs.Common.{ℕ, List, Option, length, take, sym, subst}
use Rattle.stack_levels.specs.Levels.{IsOneLevel, TakeLeads}
use Rattle.stack_levels.specs.Tables.{nodes_of}
use Rattle.stack_levels.proofs.closure.Closure.take_leads.Goals as goal

pub returns-in-Some : goal.returns-in-Some
returns-in-Some g c told =
    let book = c.args.self.now.on.now.book.now in
    subst (λ (o : Option ℕ). TakeLeads
    (nodes_of book c.args.self.now.table.now.cuts.keys c.args.self.now.table.now.nodes.keys)
    c.args.place o c.args.level.now.parents.items (take (length book) c.args.counts))
    (sym c.in-Some.is)
    (λ p one. c.has_all_at.ensures told p
    (subst (λ (xs : List ℕ). IsOneLevel xs p) (sym c.deref.ensures.value) one))

pub returns-in-None : goal.returns-in-None
returns-in-None g c told =
    let book = c.args.self.now.on.now.book.now in
    subst (λ (o : Option ℕ). TakeLeads
    (nodes_of book c.args.self.now.table.now.cuts.keys c.args.self.now.table.now.nodes.keys)
    c.args.place o c.args.level.now.parents.items (take (length book) c.args.counts))
    (sym c.in-None.is) (c.has_at.ensures told)
