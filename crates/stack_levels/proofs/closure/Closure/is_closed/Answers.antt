use Rattle.std.proofs.Common.{◌≡◌, ◌∙◌, ℕ, length, take, ap, arith, rules}
use Rattle.std.proofs.lemmas.List.{length-take}
use Rattle.book_base.specs.declared.TheConstants.{MAX_CALLERS}
use Rattle.stack_levels.specs.Tables.{cut_at, nodes_of}
use Rattle.stack_levels.proofs.Closing.{closed_at}
use Rattle.stack_levels.proofs.closure.Closure.is_closed.Goals as goal

pub returns : goal.returns
returns g c told =
    let book = c.args.self.now.on.now.book.now in
    let counts = c.args.node.now.counts in
    let long : length counts ≡ MAX_CALLERS = first_of (omega arith, grind arith, search rules) in
    let same : c.in-Some-look.look.cut ≡ cut_at book c.args.node.now
    = c.in-Some-look.ensures.cut ∙ ap (λ (n : ℕ). take n counts) c.callers-callers.ensures.count in
    closed_at (g.R.Reader.reading c.args.self.now.on.now.reader.now) book
    c.args.self.now.table.now.levels.items
    (nodes_of book c.args.self.now.table.now.cuts.keys c.args.self.now.table.now.nodes.keys)
    c.args.node.now.level c.in-Some.level.now
    (cut_at book c.args.node.now)
    c.in-Some-look.look.cut c.in-Some-look.look.marks
    (omega (arith, long, c.callers-callers.ensures.small.callers, length-take (length book) counts))
    c.in-Some.ensures same c.in-Some-look.ensures.suffice (c.callers_are_followed.ensures told)
