use Rattle.std.proofs.Common.{◌≡◌, ◌∙◌, List, ℕ, length, take, sym, ap, subst}
use Rattle.std.specs.Option.{option_copied}
use Rattle.std.proofs.lemmas.Option.{none-some, same_Some}
use Rattle.stack_levels.specs.Levels.{IsClosedAt}
use Rattle.stack_levels.specs.Tables.{layers_of, nodes_of}
use Rattle.stack_levels.proofs.closure.Closure.is_closed_key.Goals as goal

pub returns-in-Some : goal.returns-in-Some
returns-in-Some g c told counts at =
    let reading = g.R.Reader.reading c.args.self.now.on.now.reader.now in
    let book = c.args.self.now.on.now.book.now in
    let levels = c.args.self.now.table.now.levels.items in
    let cuts = c.args.self.now.table.now.cuts.keys in
    let keys = c.args.self.now.table.now.nodes.keys in
    let same : c.in-Some.counts.now ≡ counts
    = same_Some c.in-Some.counts.now counts
    (sym (ap option_copied c.in-Some.is) ∙ (c.get_index.ensures.key ∙ at)) in
    subst (λ (n : List ℕ). IsClosedAt reading book (layers_of levels) (nodes_of book cuts keys)
    c.args.key.level (take (length book) n)) same (c.is_closed.ensures told)

pub returns-in-None : goal.returns-in-None
returns-in-None g c told counts at =
    absurd (none-some counts (sym (ap option_copied c.in-None.is) ∙ (c.get_index.ensures.key ∙ at)))
