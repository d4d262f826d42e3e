use Rattle.std.proofs.Common.{◌≡◌, ◌∙◌, List, ℕ, Some, length, take, sym, ap, subst, slice_get}
use Rattle.std.specs.Option.{option_copied}
use Rattle.std.proofs.lemmas.Option.{none-some, same_Some}
use Rattle.stack_levels.specs.declared.table.NodeKey.{NodeKey}
use Rattle.stack_levels.specs.Levels.{IsClosedAt}
use Rattle.stack_levels.specs.Tables.{layers_of, nodes_of}
use Rattle.stack_levels.proofs.closure.Closure.is_closed_at.Goals as goal

pub returns-in-Some : goal.returns-in-Some
returns-in-Some g c told key at =
    let reading = g.R.Reader.reading c.args.self.now.on.now.reader.now in
    let book = c.args.self.now.on.now.book.now in
    let levels = c.args.self.now.table.now.levels.items in
    let cuts = c.args.self.now.table.now.cuts.keys in
    let keys = c.args.self.now.table.now.nodes.keys in
    let same : c.in-Some.key.now ≡ key
    = same_Some c.in-Some.key.now key
    (sym (ap option_copied c.in-Some.is) ∙ (c.get_index.ensures.key ∙ at)) in
    subst (λ (n : NodeKey). (counts : List ℕ) → slice_get cuts n.cut ≡ Some counts
    → IsClosedAt reading book (layers_of levels) (nodes_of book cuts keys) n.level
    (take (length book) counts)) same (c.is_closed_key.ensures told)

pub returns-in-None : goal.returns-in-None
returns-in-None g c told key at =
    absurd (none-some key (sym (ap option_copied c.in-None.is) ∙ (c.get_index.ensures.key ∙ at)))
