use Rattle.std.proofs.Common.{◌≡◌, ◌∙◌, sym, subst}
use Rattle.std.specs.Prelude.{IsTrue}
use Rattle.std.proofs.lemmas.Option.{same_Some}
use Rattle.stack_levels.specs.declared.table.Level.{Level}
use Rattle.stack_levels.specs.Levels.{IsKeptLayer}
use Rattle.stack_levels.specs.Tables.{layer_of, layers_of}
use Rattle.stack_levels.proofs.closure.Closure.level_is_kept_at.Goals as goal

pub returns-in-Some : goal.returns-in-Some
returns-in-Some g c told level at =
    let reading = g.R.Reader.reading c.args.self.now.on.now.reader.now in
    let book = c.args.self.now.on.now.book.now in
    let levels = c.args.self.now.table.now.levels.items in
    let same : c.in-Some.level.now ≡ level =
    same_Some c.in-Some.level.now level (sym c.in-Some.ensures ∙ at) in
    subst
    (λ (x : Level). IsTrue x.top.kept → IsKeptLayer reading book (layers_of levels) (layer_of x))
    same (c.level_is_kept.ensures told)
