use Rattle.std.proofs.Common.{◌∙◌, ap, sym, Some, option_map}
use Rattle.std.proofs.lemmas.Option.{slice_get-map}
use Rattle.std.proofs.lemmas.Slice.Eq.{bytes_eq-Decides}
use Rattle.log_books.proofs.Making.{keeps_mapped}
use Rattle.log_books.proofs.names.Names.place.Goals as goal

pub returns-clause-keeps : goal.returns-clause-keeps
returns-clause-keeps c = keeps_mapped (λ name. name.now) _ c.args.self.now.known.keys
    c.insert_full.new.self.keys c.args.item c.in_ok-insert_full.ensures.keys

pub returns-clause-at : goal.returns-clause-at
returns-clause-at c =
    let is = c.in_ok-insert_full.ensures.stored in
    slice_get-map (λ name. name.now) c.insert_full.new.self.keys c.in_ok-insert_full.field-0.0
    ∙ ap (option_map (λ name. name.now)) is.1
    ∙ ap Some (sym ((bytes_eq-Decides c.args.item.now is.0.now).0 is.2))
