use Rattle.std.proofs.Common.{ℕ, ◌∙◌, List, [], ◌∷◌, ◌++◌, ap, replicate}
use Rattle.book_base.specs.State.{Contents}
use Rattle.legal_prefixes.specs.declared.prefix.LegalPrefix.{LegalPrefix}
use Rattle.legal_prefixes.proofs.Layering.{start_is_layer}
use Rattle.legal_prefixes.proofs.search.first_layer.Goals as goal

pub returns-clause-layer : goal.returns-clause-layer
returns-clause-layer c =
    let prefix : LegalPrefix = record {
      places = c.new.result;
      cut = c.zero.result;
      words = c.in_ok-from_slice.field-0;
    } in
    start_is_layer c.args.kind c.args.book.now prefix c.push.new.self.items c.new.ensures.items
    (c.zero.ensures ∙ ap (λ (n : ℕ). replicate n 0) c.callers.ensures.count)
    (c.in_ok-from_slice.ensures.items ∙ c.words.ensures
    ∙ ap (λ (s : Contents). s.words) c.reset.ensures)
    (c.in_ok-push.ensures.items
    ∙ ap (λ (xs : List LegalPrefix). xs ++ prefix ∷ []) c.new-layer.ensures.items)
