use Rattle.std.proofs.Common.{ℕ, List, ◌∷◌, ◌∙◌, sym, ap}
use Rattle.std.specs.Prelude.{codes}
use Rattle.list_laws.proofs.Options.{IfNone_then}
use Rattle.text_fields.proofs.NumberTexts.{same_first}
use Rattle.book_text.proofs.WordTexts.{IfSome_then, numbers_below, below_numbers}
use Rattle.book_text.proofs.view.first_view.Goals as goal

pub returns-clause-found : goal.returns-clause-found
returns-clause-found c = IfSome_then c.read_counts.result c.read_counts.ensures.found (λ view h. (
  h.0,
  numbers_below view h.1,
  c.in_ok-take_word.ensures.found ∙ ap (λ (ws : List (List ℕ)). codes "view" ∷ ws) h.2,
))

pub returns-clause-none : goal.returns-clause-none
returns-clause-none c = IfNone_then c.read_counts.result c.read_counts.ensures.none
    (λ h view wide numbers text. h view wide (below_numbers view numbers)
    (same_first _ _ _ _ (sym c.in_ok-take_word.ensures.found ∙ text)).1)
