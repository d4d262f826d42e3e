use Rattle.std.proofs.Common.{ℕ, List, sym, ◌∙◌, ◌∷◌, [], ap, refl}
use Rattle.text_fields.specs.Head.{head_rules, TitleDue, ObjectDue}
use Rattle.text_fields.proofs.Sharp.{goes_line}
use Rattle.text_fields.proofs.head.read_title.Goals as goal

pub returns-then-are_words-clause-found : goal.returns-then-are_words-clause-found
returns-then-are_words-clause-found c =
    goes_line (head_rules c.args.version c.args.title.now) TitleDue ObjectDue c.args.lines.now
    c.line.new.self c.in_ok-line.field-0.now c.in_ok-line.ensures.line (
      sym c.new-words.ensures ∙ c.are_words.ensures.0 c.if-are_words.true
          ∙ ap (λ (w : List ℕ). c.args.title.now ∷ w ∷ []) c.word.ensures,
      refl,
    )
