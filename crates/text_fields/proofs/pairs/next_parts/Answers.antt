use Rattle.std.proofs.Common.{ℕ, ◌∷◌, List, sym, ◌∙◌, ap, refl}
use Rattle.text_fields.specs.Lines.{cut_at}
use Rattle.text_fields.proofs.Cuts.{cut_joins}
use Rattle.text_fields.proofs.NumberTexts.{lacks_pair}
use Rattle.text_fields.proofs.pairs.next_parts.Goals as goal

pub returns-clause-found : goal.returns-clause-found
returns-clause-found c =
    let word = c.in_ok-next.field-0.now in
    let parts = sym c.in_ok-parts.ensures in
    let joined = cut_joins 58 word c.in_ok-parts.parts.0.now c.in_ok-parts.parts.1.now parts in (
      sym c.copy-suffix.ensures ∙ c.in_ok-next.ensures
          ∙ ap (λ (w : List ℕ). w ∷ c.next.new.self) joined,
      ap (cut_at 58) (sym joined) ∙ parts,
    )

pub returns-in_err-parts-clause-none : goal.returns-in_err-parts-clause-none
returns-in_err-parts-clause-none c = rw c.from_residual-in_err-parts.ensures (
  lacks_pair c.in_ok-next.field-0.now c.next.new.self c.args.words.now
      (sym c.copy-suffix.ensures ∙ c.in_ok-next.ensures) (sym c.in_err-parts.ensures),
  refl,
)
