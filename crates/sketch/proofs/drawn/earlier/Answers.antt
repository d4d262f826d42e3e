use Rattle.std.proofs.Common.{◌∙◌, refl, sym, inr}
use Rattle.std.proofs.lemmas.Bool.{false≢true}
use Rattle.book_base.specs.Cut.{IsWithin}
use Rattle.sketch.proofs.Waiting.{earlier_second}
use Rattle.sketch.proofs.drawn.earlier.Goals as goal

pub returns-else-within : goal.returns-else-within
returns-else-within c =
    inr (
      refl,
      earlier_second c.args.book.now c.requires.valid c.args.a c.args.b c.record.result
          c.record-2.result c.record.ensures.record c.record-2.ensures.record
          (λ (within : IsWithin c.record.result.view c.record-2.result.view).
          false≢true (sym c.if-within.false ∙ c.within.ensures.1 within)),
    )
