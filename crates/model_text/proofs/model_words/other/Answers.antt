use Rattle.std.proofs.Common.{◌≡◌, ◌∙◌, ◌∷◌, [], false, sym, ap, arith}
use Rattle.std.proofs.lemmas.Bool.{both_ways}
use Rattle.book_base.specs.OperationWord.{IsOperationWord}
use Rattle.seq_objects.specs.declared.kind.Kind.TheVariants.{Counter}
use Rattle.seq_objects.proofs.Spelling.{Spells-once}
use Rattle.model_text.specs.ModelWords.{is_numbered}
use Rattle.model_text.proofs.ModelWordTexts.{spells_other, other_spelled}
use Rattle.model_text.proofs.model_words.other.Goals as goal

pub returns-in_err-op-clause-none : goal.returns-in_err-op-clause-none
returns-in_err-op-clause-none c = rw c.from_residual.ensures (λ op small nothing e.
    c.in_err-op.ensures.none op 0 small (spells_other c.args.word.now op nothing e))

pub returns-then-is_numbered-clause-none : goal.returns-then-is_numbered-clause-none
returns-then-is_numbered-clause-none c = λ op small nothing e.
    let low : IsOperationWord c.in_ok-op.op = omega arith in
    let same = (Spells-once Counter (c.args.word.now ∷ []) op c.in_ok-op.op 0 c.in_ok-op._used small
    low (spells_other c.args.word.now op nothing e) c.in_ok-op.ensures.found).0 in
    both_ways (is_numbered op) nothing (ap is_numbered same ∙ (sym c.is_numbered.ensures ∙ c.if-is_numbered.true))

pub returns-else-is_numbered-clause-found : goal.returns-else-is_numbered-clause-found
returns-else-is_numbered-clause-found c =
    let nothing : is_numbered c.in_ok-op.op ≡ false = sym c.is_numbered.ensures ∙ c.if-is_numbered.false in (
      omega arith,
      nothing,
      other_spelled c.args.word.now c.in_ok-op.op c.in_ok-op._used nothing c.in_ok-op.ensures.found,
    )
