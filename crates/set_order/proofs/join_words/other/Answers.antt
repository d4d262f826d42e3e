use Rattle.std.proofs.Common.{◌≡◌, ◌∙◌, ◌∷◌, [], false, sym, ap, arith}
use Rattle.std.proofs.lemmas.Bool.{both_ways}
use Rattle.book_base.specs.OperationWord.{IsOperationWord}
use Rattle.seq_objects.specs.declared.kind.Kind.TheVariants.{Counter}
use Rattle.seq_objects.proofs.Spelling.{Spells-once}
use Rattle.set_order.specs.Joins.{is_join}
use Rattle.set_order.proofs.JoinTexts.{spells_other, other_spelled}
use Rattle.set_order.proofs.join_words.other.Goals as goal

pub returns-in_err-op-clause-none : goal.returns-in_err-op-clause-none
returns-in_err-op-clause-none c = rw c.from_residual.ensures (λ op small nothing e.
    c.in_err-op.ensures.none op 0 small (spells_other c.args.word.now op nothing e))

pub returns-then-knows-clause-none : goal.returns-then-knows-clause-none
returns-then-knows-clause-none c = λ op small nothing e.
    let low : IsOperationWord c.in_ok-op.op = omega arith in
    let same = (Spells-once Counter (c.args.word.now ∷ []) op c.in_ok-op.op 0 c.in_ok-op._used small
    low (spells_other c.args.word.now op nothing e) c.in_ok-op.ensures.found).0 in
    both_ways (is_join op) nothing (ap is_join same ∙ (sym c.knows.ensures ∙ c.if-knows.true))

pub returns-else-knows-clause-found : goal.returns-else-knows-clause-found
returns-else-knows-clause-found c =
    let nothing : is_join c.in_ok-op.op ≡ false = sym c.knows.ensures ∙ c.if-knows.false in (
      omega arith,
      nothing,
      other_spelled c.args.word.now c.in_ok-op.op c.in_ok-op._used nothing c.in_ok-op.ensures.found,
    )
