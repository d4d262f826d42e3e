use Rattle.std.proofs.Common.{◌≡◌, ℕ, false, sym, ap, ◌∙◌, arith}
use Rattle.book_base.specs.OperationWord.{IsOperationWord}
use Rattle.std.specs.Prelude.{nat_lt}
use Rattle.text_fields.specs.Version.{word_limit}
use Rattle.text_fields.specs.OperationLaws.{small_word}
use Rattle.text_fields.proofs.Spelled.{spells_operation}
use Rattle.seq_objects.proofs.Spelling.{Spells-once}
use Rattle.text_fields.proofs.op_text.KindWordsOpText.read_op.Goals as goal

pub returns-in_err-op-clause-none : goal.returns-in_err-op-clause-none
returns-in_err-op-clause-none c = rw c.from_residual.ensures (λ op used h.
    c.in_err-op.ensures.none op used (small_word c.args.self.now.version op h.has)
    (spells_operation c.args.self.now.version c.args.self.now.kind _ op used h))

pub returns-else-has_word-clause-none : goal.returns-else-has_word-clause-none
returns-else-has_word-clause-none c = λ op used h.
    let version = c.args.self.now.version in
    let kind = c.args.self.now.kind in
    let small : IsOperationWord c.in_ok-op.op = omega arith in
    let same =
    (Spells-once kind _ op c.in_ok-op.op used c.in_ok-op.used (small_word version op h.has) small
    (spells_operation version kind _ op used h) c.in_ok-op.ensures.found).0 in
    let known : nat_lt op (word_limit version) ≡ false =
    ap (λ (o : ℕ). nat_lt o (word_limit version)) same ∙ sym c.has_word.ensures
    ∙ c.if-has_word.false in
    absurd (cc (known, h.has))
