use Rattle.std.proofs.Common.{◌≡◌, sym, ◌∙◌, arith}
use Rattle.std.proofs.lemmas.Fmt.{decimal_injective}
use Rattle.book_base.specs.OperationWord.{low_of, high_of}
use Rattle.seq_objects.proofs.WholeDigits.{whole_digits-no_colon, whole_digits-colon}
use Rattle.seq_objects.proofs.whole.whole.Goals as goal

pub returns-in_err-number-clause-none : goal.returns-in_err-number-clause-none
returns-in_err-number-clause-none c =
    rw c.from_residual.ensures
    (λ word small same. c.in_err-number.ensures.none (low_of word) (omega arith)
    (whole_digits-no_colon word c.args.digits.now small c.in_default.ensures.none same).1)

pub returns-in_err-low-clause-none : goal.returns-in_err-low-clause-none
returns-in_err-low-clause-none c =
    rw c.from_residual-in_err-low.ensures (λ word small same. c.in_err-low.ensures.none
    (low_of word) (omega arith) (whole_digits-colon word c.in-Some.low_digits.now
    c.in-Some.high_digits.now small c.in-Some.ensures.found.1 (same ∙ c.in-Some.ensures.found.0)).1)

pub returns-in_err-high-clause-none : goal.returns-in_err-high-clause-none
returns-in_err-high-clause-none c =
    rw c.from_residual-in_err-high.ensures (λ word small same. c.in_err-high.ensures.none
    (high_of word) (omega arith) (whole_digits-colon word c.in-Some.low_digits.now
    c.in-Some.high_digits.now small c.in-Some.ensures.found.1 (same ∙ c.in-Some.ensures.found.0)).2)

pub returns-then-high-eq0-clause-none : goal.returns-then-high-eq0-clause-none
returns-then-high-eq0-clause-none c = λ word small same.
    let parts = whole_digits-colon word c.in-Some.low_digits.now c.in-Some.high_digits.now small
    c.in-Some.ensures.found.1 (same ∙ c.in-Some.ensures.found.0) in
    let one : high_of word ≡ c.in_ok-high.high = decimal_injective (high_of word) c.in_ok-high.high
    (omega arith) (omega arith) (parts.2 ∙ sym c.in_ok-high.ensures.found) in
    parts.0 (omega arith)
