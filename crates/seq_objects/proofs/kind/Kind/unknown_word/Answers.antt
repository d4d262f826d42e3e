use Rattle.std.proofs.Common.{◌≡◌, true, ap, ◌∙◌, sym, arith}
use Rattle.seq_objects.specs.Words.{is_known_word}
use Rattle.seq_objects.proofs.WholeDigits.{whole_digits-once}
use Rattle.seq_objects.proofs.kind.Kind.unknown_word.Goals as goal

pub returns-then-known-clause-none : goal.returns-then-known-clause-none
returns-then-known-clause-none c = λ word small same.
    let one : word ≡ c.in_ok-word.word = whole_digits-once word c.in_ok-word.word small
    (omega arith) (same ∙ sym c.in_ok-word.ensures.found) in
    let known : is_known_word c.args.self c.in_ok-word.word ≡ true = cc in
    ap (is_known_word c.args.self) one ∙ known
