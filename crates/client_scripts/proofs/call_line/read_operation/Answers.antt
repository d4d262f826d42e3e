use Rattle.std.proofs.Common.{◌≡◌, length, true, false, sym, ap, ◌∙◌, arith}
use Rattle.std.specs.Prelude.{is_some}
use Rattle.text_fields.specs.OperationLaws.{few_operation_words}
use Rattle.text_fields.proofs.NumberTexts.{no_next, some_next}
use Rattle.book_text.proofs.WordTexts.{three_taken}
use Rattle.client_scripts.proofs.OperationTexts.{too_many, none_spelled, spelled_all, spelled_part}
use Rattle.client_scripts.proofs.call_line.read_operation.Goals as goal

pub returns-in_err-first-clause-none : goal.returns-in_err-first-clause-none
returns-in_err-first-clause-none c = rw c.from_residual.ensures (λ op small text. absurd (omega (
  arith,
  (few_operation_words c.args.operations.now.kind op).some,
  ap length (sym text ∙ c.in_err-first.ensures.0),
)))

pub returns-then-is_some-clause-none : goal.returns-then-is_some-clause-none
returns-then-is_some-clause-none c = λ op small text.
    let words = c.args.operations.now in
    let taken = three_taken c.in_ok-first.first.now c.next-second.result c.next-third.result
    c.args.words.now c.next.new.self c.next-second.new.self c.next-third.new.self
    c.in_ok-first.ensures c.next-second.ensures c.next-third.ensures in
    let some : is_some c.next-2.result ≡ true = sym c.is_some.ensures ∙ c.if-is_some.true in
    let fourth = some_next c.next-2.result _ _ some c.next-2.ensures in
    too_many words.version words.kind c.args.words.now _ c.next-third.new.self taken fourth.0.now
    c.next-2.new.self fourth.1 op text

pub returns-in_err-op-clause-none : goal.returns-in_err-op-clause-none
returns-in_err-op-clause-none c = rw c.from_residual-in_err-op.ensures (λ op small text.
    let words = c.args.operations.now in
    let taken = three_taken c.in_ok-first.first.now c.next-second.result c.next-third.result
    c.args.words.now c.next.new.self c.next-second.new.self c.next-third.new.self
    c.in_ok-first.ensures c.next-second.ensures c.next-third.ensures in
    let none : is_some c.next-2.result ≡ false = sym c.is_some.ensures ∙ c.if-is_some.false in
    let end = no_next c.next-2.result _ _ none c.next-2.ensures in
    none_spelled words.version words.kind c.args.words.now _ c.next-third.new.self taken end.0
    c.in_err-op.ensures.none op small text)

pub returns-then-used-given-clause-found : goal.returns-then-used-given-clause-found
returns-then-used-given-clause-found c =
    let words = c.args.operations.now in
    let taken = three_taken c.in_ok-first.first.now c.next-second.result c.next-third.result
    c.args.words.now c.next.new.self c.next-second.new.self c.next-third.new.self
    c.in_ok-first.ensures c.next-second.ensures c.next-third.ensures in
    let none : is_some c.next-2.result ≡ false = sym c.is_some.ensures ∙ c.if-is_some.false in
    let end = no_next c.next-2.result _ _ none c.next-2.ensures in
    spelled_all words.version words.kind c.args.words.now _ c.next-third.new.self taken end.0
    c.in_ok-op.op c.in_ok-op.used c.in_ok-op.ensures.found (omega arith)

pub returns-else-used-given-clause-none : goal.returns-else-used-given-clause-none
returns-else-used-given-clause-none c = λ op small text.
    let words = c.args.operations.now in
    let taken = three_taken c.in_ok-first.first.now c.next-second.result c.next-third.result
    c.args.words.now c.next.new.self c.next-second.new.self c.next-third.new.self
    c.in_ok-first.ensures c.next-second.ensures c.next-third.ensures in
    let none : is_some c.next-2.result ≡ false = sym c.is_some.ensures ∙ c.if-is_some.false in
    let end = no_next c.next-2.result _ _ none c.next-2.ensures in
    spelled_part words.version words.kind c.args.words.now _ c.next-third.new.self taken end.0
    c.in_ok-op.op c.in_ok-op.used c.in_ok-op.ensures.found
    (λ e. c.if-used-given.false (omega arith)) op small text
