use Rattle.std.proofs.Common.{◌≡◌, List, ℕ, ◌++◌, ◌∷◌, drop, ◌∙◌, sym, ap, arith, length}
use Rattle.std.proofs.lemmas.List.{length-append}
use Rattle.book_text.proofs.WordTexts.{next_drops, drop_more, three_taken, spelled_prefix, not_in_prefix}
use Rattle.book_text.proofs.entry.take_operation.Goals as goal

pub returns-in_err-first-clause-none : goal.returns-in_err-first-clause-none
returns-in_err-first-clause-none g c = rw c.from_residual.ensures (λ op others has text.
    let some = (g.met.T.OpText.solid_words c.args.operations.now op has).some in
    absurd (omega (
      arith,
      some,
      ap length (sym c.in_err-first.ensures.0 ∙ text),
      length-append ((g.T.OpText.operations c.args.operations.now).words op) others,
    )))

pub loop-preserved : goal.loop-preserved
loop-preserved g c =
    next_drops c.next-in-loop.result c.loop.words c.next-in-loop.new.self c.next-in-loop.ensures
    ∙ ap (drop 1) c.loop.invariant ∙ sym (drop_more c.loop.counter c.next.new.self)

pub returns-in_err-op-clause-none : goal.returns-in_err-op-clause-none
returns-in_err-op-clause-none g c = rw c.from_residual-in_err-op.ensures (λ op others has text.
    let first : c.args.words.now ≡ c.in_ok-first.first.now ∷ c.copy-ahead.result =
    c.in_ok-first.ensures
    ∙ ap (λ (ws : List (List ℕ)). c.in_ok-first.first.now ∷ ws) (sym c.copy-ahead.ensures) in
    let taken = three_taken c.in_ok-first.first.now c.next-second.result c.next-third.result
    c.args.words.now c.copy-ahead.result c.next-second.new.self c.next-third.new.self
    first c.next-second.ensures c.next-third.ensures in
    let operations = g.T.OpText.operations c.args.operations.now in
    not_in_prefix operations c.args.words.now _ c.next-third.new.self others op taken has
    (g.met.T.OpText.solid_words c.args.operations.now op has).some
    (g.met.T.OpText.few_words c.args.operations.now op has) c.in_err-op.ensures.none text)

pub returns-clause-found : goal.returns-clause-found
returns-clause-found g c =
    let first : c.args.words.now ≡ c.in_ok-first.first.now ∷ c.copy-ahead.result =
    c.in_ok-first.ensures
    ∙ ap (λ (ws : List (List ℕ)). c.in_ok-first.first.now ∷ ws) (sym c.copy-ahead.ensures) in
    let taken = three_taken c.in_ok-first.first.now c.next-second.result c.next-third.result
    c.args.words.now c.copy-ahead.result c.next-second.new.self c.next-third.new.self
    first c.next-second.ensures c.next-third.ensures in
    let operations = g.T.OpText.operations c.args.operations.now in
    let count : c.in_ok-op.used ≡ c.loop.counter = omega arith in
    let left : drop c.in_ok-op.used c.copy-ahead.result ≡ c.loop.words =
    ap (drop c.in_ok-op.used) c.copy-ahead.ensures ∙ ap (λ (k : ℕ). drop k c.next.new.self) count
    ∙ sym c.loop.invariant in (
      c.in_ok-op.ensures.found.has,
      spelled_prefix operations c.in_ok-first.first.now c.args.words.now _ c.copy-ahead.result
          c.next-third.new.self c.in_ok-op.op c.in_ok-op.used first taken c.in_ok-op.ensures.found
          ∙ ap (λ (ws : List (List ℕ)). operations.words c.in_ok-op.op ++ ws) left,
    )
