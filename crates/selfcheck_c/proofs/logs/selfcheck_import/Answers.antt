use Rattle.std.proofs.Common.{arith, ◌≡◌, ◌∙◌, ℕ, List, length, take, sym, subst, ap}
use Rattle.log_books.specs.Parts.{IsImported}
use Rattle.selfcheck_c.proofs.logs.selfcheck_import.Goals as goal

pub returns-then-put-clause-parts : goal.returns-then-put-clause-parts
returns-then-put-clause-parts c = λ _.
    let found = rw c.in-Ok-Some.field-0-is at c.in-Ok-Some.ensures in
    let items = c.in-Ok-Some.imported.text.items in
    let counted : c.len.result ≡ length items = omega (arith, c.len.ensures) in
    let same : c.len.result ≡ length c.deref.result.now =
    counted ∙ ap (λ (l : List ℕ). length l) (sym c.deref.ensures.value) in
    let written : take c.len.result c.put.new.buffer ≡ items =
    ap (λ (n : ℕ). take n c.put.new.buffer) same ∙ c.put.ensures.put c.if-put.true
    ∙ c.deref.ensures.value
    in
    subst (λ (bytes : List ℕ). IsImported c.args.log.now bytes) (sym written) found

pub returns-in-Ok-Some-clause-unheld : goal.returns-in-Ok-Some-clause-unheld
returns-in-Ok-Some-clause-unheld c = λ _.
    let found = rw c.in-Ok-Some.field-0-is at c.in-Ok-Some.ensures in
    (c.in-Ok-Some.imported.text.items, found, omega (arith, c.len.ensures))
