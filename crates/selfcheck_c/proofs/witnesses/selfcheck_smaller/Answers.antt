use Rattle.std.proofs.Common.{arith, ◌≡◌, ◌∙◌, ℕ, List, length, take, sym, subst, ap}
use Rattle.given_book.specs.Texts.{IsSmallerWitness}
use Rattle.selfcheck_c.proofs.witnesses.selfcheck_smaller.Goals as goal

pub returns-then-put-clause-smaller : goal.returns-then-put-clause-smaller
returns-then-put-clause-smaller c = λ _.
    let found = rw c.in-Ok-Some.field-0-is at c.in-Ok-Some.ensures.smaller in
    let items = c.in-Ok-Some.smaller.items in
    let counted : c.len.result ≡ length items = omega (arith, c.len.ensures) in
    let same : c.len.result ≡ length c.deref.result.now =
    counted ∙ ap (λ (l : List ℕ). length l) (sym c.deref.ensures.value) in
    let written : take c.len.result c.put.new.buffer ≡ items =
    ap (λ (n : ℕ). take n c.put.new.buffer) same ∙ c.put.ensures.put c.if-put.true
    ∙ c.deref.ensures.value
    in
    subst (λ (bytes : List ℕ). IsSmallerWitness c.args.text.now bytes) (sym written) found

pub returns-then-put-clause-fault_told : goal.returns-then-put-clause-fault_told
returns-then-put-clause-fault_told c = λ fault h. absurd (c.in-Ok-Some.ensures.first fault h)

pub returns-in-Ok-Some-clause-unheld : goal.returns-in-Ok-Some-clause-unheld
returns-in-Ok-Some-clause-unheld c = λ _.
    let found = rw c.in-Ok-Some.field-0-is at c.in-Ok-Some.ensures.smaller in
    (c.in-Ok-Some.smaller.items, found, omega (arith, c.len.ensures))

pub returns-in-Ok-Some-clause-fault_told : goal.returns-in-Ok-Some-clause-fault_told
returns-in-Ok-Some-clause-fault_told c = λ fault h. absurd (c.in-Ok-Some.ensures.first fault h)

pub returns-in-Ok-None-clause-fault_told : goal.returns-in-Ok-None-clause-fault_told
returns-in-Ok-None-clause-fault_told c = λ fault h. absurd (c.in-Ok-None.ensures.first fault h)
