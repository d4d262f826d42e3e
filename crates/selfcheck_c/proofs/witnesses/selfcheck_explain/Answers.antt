use Rattle.std.proofs.Common.{arith, ◌≡◌, ◌∙◌, ℕ, List, length, take, inl, inr, sym, subst, ap}
use Rattle.given_book.specs.Explaining.{IsExplained, SaysNoneBroken}
use Rattle.selfcheck_c.proofs.witnesses.selfcheck_explain.Goals as goal

pub returns-then-put-clause-explained : goal.returns-then-put-clause-explained
returns-then-put-clause-explained c = λ _.
    let said = rw c.in-Ok-Illegal.field-0-is at c.in-Ok-Illegal.ensures.explained in
    let items = c.in-Ok-Illegal.line.items in
    let counted : c.len.result ≡ length items = omega (arith, c.len.ensures) in
    let same : c.len.result ≡ length c.deref.result.now =
    counted ∙ ap (λ (l : List ℕ). length l) (sym c.deref.ensures.value) in
    let written : take c.len.result c.put.new.buffer ≡ items =
    ap (λ (n : ℕ). take n c.put.new.buffer) same ∙ c.put.ensures.put c.if-put.true
    ∙ c.deref.ensures.value
    in
    subst (λ (bytes : List ℕ). IsExplained c.args.text.now bytes) (sym written) said

pub returns-then-put-clause-fault_told : goal.returns-then-put-clause-fault_told
returns-then-put-clause-fault_told c = λ fault h. absurd (c.in-Ok-Illegal.ensures.first fault h)

pub returns-in-Ok-Illegal-clause-unheld : goal.returns-in-Ok-Illegal-clause-unheld
returns-in-Ok-Illegal-clause-unheld c = λ _.
    let said = rw c.in-Ok-Illegal.field-0-is at c.in-Ok-Illegal.ensures.explained in
    (c.in-Ok-Illegal.line.items, inl said, omega (arith, c.len.ensures))

pub returns-in-Ok-Illegal-clause-fault_told : goal.returns-in-Ok-Illegal-clause-fault_told
returns-in-Ok-Illegal-clause-fault_told c = λ fault h. absurd (c.in-Ok-Illegal.ensures.first fault h)

pub returns-then-put-2-clause-none_broken : goal.returns-then-put-2-clause-none_broken
returns-then-put-2-clause-none_broken c = λ _.
    let said = rw c.in-Ok-NoneBroken.field-0-is at c.in-Ok-NoneBroken.ensures.explained in
    let items = c.in-Ok-NoneBroken.line.items in
    let counted : c.len-in-Ok-NoneBroken.result ≡ length items =
    omega (arith, c.len-in-Ok-NoneBroken.ensures) in
    let same : c.len-in-Ok-NoneBroken.result ≡ length c.deref-in-Ok-NoneBroken.result.now =
    counted ∙ ap (λ (l : List ℕ). length l) (sym c.deref-in-Ok-NoneBroken.ensures.value) in
    let written : take c.len-in-Ok-NoneBroken.result c.put-in-Ok-NoneBroken.new.buffer ≡ items =
    ap (λ (n : ℕ). take n c.put-in-Ok-NoneBroken.new.buffer) same
    ∙ c.put-in-Ok-NoneBroken.ensures.put c.if-put-2.true
    ∙ c.deref-in-Ok-NoneBroken.ensures.value
    in
    subst (λ (bytes : List ℕ). SaysNoneBroken c.args.text.now bytes) (sym written) said

pub returns-then-put-2-clause-fault_told : goal.returns-then-put-2-clause-fault_told
returns-then-put-2-clause-fault_told c = λ fault h.
    absurd (c.in-Ok-NoneBroken.ensures.first fault h)

pub returns-in-Ok-NoneBroken-clause-unheld : goal.returns-in-Ok-NoneBroken-clause-unheld
returns-in-Ok-NoneBroken-clause-unheld c = λ _.
    let said = rw c.in-Ok-NoneBroken.field-0-is at c.in-Ok-NoneBroken.ensures.explained in
    (c.in-Ok-NoneBroken.line.items, inr said, omega (arith, c.len-in-Ok-NoneBroken.ensures))

pub returns-in-Ok-NoneBroken-clause-fault_told : goal.returns-in-Ok-NoneBroken-clause-fault_told
returns-in-Ok-NoneBroken-clause-fault_told c = λ fault h.
    absurd (c.in-Ok-NoneBroken.ensures.first fault h)

pub returns-in-Err-Text-clause-book_told : goal.returns-in-Err-Text-clause-book_told
returns-in-Err-Text-clause-book_told c =
    λ kind book given. let e = c.in-Err-Text.ensures.told kind book given in absurd (cc e)
