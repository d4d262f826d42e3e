use Rattle.std.proofs.Common.{◌≡◌, ◌∙◌, List, ℕ, length, take, string_bytes, refl, sym, subst}
use Rattle.given_book.specs.Texts.{IsPictureOf}
use Rattle.selfcheck_c.proofs.witnesses.selfcheck_picture.Goals as goal

pub returns-then-put-clause-shown : goal.returns-then-put-clause-shown
returns-then-put-clause-shown c = λ _.
    let written : take (length c.as_bytes-drawn.result.now) c.put.new.buffer
    ≡ string_bytes c.in-Ok.picture =
    c.put.ensures.put c.if-put.true ∙ c.as_bytes-drawn.ensures.value
    in
    subst (λ (bytes : List ℕ). IsPictureOf c.args.text.now bytes)
    (sym written) c.in-Ok.ensures.shown

pub returns-then-put-clause-fault_told : goal.returns-then-put-clause-fault_told
returns-then-put-clause-fault_told c = λ fault h. absurd (c.in-Ok.ensures.first fault h)

pub returns-in-Ok-clause-unheld : goal.returns-in-Ok-clause-unheld
returns-in-Ok-clause-unheld c = λ _.
    let shown = subst (λ (bytes : List ℕ). IsPictureOf c.args.text.now bytes)
    (sym c.as_bytes-drawn.ensures.value) c.in-Ok.ensures.shown in
    (c.as_bytes-drawn.result.now, shown, refl)

pub returns-in-Ok-clause-fault_told : goal.returns-in-Ok-clause-fault_told
returns-in-Ok-clause-fault_told c = λ fault h. absurd (c.in-Ok.ensures.first fault h)

pub returns-in-Err-Text-clause-drawn_told : goal.returns-in-Err-Text-clause-drawn_told
returns-in-Err-Text-clause-drawn_told c =
    λ kind book given. let e = c.in-Err-Text.ensures.drawn kind book given in absurd (cc e)
