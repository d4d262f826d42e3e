use Rattle.std.proofs.Common.{◌≡◌, ◌∙◌, ℕ, Option, Some, None, Result, Ok, Err, IfOk, IfNone, sym, subst}
use Rattle.std.proofs.lemmas.Option.{same_Some}
use Rattle.smaller_book.specs.Keys.{key_of_call}
use Rattle.smaller_book.specs.Minimal.{IsKeyNeeded}
use Rattle.smaller_book.proofs.keyless.without_key_of.Goals as goal

-- Where a claim holds if nothing is found, each claim that follows from it holds if nothing is
-- found.
none_then : {X E : Type 0} (r : Result (Option X) E) (P Q : Type 0) → (P → Q)
    → IfOk r (λ o. IfNone o P) → IfOk r (λ o. IfNone o Q)
none_then (Ok (Some x)) P Q f h = h
none_then (Ok None) P Q f h = f h
none_then (Err e) P Q f h = h

pub returns-in-Some-clause-none : goal.returns-in-Some-clause-none
returns-in-Some-clause-none c =
    let kind = c.args.kind in
    let book = c.args.book.now in
    let key = c.in-Some.key in
    let All : Type 0 = (k : ℕ) → key_of_call kind book c.args.call ≡ Some k
    → IsKeyNeeded kind book k in
    none_then c.without_new_key.result (IsKeyNeeded kind book key) All
    (λ needed k known. subst (λ (j : ℕ). IsKeyNeeded kind book j) (same_Some key k
    (sym c.in-Some.is ∙ (c.key_of.ensures ∙ known))) needed) c.without_new_key.ensures.none
