use Rattle.std.proofs.Common.{◌∙◌, ℕ, List, ◌++◌, codes, append_assoc, ap}
use Rattle.broken_rules.specs.Texts.{call_text, entry_text}
use Rattle.broken_rules.proofs.line.put_overwritten.Goals as goal

pub returns : goal.returns
returns c =
    let out : List ℕ = c.args.out.now.items in
    let one : List ℕ = call_text c.args.first in
    let middle : List ℕ = codes " came before " in
    let other : List ℕ = entry_text c.args.second (codes ", which found ") c.args.value
    (codes " under key ") c.args.key (codes ", though this value was gone by then\n") in
    c.in_ok-put_entry.ensures
    ∙ (ap (λ (xs : List ℕ). xs ++ other) (c.in_ok-extend_from_slice.ensures.items
    ∙ ap (λ (xs : List ℕ). xs ++ middle) c.in_ok-put_call.ensures)
    ∙ (ap (λ (xs : List ℕ). xs ++ other) (append_assoc out one middle)
    ∙ append_assoc out (one ++ middle) other))
