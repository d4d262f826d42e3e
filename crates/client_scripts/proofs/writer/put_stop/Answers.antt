use Rattle.std.proofs.Common.{◌≡◌, ℕ, List, [], ◌∷◌, ◌++◌, decimal, Option, sym, ap, ◌∙◌}
use Rattle.std.specs.Prelude.{codes}
use Rattle.text_fields.specs.Lines.{text_of}
use Rattle.book_text.proofs.WrittenLines.{first_word, more_word, line_ends}
use Rattle.client_scripts.specs.Grammar.{stop_words, stop_line}
use Rattle.client_scripts.proofs.Written.{one_line}
use Rattle.client_scripts.proofs.writer.put_stop.Goals as goal

pub returns : goal.returns
returns c =
    let old : List ℕ = c.args.out.now.items in
    let name : List ℕ = codes "stop" in
    let m1 : List ℕ = c.extend_from_slice.new.self.items in
    let m2 : List ℕ = c.put_spaced.new.out.items in
    let m3 : List ℕ = c.put_spaced-2.new.out.items in
    let caller : List ℕ = decimal c.args.caller in
    let e2 : m2 ≡ m1 ++ 32 ∷ caller =
    c.in_ok-put_spaced.ensures ∙ ap (λ (n : ℕ). m1 ++ 32 ∷ decimal n) c.from.ensures in
    let l2 = more_word old m1 m2 name [] caller
    (first_word old m1 name c.in_ok-extend_from_slice.ensures.items) e2 in
    let l3 = more_word old m2 m3 name (caller ∷ [])
    (decimal c.in-Some.phases) l2 c.in_ok-put_spaced-2.ensures in
    one_line old c.push.new.self.items (stop_words c.args.caller c.in-Some.phases)
    (line_ends old m3 c.push.new.self.items name
    (caller ∷ decimal c.in-Some.phases ∷ []) l3 c.in_ok-push.ensures.items)
    ∙ ap (λ (s : Option ℕ). old ++ text_of (stop_line c.args.caller s)) (sym c.in-Some.is)
