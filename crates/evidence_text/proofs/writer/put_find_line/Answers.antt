use Rattle.std.proofs.Common.{ℕ, List, [], ◌∷◌, map, decimal}
use Rattle.std.specs.Prelude.{codes}
use Rattle.book_text.proofs.WrittenLines.{IsLine, more_word, more_words, line_ends}
use Rattle.evidence_text.proofs.writer.put_find_line.Goals as goal

pub returns : goal.returns
returns c =
    let old : List ℕ = c.args.out.now.items in
    let begun : List ℕ = c.extend_from_slice.new.self.items in
    let called : List ℕ = c.put_spaced.new.out.items in
    let numbered : List ℕ = c.put_spaced-2.new.out.items in
    let made : List ℕ = c.put_numbers.new.out.items in
    let name : List ℕ = codes "counts" in
    let first : List (List ℕ) = codes "find" ∷ [] in
    let caller : List ℕ = decimal c.args.caller in
    let number : List ℕ = decimal c.args.number in
    let values : List (List ℕ) = map decimal c.args.values.now in
    let start : IsLine old begun name first =
    record { text = c.in_ok-extend_from_slice.ensures.items } in
    line_ends old made c.push.new.self.items name (codes "find" ∷ caller ∷ number ∷ values)
    (more_words old numbered made name (codes "find" ∷ caller ∷ number ∷ []) values
    (more_word old called numbered name (codes "find" ∷ caller ∷ []) number
    (more_word old begun called name first caller start c.in_ok-put_spaced.ensures)
    c.in_ok-put_spaced-2.ensures)
    c.in_ok-put_numbers.ensures.text)
    c.in_ok-push.ensures.items
