use Rattle.std.proofs.Common.{ℕ, List, [], ◌∷◌, decimal}
use Rattle.std.specs.Prelude.{codes}
use Rattle.book_text.proofs.WrittenLines.{IsLine, more_word, line_ends}
use Rattle.evidence_text.proofs.writer.put_takes_line.Goals as goal

pub returns : goal.returns
returns c =
    let old : List ℕ = c.args.out.now.items in
    let begun : List ℕ = c.extend_from_slice.new.self.items in
    let valued : List ℕ = c.put_spaced.new.out.items in
    let made : List ℕ = c.put_spaced-2.new.out.items in
    let name : List ℕ = codes "counts" in
    let first : List (List ℕ) = codes "takes" ∷ [] in
    let value : List ℕ = decimal c.args.value in
    let moment : List ℕ = decimal c.args.moment in
    let start : IsLine old begun name first =
    record { text = c.in_ok-extend_from_slice.ensures.items } in
    line_ends old made c.push.new.self.items name (codes "takes" ∷ value ∷ moment ∷ [])
    (more_word old valued made name (codes "takes" ∷ value ∷ []) moment
    (more_word old begun valued name first value start c.in_ok-put_spaced.ensures)
    c.in_ok-put_spaced-2.ensures)
    c.in_ok-push.ensures.items
