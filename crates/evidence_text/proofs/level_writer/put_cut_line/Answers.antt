use Rattle.std.proofs.Common.{ℕ, List, [], ◌∷◌, decimal}
use Rattle.std.specs.Prelude.{codes}
use Rattle.book_text.proofs.WrittenLines.{first_word, more_word, line_ends}
use Rattle.evidence_text.proofs.level_writer.put_cut_line.Goals as goal

pub returns : goal.returns
returns c =
    let old : List ℕ = c.args.out.now.items in
    let begun : List ℕ = c.extend_from_slice.new.self.items in
    let named : List ℕ = c.put_spaced.new.out.items in
    let made : List ℕ = c.put_spaced-2.new.out.items in
    let name : List ℕ = codes "cut" in
    let from : List ℕ = decimal c.args.from in
    let caller : List ℕ = decimal c.args.caller in
    line_ends old made c.push.new.self.items name (from ∷ caller ∷ [])
    (more_word old named made name (from ∷ []) caller
    (more_word old begun named name [] from
    (first_word old begun name c.in_ok-extend_from_slice.ensures.items) c.in_ok-put_spaced.ensures)
    c.in_ok-put_spaced-2.ensures)
    c.in_ok-push.ensures.items
