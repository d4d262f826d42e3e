use Rattle.std.proofs.Common.{ℕ, List, []}
use Rattle.std.specs.Prelude.{codes}
use Rattle.text_fields.specs.Counts.{pair_words}
use Rattle.book_text.proofs.WrittenLines.{first_word, more_words, line_ends}
use Rattle.evidence_text.proofs.writer.put_counts_line.Goals as goal

pub returns : goal.returns
returns c =
    let old : List ℕ = c.args.out.now.items in
    let begun : List ℕ = c.extend_from_slice.new.self.items in
    let made : List ℕ = c.put_pairs.new.out.items in
    let name : List ℕ = codes "at" in
    let pairs : List (List ℕ) = pair_words 0 c.args.counts.now in
    line_ends old made c.push.new.self.items name pairs
    (more_words old begun made name [] pairs
    (first_word old begun name c.in_ok-extend_from_slice.ensures.items) c.in_ok-put_pairs.ensures)
    c.in_ok-push.ensures.items
