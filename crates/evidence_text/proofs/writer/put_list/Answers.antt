use Rattle.std.proofs.Common.{ℕ, List, [], ◌∷◌, map}
use Rattle.refutations.specs.declared.entry.Entry.{Entry}
use Rattle.refutation_text.specs.Said.{PlainLine, ItemLine}
use Rattle.evidence_text.proofs.WrittenLines.{one_written, both_written, all_written}
use Rattle.evidence_text.proofs.writer.put_list.Goals as goal

pub returns : goal.returns
returns c =
    let old : List ℕ = c.args.out.now.items in
    let begun : List ℕ = c.extend_from_slice.new.self.items in
    let new : List ℕ = c.loop-entry.out.items in
    let entries : List Entry = c.args.entries.now in
    both_written old begun new (PlainLine ∷ []) (map ItemLine entries)
    (one_written old begun PlainLine tt c.in_ok-extend_from_slice.ensures.items)
    (all_written ItemLine entries begun new c.loop-entry.entry-index c.loop-entry-test.false
    c.loop-entry.invariant)
