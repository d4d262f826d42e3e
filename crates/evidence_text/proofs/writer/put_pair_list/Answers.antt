use Rattle.std.proofs.Common.{ℕ, List, [], ◌∷◌, map}
use Rattle.pair_refutations.specs.declared.entry.PairEntry.{PairEntry}
use Rattle.refutation_text.specs.Said.{PairsLine, MoveLine}
use Rattle.evidence_text.proofs.WrittenLines.{one_written, both_written, all_written}
use Rattle.evidence_text.proofs.writer.put_pair_list.Goals as goal

pub returns : goal.returns
returns c =
    let old : List ℕ = c.args.out.now.items in
    let begun : List ℕ = c.extend_from_slice.new.self.items in
    let new : List ℕ = c.loop-entry.out.items in
    let entries : List PairEntry = c.args.entries.now in
    both_written old begun new (PairsLine ∷ []) (map MoveLine entries)
    (one_written old begun PairsLine tt c.in_ok-extend_from_slice.ensures.items)
    (all_written MoveLine entries begun new c.loop-entry.entry-index c.loop-entry-test.false
    c.loop-entry.invariant)
