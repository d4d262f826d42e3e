use Rattle.std.proofs.Common.{ℕ, List, [], ◌∷◌, map, sym, subst}
use Rattle.level_refutations.specs.declared.entry.LevelEntry.{LevelEntry}
use Rattle.level_refutations.specs.Said.{entry_said, entries_said}
use Rattle.refutation_text.specs.Said.{LineSaid, LevelsLine, TableLine}
use Rattle.evidence_text.specs.Written.{HasNumbers, IsWritten}
use Rattle.evidence_text.proofs.WrittenLines.{one_written, both_written, all_written}
use Rattle.evidence_text.proofs.StoredSaid.{lines_of, said_at}
use Rattle.evidence_text.proofs.level_writer.put_table.Goals as goal

pub put_level_entry-requires : goal.put_level_entry-requires
put_level_entry-requires c =
    subst (λ (entry : LevelEntry). HasNumbers (entry_said entry)) (sym c.entry-item.is)
    (said_at entry_said HasNumbers c.args.entries.now c.loop-entry.entry-index
    c.entry-item.result c.loop-entry-test.true c.requires)

pub returns : goal.returns
returns c =
    let old : List ℕ = c.args.out.now.items in
    let begun : List ℕ = c.extend_from_slice.new.self.items in
    let new : List ℕ = c.loop-entry.out.items in
    let entries : List LevelEntry = c.args.entries.now in
    both_written old begun new (LevelsLine ∷ []) (map TableLine (entries_said entries))
    (one_written old begun LevelsLine tt c.in_ok-extend_from_slice.ensures.items)
    (subst (λ (lines : List LineSaid). IsWritten begun lines new)
    (lines_of entry_said TableLine entries)
    (all_written (λ entry. TableLine (entry_said entry)) entries begun new
    c.loop-entry.entry-index c.loop-entry-test.false c.loop-entry.invariant))
