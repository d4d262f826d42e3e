-- What a bench keeps of its callers.
use Rattle.std.specs.Prelude.{Option, Some, None, true}
use Rattle.world_core.specs.Local.{fresh}
use Rattle.row_table.specs.declared.notes.Notes.{Notes}
use Rattle.row_table.specs.declared.stance.Stance.{Stance}
use Rattle.row_table.specs.declared.bench.Kept.{Kept}
use Rattle.row_table.specs.Notes.{notes_of}

-- The notes that a bench keeps of a caller, where it keeps the caller.
abbrev pub kept_notes : Option Kept → Option Notes
kept_notes None = None
kept_notes (Some kept) = Some kept.notes

-- The stance of a caller at the start: it makes calls, means to begin no scan, and keeps no reply.
abbrev pub fresh_stance : Stance
fresh_stance = record { live = true; begins = None; reply = None }

-- What a bench keeps of a caller at the start: the notes of the local at the start, and the stance
-- of the start.
abbrev pub fresh_kept : Kept
fresh_kept = record { notes = notes_of 0 0 fresh; stance = fresh_stance }
