-- What a monitor has found, and what it knows of its board.
use Rattle.std.specs.Prelude.{◌≡◌, ◌⊎◌, Bool, Option, Some}
use Rattle.once_cell.specs.Once.{cell_name, Agrees}
use Rattle.monitor.specs.declared.witness.Witness.{Witness}
use Rattle.monitor.specs.declared.board.Board.{Board}
use Rattle.monitor.specs.declared.claim.Claim.{Claim}

-- The own witness of a claim, where it has one.
abbrev pub own_in : Claim → Option Witness
own_in c = c.own

-- The flag of a claim that is true only where the board took a copy of the claim's own witness.
abbrev pub placed_in : Claim → Bool
placed_in c = c.placed

-- The witness on the board, where the claim knows it.
abbrev pub known_in : Claim → Option Witness
known_in c = c.note.known

-- A claim belongs to a board: the claim's note is one of that board.
abbrev pub IsClaimOn : Board → Claim → Type 0
IsClaimOn b c = c.note.cell ≡ cell_name b.cell

-- Two claims belong to one board.
abbrev pub AreOnOne : Claim → Claim → Type 0
AreOnOne c d = c.note.cell ≡ d.note.cell

-- Two claims have the same own witness and the same flag.
pub record HasSameFindings (c d : Claim) : Type 0 where
  pub own : own_in d ≡ own_in c
  pub placed : placed_in d ≡ placed_in c

-- Afterwards a monitor knows a witness on the board: the one that it knew before, if it knew one.
abbrev pub Knows : Option Witness → Option Witness → Type 0
Knows before after = (w : Witness) × (after ≡ Some w) × Agrees before w

-- Afterwards a monitor knows a witness on the board: the one that it knew before, if it knew one. Or
-- memory for a copy of its own witness was lacking, and its knowledge is as before.
abbrev pub KnowsOrLacked : Option Witness → Option Witness → Type 0
KnowsOrLacked before after = Knows before after ⊎ (after ≡ before)

-- Two monitors agree on the witness on their board: where both know one, they know the same one.
abbrev pub Agree : Option Witness → Option Witness → Type 0
Agree known other = (w v : Witness) → known ≡ Some w → other ≡ Some v → w ≡ v
