-- For which fault an input is refused.
use Rattle.std.specs.Prelude.{◌≡◌, ◌⊎◌, ℕ, ◌<◌, ◌≤◌, List, length}
use Rattle.book_base.specs.declared.fault.TextFault.{TextFault}
use Rattle.book_base.specs.declared.fault.What.TheVariants.{Long}
use Rattle.byte_streams.specs.declared.TheConstants.{INPUT_LIMIT}

-- The input is refused for this fault. Where it has more than `INPUT_LIMIT` bytes, the fault is
-- `Long` in line 0; otherwise the fault is the first one as `IsFirst` says.
abbrev pub IsRefusedFor : (List ℕ → TextFault → Type 0) → List ℕ → TextFault → Type 0
IsRefusedFor IsFirst bytes fault =
    ((INPUT_LIMIT < length bytes) × (fault ≡ record { line = 0; what = Long }))
    ⊎ ((length bytes ≤ INPUT_LIMIT) × IsFirst bytes fault)
