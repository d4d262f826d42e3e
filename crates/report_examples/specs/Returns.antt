-- Worked cases of a caller that is back on its bench after its second announcement, with its first
-- call judged.
use Rattle.std.specs.Prelude.{◌≡◌, ℕ, List, [], ◌∷◌, length, Option, Some, None}
use Rattle.world_core.specs.Local.{Local, fresh}
use Rattle.world_core.specs.Programs.{outside}
use Rattle.run_report.specs.Returns.{IsBackWith}

-- The local of a caller that has announced its second call, with the operation `second`, and
-- published `published` records. The first call had the operation 5 and the reply 50, and the
-- caller has seen one cut after it.
abbrev pub in_second_call : ℕ → ℕ → Local
in_second_call second published = record fresh {
  operations = 5 ∷ second ∷ [];
  announced = 2;
  published = published;
  replies = 50 ∷ [];
  views = (1 ∷ []) ∷ [];
  seen = (1 ∷ []) ∷ [];
}

-- A pass of the first caller: how many calls were made with it, and, where it tells of its calls,
-- the operation and the reply of each.
pub record Pass : Type 0 where
  pub made : ℕ
  pub told : Option (List (ℕ × ℕ))

-- The only caller of a world, with the operations 5 and 7 and an allotment of `given` phases, is
-- back on the bench with this local and this pass, after `p` phases.
abbrev pub IsBackAfter : ℕ → ℕ → Local → Pass → Type 0
IsBackAfter given p l pass =
    IsBackWith (record { callers = 1; cap = 2; program = outside })
    (λ n cap (pass : Pass) who steps. who ≡ 0)
    (λ (pass : Pass). Some (record { made = pass.made; room = 2; told = pass.told }))
    ((5 ∷ 7 ∷ []) ∷ []) (given ∷ []) 0 p l pass

-- The local `l` with one object step, made in its caller's second call, in place of its object
-- steps.
abbrev pub with_object_step : Local → Local
with_object_step l =
    record l { object_steps = [] ∷ (record { place = 0; old = 0; new = 1 } ∷ []) ∷ [] }

-- A pass with which this many calls were made, and that tells of none.
abbrev pub silent_pass : ℕ → Pass
silent_pass made = record { made = made; told = None }

-- A pass that tells of these calls.
abbrev pub pass_of : List (ℕ × ℕ) → Pass
pass_of pairs = record { made = length pairs; told = Some pairs }
