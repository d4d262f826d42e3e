-- What the local of a caller in a reachable world says of its phase.
use Rattle.std.proofs.Common.{◌≡◌, ℕ, false, subst, sym, ◌∙◌}
use Rattle.world_core.specs.Shape.{Shape}
use Rattle.world_core.specs.Local.{Announcing, Viewing, Local}
use Rattle.world_core.specs.Event.{is_view_under_way}
use Rattle.world_core.specs.Agreement.{HasPhase}
use Rattle.world_core.specs.Calls.{IsLocalOf}
use Rattle.world_laws.proofs.Locals.{locals_have_phases}
use Rattle.collect_scan.proofs.Owning.{view_scans_have_phase}

pub local_has_phase : (s : Shape) (i : ℕ) (l : Local) → IsLocalOf s i l → HasPhase l
local_has_phase s i l (locals, together, low, is) =
    subst HasPhase is ((locals_have_phases s locals together).1 i low)

-- while announcing the view's scan isn't under way
pub announcing_is_free : (s : Shape) (i : ℕ) (l : Local) → IsLocalOf s i l → l.phase ≡ Announcing
    → is_view_under_way l.scan ≡ false
announcing_is_free s i l h phase = view_scans_have_phase s i l h
    (λ viewing. let e : Announcing ≡ Viewing = sym phase ∙ viewing in absurd cc)
