-- What the tests of phases and of staged words mean, and that a caller may begin a scan of M in the
-- phases publish and judge.
use Rattle.std.proofs.Common.{◌≡◌, ℕ, true, false, not, List, [], ◌∷◌, refl, sym, ap, ◌∙◌}
use Rattle.world_core.specs.declared.region.Region.TheVariants.{M}
use Rattle.world_core.specs.Shape.{Shape}
use Rattle.world_core.specs.Local.{Phase, Announcing, Asking, Viewing, Publishing, Judging, Staged, Local}
use Rattle.world_core.specs.Event.{Begins_scan, is_unstaged, is_view_under_way, may_begin}
use Rattle.world_core.specs.Calls.{IsLocalOf}
use Rattle.collect_scan.proofs.Owning.{view_scans_have_phase}
use Rattle.drv_wrapper.specs.Calling.{is_publishing}
use Rattle.enforcer.specs.Recorded.{is_judging, is_announcing}

-- A phase for which the test `is_publishing` passes is the phase publish.
pub publishing_is : (p : Phase) → is_publishing p ≡ true → p ≡ Publishing
publishing_is Publishing e = refl
publishing_is Announcing e = absurd cc
publishing_is Asking e = absurd cc
publishing_is Viewing e = absurd cc
publishing_is Judging e = absurd cc

-- A phase for which the test `is_judging` passes is the phase judge.
pub judging_is : (p : Phase) → is_judging p ≡ true → p ≡ Judging
judging_is Judging e = refl
judging_is Announcing e = absurd cc
judging_is Asking e = absurd cc
judging_is Viewing e = absurd cc
judging_is Publishing e = absurd cc

-- A phase for which the test `is_announcing` passes is the phase announce.
pub announcing_is : (p : Phase) → is_announcing p ≡ true → p ≡ Announcing
announcing_is Announcing e = refl
announcing_is Asking e = absurd cc
announcing_is Viewing e = absurd cc
announcing_is Publishing e = absurd cc
announcing_is Judging e = absurd cc

-- Where the test `is_unstaged` passes, no word is staged.
pub unstaged_is : (staged : List Staged) → is_unstaged staged ≡ true → staged ≡ []
unstaged_is [] e = refl
unstaged_is (w ∷ staged) e = absurd cc

-- A local of a reachable world in the phase publish has no view's scan under way.
pub publishing_is_free : (s : Shape) (i : ℕ) (l : Local) → IsLocalOf s i l → l.phase ≡ Publishing
    → is_view_under_way l.scan ≡ false
publishing_is_free s i l h phase = view_scans_have_phase s i l h
    (λ viewing. let e : Publishing ≡ Viewing = sym phase ∙ viewing in absurd cc)

-- A local of a reachable world in the phase judge has no view's scan under way.
pub judging_is_free : (s : Shape) (i : ℕ) (l : Local) → IsLocalOf s i l → l.phase ≡ Judging
    → is_view_under_way l.scan ≡ false
judging_is_free s i l h phase = view_scans_have_phase s i l h
    (λ viewing. let e : Judging ≡ Viewing = sym phase ∙ viewing in absurd cc)

-- A local without a view's scan under way may begin a plain scan of M, by a look at caller 0.
pub may_scan : (s : Shape) (i : ℕ) (l : Local) → is_view_under_way l.scan ≡ false
    → may_begin s i l M 0 Begins_scan ≡ true
may_scan s i l free = ap not free
