-- That a seen cut is one that a scan of M gave.
use Rattle.std.proofs.Common.{◌≡◌, ℕ, ◌<◌, true, is_none, List, [], length, Option, Some, None, slice_index_or, refl, ap, subst, arith}
use Rattle.book_base.specs.declared.call.Record.{Record}
use Rattle.world_core.specs.declared.region.Region.TheVariants.{M}
use Rattle.world_core.specs.Shape.{Shape}
use Rattle.world_core.specs.Local.{Scan, Local}
use Rattle.world_core.specs.Agreement.{unseen_records}
use Rattle.world_core.specs.Calls.{IsLocalOf}
use Rattle.world_laws.specs.Given.{IsGivenIn}
use Rattle.world_laws.proofs.Giving.{seen_cuts_are_given}
use Rattle.drv_wrapper.proofs.Locals.{local_has_phase}
use Rattle.enforcer.specs.Recorded.{HasSeen, last_published}
use Rattle.enforcer.proofs.Standing.{announcing_is}

-- Where the test `is_none` passes for an optional scan, there is no scan.
pub none_is : (o : Option Scan) → is_none o ≡ true → o ≡ None
none_is None e = refl
none_is (Some scan) e = absurd cc

-- The seen cut of the call whose record a caller of a reachable world published last is one that a
-- scan of M gave the caller.
pub seen_is_given : (s : Shape) (i : ℕ) (r : Record) (cut : List ℕ) (l : Local) → IsLocalOf s i l
    → HasSeen r cut l → IsGivenIn l.cuts M cut
seen_is_given s i r cut l (locals, together, low, is) saw =
    let has = local_has_phase s i l (locals, together, low, is) in
    let seen : unseen_records l.phase ≡ 0 =
    ap unseen_records (announcing_is l.phase saw.announcing) in
    let below : last_published l < length l.seen =
    omega (arith, has.seen, seen, saw.published.some) in
    let given = subst (λ (m : Local). last_published l < length m.seen
    → IsGivenIn m.cuts M (slice_index_or m.seen (last_published l) [])) is
    (λ within. seen_cuts_are_given s locals i (last_published l) together low within) below in
    subst (IsGivenIn l.cuts M) saw.seen_is given
