use Rattle.std.proofs.Common.{◌≡◌, ◌<◌, ◌∙◌, sym, ap, length, length-set, ℕ, List, subst}
use Rattle.world_core.specs.declared.region.Region.{Region}
use Rattle.world_core.specs.declared.scan_core.ScanCore.TheInside.{Inside}
use Rattle.world_core.specs.Standing.{ScanState, standing}
use Rattle.world_core.specs.ScanLayout.{standing_of}
use Rattle.world_core.proofs.Bounds.{scan_is_short}
use Rattle.world_core.proofs.Scans.{stands_more, stands_whole}
use Rattle.world_core.proofs.scan_core.ScanCore.take.Goals as goal

pub returns-then-self-n-clause-taken : goal.returns-then-self-n-clause-taken
returns-then-self-n-clause-taken c n me region taken stood =
    let kept =
    ap length c.set.ensures ∙ length-set c.self.inside.current c.self.inside.taken c.args.word in
    rw (c.course_on-self-inside.ensures.course, c.unwrap_or-first.ensures, c.set.ensures)
    (stands_whole c.self.inside c.args.word n me region taken
    (c.self.view_is ∙ stood) c.self.invariant.lacks (c.if-self-n.true ∙ (c.n.ensures.count ∙ kept)))

pub returns-else-self-n-clause-taken : goal.returns-else-self-n-clause-taken
returns-else-self-n-clause-taken c n me region taken stood =
    let kept =
    ap length c.set.ensures ∙ length-set c.self.inside.current c.self.inside.taken c.args.word in
    rw c.set.ensures
    (stands_more c.self.inside c.args.word n me region taken (c.self.view_is ∙ stood)
    c.self.invariant.lacks (λ whole. c.if-self-n.false (whole ∙ sym (c.n.ensures.count ∙ kept))))

-- where the fields of a scan keep the state of one by caller `me` of n callers, `me` is below n
scans : (c : Inside) (n me : ℕ) (region : Region) (taken : List ℕ) → c.me < length c.current
    → standing_of c ≡ standing n me region taken → me < n
scans c n me region taken low stood =
    let caller : c.me ≡ me = ap (λ (s : ScanState). s.me) stood in
    let callers : length c.current ≡ n = ap (λ (s : ScanState). s.callers) stood in
    subst (λ m. me < m) callers (subst (λ i. i < length c.current) caller low)

pub returns-then-self-n-clause-short : goal.returns-then-self-n-clause-short
returns-then-self-n-clause-short c n me region taken stood steady =
    scan_is_short n me _
    (scans c.self.inside n me region taken c.self.invariant.me (c.self.view_is ∙ stood)) steady

pub returns-else-self-n-clause-short : goal.returns-else-self-n-clause-short
returns-else-self-n-clause-short c n me region taken stood steady =
    scan_is_short n me _
    (scans c.self.inside n me region taken c.self.invariant.me (c.self.view_is ∙ stood)) steady
