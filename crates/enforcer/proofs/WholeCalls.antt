-- The progress of a caller after a whole call, and that no look, no peek and no given cut is lost
-- by then.
use Rattle.std.proofs.Common.{◌≡◌, ℕ, ◌+◌, ◌*◌, List, [], ◌∷◌, ◌++◌, Result, Ok, Err, IfOk, IfErr, ◌≤◌, refl, sym, ap, subst, ◌∙◌, arith}
use Rattle.book_base.specs.declared.call.Record.{Record}
use Rattle.world_core.specs.Local.{Local, Given}
use Rattle.report_lines.specs.Phases.{Progress, progress_of}
use Rattle.report_lines.specs.Progress.{after_announcing, after_viewing, after_publishing, after_seeing}
use Rattle.row_gather.specs.Peeks.{with_peeked, HasOnlyPeeked}
use Rattle.drv_wrapper.specs.Growth.{Grows}
use Rattle.drv_wrapper.proofs.Growing.{grows_by, grows_on}
use Rattle.enforcer.specs.Enforced.{after_call}

-- Where three claims on a value give a fourth one, and the three hold of the value of a result that
-- is `Ok`, the fourth holds of it.
pub ok_by : {A B : Type 0} (r : Result A B) (P Q S T : A → Type 0)
    → ((x : A) → P x → Q x → S x → T x) → IfOk r P → IfOk r Q → IfOk r S → IfOk r T
ok_by (Ok x) P Q S T f p q s = f x p q s
ok_by (Err e) P Q S T f p q s = tt

-- Where two claims on an error give a third one, and the two hold of the error of a result that is
-- `Err`, the third holds of it.
pub err_by : {A B : Type 0} (r : Result A B) (P Q T : B → Type 0) → ((x : B) → P x → Q x → T x)
    → IfErr r P → IfErr r Q → IfErr r T
err_by (Ok x) P Q T f p q = tt
err_by (Err e) P Q T f p q = f e p q

-- Where one claim on a value gives another one, and holds of the value of a result that is `Ok`,
-- the other holds of it.
pub ok_from : {A B : Type 0} (r : Result A B) (P T : A → Type 0) → ((x : A) → P x → T x)
    → IfOk r P → IfOk r T
ok_from (Ok x) P T f p = f x p
ok_from (Err e) P T f p = tt

-- Where one claim on an error gives another one, and holds of the error of a result that is `Err`,
-- the other holds of it.
pub err_from : {A B : Type 0} (r : Result A B) (P T : B → Type 0) → ((x : B) → P x → T x)
    → IfErr r P → IfErr r T
err_from (Ok x) P T f p = tt
err_from (Err e) P T f p = f e p

-- A caller's progress after peeks alone is the one before them.
peeks_leave : (l m : Local) (before after : ℕ) → HasOnlyPeeked l m before after
    → progress_of m ≡ progress_of l
peeks_leave l m before after h = ap progress_of h.local

unchanged : (cuts : List Given) → cuts ≡ cuts ++ []
unchanged [] = refl
unchanged (given ∷ cuts) = ap (λ (more : List Given). given ∷ more) (unchanged cuts)

-- A local after peeks alone has each look, each peek and each given cut of the local before them.
pub peeks_grow : (l m : Local) (before after : ℕ) → HasOnlyPeeked l m before after → Grows l m
peeks_grow l m before after h = subst (Grows l) (sym h.local)
    (grows_by l (with_peeked l h.more) [] h.more [] refl refl (unchanged l.cuts))

-- A caller with the local `s` that had the progress after a whole call, and whose local became `m`
-- by peeks alone, has the progress after that whole call.
pub whole_call : (op : ℕ) (r told : Record) (seen cut : List ℕ) (before : Progress) (s m : Local)
    (from to : ℕ) → progress_of s ≡ after_call op r seen before → HasOnlyPeeked s m from to
    → told ≡ r → cut ≡ seen → progress_of m ≡ after_call op told cut before
whole_call op r told seen cut before s m from to called peeks tells saw =
    peeks_leave s m from to peeks
    ∙ called
    ∙ (λ i. after_call op (sym tells i) (sym saw i) before)

-- The progress after a whole call is the one after its steps: from the local `l` before the call to
-- `v` by announcing and viewing, to `p` by publishing, and to `s` by seeing a cut.
pub called : (op : ℕ) (viewed r : Record) (seen : List ℕ) (l v p s : Local)
    → progress_of v ≡ after_viewing viewed (after_announcing op (progress_of l)) → progress_of p
    ≡ after_publishing (progress_of v) → progress_of s ≡ after_seeing seen (progress_of p)
    → r ≡ viewed → progress_of s ≡ after_call op r seen (progress_of l)
called op viewed r seen l v p s views publishes sees same =
    sees
    ∙ ap (after_seeing seen) (publishes ∙ ap after_publishing (views ∙ ap
    (λ (x : Record). after_viewing x (after_announcing op (progress_of l))) (sym same)))

-- A local that has each look, each peek and each given cut of an earlier one has them after peeks
-- alone, too.
pub grows_peeking : (l s m : Local) (before after : ℕ) → Grows l s → HasOnlyPeeked s m before after
    → Grows l m
grows_peeking l s m before after grows peeks =
    grows_on l s m grows (peeks_grow s m before after peeks)

-- A counter that rises by at most 2m, then by at most m, and then by at most m again has risen by
-- at most 4m: with m for one scan, two scans lead to the view, one to the publication, and one to
-- the seen cut.
pub ticks_of_scans : (m a b c d : ℕ) → (a ≤ b) × (b ≤ a + (m + m)) → (b ≤ c) × (c ≤ b + m) → (c ≤ d)
    × (d ≤ c + m) → (a ≤ d) × (d ≤ a + 4 * m)
ticks_of_scans m a b c d two one more =
    (omega (arith, two.0, one.0, more.0), omega (arith, two.1, one.1, more.1))
