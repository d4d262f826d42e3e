use Rattle.std.proofs.Common.{◌≡◌, ℕ, ◌+◌, ◌<◌, List, ◌∷◌, length, slice_index, sym, ap, subst, ◌∙◌, IsTrue}
use Rattle.world_core.specs.declared.region.Region.TheVariants.{M}
use Rattle.world_core.specs.Local.{Local}
use Rattle.world_core.specs.Event.{Stage, is_row_staged, is_enabled, local_after}
use Rattle.row_table.specs.Callers.{shape_of, who_of, local_with}
use Rattle.row_table.specs.Staging.{staged_from, with_staged}
use Rattle.row_table.proofs.StagedRows.{may_still, staged_M, row_M, row_left, reply_may, view_may, entry_may_M}
use Rattle.row_table.proofs.publication.publish_row.Goals as goal

-- the local once the reply and the view are staged, and once the whole row is
after_view : (n : ℕ) (l a b : Local) (reply : ℕ) (view : List ℕ)
    → a ≡ local_after n l (Stage M 0 reply) → b ≡ with_staged a (staged_from 1 view a.staged)
    → b ≡ with_staged l (staged_from 1 view (record { place = 0; word = reply } ∷ l.staged))
after_view n l a b reply view first second =
    second ∙ ap (λ (m : Local). with_staged m (staged_from 1 view m.staged)) first

after_row : (n first : ℕ) (l a b c : Local) (reply : ℕ) (view cut : List ℕ)
    → a ≡ local_after n l (Stage M 0 reply) → b ≡ with_staged a (staged_from 1 view a.staged)
    → c ≡ with_staged b (staged_from first cut b.staged)
    → c ≡ with_staged l (staged_M first reply view cut l.staged)
after_row n first l a b c reply view cut one two three =
    three ∙ ap (λ (m : Local). with_staged m (staged_from first cut m.staged))
    (after_view n l a b reply view one two)

pub stage-requires-clause-due : goal.stage-requires-clause-due
stage-requires-clause-due g c =
    let s = shape_of g.P.Program.meaning c.args.rows.now in
    let l : Local = local_with c.args.caller.now in
    let left =
    row_left s (who_of c.args.caller.now) l c.requires.caller.seat.local c.requires.may.phase in
    reply_may s
    (who_of c.args.caller.now) l c.args.reply c.args.view.now c.args.cut.now c.requires.may left

pub stage_from-requires-clause-due : goal.stage_from-requires-clause-due
stage_from-requires-clause-due g c k low =
    let s = shape_of g.P.Program.meaning c.args.rows.now in
    let l : Local = local_with c.args.caller.now in
    let left =
    row_left s (who_of c.args.caller.now) l c.requires.caller.seat.local c.requires.may.phase in
    let may = view_may s (who_of c.args.caller.now) l c.args.reply c.args.view.now c.args.cut.now
    c.requires.may left k (subst (λ (v : List ℕ). k < length v) c.counts.ensures low) in
    may_still s (who_of c.stage.new.caller) l (local_with c.stage.new.caller)
    (record { place = 0; word = c.args.reply } ∷ l.staged) M (1 + k)
    (slice_index c.counts.result.now k) c.stage.ensures.event
    (subst (λ (v : List ℕ).
    IsTrue (is_enabled s (who_of c.args.caller.now) l (Stage M (1 + k) (slice_index v k))))
    (sym c.counts.ensures) may)

pub stage_from-requires-2-clause-due : goal.stage_from-requires-2-clause-due
stage_from-requires-2-clause-due g c k low =
    let s = shape_of g.P.Program.meaning c.args.rows.now in
    let l : Local = local_with c.args.caller.now in
    let left =
    row_left s (who_of c.args.caller.now) l c.requires.caller.seat.local c.requires.may.phase in
    let may = entry_may_M s (who_of c.args.caller.now) l c.args.reply c.args.view.now c.args.cut.now
    c.requires.may left k (subst (λ (v : List ℕ). k < length v) c.counts-2.ensures low) in
    let is = after_view s.callers l _ _ c.args.reply c.counts.result.now c.stage.ensures.event
    c.stage_from.ensures.staged in
    let n : c.n.result ≡ s.callers = c.n.ensures.count ∙ c.requires.may.view_wide in
    may_still s (who_of c.stage_from.new.caller) l (local_with c.stage_from.new.caller)
    (staged_from 1 c.counts.result.now (record { place = 0; word = c.args.reply } ∷ l.staged)) M
    (1 + c.n.result + k) (slice_index c.counts-2.result.now k) is
    (subst (λ (m : ℕ). IsTrue (is_enabled s (who_of c.args.caller.now) l
    (Stage M (1 + m + k) (slice_index c.counts-2.result.now k)))) (sym n)
    (subst (λ (v : List ℕ). IsTrue (is_enabled s (who_of c.args.caller.now) l
    (Stage M (1 + s.callers + k) (slice_index v k)))) (sym c.counts-2.ensures) may))

pub publish-requires-clause-staged : goal.publish-requires-clause-staged
publish-requires-clause-staged g c =
    let n : ℕ = c.args.rows.now.callers in
    let l : Local = local_with c.args.caller.now in
    let is =
    after_row n (1 + c.n.result) l _ _ _ c.args.reply c.counts.result.now c.counts-2.result.now
    c.stage.ensures.event c.stage_from.ensures.staged c.stage_from-2.ensures.staged in
    subst (λ (m : Local). IsTrue (is_row_staged n m M)) (sym is)
    (row_M n
    (1 + c.n.result) l c.args.reply c.counts.result.now c.counts-2.result.now c.requires.may.phase
    (ap (λ (m : ℕ). 1 + m) (c.n.ensures.count ∙ sym (ap length c.counts.ensures)))
    (ap length c.counts.ensures ∙ c.requires.may.view_wide)
    (ap length c.counts-2.ensures ∙ c.requires.may.wide))
