use Rattle.std.proofs.Common.{ℕ, ◌+◌, List, take, slice_index, sym, ap, subst, ◌∙◌, IsTrue}
use Rattle.world_core.specs.Local.{Local, Staged}
use Rattle.world_core.specs.Event.{Stage, local_after, is_enabled}
use Rattle.row_table.specs.Callers.{shape_of, who_of, local_with}
use Rattle.row_table.specs.Staging.{staged_from, with_staged}
use Rattle.row_table.proofs.Staged.{next_word}
use Rattle.row_table.proofs.Due.{stage_same}
use Rattle.row_table.proofs.staged_words.stage_from.Goals as goal

pub stage-requires-clause-caller : goal.stage-requires-clause-caller
stage-requires-clause-caller g c = c.loop-k.invariant.still.0

pub stage-requires-clause-due : goal.stage-requires-clause-due
stage-requires-clause-due g c =
    let l : Local = local_with c.args.caller.now in
    let s = shape_of g.P.Program.meaning c.args.rows.now in
    let staged : List Staged =
    staged_from c.args.first (take c.loop-k.k c.args.words.now) l.staged in
    let word : ℕ = slice_index c.args.words.now c.loop-k.k in
    let due = c.requires.due c.loop-k.k c.loop-k-test.true in
    let same =
    stage_same s (who_of c.loop-k.caller) l staged c.args.region (c.args.first + c.loop-k.k) word in
    subst (λ (m : Local). IsTrue (is_enabled s (who_of c.loop-k.caller) m
    (Stage c.args.region (c.args.first + c.loop-k.k) word))) (sym c.loop-k.invariant.staged)
    (same ∙ subst
    (λ (i : ℕ). IsTrue (is_enabled s i l (Stage c.args.region (c.args.first + c.loop-k.k) word)))
    (sym c.loop-k.invariant.still.1) due)

pub loop-k-preserved : goal.loop-k-preserved
loop-k-preserved g c =
    let l : Local = local_with c.args.caller.now in
    record {
      still = (c.stage.ensures.caller.0, c.stage.ensures.caller.1 ∙ c.loop-k.invariant.still.1);
      stance = c.stage.ensures.stance ∙ c.loop-k.invariant.stance;
      staged =
          c.stage.ensures.event
          ∙ ap (λ (m : Local). local_after c.args.rows.now.callers m (Stage c.args.region
          (c.args.first + c.loop-k.k) (slice_index c.args.words.now c.loop-k.k)))
          c.loop-k.invariant.staged
          ∙ ap (with_staged l)
          (sym (next_word c.args.first c.args.words.now l.staged c.loop-k.k c.loop-k-test.true));
    }
