use Rattle.std.proofs.Common.{◌≡◌, ℕ, List, ◌∷◌, length, sym, ap, subst, ◌∙◌, IsTrue}
use Rattle.world_core.specs.declared.region.Region.TheVariants.{N}
use Rattle.world_core.specs.Local.{Local}
use Rattle.world_core.specs.Event.{Stage, Announce, is_row_staged, local_after}
use Rattle.row_table.specs.Callers.{local_with}
use Rattle.row_table.specs.Staging.{staged_from, with_staged}
use Rattle.row_table.proofs.StagedRows.{staged_N, row_N, announced_N}
use Rattle.row_table.proofs.announcement.announce_row.Goals as goal

-- the local once the two words of the operation are staged, and once the whole row is
after_operation : (n : ℕ) (l a b : Local) (low high : ℕ) → a ≡ local_after n l (Stage N 0 low)
    → b ≡ local_after n a (Stage N 1 high)
    → b ≡ with_staged l
    (record { place = 1; word = high } ∷ record { place = 0; word = low } ∷ l.staged)
after_operation n l a b low high first second =
    second ∙ ap (λ (m : Local). local_after n m (Stage N 1 high)) first

after_row : (n : ℕ) (l a b c : Local) (low high : ℕ) (cut : List ℕ)
    → a ≡ local_after n l (Stage N 0 low) → b ≡ local_after n a (Stage N 1 high)
    → c ≡ with_staged b (staged_from 2 cut b.staged)
    → c ≡ with_staged l (staged_N low high cut l.staged)
after_row n l a b c low high cut first second third =
    third ∙ ap (λ (m : Local). with_staged m (staged_from 2 cut m.staged))
    (after_operation n l a b low high first second)

pub announce-requires-clause-staged : goal.announce-requires-clause-staged
announce-requires-clause-staged g c =
    let n : ℕ = c.args.rows.now.callers in
    let l : Local = local_with c.args.caller.now in
    let cut : List ℕ = c.counts.result.now in
    let is = after_row n l _ _ _ c.low.result c.high.result cut c.stage.ensures.event
    c.stage-2.ensures.event c.stage_from.ensures.staged in
    subst (λ (m : Local). IsTrue (is_row_staged n m N)) (sym is)
    (row_N n l c.low.result c.high.result cut c.requires.may.phase
    (ap length c.counts.ensures ∙ c.requires.may.wide))

pub returns-clause-announced : goal.returns-clause-announced
returns-clause-announced g c =
    let n : ℕ = c.args.rows.now.callers in
    let l : Local = local_with c.args.caller.now in
    let cut : List ℕ = c.counts.result.now in
    let is = after_row n l _ _ _ c.low.result c.high.result cut c.stage.ensures.event
    c.stage-2.ensures.event c.stage_from.ensures.staged in
    c.announce.ensures.event
    ∙ ap (λ (m : Local). local_after n m Announce) is
    ∙ announced_N n l c.args.op c.low.result c.high.result cut c.low.ensures c.high.ensures
