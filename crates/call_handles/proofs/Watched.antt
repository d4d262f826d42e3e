-- The witness of a monitor, and what its round says of the calls of all callers.
use Rattle.std.proofs.Common.{◌≡◌, ℕ, ◌<◌, List, Option, None, Some, IfSome, sym, subst}
use Rattle.book_base.specs.SeqSpec.{SeqSpec}
use Rattle.book_base.specs.Order.{HasLegalOrder}
use Rattle.world_core.specs.declared.program.Outside.{Outside}
use Rattle.world_core.specs.Shape.{Shape}
use Rattle.world_core.specs.Local.{Local}
use Rattle.world_core.specs.Calls.{AreTogether, local_at}
use Rattle.seq_objects.specs.Objects.{kind_spec}
use Rattle.row_table.specs.declared.rows.Rows.{Rows}
use Rattle.row_table.specs.Callers.{shape_of, who_of}
use Rattle.drv_wrapper.specs.Growth.{Grows}
use Rattle.monitor.specs.declared.monitor.Monitor.{Monitor}
use Rattle.monitor.specs.declared.round.Round.{Round}
use Rattle.monitor.specs.declared.round.Round.TheVariants.{Legal, Illegal}
use Rattle.monitor.specs.declared.witness.Witness.{Witness}
use Rattle.monitor.specs.Monitors.{caller_of, local_of, own_of, HasFound, IsMonitorOf}
use Rattle.monitor.specs.Worlds.{IsRightRound}
use Rattle.monitor.proofs.Judged.{rounds_are_right}
use Rattle.call_handles.specs.declared.monitor_handle.MonitorHandle.{MonitorHandle}
use Rattle.announced_calls.specs.Outside.{every_reply}
use Rattle.call_handles.specs.Monitors.{rows_watched, IsRightOfRound}

-- what holds of the witness that an option has holds of that witness
pub own_has : (P : Witness → Type 0) (own : Option Witness) (w : Witness) → own ≡ Some w
    → IfSome own P → P w
own_has P own w is h = subst (λ (o : Option Witness). IfSome o P) is h

has_own : (P : Witness → Type 0) (own : Option Witness) (w : Witness) → own ≡ Some w → P w
    → IfSome own P
has_own P own w is h = subst (λ (o : Option Witness). IfSome o P) (sym is) h

pub has_none : (P : Witness → Type 0) (own : Option Witness) → own ≡ None → IfSome own P
has_none P own is = subst (λ (o : Option Witness). IfSome o P) (sym is) tt

module _ (spec : SeqSpec) where
  -- a witness that a round found has no legal order
  pub none_after : (n : ℕ) (l m : Local) (own : Option Witness) (made : Round)
      → HasFound spec n l m own made → IfSome own (λ w. ¬ HasLegalOrder spec w.book)
  none_after n l m own (Legal cut) h = has_none (λ w. ¬ HasLegalOrder spec w.book) own h.2
  none_after n l m own (Illegal cut) h =
      let (once, w, is, at, illegal) = h in
      has_own (λ v. ¬ HasLegalOrder spec v.book) own w is illegal.none

  unmoved : (l : Local) → Grows l l
  unmoved l = record { looked = λ x h. h; peeked = λ x h. h; cuts = λ place given h. h }

  -- a round is right for the calls of all callers
  right_in_worlds : (s : Shape) (i : ℕ) (l m : Local) (own : Option Witness) (made : Round)
      → i < s.callers → HasFound spec s.callers l m own made → (locals : List Local)
      → AreTogether s locals → local_at locals i ≡ m → IsRightRound spec locals own made
  right_in_worlds s i l m own made low found locals t same =
      rounds_are_right spec s locals i l m own made t low
      (subst (λ (x : Local). Grows m x) (sym same) (unmoved m)) found

-- what a round of a handle's monitor found is right
pub right_of_round : (h : MonitorHandle) (m : Monitor Outside) (r : Rows Outside) (made : Round)
    → r ≡ rows_watched h → IsMonitorOf every_reply r m
    → HasFound (kind_spec h.kind) r.callers (local_of h.monitor) (local_of m) (own_of m) made
    → IsRightOfRound h m made
right_of_round h m r made is of found =
    let spec = kind_spec h.kind in
    let here = subst (λ (x : Rows Outside). IsMonitorOf every_reply x m) is of in
    let at = subst (λ (x : Rows Outside).
    HasFound spec x.callers (local_of h.monitor) (local_of m) (own_of m) made) is found in
    record {
      found = at;
      worlds =
          right_in_worlds spec (shape_of every_reply (rows_watched h)) (who_of (caller_of m))
          (local_of h.monitor) (local_of m) (own_of m) made here.resting.caller.seat.who at;
    }
