-- Watches before and after their rounds.
use Rattle.std.proofs.Common.{◌≡◌, ◌∙◌, sym, ap, subst, ℕ, Bool, Option}
use Rattle.std.specs.Prelude.{◌≢◌, None}
use Rattle.std.proofs.lemmas.Option.{same_Some}
use Rattle.book_base.specs.SeqSpec.{SeqSpec}
use Rattle.world_core.specs.Shape.{Meaning}
use Rattle.world_core.specs.Local.{Local}
use Rattle.report_lines.specs.Phases.{progress_of}
use Rattle.row_table.specs.declared.rows.Rows.{Rows}
use Rattle.row_table.specs.declared.bench.Bench.{Bench}
use Rattle.row_table.specs.Callers.{who_of, on_bench}
use Rattle.monitor.specs.declared.board.Board.{Board}
use Rattle.monitor.specs.declared.monitor.Monitor.{Monitor}
use Rattle.monitor.specs.declared.watch.Watch.{Watch}
use Rattle.monitor.specs.declared.witness.Witness.{Witness}
use Rattle.monitor.specs.declared.beside.Left.{Left}
use Rattle.monitor.specs.Rounds.{HasRounds}
use Rattle.monitor.specs.Monitors.{caller_of, local_of, own_of}
use Rattle.monitor.specs.Watching.{IsReady, HasWatched}
use Rattle.monitor.specs.Beside.{IsFreeOn, IsUnmoved, IsWatchOf, HasWatchedAs, IsAtHand, ComesBack, IsBackFrom}

pub watch_ready : {P : Type 0} {meaning : P → ℕ → ℕ → Meaning} {r : Rows P} {b : Board} {i : ℕ}
    {l : Local} {most : ℕ} {w : Watch P}
    → IsWatchOf meaning r b i l most w → IsReady meaning r b w
watch_ready h = record { monitor = h.monitor; here = h.here; fresh = h.fresh }

module _ {P : Type 0} {spec : SeqSpec} {meaning : P → ℕ → ℕ → Meaning} {r : Rows P} {i : ℕ}
    {l : Local} {most : ℕ} where
  pub watch_done : {b : Board} {w d : Watch P} → IsWatchOf meaning r b i l most w
      → HasWatched spec meaning r b w d → HasWatchedAs spec meaning r i l most d
  watch_done {b} {w} {d} h done =
      let same : done.before ≡ h.monitor =
      same_Some done.before h.monitor (sym done.was ∙ h.here) in
      let was : local_of done.before ≡ l = ap (λ (m : Monitor P). local_of m) same ∙ h.local in
      record {
        monitor = done.after;
        here = done.is;
        of = done.round.later.monitor;
        who = done.round.later.who ∙ ap (λ (m : Monitor P). who_of (caller_of m)) same ∙ h.who;
        progress = done.round.progress ∙ ap progress_of was;
        rounds = subst (λ (k : ℕ). HasRounds spec r.callers d.wants_memory k l
            (local_of done.after) (own_of done.after)) h.rounds
            (subst (λ (x : Local). HasRounds spec r.callers d.wants_memory w.rounds x
            (local_of done.after) (own_of done.after)) was done.round.rounds);
      }

  -- the monitor of a watch is at hand, and off the bench
  pub watch_at_hand : {w : Watch P} {c : Bench P} → HasWatchedAs spec meaning r i l most w
      → on_bench c i ≡ None → IsAtHand meaning r c w
  watch_at_hand {w} {c} h gone = record {
    monitor = h.monitor;
    here = h.here;
    of = h.of;
    gone = subst (λ (k : ℕ). on_bench c k ≡ None) (sym h.who) gone;
  }

  -- the caller that comes back is that of the watch
  whose : {w : Watch P} {c d : Bench P} {left : Left} → HasWatchedAs spec meaning r i l most w
      → (h : ComesBack c d w left) → who_of (caller_of h.monitor) ≡ i
  whose watched h = ap (λ (m : Monitor P). who_of (caller_of m))
      (same_Some h.monitor watched.monitor (sym h.here ∙ watched.here)) ∙ watched.who

  pub watch_back : {w : Watch P} {c d : Bench P} {left : Left}
      → HasWatchedAs spec meaning r i l most w → ComesBack c d w left
      → IsBackFrom spec r.callers d i l most left
  watch_back {w} {c} {d} {left} watched h =
      let same : h.monitor ≡ watched.monitor =
      same_Some h.monitor watched.monitor (sym h.here ∙ watched.here) in
      record {
        local = local_of h.monitor;
        here = subst (λ (k : ℕ). IsFreeOn d k (local_of h.monitor)) (whose watched h) h.back;
        progress = ap (λ (m : Monitor P). progress_of (local_of m)) same ∙ watched.progress;
        rounds = subst (λ (o : Option Witness).
            HasRounds spec r.callers left.wants_memory most l (local_of h.monitor) o) (sym h.found)
            (subst (λ (wanted : Bool). HasRounds spec r.callers wanted most l
            (local_of h.monitor) (own_of h.monitor)) (sym h.wanted)
            (subst (λ (m : Monitor P). HasRounds spec r.callers w.wants_memory most l
            (local_of m) (own_of m)) (sym same) watched.rounds));
      }

  -- the other callers stay
  pub others_stay : {w : Watch P} {c d : Bench P} {left : Left}
      → HasWatchedAs spec meaning r i l most w → ComesBack c d w left → (k : ℕ) → k ≢ i
      → IsUnmoved c d k
  others_stay watched h k other = h.others k (λ same. other (same ∙ whose watched h))

-- a caller that two moves, one after the other, leave as it is
pub unmoved_on : {P : Type 0} {b c d : Bench P} {i : ℕ} → IsUnmoved b c i → IsUnmoved c d i
    → IsUnmoved b d i
unmoved_on one two = record { local = two.local ∙ one.local; stance = two.stance ∙ one.stance }

-- a caller that is back stays so while another one comes back
pub back_stays : {P : Type 0} {spec : SeqSpec} {n : ℕ} {c d : Bench P} {i : ℕ} {l : Local}
    {most : ℕ} {left : Left} → IsUnmoved c d i → IsBackFrom spec n c i l most left
    → IsBackFrom spec n d i l most left
back_stays same h =
    record {
      local = h.local;
      here = record {
        here = same.local ∙ h.here.here;
        stance = same.stance ∙ h.here.stance;
        idle = h.here.idle;
      };
      progress = h.progress;
      rounds = h.rounds;
    }
