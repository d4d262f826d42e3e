-- A call for which a cut was seen, and that was then ended, has ended.
use Rattle.std.proofs.Common.{◌≡◌, ◌∙◌, subst, ℕ, List}
use Rattle.book_base.specs.declared.call.Record.{Record}
use Rattle.world_core.specs.Shape.{Meaning}
use Rattle.world_core.specs.Local.{Local}
use Rattle.report_lines.specs.declared.line.LineEnd.{LineEnd}
use Rattle.report_lines.specs.Phases.{progress_of}
use Rattle.report_lines.specs.Progress.{after_seeing}
use Rattle.row_table.specs.declared.rows.Rows.{Rows}
use Rattle.row_table.specs.Callers.{local_with, IsStill}
use Rattle.drv_wrapper.specs.Growth.{Grows}
use Rattle.drv_wrapper.proofs.Growing.{grows_on}
use Rattle.enforcer.specs.declared.published_call.Published.{Published}
use Rattle.enforcer.specs.declared.seen_call.Seen.{Seen}
use Rattle.enforcer.specs.States.{caller_published, caller_seen, cut_seen, record_published, record_seen}
use Rattle.client_calls.specs.declared.ended.Ended.{Ended}
use Rattle.client_calls.specs.Endings.{caller_ended, local_ended, HasEnded, StandsAfter, FitsError, SaysOf}

module _ {P : Type 0} (meaning : P → ℕ → ℕ → Meaning) (r : Rows P)
    (says : ℕ → Local → Record → List ℕ → LineEnd → Type 0) where
  pub has_ended : (p : Published P) (s : Seen P) (e : Ended P)
      → IsStill meaning r (caller_published p) (caller_seen s)
      → record_seen s ≡ record_published p
      → progress_of (local_with (caller_seen s))
      ≡ after_seeing (cut_seen s) (progress_of (local_with (caller_published p)))
      → Grows (local_with (caller_published p)) (local_with (caller_seen s))
      → IsStill meaning r (caller_seen s) (caller_ended e)
      → progress_of (local_ended e) ≡ progress_of (local_with (caller_seen s))
      → Grows (local_with (caller_seen s)) (local_ended e) → StandsAfter e → FitsError e
      → SaysOf (says r.callers) (record_seen s) (cut_seen s) e
      → HasEnded meaning r says p e
  has_ended p s e still same progress grows still' progress' grows' stands error says_of =
      record {
        cut = cut_seen s;
        still = (still'.0, still'.1 ∙ still.1);
        progress = progress' ∙ progress;
        grows = grows_on (local_with (caller_published p)) (local_with (caller_seen s))
            (local_ended e) grows grows';
        stands = stands;
        error = error;
        says_of = subst (λ (x : Record). SaysOf (says r.callers) x (cut_seen s) e) same says_of;
      }
