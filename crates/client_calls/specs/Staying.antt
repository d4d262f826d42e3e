-- What the ends of lines say stays true as their caller makes further steps.
use Rattle.std.specs.Prelude.{ℕ, List}
use Rattle.book_base.specs.declared.call.Record.{Record}
use Rattle.book_base.specs.SeqSpec.{SeqSpec}
use Rattle.world_core.specs.Local.{Local}
use Rattle.report_lines.specs.declared.line.LineEnd.{LineEnd}
use Rattle.report_lines.specs.declared.line.LineEnd.TheVariants.{Pending, Unchecked, Delivered, Error}
use Rattle.drv_wrapper.specs.Growth.{Grows}
use Rattle.report_lines.proofs.Workers.{verdicts_stay}
use Rattle.client_calls.specs.Ends.{SaysJudged, SaysDeferred}

-- What the end of a judged line says of a caller's local `l` holds of each later local `m`.
pub judged_stays : (object : SeqSpec) (n : ℕ) (l m : Local) (r : Record) (cut : List ℕ)
    (end : LineEnd) → Grows l m → SaysJudged object n l r cut end → SaysJudged object n m r cut end
judged_stays object n l m r cut Pending grows says = absurd says
judged_stays object n l m r cut (Unchecked r') grows says = absurd says
judged_stays object n l m r cut (Delivered r' cut') grows says = (
  says.0,
  says.1,
  verdicts_stay object n l m (Delivered r' cut') grows.peeked says.2,
)
judged_stays object n l m r cut (Error r' cut') grows says = (
  says.0,
  says.1,
  verdicts_stay object n l m (Error r' cut') grows.peeked says.2,
)

-- What the end of an unjudged line says of a caller's local `l` holds of each later local `m`.
pub deferred_stays : (object : SeqSpec) (n : ℕ) (l m : Local) (r : Record) (cut : List ℕ)
    (end : LineEnd) → Grows l m → SaysDeferred object n l r cut end
    → SaysDeferred object n m r cut end
deferred_stays object n l m r cut end grows says = says
