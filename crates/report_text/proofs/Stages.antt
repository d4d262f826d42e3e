-- The stages of a text that is read: after its head, its lines and its end.
use Rattle.std.proofs.Common.{◌≡◌, ℕ, List, [], subst, ap, sym, ◌∙◌}
use Rattle.std.specs.Prelude.{codes}
use Rattle.seq_objects.specs.declared.kind.Kind.{Kind}
use Rattle.text_fields.specs.declared.version.Version.TheVariants.{Second}
use Rattle.text_fields.specs.Lines.{Unread}
use Rattle.text_fields.specs.Head.{TitleDue, HeadRead, head_rules}
use Rattle.text_fields.specs.Faults.{GoesTo}
use Rattle.text_fields.proofs.Sharp.{goes_then}
use Rattle.text_fields.proofs.Within.{goes_within}
use Rattle.book_text.specs.BookRules.{whole_text}
use Rattle.book_text.specs.CallLines.{all_calls}
use Rattle.book_text.specs.Ending.{IsEnded}
use Rattle.report_lines.specs.declared.line.Line.{Line}
use Rattle.client_scripts.specs.ScriptRules.{grouped}
use Rattle.reports.specs.Findings.{sizes}
use Rattle.report_text.specs.ReportRules.{InHead, InLines, AtEnd, report_rules, IsReportText}
use Rattle.report_text.specs.Parts.{chained, AreAllRead}
use Rattle.report_text.proofs.Readings.{head_within, report_ends}
use Rattle.report_text.proofs.Soundness.{grouped-chained}

module _ (bytes : List ℕ) (kind : Kind) (calls : List ℕ) (new a : Unread)
    (is : new ≡ whole_text bytes)
    (head : GoesTo (head_rules Second (codes "report")) TitleDue new (HeadRead kind calls) a) where
  pub goes_to_lines : GoesTo report_rules (InHead TitleDue) (whole_text bytes)
      (InLines kind calls [] (all_calls 0 calls)) a
  goes_to_lines = goes_within head_within TitleDue (HeadRead kind calls) (whole_text bytes) a
      (subst (λ (t : Unread). GoesTo (head_rules Second (codes "report")) TitleDue t
      (HeadRead kind calls) a) is head)

  module _ (lines : List (List Line)) (b : Unread) (body : AreAllRead kind calls a lines b) where
    pub goes_to_end_line : GoesTo report_rules (InHead TitleDue) (whole_text bytes)
        (InLines kind calls (chained lines) []) b
    goes_to_end_line =
        goes_then report_rules (InHead TitleDue) (InLines kind calls [] (all_calls 0 calls))
        (InLines kind calls (chained lines) []) (whole_text bytes) a b goes_to_lines body

    pub is_text_read : (left : Unread) → sizes lines ≡ calls → IsEnded b left
        → IsReportText bytes (record { kind = kind; lines = lines })
    is_text_read left size end =
        let groups : grouped calls (chained lines) ≡ lines =
        ap (λ (ns : List ℕ). grouped ns (chained lines)) (sym size) ∙ grouped-chained lines in
        let goes = goes_then report_rules (InHead TitleDue) (InLines kind calls (chained lines) [])
        (AtEnd (record { kind = kind; lines = grouped calls (chained lines) }))
        (whole_text bytes) b left goes_to_end_line
        (report_ends kind calls (chained lines) b left end) in
        subst (λ (ls : List (List Line)). IsReportText bytes (record { kind = kind; lines = ls }))
        groups (left, record { goes = goes; through = end.whole })
