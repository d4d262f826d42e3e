-- The head within the text of a report, and what bytes are read as.
use Rattle.std.proofs.Common.{◌≡◌, ℕ, ◌⊎◌, List, [], ◌++◌, Result, refl}
use Rattle.std.specs.Prelude.{codes, IfOk, IfErr, MatchResult}
use Rattle.book_base.specs.declared.fault.TextFault.{TextFault}
use Rattle.book_base.specs.declared.fault.What.TheVariants.{End}
use Rattle.book_base.specs.declared.fault.ReadFault.{ReadFault}
use Rattle.book_base.specs.declared.fault.ReadFault.TheVariants.{Text, NoMemory}
use Rattle.seq_objects.specs.declared.kind.Kind.{Kind}
use Rattle.text_fields.specs.declared.version.Version.TheVariants.{Second}
use Rattle.text_fields.specs.Lines.{Unread}
use Rattle.text_fields.specs.Faults.{StopsFor, IsFirstFault, GoesTo}
use Rattle.text_fields.specs.Head.{TitleDue, head_rules}
use Rattle.text_fields.proofs.Sharp.{only_test}
use Rattle.text_fields.proofs.Within.{AreWithin, head_is_within}
use Rattle.text_fields.proofs.Readings as readings
use Rattle.book_text.specs.BookRules.{whole_text}
use Rattle.book_text.specs.Ending.{IsEnded, IsNoEnd}
use Rattle.book_text.proofs.Endings.{goes_end, stops_end}
use Rattle.report_lines.specs.declared.line.Line.{Line}
use Rattle.client_scripts.specs.ScriptRules.{grouped}
use Rattle.reports.specs.Findings.{Findings}
use Rattle.report_text.specs.ReportRules.{InHead, InLines, AtEnd, after_head, ReportFails, report_rules, IsReportText, IsNoReportText, IsFirstReportFault}
use Rattle.report_text.proofs.SharpReports.{report_sharp}

-- ---- the head

pub head_within : AreWithin (head_rules Second (codes "report")) report_rules after_head
head_within = head_is_within Second (codes "report") report_rules InHead after_head
    refl refl (λ kind. refl) (λ kind n. refl) (λ due. refl)
    (λ due after words h. (after, h, refl)) (λ due words what. (λ h. h, λ h. h))

-- ---- the end

pub report_ends : (kind : Kind) (counts : List ℕ) (told : List Line) (text left : Unread)
    → IsEnded text left → GoesTo report_rules (InLines kind counts told []) text
    (AtEnd (record { kind = kind; lines = grouped counts told })) left
report_ends kind counts told text left h = goes_end report_rules (InLines kind counts told [])
    (AtEnd (record { kind = kind; lines = grouped counts told })) (refl, refl) text left h

pub report_no_end : (kind : Kind) (counts : List ℕ) (told : List Line) (text : Unread)
    (fault : TextFault) → IsNoEnd text fault
    → IsFirstFault report_rules (InLines kind counts told []) text fault
report_no_end kind counts told text fault h =
    stops_end report_rules (InLines kind counts told [])
    (AtEnd (record { kind = kind; lines = grouped counts told })) (refl, refl) text fault refl refl
    (λ words unlike. only_test (ReportFails (InLines kind counts told []) words) End (refl, unlike)
    (λ other k. k.0)) h

-- ---- one reading, or one fault

pub same_end : (a b : Findings) → AtEnd a ≡ AtEnd b → a ≡ b
same_end a b e = cc

pub one_report : (bytes : List ℕ) (a b : Findings) → IsReportText bytes a
    → IsReportText bytes b → a ≡ b
one_report =
    readings.one_said report_rules report_sharp (InHead TitleDue) AtEnd same_end (λ findings. refl)

pub one_first_fault : (bytes : List ℕ) (a b : TextFault) → IsFirstReportFault bytes a
    → IsFirstReportFault bytes b → a ≡ b
one_first_fault =
    readings.one_first report_rules report_sharp (InHead TitleDue) AtEnd same_end (λ findings. refl)

pub no_first_fault : (bytes : List ℕ) (findings : Findings) (fault : TextFault)
    → IsReportText bytes findings → IsFirstReportFault bytes fault → ⊥
no_first_fault =
    readings.no_first report_rules report_sharp (InHead TitleDue) AtEnd same_end (λ findings. refl)

pub no_prefix : (bytes more : List ℕ) (a b : Findings) → IsReportText bytes a
    → IsReportText (bytes ++ more) b → more ≡ []
no_prefix =
    readings.no_prefix report_rules report_sharp (InHead TitleDue) AtEnd same_end (λ findings. refl)

pub only_read : (bytes : List ℕ) (result : Result Findings ReadFault)
    → IfOk result (λ report. IsReportText bytes report)
    → IfErr result (λ e. StopsFor report_rules (InHead TitleDue) (whole_text bytes) e)
    → (findings : Findings) → IsReportText bytes findings
    → MatchResult result (λ report. report ≡ findings) (λ e. e ≡ NoMemory)
only_read =
    readings.only_read report_rules report_sharp (InHead TitleDue) AtEnd same_end (λ findings. refl)

pub refused_read : (bytes : List ℕ) (result : Result Findings ReadFault)
    → IfErr result (λ e. StopsFor report_rules (InHead TitleDue) (whole_text bytes) e)
    → IfErr result (λ e. (e ≡ NoMemory) ⊎ ((fault : TextFault) × (e ≡ Text fault)
    × IsFirstReportFault bytes fault × IsNoReportText bytes))
refused_read = readings.refused_read report_rules report_sharp (InHead TitleDue) AtEnd same_end
    (λ findings. refl)

pub first_read : (bytes : List ℕ) (result : Result Findings ReadFault)
    → IfOk result (λ report. IsReportText bytes report)
    → IfErr result (λ e. StopsFor report_rules (InHead TitleDue) (whole_text bytes) e)
    → (fault : TextFault) → IsFirstReportFault bytes fault
    → MatchResult result (λ report. ⊥) (λ e. (e ≡ Text fault) ⊎ (e ≡ NoMemory))
first_read = readings.first_read report_rules report_sharp (InHead TitleDue) AtEnd same_end
    (λ findings. refl)
