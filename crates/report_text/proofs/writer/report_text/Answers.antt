use Rattle.std.proofs.Common.{◌≡◌, ℕ, List, ◌++◌, ap, ◌∙◌}
use Rattle.std.specs.Prelude.{codes}
use Rattle.seq_objects.specs.declared.kind.Kind.{Kind}
use Rattle.text_fields.specs.declared.version.Version.TheVariants.{Second}
use Rattle.text_fields.specs.Lines.{text_of}
use Rattle.text_fields.specs.Head.{head_lines}
use Rattle.reports.specs.Findings.{sizes}
use Rattle.reports.specs.Grammar.{IsWrittenText}
use Rattle.report_text.proofs.WrittenTexts.{written_is_read}
use Rattle.report_text.proofs.Endings.{whole_written}
use Rattle.report_text.proofs.writer.report_text.Goals as goal

pub returns : goal.returns
returns c =
    let findings = c.args.report.now in
    let m1 : List ℕ = c.put_head.new.out.items in
    let head : m1
    ≡ text_of (head_lines Second (codes "report") findings.kind (sizes findings.lines))
    = c.in_ok-put_head.ensures ∙ ap (λ (x : List ℕ). x ++ text_of
    (head_lines Second (codes "report") c.kind.result c.sizes.result)) c.new-out.ensures.items
    ∙ ap
    (λ (k : Kind). text_of (head_lines Second (codes "report") k c.sizes.result)) c.kind.ensures
    ∙ ap (λ (ns : List ℕ). text_of (head_lines Second (codes "report") findings.kind ns))
    c.sizes.ensures.counts in
    let written : IsWrittenText c.extend_from_slice.new.self.items findings
    = record {
      writable = c.sizes.ensures.report;
      text = whole_written findings m1 c.put_lines.new.out.items c.extend_from_slice.new.self.items
          head c.in_ok-put_lines.ensures c.in_ok-extend_from_slice.ensures.items;
    } in
    record {
      written = written;
      read = written_is_read c.extend_from_slice.new.self.items findings written;
    }
