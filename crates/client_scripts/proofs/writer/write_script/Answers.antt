use Rattle.std.proofs.Common.{◌≡◌, ℕ, List, ◌++◌, ap, ◌∙◌}
use Rattle.std.specs.Prelude.{codes}
use Rattle.seq_objects.specs.declared.kind.Kind.{Kind}
use Rattle.text_fields.specs.declared.version.Version.TheVariants.{Second}
use Rattle.text_fields.specs.Lines.{text_of, line_text}
use Rattle.text_fields.specs.Head.{head_lines}
use Rattle.client_scripts.specs.Plans.{sizes}
use Rattle.client_scripts.specs.Grammar.{turns_words, IsWrittenText}
use Rattle.client_scripts.proofs.Written.{whole_written}
use Rattle.client_scripts.proofs.WrittenTexts.{written_is_read}
use Rattle.client_scripts.proofs.writer.write_script.Goals as goal

pub returns : goal.returns
returns c =
    let plan = c.args.script.now in
    let out : List ℕ = c.extend_from_slice.new.self.items in
    let m1 : List ℕ = c.put_head.new.out.items in
    let m3 : List ℕ = c.put_stops.new.out.items in
    let counts : c.announced.result ≡ sizes plan.operations = c.announced.ensures.counts in
    let head : m1 ≡ text_of (head_lines Second (codes "script") plan.kind (sizes plan.operations))
    = c.in_ok-put_head.ensures ∙ ap (λ (x : List ℕ). x ++ text_of (head_lines Second
    (codes "script") c.kind.result c.announced.result)) c.new-out.ensures.items
    ∙ ap
    (λ (k : Kind). text_of (head_lines Second (codes "script") k c.announced.result)) c.kind.ensures
    ∙ ap (λ (ns : List ℕ). text_of (head_lines Second (codes "script") plan.kind ns)) counts in
    let turns : c.put_turns.new.out.items ≡ m3 ++ line_text (turns_words plan.turns) =
    c.in_ok-put_turns.ensures
    ∙ ap (λ (ts : List ℕ). m3 ++ line_text (turns_words ts)) c.turns.ensures in
    let written : IsWrittenText Second out plan = record {
      writable = c.announced.ensures.plan;
      text = whole_written plan m1 c.put_calls.new.out.items m3 c.put_turns.new.out.items out head
          c.in_ok-put_calls.ensures c.in_ok-put_stops.ensures turns
          c.in_ok-extend_from_slice.ensures.items;
    } in
    record { written = written; read = written_is_read Second out plan written }
