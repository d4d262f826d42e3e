use Rattle.std.proofs.Common.{◌≡◌, ℕ, ◌<◌, ◌^◌, List, ◌++◌, map, replicate, ap, subst, sym, ◌∙◌}
use Rattle.std.specs.Prelude.{codes}
use Rattle.std.specs.List.{AllByRecursion, range_with_len}
use Rattle.text_fields.specs.declared.version.Version.TheVariants.{Second}
use Rattle.text_fields.specs.Lines.{text_of, by_number}
use Rattle.text_fields.specs.Head.{head_lines}
use Rattle.client_scripts.specs.Plans.{Plan, sizes}
use Rattle.client_scripts.specs.Grammar.{caller_lines, IsWrittenText}
use Rattle.client_scripts.proofs.Written.{whole_written}
use Rattle.client_scripts.proofs.WrittenTexts.{written_is_read}
use Rattle.client_scripts.specs.Drawn.{drawn_operations, drawn_plan}
use Rattle.client_scripts.proofs.Drawing.{drawn_sizes, drawn_is_plan, without_stops}
use Rattle.client_scripts.proofs.text.script_text.Goals as goal

pub returns : goal.returns
returns c =
    let w = c.args.workload.now in
    let plan : Plan = drawn_plan w c.args.seed in
    let out : List ℕ = c.extend_from_slice-2.new.self.items in
    let m1 : List ℕ = c.put_head.new.out.items in
    let m2 : List ℕ = c.put_calls.new.out.items in
    let m4 : List ℕ = c.extend_from_slice.new.self.items in
    let counts : c.counts.result ≡ sizes plan.operations =
    c.counts.ensures ∙ sym (drawn_sizes w c.args.seed) in
    let head : m1 ≡ text_of (head_lines Second (codes "script") plan.kind (sizes plan.operations))
    = c.in_ok-put_head.ensures ∙ ap (λ (x : List ℕ). x ++ text_of
    (head_lines Second (codes "script") plan.kind c.counts.result)) c.new-out.ensures.items
    ∙ ap (λ (ns : List ℕ). text_of (head_lines Second (codes "script") plan.kind ns)) counts in
    let operations : ℕ → List (List ℕ) =
    λ key. map (drawn_operations w key) (range_with_len 0 w.callers) in
    let calls : m2 ≡ m1 ++ text_of (by_number (caller_lines plan.kind) 0 plan.operations)
    = c.in_ok-put_calls.ensures.calls
    ∙ ap (λ (key : ℕ). m1 ++ text_of (by_number (caller_lines plan.kind) 0 (operations key)))
    c.key_of.ensures in
    let words : AllByRecursion (AllByRecursion (λ op. op < 2 ^ 128)) plan.operations
    = subst (λ (key : ℕ). AllByRecursion (AllByRecursion (λ op. op < 2 ^ 128)) (operations key))
    c.key_of.ensures c.in_ok-put_calls.ensures.words in
    let written : IsWrittenText Second out plan = record {
      writable = drawn_is_plan w c.args.seed c.requires words;
      text = whole_written plan m1 m2 m2 m4 out head calls (without_stops w.callers m2)
          c.in_ok-extend_from_slice.ensures.items c.in_ok-extend_from_slice-2.ensures.items;
    } in
    written_is_read Second out plan written
