use Rattle.std.proofs.Common.{◌≡◌, ℕ, ◌<◌, ◌^◌, List, ◌++◌, map, ap, subst, ◌∙◌, arith}
use Rattle.std.specs.List.{AllByRecursion, range_with_len}
use Rattle.text_fields.specs.Lines.{text_of, by_number}
use Rattle.client_scripts.specs.Grammar.{caller_lines}
use Rattle.client_scripts.specs.Drawn.{drawn_operations}
use Rattle.client_scripts.proofs.Drawing.{lines_drawn, all_drawn}
use Rattle.client_scripts.proofs.text.put_calls.Goals as goal

pub loop-caller-preserved : goal.loop-caller-preserved
loop-caller-preserved c =
    let w = c.args.workload.now in
    let l = c.loop-caller in
    let f : ℕ → List ℕ = drawn_operations w c.args.key in
    record {
      calls = lines_drawn (caller_lines w.kind) f c.args.out.now.items l.out.items
          c.put_caller.new.out.items l.caller l.invariant.calls c.in_ok-put_caller.ensures.calls;
      words = all_drawn (AllByRecursion (λ (op : ℕ). op < 2 ^ 128)) f l.caller l.invariant.words
          c.in_ok-put_caller.ensures.words;
    }

pub returns-clause-calls : goal.returns-clause-calls
returns-clause-calls c =
    let w = c.args.workload.now in
    let l = c.loop-caller in
    let all : l.caller ≡ w.callers = omega arith in
    l.invariant.calls ∙ ap (λ (n : ℕ). c.args.out.now.items ++ text_of (by_number
    (caller_lines w.kind) 0 (map (drawn_operations w c.args.key) (range_with_len 0 n)))) all

pub returns-clause-words : goal.returns-clause-words
returns-clause-words c =
    let w = c.args.workload.now in
    let l = c.loop-caller in
    let all : l.caller ≡ w.callers = omega arith in
    subst (λ (n : ℕ). AllByRecursion (AllByRecursion (λ op. op < 2 ^ 128))
    (map (drawn_operations w c.args.key) (range_with_len 0 n))) all l.invariant.words
