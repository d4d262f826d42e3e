use Rattle.std.proofs.Common.{◌≡◌, ℕ, ◌<◌, ◌^◌, ◌++◌, map, ap, subst, ◌∙◌, arith, append-nil, sym}
use Rattle.std.specs.List.{AllByRecursion, range_with_len}
use Rattle.text_fields.specs.Lines.{text_of, by_number}
use Rattle.client_scripts.specs.Grammar.{call_line, call_words}
use Rattle.client_scripts.proofs.Written.{one_line}
use Rattle.client_scripts.specs.Drawn.{drawn_operation}
use Rattle.client_scripts.proofs.Drawing.{lines_drawn, all_drawn}
use Rattle.client_scripts.proofs.text.put_caller.Goals as goal

pub loop-number-preserved : goal.loop-number-preserved
loop-number-preserved c =
    let w = c.args.workload.now in
    let l = c.loop-number in
    let f : ℕ → ℕ = drawn_operation w c.args.key c.args.caller in
    let words =
    call_words w.kind (record { caller = c.args.caller; number = l.number }) (f l.number) in
    record {
      calls = lines_drawn (call_line w.kind c.args.caller) f c.args.out.now.items l.out.items
          c.put_call.new.out.items l.number l.invariant.calls
          (one_line l.out.items c.put_call.new.out.items words c.in_ok-put_call.ensures.call);
      words =
          all_drawn (λ (op : ℕ). op < 2 ^ 128) f l.number l.invariant.words c.put_call.ensures.word;
    }

pub returns-clause-calls : goal.returns-clause-calls
returns-clause-calls c =
    let w = c.args.workload.now in
    let l = c.loop-number in
    let all : l.number ≡ w.calls = omega arith in
    l.invariant.calls ∙ ap
    (λ (n : ℕ). c.args.out.now.items ++ text_of (by_number (call_line w.kind c.args.caller) 0
    (map (drawn_operation w c.args.key c.args.caller) (range_with_len 0 n)))) all

pub returns-clause-words : goal.returns-clause-words
returns-clause-words c =
    let w = c.args.workload.now in
    let l = c.loop-number in
    let all : l.number ≡ w.calls = omega arith in
    subst (λ (n : ℕ). AllByRecursion (λ op. op < 2 ^ 128)
    (map (drawn_operation w c.args.key c.args.caller) (range_with_len 0 n))) all l.invariant.words
