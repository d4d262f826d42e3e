use Rattle.std.proofs.Common.{◌≡◌, ◌∙◌, ◌+◌, ◌-◌, ◌++◌, ℕ, List, length, take, drop, sym, ap, arith}
use Rattle.stream_text.specs.Source.{Held}
use Rattle.stream_text.proofs.Parts.{stretch_rest, stretch}
use Rattle.stream_text.proofs.line_source.LineSource.take_part.Goals as goal
use Rattle.stream_text.proofs.line_source.LineSource.take_part.Goals.{then-ended, else-ended}

pub returns : goal.returns
returns c =
    let from = c.self.inside.from in
    let to = c.self.inside.to in
    let items = c.self.inside.piece.items in
    let all : c.deref.result.now ≡ items = c.deref.ensures.value in
    let left = take (to - from) (drop from c.deref.result.now) in
    let taken = c.part_of-taken.result.0 in
    let held : left ≡ c.args.self.now.bytes =
    ap (λ l. take (to - from) (drop from l)) all ∙ stretch items from to c.self.invariant.0
    ∙ ap Held.bytes c.self.view_is in
    let line : c.extend_from_slice.new.self.items ≡ c.args.self.now.line ++ take taken left =
    c.in_ok-extend_from_slice.ensures.items
    ∙ ap (λ (l : List ℕ). l ++ take taken left) (ap Held.line c.self.view_is) in
    let len : c.len.result ≡ length c.args.self.now.line =
    omega (arith, c.len.ensures, ap length (ap Held.line c.self.view_is)) in
    elim c.if-ended.branch [
      | then-ended w ↦
          let part = c.part_of-taken.ensures.ended w.if-ended.true in
          let rest : drop (taken + 1) left ≡ drop (from + c.if-ended.self) (take to items) =
          ap (λ l. drop (taken + 1) (take (to - from) (drop from l))) all
          ∙ stretch_rest items from to (taken + 1) c.self.invariant.0
          ∙ ap (λ (k : ℕ). drop (from + k) (take to items)) (sym w.self-is) in
          record {
            part = (
              take taken left,
              rw (w.if-ended.true, sym held, sym rest, sym len) part.1,
              line,
            );
          }
      | else-ended w ↦
          let part = c.part_of-taken.ensures.more w.if-ended.false in
          let rest : drop taken left ≡ drop (from + c.if-ended.self) (take to items) =
          ap (λ l. drop taken (take (to - from) (drop from l))) all
          ∙ stretch_rest items from to taken c.self.invariant.0
          ∙ ap (λ (k : ℕ). drop (from + k) (take to items)) (sym w.self-is) in
          record {
            part = (take taken left, rw (w.if-ended.false, sym held, sym rest, sym len) part, line);
          }
    ]
