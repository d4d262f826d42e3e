use Rattle.std.proofs.Common.{◌≡◌, ℕ, List, [], ◌++◌, sym, ap, ◌∙◌}
use Rattle.std.specs.Prelude.{codes}
use Rattle.book_base.specs.Book.{operation_of}
use Rattle.seq_objects.specs.Words.{operation_words}
use Rattle.book_text.specs.CallLines.{place_words}
use Rattle.book_text.specs.Fields.{spaced}
use Rattle.book_text.specs.Sketches.{call_operation}
use Rattle.book_text.proofs.WrittenLines.{first_word, more_words, line_ends}
use Rattle.book_text.proofs.Texts.{value_is}
use Rattle.book_text.proofs.sketch_text.put_invocation.Goals as goal

pub returns : goal.returns
returns c =
    let old : List ℕ = c.args.out.now.items in
    let m1 : List ℕ = c.extend_from_slice.new.self.items in
    let m2 : List ℕ = c.put_place.new.out.items in
    let m3 : List ℕ = c.put_operation.new.out.items in
    let name : List ℕ = codes "call" in
    let place : List (List ℕ) = place_words c.args.call in
    let ops : List (List ℕ) =
    operation_words c.args.kind (call_operation c.args.book.now c.args.call) in
    let op = value_is (operation_of c.args.book.now c.args.call) c.op.result 0 c.op.ensures in
    let e3 : m3 ≡ m2 ++ spaced ops = c.in_ok-put_operation.ensures
    ∙ ap (λ (w : ℕ). m2 ++ spaced (operation_words c.args.kind w)) (sym op) in
    let l2 = more_words old m1 m2 name [] place
    (first_word old m1 name c.in_ok-extend_from_slice.ensures.items) c.in_ok-put_place.ensures in
    line_ends old m3 c.push.new.self.items name (place ++ ops)
    (more_words old m2 m3 name place ops l2 e3) c.in_ok-push.ensures.items
