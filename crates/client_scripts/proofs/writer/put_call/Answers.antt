use Rattle.std.proofs.Common.{◌≡◌, ℕ, List, [], ◌∷◌, ◌++◌, decimal, ap, ◌∙◌}
use Rattle.std.specs.Prelude.{slice_index}
use Rattle.seq_objects.specs.Words.{operation_words}
use Rattle.book_text.specs.Fields.{spaced}
use Rattle.book_text.proofs.WrittenLines.{first_word, more_word, more_words, line_ends}
use Rattle.client_scripts.specs.Plans.{operations_of}
use Rattle.client_scripts.proofs.Written.{value_at}
use Rattle.client_scripts.proofs.writer.put_call.Goals as goal

pub returns : goal.returns
returns c =
    let old : List ℕ = c.args.out.now.items in
    let m1 : List ℕ = c.put_number.new.out.items in
    let m2 : List ℕ = c.put_spaced.new.out.items in
    let m3 : List ℕ = c.put_operation.new.out.items in
    let kind = c.args.script.now.kind in
    let call = c.args.call in
    let op : ℕ = slice_index (operations_of c.args.script.now call.caller) call.number in
    let is : c.op.result ≡ op =
    value_at (operations_of c.args.script.now call.caller) call.number c.op.result c.op.ensures in
    let e1 : m1 ≡ old ++ decimal call.caller =
    c.in_ok-put_number.ensures.ok ∙ ap (λ (n : ℕ). old ++ decimal n) c.from.ensures in
    let e3 : m3 ≡ m2 ++ spaced (operation_words kind op) = c.in_ok-put_operation.ensures
    ∙ ap (λ k. m2 ++ spaced (operation_words k c.op.result)) c.kind.ensures
    ∙ ap (λ (w : ℕ). m2 ++ spaced (operation_words kind w)) is in
    let l2 = more_word old m1 m2 (decimal call.caller) [] (decimal call.number)
    (first_word old m1 (decimal call.caller) e1) c.in_ok-put_spaced.ensures in
    let l3 = more_words old m2 m3 (decimal call.caller) (decimal call.number ∷ [])
    (operation_words kind op) l2 e3 in
    line_ends old m3 c.push.new.self.items (decimal call.caller)
    (decimal call.number ∷ operation_words kind op) l3 c.in_ok-push.ensures.items
