use Rattle.std.proofs.Common.{◌≡◌, ℕ, List, [], codes}
use Rattle.book_text.proofs.WrittenLines.{first_word, more_words, line_ends}
use Rattle.selfcheck.specs.Orders.{fault_words, order_fault_text}
use Rattle.selfcheck.proofs.order_fault.fault_text.Goals as goal

pub returns : goal.returns
unfolding order_fault_text
returns c =
    let m1 : List ℕ = c.in_ok-out.out.items in
    let m2 : List ℕ = c.put_words.new.out.items in
    let word : List ℕ = codes "fault" in
    let words : List (List ℕ) = fault_words c.args.fault in
    let e1 : m1 ≡ word = c.in_ok-out.ensures.items_if_clones_equal (λ x y h. h) in
    line_ends [] m2 c.push.new.self.items word words
    (more_words [] m1 m2 word [] words (first_word [] m1 word e1) c.in_ok-put_words.ensures)
    c.in_ok-push.ensures.items
