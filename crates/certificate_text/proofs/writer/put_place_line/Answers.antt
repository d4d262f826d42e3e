use Rattle.std.proofs.Common.{◌≡◌, ℕ, List, [], ◌∷◌, ◌++◌, decimal, ap, ◌∙◌}
use Rattle.seq_objects.specs.Replies.{reply_word}
use Rattle.book_text.proofs.WrittenLines.{first_word, more_word, line_ends, both_pieces}
use Rattle.certificate_text.proofs.writer.put_place_line.Goals as goal

pub returns-clause-ok : goal.returns-clause-ok
returns-clause-ok c =
    let old : List ℕ = c.args.out.now.items in
    let m1 : List ℕ = c.put_number.new.out.items in
    let m2 : List ℕ = c.put_spaced.new.out.items in
    let m3 : List ℕ = c.push.new.self.items in
    let m4 : List ℕ = c.put_reply.new.out.items in
    let caller : List ℕ = decimal c.args.place.caller in
    let number : List ℕ = decimal c.args.place.number in
    let reply : List ℕ = reply_word c.args.place.reply in
    let e1 : m1 ≡ old ++ caller =
    c.in_ok-put_number.ensures.ok ∙ ap (λ (n : ℕ). old ++ decimal n) c.from.ensures in
    let l2 =
    more_word old m1 m2 caller [] number (first_word old m1 caller e1) c.in_ok-put_spaced.ensures in
    let e4 : m4 ≡ m2 ++ 32 ∷ reply =
    both_pieces m2 m3 m4 (32 ∷ []) reply c.in_ok-push.ensures.items c.in_ok-put_reply.ensures.ok in
    let l4 = more_word old m2 m4 caller (number ∷ []) reply l2 e4 in
    line_ends old m4 c.push-2.new.self.items caller
    (number ∷ reply ∷ []) l4 c.in_ok-push-2.ensures.items
