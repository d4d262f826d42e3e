use Rattle.std.proofs.Common.{◌≡◌, ℕ, List, insert, remove, sym, ap, ◌∙◌}
use Rattle.book_base.specs.State.{Contents}
use Rattle.seq_objects.specs.MapSteps.{item_of, place_of_key, put_in}
use Rattle.seq_objects.proofs.MapPlaces.{put_in-there}
use Rattle.seq_objects.proofs.map.put.Goals as goal

pub returns-clause-list : goal.returns-clause-list
returns-clause-list c =
    let list : List ℕ = c.args.state.now.words in
    let there = put_in-there list c.args.key c.args.value c.in-Some.place c.remove-old.result
    (ap (λ ws. place_of_key ws c.args.key) (sym c.words.ensures) ∙ sym c.in-Some.ensures)
    c.remove-old.ensures.word in
    let words : insert (remove list c.in-Some.place) c.in-Some.place
    (item_of c.args.key c.args.value) ≡ (put_in list c.args.key c.args.value).0 =
    sym (ap (λ (next : List ℕ × ℕ). next.0) there) in
    let next : List ℕ → Contents = λ ws. record { words = ws; room = c.args.state.now.room } in
    rw (c.insert.ensures, c.remove-old.ensures.rest, c.item_of-item.ensures) (ap next words)

pub returns-clause-reply : goal.returns-clause-reply
returns-clause-reply c =
    let list : List ℕ = c.args.state.now.words in
    let there = put_in-there list c.args.key c.args.value c.in-Some.place c.remove-old.result
    (ap (λ ws. place_of_key ws c.args.key) (sym c.words.ensures) ∙ sym c.in-Some.ensures)
    c.remove-old.ensures.word in
    c.wrapping_value_reply.ensures ∙ sym (ap (λ (next : List ℕ × ℕ). next.1) there)
