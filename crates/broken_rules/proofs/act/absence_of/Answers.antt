use Rattle.std.proofs.Common.{ℕ, ◌∙◌, Bool, Option, unwrap_or, sym, ap}
use Rattle.book_base.specs.Book.{record_of}
use Rattle.broken_rules.specs.Deeds as deeds
use Rattle.broken_rules.specs.Deeds.{deal_on_key, absence_by_word}
use Rattle.broken_rules.proofs.act.absence_of.Goals as goal

pub returns : goal.returns
returns c =
    let kind = c.args.kind in
    let book = c.args.book.now in
    let call = c.args.call in
    let op : ℕ = c.op-op.result in
    let key : Option ℕ = deeds.key_of_word kind op in
    let missed : Bool = deeds.has_missed kind op (record_of book call) in
    c.act_on_key.ensures
    ∙ (ap
    (λ (o : Option ℕ). deal_on_key o c.has_missed-missed.result c.takes_key_out-takes.result)
    c.key_of_word-key.ensures
    ∙ (ap (λ (b : Bool). deal_on_key key b c.takes_key_out-takes.result)
    c.has_missed-missed.ensures
    ∙ (ap (λ (b : Bool). deal_on_key key missed b) c.takes_key_out-takes.ensures
    ∙ ap (λ (o : Option ℕ). absence_by_word kind book call (unwrap_or o 0))
    (sym c.op-op.ensures))))
