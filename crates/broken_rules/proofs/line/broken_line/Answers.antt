use Rattle.std.proofs.Common.{◌≡◌, ◌∙◌, ℕ, List, ◌++◌, ap}
use Rattle.broken_rules.specs.declared.tally.Tally.{Tally}
use Rattle.broken_rules.specs.Deeds.{did, value_by, value_at, taken_at}
use Rattle.seq_objects.specs.Replies.{value_of}
use Rattle.broken_rules.specs.Tallies.{tally_of}
use Rattle.broken_rules.specs.Entries.{shown_at}
use Rattle.broken_rules.specs.Texts.{more_of, fewer_of, rule_text}
use Rattle.broken_rules.proofs.line.broken_line.Goals as goal

pub returns : goal.returns
returns c =
    let kind = c.args.kind in
    let book = c.args.book.now in
    let broken = c.args.broken in
    let text : ℕ → ℕ → ℕ → ℕ → List ℕ =
    λ value other more fewer. rule_text broken.rule broken.first value broken.second other more
    fewer (value_of (shown_at book broken.second)) in
    let count : Tally → ℕ → ℕ =
    λ tally value. tally_of (did kind book) book tally value broken.second in
    let own : ℕ = value_at kind book broken.first in
    let taken : ℕ = taken_at kind book broken.second in
    let value : c.value-value.result ≡ own = c.value-value.ensures ∙ ap value_by c.act_of.ensures in
    let other : c.value-other.result ≡ taken =
    c.value-other.ensures ∙ ap value_by c.taking_of.ensures in
    let more : c.tally_of-more.result ≡ count (more_of broken.rule) own =
    c.tally_of-more.ensures.count
    ∙ (ap (λ (t : Tally). count t c.value-value.result) c.more.ensures
    ∙ ap (count (more_of broken.rule)) value) in
    let fewer : c.tally_of-fewer.result ≡ count (fewer_of broken.rule) own =
    c.tally_of-fewer.ensures.count
    ∙ (ap (λ (t : Tally). count t c.value-value.result) c.fewer.ensures
    ∙ ap (count (fewer_of broken.rule)) value) in
    let lacking : ℕ → List ℕ = λ shown. rule_text broken.rule broken.first c.value-value.result
    broken.second c.value-other.result c.tally_of-more.result c.tally_of-fewer.result shown in
    c.in_ok-put_rule.ensures
    ∙ (ap (λ (n : ℕ). c.new-line.result.items ++ lacking (value_of n)) c.shown_at-shown.ensures
    ∙ (ap (λ (xs : List ℕ). xs ++ lacking (value_of (shown_at book broken.second)))
    c.new-line.ensures.items
    ∙ (ap (λ (v : ℕ).
    text v c.value-other.result c.tally_of-more.result c.tally_of-fewer.result) value
    ∙ (ap (λ (v : ℕ). text own v c.tally_of-more.result c.tally_of-fewer.result) other
    ∙ (ap (λ (m : ℕ). text own taken m c.tally_of-fewer.result) more
    ∙ ap (text own taken (count (more_of broken.rule) own)) fewer)))))
