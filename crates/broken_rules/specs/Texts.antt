-- The text of a broken rule: one line in plain words.
use Rattle.std.specs.Prelude.{ℕ, List, ◌++◌, codes, decimal}
use Rattle.book_base.specs.declared.call.Call.{Call}
use Rattle.book_base.specs.Book.{Page}
use Rattle.seq_objects.specs.declared.kind.Kind.{Kind}
use Rattle.broken_rules.specs.declared.rule.Rule.{Rule}
use Rattle.broken_rules.specs.declared.rule.Rule.TheVariants as rules
use Rattle.broken_rules.specs.declared.rule.BrokenRule.{BrokenRule}
use Rattle.broken_rules.specs.declared.tally.Tally.{Tally}
use Rattle.broken_rules.specs.declared.tally.Tally.TheVariants as tallies
use Rattle.seq_objects.specs.Replies.{value_of}
use Rattle.broken_rules.specs.Tallies.{tally_of}
use Rattle.broken_rules.specs.Entries.{shown_at}
use Rattle.broken_rules.specs.Deeds.{did, value_at, taken_at}

-- a call by its caller and its number, as in the text of a book
abbrev pub call_text : Call → List ℕ
call_text call = codes "call " ++ decimal call.caller ++ codes " " ++ decimal call.number

-- the text of what is said of one call
abbrev pub plain_text : Call → List ℕ → List ℕ
plain_text first end = call_text first ++ end

-- the text of what one call did with a value, and what is said of that
abbrev pub one_text : Call → List ℕ → ℕ → List ℕ → List ℕ
one_text first deed value end = call_text first ++ deed ++ decimal value ++ end

-- the text of what one call did with a value, and what another call did
abbrev pub two_text : Call → List ℕ → ℕ → List ℕ → Call → List ℕ → List ℕ
two_text first deed value middle second end =
    one_text first deed value middle ++ call_text second ++ end

-- the text of what two calls did with two values
abbrev pub both_text : Call → List ℕ → ℕ → List ℕ → Call → List ℕ → ℕ → List ℕ → List ℕ
both_text first deed value middle second verb other end =
    two_text first deed value middle second verb ++ decimal other ++ end

-- the text of what is said of two counts
abbrev pub counts_text : ℕ → List ℕ → ℕ → List ℕ → List ℕ
counts_text more middle fewer end = decimal more ++ middle ++ decimal fewer ++ end

-- the text of a call that took a value, and of how many took it and may have put it in
abbrev pub often_text : Call → ℕ → ℕ → ℕ → List ℕ
often_text first value more fewer =
    one_text first (codes " took ") value (codes ", which ") ++ counts_text more
    (codes " calls had taken by then, and only ") fewer (codes " may have put in\n")

-- the text of two calls, of which one put a value in and the other one found nothing, and of how
-- many put it in and may have taken it
abbrev pub behind_text : Call → ℕ → Call → ℕ → ℕ → List ℕ
behind_text first value second more fewer =
    two_text first (codes " put ") value (codes " in, yet ") second
    (codes " found nothing, after ")
    ++ counts_text more (codes " calls had put it in, and only ") fewer
    (codes " may have taken it\n")

-- the text of what one call did with a value and a key, and what is said of that
abbrev pub entry_text : Call → List ℕ → ℕ → List ℕ → ℕ → List ℕ → List ℕ
entry_text call deed value middle key end =
    one_text call deed value middle ++ decimal key ++ end

-- the text of two calls, of which the second one found a value under a key that was gone after the
-- first one
abbrev pub overwritten_text : Call → Call → ℕ → ℕ → List ℕ
overwritten_text first second value key =
    call_text first ++ codes " came before "
    ++ entry_text second (codes ", which found ") value (codes " under key ") key
    (codes ", though this value was gone by then\n")

-- the tally whose count is the greater one where two calls break a rule of counts
abbrev pub more_of : Rule → Tally
more_of rules.LeftBehind = tallies.PutBefore
more_of _ = tallies.TakenBy

-- the tally whose count is the lesser one where two calls break a rule of counts
abbrev pub fewer_of : Rule → Tally
fewer_of rules.LeftBehind = tallies.TakableBy
fewer_of _ = tallies.PutBy

-- the line that says that two calls break a rule, with the value of what the first one did and of
-- what the second one took, with the greater and the lesser count of a rule of counts, and with the
-- value that the second one shows where it is a call of a map; of a rule of one call it names the
-- first call alone
unfoldable pub rule_text : Rule → Call → ℕ → Call → ℕ → ℕ → ℕ → ℕ → List ℕ
rule_text rules.NeverReplied first value second other more fewer shown =
    plain_text first (codes " has a reply that the object never gives to its operation\n")
rule_text rules.TakenUnput first value second other more fewer shown =
    one_text first (codes " took ") value (codes ", which no call had put in before\n")
rule_text rules.TakenTwice first value second other more fewer shown =
    two_text first (codes " alone put ") value (codes " in, yet it was taken by ") second
    (codes " and by another call\n")
rule_text rules.FoundNothing first value second other more fewer shown =
    two_text first (codes " put ") value (codes " in, yet ") second
    (codes " found nothing while it was there\n")
rule_text rules.PassedOver first value second other more fewer shown =
    both_text first (codes " put ") value (codes " in first, yet ") second (codes " took ") other
    (codes " while it was there\n")
rule_text rules.TakenFromUnder first value second other more fewer shown =
    both_text first (codes " put ") value (codes " in last, yet ") second (codes " took ") other
    (codes " while it was there\n")
rule_text rules.LesserLeft first value second other more fewer shown =
    both_text first (codes " put ") value (codes " in, yet ") second (codes " took ") other
    (codes ", which is greater, while it was there\n")
rule_text rules.CountedUnseen first value second other more fewer shown =
    one_text first (codes " counted ") value
    (codes ", though fewer other calls had begun before its reply\n")
rule_text rules.CountedTwice first value second other more fewer shown =
    two_text first (codes " counted ") value (codes ", and so did ") second (codes "\n")
rule_text rules.CountedDown first value second other more fewer shown =
    both_text first (codes " counted ") value (codes ", and after it ") second
    (codes " counted ") other (codes "\n")
rule_text rules.ReadUnwritten first value second other more fewer shown =
    one_text first (codes " read ") other (codes ", which no call had written before\n")
rule_text rules.ReadOverwritten first value second other more fewer shown =
    both_text first (codes " wrote ") value (codes ", and after it ") second (codes " read ") other
    (codes ", which was written over\n")
rule_text rules.FoundUnput first value second other more fewer shown =
    one_text first (codes " found ") value (codes ", which no call had put in before\n")
rule_text rules.KeyMissed first value second other more fewer shown =
    two_text first (codes " left ") value (codes " in, yet ") second
    (codes " missed it while it was there\n")
rule_text rules.TakenTooOften first value second other more fewer shown =
    often_text first value more fewer
rule_text rules.LeftBehind first value second other more fewer shown =
    behind_text first value second more fewer
rule_text rules.ValueUnput first value second other more fewer shown =
    entry_text first (codes " found ") shown (codes " under key ") value
    (codes ", which no call had put there before\n")
rule_text rules.ValueOverwritten first value second other more fewer shown =
    overwritten_text first second shown other
rule_text rules.SwappedTwice first value second other more fewer shown =
    two_text first (codes " replaced ") other (codes ", and so did ") second
    (codes ", though no call wrote it in between\n")

-- the line that says by which calls a book breaks a rule
abbrev pub broken_text : Kind → List Page → BrokenRule → List ℕ
broken_text kind book broken =
    let value = value_at kind book broken.first in
    let count : Tally → ℕ = λ tally. tally_of (did kind book) book tally value broken.second in
    rule_text broken.rule broken.first value broken.second (taken_at kind book broken.second)
    (count (more_of broken.rule)) (count (fewer_of broken.rule))
    (value_of (shown_at book broken.second))
