-- The rules that objects keep, and how two calls of a book break them.
use Rattle.std.specs.Prelude.{◌≡◌, ◌≢◌, ℕ, ◌<◌, ◌≤◌, ◌==◌, ◌&&◌, ◌||◌, nat_lt, not, Bool, true, false, List, [], ◌∷◌, sum, IsSomeAnd, unwrap_or}
use Rattle.book_base.specs.declared.call.Call.{Call}
use Rattle.book_base.specs.Book.{Page, operation_of, record_of, IsCall, IsSmall, Precedes}
use Rattle.book_base.specs.Order.{HasLegalOrder}
use Rattle.book_base.specs.Reaching.{MayReply}
use Rattle.legal_orders.specs.Deals.{Deal}
use Rattle.legal_orders.specs.Deals as deals
use Rattle.seq_objects.specs.declared.kind.Kind.{Kind}
use Rattle.seq_objects.specs.declared.kind.Kind.TheVariants as kinds
use Rattle.seq_objects.specs.Objects.{kind_next, kind_spec}
use Rattle.broken_rules.specs.declared.demand.Demand.{Demand}
use Rattle.broken_rules.specs.declared.demand.Demand.TheVariants as demands
use Rattle.broken_rules.specs.declared.rule.Relation.{Relation}
use Rattle.broken_rules.specs.declared.rule.Relation.TheVariants as relations
use Rattle.broken_rules.specs.declared.rule.Rule.{Rule}
use Rattle.broken_rules.specs.declared.rule.Rule.TheVariants as rules
use Rattle.broken_rules.specs.declared.rule.BrokenRule.{BrokenRule}
use Rattle.broken_rules.specs.Deeds.{is_keyed, is_cas_register, did, took, value_by, value_at, taken_at, is_put, is_take, is_nothing}
use Rattle.broken_rules.specs.Demands.{Missed, AllMeet}
use Rattle.broken_rules.specs.declared.tally.Tally.{Tally}
use Rattle.broken_rules.specs.declared.tally.Tally.TheVariants as tallies
use Rattle.broken_rules.specs.Tallies.{tally_of}
use Rattle.broken_rules.specs.Entries.{shown_at, ShowsEntry, ExcludesEntry}

-- Whether a kind's objects hold what is put in until it is taken out.
abbrev pub holds_values : Kind → Bool
holds_values kinds.Queue = true
holds_values kinds.Stack = true
holds_values kinds.Pqueue = true
holds_values _ = false

-- Whether a kind's objects are queues.
abbrev pub is_queue : Kind → Bool
is_queue kinds.Queue = true
is_queue _ = false

-- Whether a kind's objects are stacks.
abbrev pub is_stack : Kind → Bool
is_stack kinds.Stack = true
is_stack _ = false

-- Whether a kind's objects are priority queues.
abbrev pub is_pqueue : Kind → Bool
is_pqueue kinds.Pqueue = true
is_pqueue _ = false

-- Whether a kind's objects are counters.
abbrev pub is_counter : Kind → Bool
is_counter kinds.Counter = true
is_counter _ = false

-- Whether a kind's objects are registers, with compare-and-set or without.
abbrev pub is_register : Kind → Bool
is_register kinds.Register = true
is_register kinds.CasRegister = true
is_register _ = false

-- Whether a kind's objects are maps.
abbrev pub is_map : Kind → Bool
is_map kinds.Map = true
is_map _ = false

-- Whether the objects of a kind keep a rule.
abbrev pub keeps : Kind → Rule → Bool
keeps kind rules.NeverReplied = true
keeps kind rules.TakenUnput = holds_values kind
keeps kind rules.TakenTwice = holds_values kind
keeps kind rules.FoundNothing = holds_values kind
keeps kind rules.PassedOver = is_queue kind
keeps kind rules.TakenFromUnder = is_stack kind
keeps kind rules.LesserLeft = is_pqueue kind
keeps kind rules.CountedUnseen = is_counter kind
keeps kind rules.CountedTwice = is_counter kind
keeps kind rules.CountedDown = is_counter kind
keeps kind rules.ReadUnwritten = is_register kind
keeps kind rules.ReadOverwritten = is_register kind
keeps kind rules.FoundUnput = is_keyed kind
keeps kind rules.KeyMissed = is_keyed kind
keeps kind rules.TakenTooOften = holds_values kind
keeps kind rules.LeftBehind = holds_values kind
keeps kind rules.ValueUnput = is_map kind
keeps kind rules.ValueOverwritten = is_map kind
keeps kind rules.SwappedTwice = is_cas_register kind

-- Whether two calls may break a rule, of which the first one did `first` and the second one took
-- `second`.
abbrev pub fits : Rule → Deal → Deal → Bool
-- the two calls may have done anything
fits rules.NeverReplied first second = true
-- the first call takes a value
fits rules.TakenUnput first second = is_take first
-- the second call takes the value that the first one puts in
fits rules.TakenTwice first second =
    is_put first && is_take second && (value_by first == value_by second)
-- the first call puts a value in, and the second one finds nothing
fits rules.FoundNothing first second = is_put first && is_nothing second
-- the first call puts a value in, and the second one takes a value
fits rules.PassedOver first second = is_put first && is_take second
fits rules.TakenFromUnder first second = is_put first && is_take second
-- the first call puts in a value that is less than the one that the second call takes
fits rules.LesserLeft first second =
    is_put first && is_take second && nat_lt (value_by first) (value_by second)
-- the first call replies a count
fits rules.CountedUnseen first second = is_take first
-- both calls reply the same count
fits rules.CountedTwice first second =
    is_take first && is_take second && (value_by first == value_by second)
-- the second call replies a lower count than the first one
fits rules.CountedDown first second =
    is_take first && is_take second && nat_lt (value_by second) (value_by first)
-- the one call reads a value other than 0
fits rules.ReadUnwritten first second = is_take second && not (value_by second == 0)
-- the first call writes a value, and the second one reads a value
fits rules.ReadOverwritten first second = is_put first && is_take second
-- the first call finds its key
fits rules.FoundUnput first second = is_take first
-- the first call puts its key in, or finds it
fits rules.KeyMissed first second = is_put first || is_take first
-- the one call takes a value
fits rules.TakenTooOften first second = is_take first
-- the first call puts a value in, and the second one finds nothing
fits rules.LeftBehind first second = is_put first && is_nothing second
-- the one call, or the second one, finds its key
fits rules.ValueUnput first second = is_take first
fits rules.ValueOverwritten first second = is_take second
-- the first call writes a value, and the second one finds a value
fits rules.SwappedTwice first second = is_put first && is_take second

-- Whether a rule is broken by one call, which then stands as both of its calls.
abbrev pub is_of_one_call : Rule → Bool
is_of_one_call rules.NeverReplied = true
is_of_one_call rules.TakenUnput = true
is_of_one_call rules.CountedUnseen = true
is_of_one_call rules.ReadUnwritten = true
is_of_one_call rules.FoundUnput = true
is_of_one_call rules.TakenTooOften = true
is_of_one_call rules.ValueUnput = true
is_of_one_call _ = false

-- What a rule asks of the calls that put values in, as a demand about the rule's two calls.
abbrev pub puts_demand : Rule → Demand
puts_demand rules.TakenUnput = demands.OwnPutsFollow
puts_demand rules.TakenTwice = demands.OnlyPut
puts_demand rules.PassedOver = demands.OtherPutsFollow
puts_demand rules.TakenFromUnder = demands.OtherPutsOutside
puts_demand rules.ReadUnwritten = demands.OwnPutsFollow
puts_demand rules.FoundUnput = demands.OwnPutsFollow
puts_demand rules.ReadOverwritten = demands.OtherPutsOutside
puts_demand rules.ValueUnput = demands.EntryPutsFollow
puts_demand rules.ValueOverwritten = demands.EntryPutsOutside
puts_demand rules.SwappedTwice = demands.OtherPutsBeside
puts_demand _ = demands.Nothing

-- What a rule asks of the calls that take values, as a demand about the rule's two calls.
abbrev pub takes_demand : Rule → Demand
takes_demand rules.FoundNothing = demands.TakesFollow
takes_demand rules.PassedOver = demands.TakesFollow
takes_demand rules.TakenFromUnder = demands.TakesFollow
takes_demand rules.LesserLeft = demands.TakesFollow
takes_demand rules.KeyMissed = demands.RemovalsOutside
takes_demand _ = demands.Nothing

-- How two calls that break a rule are related.
abbrev pub relation_of : Rule → Relation
relation_of rules.NeverReplied = relations.NeverReplied
relation_of rules.TakenUnput = relations.Same
relation_of rules.TakenTwice = relations.TakenByAnother
relation_of rules.FoundNothing = relations.Before
relation_of rules.PassedOver = relations.Any
relation_of rules.TakenFromUnder = relations.Before
relation_of rules.LesserLeft = relations.Before
relation_of rules.CountedUnseen = relations.Unseen
relation_of rules.CountedTwice = relations.Apart
relation_of rules.CountedDown = relations.Before
relation_of rules.ReadUnwritten = relations.Same
relation_of rules.ReadOverwritten = relations.Before
relation_of rules.FoundUnput = relations.Same
relation_of rules.KeyMissed = relations.MissedAfter
relation_of rules.TakenTooOften = relations.TakenMore
relation_of rules.LeftBehind = relations.LeftOver
relation_of rules.ValueUnput = relations.ShowsEntry
relation_of rules.ValueOverwritten = relations.Excluded
relation_of rules.SwappedTwice = relations.BothSwap

-- A call is answered, and its view holds at most `most` calls, the call itself among them.
abbrev pub SeesAtMost : List Page → Call → ℕ → Type 0
SeesAtMost book call most = IsSomeAnd (record_of book call) (λ r. sum r.view ≤ most)

-- A call is answered, and the object gives its reply to its operation at no list.
abbrev pub HasImpossibleReply : Kind → List Page → Call → Type 0
HasImpossibleReply kind book call = IsSomeAnd (record_of book call)
    (λ r. ¬ MayReply (kind_next kind) (unwrap_or (operation_of book call) 0) r.reply)

-- For the value of the call `valued` and the call `last`, more calls of a book are counted by one
-- tally than by another one.
abbrev pub CountsMore : Kind → List Page → Tally → Tally → Call → Call → Type 0
CountsMore kind book more fewer valued last =
    tally_of (did kind book) book fewer (value_at kind book valued) last
    < tally_of (did kind book) book more (value_at kind book valued) last

-- Two calls of a book are related as a relation of rules says.
abbrev pub Related : Kind → List Page → Relation → Call → Call → Type 0
-- the two calls are the same call
Related kind book relations.Same first second = first ≡ second
-- the two calls are the same call, whose reply the object gives to its operation at no list
Related kind book relations.NeverReplied first second =
    (first ≡ second) × HasImpossibleReply kind book first
-- the two calls are the same call, whose view holds no more calls than the count that it replies
Related kind book relations.Unseen first second =
    (first ≡ second) × SeesAtMost book first (value_at kind book first)
-- the two calls are different calls
Related kind book relations.Apart first second = first ≢ second
-- the first call precedes the second one
Related kind book relations.Before first second = Precedes book first second
-- another call takes the value that the second one takes
Related kind book relations.TakenByAnother first second =
    ¬ AllMeet kind book demands.OnlyTake first second
-- the first call precedes the second one, which missed the key of the first one
Related kind book relations.MissedAfter first second =
    Precedes book first second × Missed kind book (value_at kind book first) second
-- the two calls are the same call, by whose reply more calls have taken its value than may have put
-- it in
Related kind book relations.TakenMore first second =
    (first ≡ second) × CountsMore kind book tallies.TakenBy tallies.PutBy first second
-- the first call precedes the second one, before which more calls put the first one's value in than
-- may have taken it by the second one's reply
Related kind book relations.LeftOver first second = Precedes book first second
    × CountsMore kind book tallies.PutBefore tallies.TakableBy first second
-- the two calls are the same call, which shows an entry
Related kind book relations.ShowsEntry first second =
    (first ≡ second) × ShowsEntry book first
-- the first call precedes the second one, and the entry that the second one shows isn't there after
-- the first one
Related kind book relations.Excluded first second = Precedes book first second
    × (ShowsEntry book second × ExcludesEntry book (shown_at book second) first)
-- the two calls are different calls, which find the same value, and the second one writes a value
Related kind book relations.BothSwap first second = (first ≢ second)
    × ((took kind book first ≡ deals.Took (taken_at kind book second))
    × (is_put (did kind book second) ≡ true))
-- the relation `Any` asks nothing
Related kind book relations.Any first second = Unit {0}

-- A book of an object of a kind breaks a rule by two of its calls.
pub record Breaks (kind : Kind) (book : List Page) (broken : BrokenRule) : Type 0 where
  -- the two calls are calls of the book
  pub first : IsCall book broken.first
  pub second : IsCall book broken.second
  -- the objects of the kind keep the rule
  pub kept : keeps kind broken.rule ≡ true
  -- the two calls did what `fits` asks of calls that break the rule
  pub fit : fits broken.rule (did kind book broken.first) (took kind book broken.second) ≡ true
  -- the two calls are related as the rule says
  pub related : Related kind book (relation_of broken.rule) broken.first broken.second
  -- all calls of the book meet the rule's demand on puts, and its demand on takes
  pub puts : AllMeet kind book (puts_demand broken.rule) broken.first broken.second
  pub takes : AllMeet kind book (takes_demand broken.rule) broken.first broken.second

-- A book that breaks a rule has no legal order, where it has no more callers and calls than a book
-- may have.
abbrev pub WhatBreaksIsIllegal : Type 0
WhatBreaksIsIllegal = (kind : Kind) (book : List Page) (broken : BrokenRule) → IsSmall book
    → Breaks kind book broken
    → ¬ HasLegalOrder (kind_spec kind) book

-- All rules, in the order in which they are tried.
abbrev pub all_rules : List Rule
all_rules =
    rules.NeverReplied ∷ rules.TakenUnput ∷ rules.CountedUnseen ∷ rules.ReadUnwritten
    ∷ rules.FoundUnput ∷ rules.TakenTwice ∷ rules.PassedOver ∷ rules.TakenFromUnder
    ∷ rules.LesserLeft ∷ rules.FoundNothing ∷ rules.CountedTwice ∷ rules.CountedDown
    ∷ rules.ReadOverwritten ∷ rules.KeyMissed ∷ rules.TakenTooOften ∷ rules.LeftBehind
    ∷ rules.ValueUnput ∷ rules.ValueOverwritten ∷ rules.SwappedTwice ∷ []
