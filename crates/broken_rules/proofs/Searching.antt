-- Loops over the calls of a book.
use Rattle.std.proofs.Common.{◌≡◌, ◌⊎◌, ℕ, ◌+◌, ◌<◌, true, List, Some, slice_get, refl, sym, ap, subst, inl, inr, arith}
use Rattle.std.proofs.lemmas.Bool.{cases_eq, false≢true}
use Rattle.book_base.specs.declared.call.Call.{Call}
use Rattle.book_base.specs.Book.{Page}
use Rattle.book_base.proofs.ViewLemmas.{same_call}
use Rattle.seq_objects.specs.declared.kind.Kind.{Kind}
use Rattle.broken_rules.specs.declared.rule.BrokenRule.{BrokenRule}
use Rattle.broken_rules.specs.declared.rule.Rule.{Rule}
use Rattle.broken_rules.specs.declared.rule.Rule.TheVariants as named
use Rattle.broken_rules.specs.Rules.{is_of_one_call, relation_of, Related, Breaks, all_rules}

-- a property of the calls of all callers below one, and of this one's calls, is one of the calls of
-- the callers up to it
pub callers_more : (P : Call → Type 0) (i : ℕ) → ((call : Call) → call.caller < i → P call)
    → ((number : ℕ) → P (record { caller = i; number = number })) → (call : Call)
    → call.caller < i + 1 → P call
callers_more P i before here call below = elim (cases_eq call.caller i) [
  | inl same ↦
      subst P (same_call (record { caller = i; number = call.number }) call (sym same) refl)
      (here call.number)
  | inr other ↦ before call (omega (arith, below, other))
]

-- two calls are the same, or they aren't
pub cases_call : (a b : Call) → (a ≡ b) ⊎ (a ≡ b → ⊥)
cases_call a b = elim (cases_eq a.caller b.caller) [
  | inr other ↦ inr (λ (e : a ≡ b). other (ap (λ (c : Call). c.caller) e))
  | inl caller ↦ elim (cases_eq a.number b.number) [
    | inr other ↦ inr (λ (e : a ≡ b). other (ap (λ (c : Call). c.number) e))
    | inl number ↦ inl (same_call a b caller number)
  ]
]

-- a book that breaks a rule breaks the rule of that name
pub with_rule : (kind : Kind) (book : List Page) (broken : BrokenRule) (rule : Rule)
    → broken.rule ≡ rule → Breaks kind book broken
    → Breaks kind book (record { rule = rule; first = broken.first; second = broken.second })
with_rule kind book broken rule same breaks =
    subst (λ (r : Rule).
    Breaks kind book (record { rule = r; first = broken.first; second = broken.second })) same
    (record {
      first = breaks.first;
      second = breaks.second;
      kept = breaks.kept;
      fit = breaks.fit;
      related = breaks.related;
      puts = breaks.puts;
      takes = breaks.takes;
    })

-- each rule is among those that are tried
pub all_listed : (rule : Rule) → (k : ℕ) × (slice_get all_rules k ≡ Some rule)
all_listed named.NeverReplied = (0, refl)
all_listed named.TakenUnput = (1, refl)
all_listed named.CountedUnseen = (2, refl)
all_listed named.ReadUnwritten = (3, refl)
all_listed named.FoundUnput = (4, refl)
all_listed named.TakenTwice = (5, refl)
all_listed named.PassedOver = (6, refl)
all_listed named.TakenFromUnder = (7, refl)
all_listed named.LesserLeft = (8, refl)
all_listed named.FoundNothing = (9, refl)
all_listed named.CountedTwice = (10, refl)
all_listed named.CountedDown = (11, refl)
all_listed named.ReadOverwritten = (12, refl)
all_listed named.KeyMissed = (13, refl)
all_listed named.TakenTooOften = (14, refl)
all_listed named.LeftBehind = (15, refl)
all_listed named.ValueUnput = (16, refl)
all_listed named.ValueOverwritten = (17, refl)
all_listed named.SwappedTwice = (18, refl)

-- the two calls that break a rule of one call are the same call
pub of_one_call : (rule : Rule) (kind : Kind) (book : List Page) (first second : Call)
    → is_of_one_call rule ≡ true → Related kind book (relation_of rule) first second
    → first ≡ second
of_one_call named.NeverReplied kind book first second is related = related.0
of_one_call named.TakenUnput kind book first second is related = related
of_one_call named.CountedUnseen kind book first second is related = related.0
of_one_call named.ReadUnwritten kind book first second is related = related
of_one_call named.FoundUnput kind book first second is related = related
of_one_call named.TakenTooOften kind book first second is related = related.0
of_one_call named.ValueUnput kind book first second is related = related.0
of_one_call _ kind book first second is related = absurd (false≢true is)
