-- The rule of queues: a value that is put in first is taken first.
use Rattle.std.proofs.Common.{◌≡◌, ◌⊎◌, ◌∙◌, ℕ, ◌<◌, List, [], ◌++◌, length, filter_map, Some, sym, ap, inl, inr, slice_get, arith}
use Rattle.std.proofs.lemmas.Bool.{cases_lt}
use Rattle.std.proofs.lemmas.Option.{slice_get_within}
use Rattle.list_laws.proofs.Prefixes.{slice_get-append_within}
use Rattle.book_base.specs.declared.call.Call.{Call}
use Rattle.book_base.specs.SeqSpec.{SeqSpec}
use Rattle.book_base.specs.Book.{Page, IsCall, Precedes}
use Rattle.book_base.specs.Sequential.{IsRunFrom}
use Rattle.book_base.specs.Order.{HasLegalOrder}
use Rattle.book_base.specs.Reaching.{list_after_run}
use Rattle.legal_orders.specs.Container.{Reading, put_by, taken_by, IsQueue}
use Rattle.legal_orders.proofs.Ranks.{rank, shown_at_rank, found_at_rank, rank-grows, rank-more}
use Rattle.legal_orders.proofs.QueueRuns.{queue_gives_in_order}
use Rattle.legal_orders.proofs.Orders.{steps_of, answered_step, putting_step}
use Rattle.legal_orders.proofs.ContainerRules.{puts_by, takes_by}
use Rattle.legal_orders.specs.Deals as deals
use Rattle.legal_orders.specs.Deals.{deal_of}
use Rattle.legal_orders.proofs.Dealing.{puts_by_deal, takes_by_deal}
use Rattle.broken_rules.proofs.Standing.{preceding_comes_first, taker_of_step, putter_of_step}

-- From an empty queue, a value that is taken was put in, and whatever was put in before it is taken
-- before it.
queue_prefix : (reading : Reading) (next : List ℕ → ℕ → List ℕ × ℕ) → IsQueue reading next
    → (list : List ℕ) (steps : List (ℕ × ℕ)) → IsRunFrom next list steps → reading.values list ≡ []
    → (b m : ℕ) (step_m : ℕ × ℕ) → slice_get steps m ≡ Some step_m
    → taken_by reading step_m ≡ Some b
    → (k : ℕ) × (step : ℕ × ℕ) × (slice_get steps k ≡ Some step) × (put_by reading step ≡ Some b)
    × ((a j : ℕ) (step_j : ℕ × ℕ) → j < k → slice_get steps j ≡ Some step_j
    → put_by reading step_j ≡ Some a
    → (i : ℕ) × (step_i : ℕ × ℕ) × (i < m) × (slice_get steps i ≡ Some step_i)
    × (taken_by reading step_i ≡ Some a))
queue_prefix reading next is list steps run empty b m step_m at_m is_m =
    let puts : List ℕ = filter_map (put_by reading) steps in
    let taken : List ℕ = filter_map (taken_by reading) steps in
    let end : List ℕ = reading.values (list_after_run next list steps) in
    let order : puts ≡ taken ++ end = ap (λ (xs : List ℕ). xs ++ puts) (sym empty)
    ∙ queue_gives_in_order reading next is list steps run in
    let taken_m = shown_at_rank (taken_by reading) steps m step_m b at_m is_m in
    let inside : rank (taken_by reading) steps m < length taken =
    slice_get_within taken _ b taken_m in
    let put_b : slice_get puts (rank (taken_by reading) steps m) ≡ Some b
    = ap (λ (xs : List ℕ). slice_get xs (rank (taken_by reading) steps m)) order
    ∙ (slice_get-append_within taken end (rank (taken_by reading) steps m) inside ∙ taken_m) in
    let k = found_at_rank (put_by reading) steps (rank (taken_by reading) steps m) b put_b in (
      k.0,
      k.1,
      k.2,
      k.3,
      λ a j step_j lt at_j is_j.
          let less : rank (put_by reading) steps j < rank (put_by reading) steps k.0 =
          rank-more (put_by reading) steps j k.0 step_j a at_j is_j lt in
          let put_a = shown_at_rank (put_by reading) steps j step_j a at_j is_j in
          let early : rank (put_by reading) steps j < length taken =
          omega (arith, less, inside, k.4) in
          let there : slice_get taken (rank (put_by reading) steps j) ≡ Some a
          = sym (slice_get-append_within taken end (rank (put_by reading) steps j) early)
          ∙ (ap (λ (xs : List ℕ). slice_get xs (rank (put_by reading) steps j)) (sym order)
          ∙ put_a) in
          let i = found_at_rank (taken_by reading) steps (rank (put_by reading) steps j) a there in
          let before : i.0 < m = elim (cases_lt i.0 m) [
            | inl fine ↦ fine
            | inr ge ↦ let wrong = rank-grows (taken_by reading) steps m i.0 ge in
                absurd (omega (arith, wrong, less, k.4, i.4))
          ] in
          (i.0, i.1, before, i.2, i.3),
    )

-- A value that is put in before each put of another one is taken before that one: not each of its
-- takes comes after that one's.
pub passed_over : (reading : Reading) (spec : SeqSpec) (book : List Page)
    → IsQueue reading spec.next → reading.values spec.init ≡ [] → (v w : ℕ) (put taker : Call)
    → deal_of reading book put ≡ deals.Put v → deal_of reading book taker ≡ deals.Took w
    → ((call : Call) → IsCall book call → deal_of reading book call ≡ deals.Put w
    → Precedes book put call)
    → ((call : Call) → IsCall book call → (deal_of reading book call ≡ deals.Took v)
    ⊎ (deal_of reading book call ≡ deals.OpenTake) → Precedes book taker call)
    → ¬ HasLegalOrder spec book
passed_over reading spec book is none v w put taker puts takes later follow h =
    let order = h.0 in
    let legal = h.1 in
    let steps = steps_of book order in
    let m = answered_step reading spec book order legal taker (Some w)
    (takes_by_deal reading book taker w takes) in
    let prefix = queue_prefix reading spec.next is spec.init steps legal.run none w m.0 m.1 m.3
    (takes_by reading m.1 w m.4 m.5) in
    let putter =
    putter_of_step reading spec book order legal prefix.0 w prefix.1 prefix.2 prefix.3 in
    let q = preceding_comes_first spec book put putter.0
    (later putter.0 putter.2 putter.3) order legal prefix.0 putter.1 in
    let step =
    putting_step reading book order put v q.0 (puts_by_deal reading book put v puts) q.2 in
    let out = prefix.4 v q.0 step.0 q.1 step.1 (puts_by reading step.0 v step.2) in
    let other = taker_of_step reading spec book order legal out.0 v out.1 out.3 out.4 in
    let late : m.0 < out.0 =
    legal.precedence m.0 out.0 taker other.0 m.2 other.1 (follow other.0 other.2 other.3) in
    absurd (omega (arith, late, out.2))
