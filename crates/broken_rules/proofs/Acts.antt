-- What the tests of deals decide.
use Rattle.std.proofs.Common.{◌≡◌, ◌↔◌, ◌⊎◌, ◌∙◌, ℕ, Bool, true, false, not, ◌&&◌, ◌||◌, ◌==◌, List, Option, Some, None, refl, sym, ap, subst, inl, inr}
use Rattle.std.proofs.lemmas.Bool.{false≢true, both_ways, not-true, not_from_false, false_from_ne_true, eqb-true, eq-eqb, or_cases, or_left}
use Rattle.book_base.specs.declared.call.Call.{Call}
use Rattle.book_base.specs.declared.call.Record.{Record}
use Rattle.book_base.specs.Book.{Page, record_of}
use Rattle.legal_orders.specs.Container.{Reading}
use Rattle.legal_orders.specs.Deals.{Deal}
use Rattle.legal_orders.specs.Deals as deals
use Rattle.legal_orders.specs.Deals.{shown_deal, recorded_deal, take_of}
use Rattle.seq_objects.specs.declared.kind.Kind.{Kind}
use Rattle.seq_objects.specs.declared.kind.Kind.TheVariants as kinds
use Rattle.kind_search.specs.Readings.{queue_reading}
use Rattle.broken_rules.specs.Deeds.{reading_of, value_by, is_put, is_take, is_nothing, is_open}

-- The negation of a test decides the negation of what the test decides.
pub not_decides : {b : Bool} {P : Type 0} → (b ≡ true) ↔ P → (not b ≡ true) ↔ (P → ⊥)
not_decides {b} {P} is = (
  λ e h. both_ways b (not-true b e) (is.1 h),
  λ never. not_from_false b (false_from_ne_true b (λ e. never (is.0 e))),
)

-- Two readings that show the same of each reply read the same deal off a take's record.
shown_alike : (a b : Reading) → ((reply : ℕ) → a.shown reply ≡ b.shown reply) → (o : Option Record)
    → recorded_deal a o ≡ recorded_deal b o
shown_alike a b same None = refl
shown_alike a b same (Some r) = ap shown_deal (same r.reply)

-- The replies of all kinds show a value in the same way.
pub same_takes : (kind : Kind) (book : List Page) (call : Call)
    → take_of queue_reading book call ≡ take_of (reading_of kind) book call
same_takes kinds.Queue book call = refl
same_takes kind book call =
    shown_alike queue_reading (reading_of kind) (λ reply. refl) (record_of book call)

-- The test for a put of a value decides whether a deal is such a put.
pub put_decides : (d : Deal) (v : ℕ) → ((is_put d && (value_by d == v)) ≡ true) ↔ (d ≡ deals.Put v)
put_decides (deals.Put w) v =
    (λ e. ap deals.Put (eqb-true w v e), λ same. (let e : w ≡ v = cc in eq-eqb w v e))
put_decides _ v = (λ e. absurd (false≢true e), λ same. absurd cc)

-- The test for a take of a value decides whether a deal is such a take.
pub take_decides : (d : Deal) (v : ℕ) → ((is_take d && (value_by d == v)) ≡ true) ↔ (d ≡ deals.Took v)
take_decides (deals.Took w) v =
    (λ e. ap deals.Took (eqb-true w v e), λ same. (let e : w ≡ v = cc in eq-eqb w v e))
take_decides _ v = (λ e. absurd (false≢true e), λ same. absurd cc)

-- The test for a deal that may take a value decides whether a deal may take it.
neither : {A : Type 0} (d : Deal) (v : ℕ) → (d ≡ deals.Took v → ⊥) → (d ≡ deals.OpenTake → ⊥)
    → (d ≡ deals.Took v) ⊎ (d ≡ deals.OpenTake) → A
neither d v took is_open h = elim h [ inl e ↦ absurd (took e) | inr e ↦ absurd (is_open e) ]

pub may_take_decides : (d : Deal) (v : ℕ) → (((is_take d && (value_by d == v)) || is_open d) ≡ true)
    ↔ ((d ≡ deals.Took v) ⊎ (d ≡ deals.OpenTake))
may_take_decides (deals.Took w) v = (
  λ e. elim (or_cases (w == v) false e) [
    | inl is ↦ inl (ap deals.Took (eqb-true w v is))
    | inr never ↦ absurd (false≢true never)
  ],
  λ h. elim h [
    | inl same ↦ (let e : w ≡ v = cc in or_left (w == v) false (eq-eqb w v e))
    | inr other ↦ absurd cc
  ],
)
may_take_decides deals.OpenTake v = (λ e. inr refl, λ h. refl)
may_take_decides d v = (λ e. absurd (false≢true e), neither d v (λ e. cc) (λ e. cc))

-- The tests as the code makes them: r is the answer for the deal d, at the value n of the deal e.
pub puts_same : (r : Bool) (d e f g : Deal) (n : ℕ) → r ≡ (is_put d && (value_by d == n))
    → n ≡ value_by e → d ≡ f → e ≡ g
    → (r ≡ true) ↔ (f ≡ deals.Put (value_by g))
puts_same r d e f g n is at one other =
    let number : n ≡ value_by g = at ∙ ap value_by other in
    let answer : r ≡ (is_put f && (value_by f == value_by g))
    = is ∙ (ap (λ (x : Deal). is_put x && (value_by x == n)) one
    ∙ ap (λ (m : ℕ). is_put f && (value_by f == m)) number) in
    subst (λ (b : Bool). (b ≡ true) ↔ (f ≡ deals.Put (value_by g))) (sym answer)
    (put_decides f (value_by g))

pub takes_same : (r : Bool) (d e f g : Deal) (n : ℕ) → r ≡ (is_take d && (value_by d == n))
    → n ≡ value_by e → d ≡ f → e ≡ g
    → (r ≡ true) ↔ (f ≡ deals.Took (value_by g))
takes_same r d e f g n is at one other =
    let number : n ≡ value_by g = at ∙ ap value_by other in
    let answer : r ≡ (is_take f && (value_by f == value_by g))
    = is ∙ (ap (λ (x : Deal). is_take x && (value_by x == n)) one
    ∙ ap (λ (m : ℕ). is_take f && (value_by f == m)) number) in
    subst (λ (b : Bool). (b ≡ true) ↔ (f ≡ deals.Took (value_by g))) (sym answer)
    (take_decides f (value_by g))

pub may_take_same : (r : Bool) (d e f g : Deal) (n : ℕ)
    → r ≡ ((is_take d && (value_by d == n)) || is_open d) → n ≡ value_by e → d ≡ f → e ≡ g
    → (r ≡ true) ↔ ((f ≡ deals.Took (value_by g)) ⊎ (f ≡ deals.OpenTake))
may_take_same r d e f g n is at one other =
    let number : n ≡ value_by g = at ∙ ap value_by other in
    let answer : r ≡ ((is_take f && (value_by f == value_by g)) || is_open f)
    = is ∙ (ap (λ (x : Deal). (is_take x && (value_by x == n)) || is_open x) one
    ∙ ap (λ (m : ℕ). (is_take f && (value_by f == m)) || is_open f) number) in
    subst (λ (b : Bool). (b ≡ true) ↔ ((f ≡ deals.Took (value_by g)) ⊎ (f ≡ deals.OpenTake)))
    (sym answer) (may_take_decides f (value_by g))

-- A deal that passes a test is a put, a take or a find of nothing, of its own value.
pub put_of : (d : Deal) → is_put d ≡ true → d ≡ deals.Put (value_by d)
put_of (deals.Put v) e = refl
put_of _ e = absurd (false≢true e)

pub take_is : (d : Deal) → is_take d ≡ true → d ≡ deals.Took (value_by d)
take_is (deals.Took v) e = refl
take_is _ e = absurd (false≢true e)

pub nothing_is : (d : Deal) → is_nothing d ≡ true → d ≡ deals.FoundNothing
nothing_is deals.FoundNothing e = refl
nothing_is _ e = absurd (false≢true e)
