-- Books of one key of a set or a map carry over to parts without unseen calls.
use Rattle.std.proofs.Common.{◌≡◌, ◌≢◌, ℕ, zero, suc, ◌<◌, ◌⊎◌, ◌==◌, ◌∙◌, Bool, true, false, not, List, [], ◌∷◌, length, get_or, filter, Option, Some, None, option_map, refl, sym, ap, subst, inl, inr, arith}
use Rattle.std.specs.Prelude.{IsTrue}
use Rattle.std.specs.List.{AllByRecursion, range_with_len}
use Rattle.std.proofs.lemmas.Bool.{cases_Bool, cases_eq, true≢false, eq-eqb, ne_eqb}
use Rattle.std.proofs.lemmas.List.FromFn.{get_or-range_with_len, length-range_with_len}
use Rattle.std.proofs.lemmas.Option.{none-some, same_Some}
use Rattle.list_laws.proofs.Options.{cases_Option}
use Rattle.book_base.specs.declared.call.Call.{Call}
use Rattle.book_base.specs.SeqSpec.{spec_from}
use Rattle.book_base.specs.Book.{Page, calls_of, IsCall, operation_of, record_of, IsValid}
use Rattle.book_base.specs.Order.{HasLegalOrder}
use Rattle.book_base.proofs.PageLemmas.{caller_from_call}
use Rattle.seq_objects.specs.declared.kind.Kind.{Kind}
use Rattle.seq_objects.specs.declared.kind.Kind.TheVariants as kinds
use Rattle.seq_objects.specs.MapSteps.{key_of}
use Rattle.seq_objects.specs.MapLaws.{LacksKey, HasKeysOnce}
use Rattle.seq_objects.specs.Objects.{kind_next}
use Rattle.smaller_book.specs.Part.{numbers_of, IsNamed, IsPart}
use Rattle.smaller_book.specs.Unseen.{IsAnyList, Sets, CannotSee, IsHiddenFrom}
use Rattle.smaller_book.specs.Earliest.{all_numbers}
use Rattle.smaller_book.specs.Keys.{key_of_step, key_of_call, key_of_item, is_among, items_without, HasItemsOnce, IsWellFormed, HasOnce, CarriesOverWithoutSome}
use Rattle.smaller_book.specs.OneKey.{is_set_or_map, IsOfOneKey, HoldsAtMost, HoldsOneKey, LacksUnseen}
use Rattle.smaller_book.proofs.Following.{word_at, IsFollowed, has_one_in_part}
use Rattle.smaller_book.proofs.Filtering.{filter-kept, filter-gone}
use Rattle.smaller_book.proofs.KeySteps.{Restricts, keeps_keys}
use Rattle.smaller_book.proofs.LeastCuts.{numbers_of-all, part_with_numbers}
use Rattle.smaller_book.proofs.CarryingOver.{carries_from_all}
use Rattle.smaller_book.proofs.OneKey.{has_one_of_kind}

-- Each call of a book is among all its numbers.
pub all_named : (book : List Page) (call : Call) → IsCall book call
    → IsNamed (all_numbers book) call
all_named book call inside =
    let n : ℕ = calls_of book call.caller in
    let P : List ℕ → Type 0 = λ xs. (k : ℕ) × (k < length xs) × (get_or xs k 0 ≡ call.number) in
    let there : P (range_with_len 0 n) = (
      call.number,
      omega (arith, length-range_with_len 0 n, inside),
      omega (arith, get_or-range_with_len 0 n call.number 0 inside),
    ) in
    subst P (sym (numbers_of-all book call.caller)) there

-- ---- lists without the items of other keys

-- the keys other than one
abbrev other_keys : ℕ → ℕ → Bool
other_keys key other = not (other == key)

twice : (b c : Bool) → b ≡ c → not (not b) ≡ c
twice true c e = e
twice false c e = e

-- Of a list without the value, no item is left.
values_gone : (key : ℕ) (xs : List ℕ) → AllByRecursion (λ y. key ≢ y) xs
    → items_without kinds.IntSet (other_keys key) xs ≡ []
values_gone key [] all = refl
values_gone key (y ∷ ys) all =
    filter-gone (λ (item : ℕ). not (is_among (other_keys key) (key_of_item kinds.IntSet item))) y ys
    (twice (y == key) false (ne_eqb y key (λ e. all.0 (sym e)))) ∙ values_gone key ys all.1

-- Of a list with no item twice, at most the value is left.
value_left : (key : ℕ) (xs : List ℕ) → HasItemsOnce xs
    → HoldsAtMost kinds.IntSet key (items_without kinds.IntSet (other_keys key) xs)
value_left key [] once = inl refl
value_left key (x ∷ xs) once =
    let p : ℕ → Bool = λ item. not (is_among (other_keys key) (key_of_item kinds.IntSet item)) in
    elim (cases_eq x key) [
      | inl e ↦ inr (
        x,
        filter-kept p x xs (twice (x == key) true (eq-eqb x key e))
            ∙ ap (λ (ys : List ℕ). x ∷ ys)
            (values_gone key xs (subst (λ (k : ℕ). AllByRecursion (λ y. k ≢ y) xs) e once.0)),
        ap Some e,
      )
      | inr other ↦ subst (HoldsAtMost kinds.IntSet key)
          (sym (filter-gone p x xs (twice (x == key) false (ne_eqb x key other))))
          (value_left key xs once.1)
    ]

-- Of a list without the key, no item is left.
keys_gone : (key : ℕ) (xs : List ℕ) → LacksKey key xs
    → items_without kinds.Map (other_keys key) xs ≡ []
keys_gone key [] lacks = refl
keys_gone key (y ∷ ys) lacks =
    filter-gone (λ (item : ℕ). not (is_among (other_keys key) (key_of_item kinds.Map item))) y ys
    (twice (key_of y == key) false (ne_eqb (key_of y) key lacks.0)) ∙ keys_gone key ys lacks.1

-- Of a list with each key once, at most the item of the key is left.
key_left : (key : ℕ) (xs : List ℕ) → HasKeysOnce xs
    → HoldsAtMost kinds.Map key (items_without kinds.Map (other_keys key) xs)
key_left key [] once = inl refl
key_left key (x ∷ xs) once =
    let p : ℕ → Bool = λ item. not (is_among (other_keys key) (key_of_item kinds.Map item)) in
    elim (cases_eq (key_of x) key) [
      | inl e ↦ inr (
        x,
        filter-kept p x xs (twice (key_of x == key) true (eq-eqb (key_of x) key e))
            ∙ ap (λ (ys : List ℕ). x ∷ ys)
            (keys_gone key xs (subst (λ (k : ℕ). LacksKey k xs) e once.0)),
        ap Some e,
      )
      | inr other ↦ subst (HoldsAtMost kinds.Map key)
          (sym (filter-gone p x xs (twice (key_of x == key) false (ne_eqb (key_of x) key other))))
          (key_left key xs once.1)
    ]

one_left : (kind : Kind) (key : ℕ) (list : List ℕ) → IsTrue (is_set_or_map kind)
    → IsWellFormed kind list → HasOnce kind list
    → HoldsAtMost kind key (items_without kind (other_keys key) list)
one_left kinds.IntSet key list keyed formed once = value_left key list once
one_left kinds.Map key list keyed formed once = key_left key list formed
one_left kinds.Register key list keyed formed once = absurd (true≢false (sym keyed))
one_left kinds.CasRegister key list keyed formed once = absurd (true≢false (sym keyed))
one_left kinds.Queue key list keyed formed once = absurd (true≢false (sym keyed))
one_left kinds.Stack key list keyed formed once = absurd (true≢false (sym keyed))
one_left kinds.Pqueue key list keyed formed once = absurd (true≢false (sym keyed))
one_left kinds.Counter key list keyed formed once = absurd (true≢false (sym keyed))

-- A book is of one key alone.
same_key : (kind : Kind) (book : List Page) (a b : ℕ) → IsOfOneKey kind book a
    → IsOfOneKey kind book b → a ≡ b
same_key kind book a b one also =
    same_Some a b (sym (one.all one.some.0 one.some.1) ∙ also.all one.some.0 one.some.1)

-- ---- a book of one key from a list without the items of other keys

-- In a set or a map the key of an operation is the same with each reply.
key_with_any : (kind : Kind) (word : ℕ) (reply other : Option ℕ) → IsTrue (is_set_or_map kind)
    → key_of_step kind word reply ≡ key_of_step kind word other
key_with_any kinds.IntSet word reply other keyed = refl
key_with_any kinds.Map word reply other keyed = refl
key_with_any kinds.Register word reply other keyed = absurd (true≢false (sym keyed))
key_with_any kinds.CasRegister word reply other keyed = absurd (true≢false (sym keyed))
key_with_any kinds.Queue word reply other keyed = absurd (true≢false (sym keyed))
key_with_any kinds.Stack word reply other keyed = absurd (true≢false (sym keyed))
key_with_any kinds.Pqueue word reply other keyed = absurd (true≢false (sym keyed))
key_with_any kinds.Counter word reply other keyed = absurd (true≢false (sym keyed))

all_stay : (kind : Kind) (book : List Page) (key : ℕ) → IsOfOneKey kind book key
    → IsFollowed (Restricts kind (other_keys key)) (kind_next kind) book (all_numbers book)
all_stay kind book key one = record {
  lacks = λ whole few call related inside unnamed agrees.
      absurd (unnamed (all_named book call inside));
  has = λ whole few call related inside named agrees.
      let keys : ℕ → Bool = other_keys key in
      let word : ℕ = word_at book call in
      let about : key_of_step kind word (Some (kind_next kind whole word).1) ≡ Some key =
      key_with_any kind word (Some (kind_next kind whole word).1)
      (option_map (λ r. r.reply) (record_of book call)) one.keyed ∙ one.all call inside in
      let stays : is_among keys (key_of_step kind word (Some (kind_next kind whole word).1))
      ≡ false = ap (is_among keys) about ∙ ap not (eq-eqb key key refl) in
      let kept = (keeps_keys kind keys).kept whole few word related stays in
      inl (λ answered. kept.0, kept.1);
}

-- A book of one key that has a legal order from a well-formed list has one from the list without
-- the items of other keys.
only_key : (kind : Kind) (book : List Page) (key : ℕ) (list : List ℕ) → IsValid book
    → IsOfOneKey kind book key → IsWellFormed kind list
    → HasLegalOrder (spec_from list (kind_next kind)) book
    → HasLegalOrder (spec_from (items_without kind (other_keys key) list) (kind_next kind)) book
only_key kind book key list valid one formed legal =
    has_one_in_part (Restricts kind (other_keys key)) (kind_next kind) book (all_numbers book) book
    list (items_without kind (other_keys key) list)
    (part_with_numbers book book valid refl (λ call inside. refl) (λ call r known. known))
    (all_stay kind book key one) ((keeps_keys kind (other_keys key)).begins list formed) legal

-- ---- whether a book is of one key

-- Below a number all numbers have a property, or one hasn't.
all_or_one_not : (P : ℕ → Type 0) → ((k : ℕ) → P k ⊎ (¬ P k)) → (n : ℕ)
    → ((k : ℕ) → k < n → P k) ⊎ ((k : ℕ) × (k < n) × (¬ P k))
all_or_one_not P either zero = inl (λ k below. absurd (omega (arith, below)))
all_or_one_not P either (suc n) = elim (all_or_one_not P either n) [
  | inr (k, below, not_so) ↦ inr (k, omega (arith, below), not_so)
  | inl all ↦ elim (either n) [
    | inr not_so ↦ inr (n, omega arith, not_so)
    | inl so ↦ inl (λ k below. elim (cases_eq k n) [
      | inl e ↦ subst P (sym e) so
      | inr other ↦ all k (omega (arith, below, other))
    ])
  ]
]

is_or_not : (o : Option ℕ) (key : ℕ) → (o ≡ Some key) ⊎ (¬ (o ≡ Some key))
is_or_not None key = inr (λ e. none-some key e)
is_or_not (Some x) key = elim (cases_eq x key) [
  | inl e ↦ inl (ap Some e)
  | inr other ↦ inr (λ e. other (same_Some x key e))
]

-- All calls of a book are about a key, or one isn't.
all_about_or_not : (kind : Kind) (book : List Page) (key : ℕ)
    → ((call : Call) → IsCall book call → key_of_call kind book call ≡ Some key)
    ⊎ ((call : Call) × IsCall book call × (¬ (key_of_call kind book call ≡ Some key)))
all_about_or_not kind book key =
    let About : ℕ → ℕ → Type 0 = λ i k. key_of_call kind book (record { caller = i; number = k })
    ≡ Some key in
    let AllOf : ℕ → Type 0 = λ i. (k : ℕ) → k < calls_of book i → About i k in
    let of_caller : (i : ℕ) → AllOf i ⊎ ((k : ℕ) × (k < calls_of book i) × (¬ About i k)) = λ i.
    all_or_one_not (About i)
    (λ k. is_or_not (key_of_call kind book (record { caller = i; number = k })) key)
    (calls_of book i) in
    let either : (i : ℕ) → AllOf i ⊎ (¬ AllOf i) = λ i. elim (of_caller i) [
      | inl all ↦ inl all
      | inr (k, below, not_so) ↦ inr (λ all. not_so (all k below))
    ] in
    elim (all_or_one_not AllOf either (length book)) [
      | inl all ↦ inl (λ call inside.
          all call.caller (caller_from_call book call.caller call.number inside) call.number inside)
      | inr (i, below, not_so) ↦ elim (of_caller i) [
        | inl all ↦ absurd (not_so all)
        | inr (k, inside, other) ↦ inr (record { caller = i; number = k }, inside, other)
      ]
    ]

-- A book has a call, or none.
call_or_none : (book : List Page) → ((call : Call) × IsCall book call)
    ⊎ ((call : Call) → ¬ IsCall book call)
call_or_none book =
    elim (all_or_one_not (λ i. calls_of book i ≡ 0) (λ i. cases_eq (calls_of book i) 0)
    (length book)) [
      | inl none ↦ inr (λ call inside. omega (
        arith,
        inside,
        none call.caller (caller_from_call book call.caller call.number inside),
      ))
      | inr (i, below, some) ↦ inl (record { caller = i; number = 0 }, omega (arith, some))
    ]

-- A book is of one key, or of none.
one_key_or_none : (kind : Kind) (book : List Page)
    → ((key : ℕ) × IsOfOneKey kind book key) ⊎ ((key : ℕ) → ¬ IsOfOneKey kind book key)
one_key_or_none kind book = elim (cases_Bool (is_set_or_map kind)) [
  | inr other ↦ inr (λ key one. true≢false (sym one.keyed ∙ other))
  | inl keyed ↦ elim (call_or_none book) [
    | inr none ↦ inr (λ key one. none one.some.0 one.some.1)
    | inl (call, inside) ↦ elim (cases_Option (key_of_call kind book call)) [
      | inl none ↦ inr (λ key one. none-some key (sym none ∙ one.all call inside))
      | inr (key, is) ↦ elim (all_about_or_not kind book key) [
        | inl all ↦ inl (key, record { keyed = keyed; some = (call, inside); all = all })
        | inr (other, there, apart) ↦ inr (λ found one.
            let same : found ≡ key = same_Some found key (sym (one.all call inside) ∙ is) in
            apart (one.all other there ∙ ap Some same))
      ]
    ]
  ]
]

-- A book carries over, without the items of some keys, to a part that lacks only read-only and
-- unseen calls.
pub unseen_carries : (kind : Kind) (book : List Page) (names : List (List ℕ)) (part : List Page)
    → IsValid book → IsPart book names part → LacksUnseen kind book names
    → CarriesOverWithoutSome kind book part
unseen_carries kind book names part valid is lacks = elim (one_key_or_none kind book) [
  | inr none ↦ carries_from_all kind book part (λ list legal.
      has_one_of_kind kind book names part list is lacks (λ key one. absurd (none key one)) legal)
  | inl (key, one) ↦ (
    other_keys key,
    λ list formed once legal.
        let left : List ℕ = items_without kind (other_keys key) list in
        has_one_of_kind kind book names part left is lacks
        (λ also two. subst (λ (k : ℕ). HoldsAtMost kind k left)
        (same_key kind book key also one two) (one_left kind key list one.keyed formed once))
        (only_key kind book key list valid one formed legal),
  )
]

-- What a call that is about no key sets, and another one can't tell from the lists of one key, it
-- sets whatever the list was before, and the other one can't tell.
pub hidden_without_key : (kind : Kind) (book : List Page) (seer setting : Call)
    → IsCall book setting → key_of_call kind book setting ≡ None → (after : List ℕ)
    → Sets (kind_next kind) book (HoldsOneKey kind book) setting after
    → CannotSee (kind_next kind) book (HoldsOneKey kind book) setting after seer
    → IsHiddenFrom (kind_next kind) book seer setting
hidden_without_key kind book seer setting inside keyless after sets cannot =
    let any : (list : List ℕ) → HoldsOneKey kind book list = λ list key one.
    absurd (none-some key (sym keyless ∙ one.all setting inside)) in (
      after,
      λ before whichever may. sets before (any before) may,
      elim cannot [
        | inl blind ↦ inl (λ before other here there. blind before other (any before) (any other))
        | inr rest ↦ inr rest
      ],
    )
