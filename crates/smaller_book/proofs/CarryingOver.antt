-- Legal orders of a part, from lists without the items of some keys.
use Rattle.std.proofs.Common.{◌≡◌, ℕ, Bool, true, false, not, ◌||◌, List, Option, Some, None, refl, sym, subst}
use Rattle.std.proofs.lemmas.Bool.{true≢false}
use Rattle.book_base.specs.SeqSpec.{spec_from}
use Rattle.book_base.specs.Book.{Page}
use Rattle.book_base.specs.Order.{HasLegalOrder}
use Rattle.seq_objects.specs.declared.kind.Kind.{Kind}
use Rattle.seq_objects.specs.declared.kind.Kind.TheVariants as kinds
use Rattle.seq_objects.specs.Objects.{kind_next}
use Rattle.smaller_book.specs.Part.{CarriesOver}
use Rattle.smaller_book.specs.Keys.{key_of_item, is_among, items_without, IsWellFormed, HasOnce, CarriesOverWithoutSome}
use Rattle.smaller_book.proofs.Filtering.{filter-all, filter-filter, rises-filter, items_once-filter, keys_once-filter}

-- the set of no keys
abbrev pub no_keys : ℕ → Bool
no_keys key = false

-- the keys that are in the first set or in the second one
abbrev pub either_keys : (ℕ → Bool) → (ℕ → Bool) → ℕ → Bool
either_keys first second key = first key || second key

none_among : (o : Option ℕ) → not (is_among no_keys o) ≡ true
none_among None = refl
none_among (Some key) = refl

-- A list without the items of no keys is the list.
pub items_without-none : (kind : Kind) (list : List ℕ) → items_without kind no_keys list ≡ list
items_without-none kind list =
    filter-all (λ (item : ℕ). not (is_among no_keys (key_of_item kind item))) list
    (λ (item : ℕ). none_among (key_of_item kind item))

or_on : (a b : Bool) → not a ≡ true → not (a || b) ≡ not b
or_on true b on = absurd (true≢false (sym on))
or_on false b on = refl

or_off : (a b : Bool) → not a ≡ false → not (a || b) ≡ false
or_off true b off = refl
or_off false b off = absurd (true≢false off)

among_on : (first second : ℕ → Bool) (o : Option ℕ) → not (is_among first o) ≡ true
    → not (is_among (either_keys first second) o) ≡ not (is_among second o)
among_on first second None on = refl
among_on first second (Some key) on = or_on (first key) (second key) on

among_off : (first second : ℕ → Bool) (o : Option ℕ) → not (is_among first o) ≡ false
    → not (is_among (either_keys first second) o) ≡ false
among_off first second None off = off
among_off first second (Some key) off = or_off (first key) (second key) off

-- A list without the items of some keys, and then without those of others, is the list without the
-- items of all of them.
pub items_without-twice : (kind : Kind) (first second : ℕ → Bool) (list : List ℕ)
    → items_without kind second (items_without kind first list)
    ≡ items_without kind (either_keys first second) list
items_without-twice kind first second list =
    filter-filter (λ (item : ℕ). not (is_among first (key_of_item kind item)))
    (λ (item : ℕ). not (is_among second (key_of_item kind item)))
    (λ (item : ℕ). not (is_among (either_keys first second) (key_of_item kind item))) list
    (λ (item : ℕ) on. among_on first second (key_of_item kind item) on)
    (λ (item : ℕ) off. among_off first second (key_of_item kind item) off)

-- A well-formed list without the items of some keys is well-formed.
pub well_formed-without : (kind : Kind) (keys : ℕ → Bool) (list : List ℕ) → IsWellFormed kind list
    → IsWellFormed kind (items_without kind keys list)
well_formed-without kinds.Pqueue keys list formed =
    rises-filter (λ (item : ℕ). not (is_among keys (key_of_item kinds.Pqueue item))) list formed
well_formed-without kinds.Map keys list formed =
    keys_once-filter (λ (item : ℕ). not (is_among keys (key_of_item kinds.Map item))) list formed
well_formed-without kinds.Queue keys list formed = tt
well_formed-without kinds.Stack keys list formed = tt
well_formed-without kinds.IntSet keys list formed = tt
well_formed-without kinds.Register keys list formed = tt
well_formed-without kinds.Counter keys list formed = tt
well_formed-without kinds.CasRegister keys list formed = tt

-- A list in which no item stands twice is so without the items of some keys.
once-without : (kind : Kind) (keys : ℕ → Bool) (list : List ℕ) → HasOnce kind list
    → HasOnce kind (items_without kind keys list)
once-without kinds.IntSet keys list once =
    items_once-filter (λ (item : ℕ). not (is_among keys (key_of_item kinds.IntSet item))) list once
once-without kinds.Pqueue keys list once = tt
once-without kinds.Map keys list once = tt
once-without kinds.Queue keys list once = tt
once-without kinds.Stack keys list once = tt
once-without kinds.Register keys list once = tt
once-without kinds.Counter keys list once = tt
once-without kinds.CasRegister keys list once = tt

-- Where a part has a legal order from each list from which the book has one, the book carries over
-- to it without the items of no keys.
pub carries_from_all : (kind : Kind) (book part : List Page)
    → CarriesOver (kind_next kind) book part → CarriesOverWithoutSome kind book part
carries_from_all kind book part carries = (
  no_keys,
  λ list formed once legal.
      subst (λ (l : List ℕ). HasLegalOrder (spec_from l (kind_next kind)) part)
      (sym (items_without-none kind list)) (carries list legal),
)

-- Where a book carries over to a part, and this one to a part of it, the book carries over to the
-- latter.
pub carries_twice : (kind : Kind) (book mid part : List Page)
    → CarriesOverWithoutSome kind book mid → CarriesOverWithoutSome kind mid part
    → CarriesOverWithoutSome kind book part
carries_twice kind book mid part (first, outer) (second, inner) = (
  either_keys first second,
  λ list formed once legal.
      subst (λ (l : List ℕ). HasLegalOrder (spec_from l (kind_next kind)) part)
      (items_without-twice kind first second list)
      (inner (items_without kind first list) (well_formed-without kind first list formed)
      (once-without kind first list once) (outer list formed once legal)),
)
