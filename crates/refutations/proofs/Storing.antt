-- Stored items as a list of items.
use Rattle.std.proofs.Common.{◌≡◌, ℕ, suc, ◌<◌, ◌⊎◌, ◌↔◌, ◌&&◌, ◌||◌, ◌∙◌, Bool, true, false, IsTrue, true≢false, List, [], ◌∷◌, ◌++◌, length, Some, if◌then◌else◌, inl, inr, refl, sym, ap, subst, slice_get, get_or, arith}
use Rattle.std.specs.List.{list_any}
use Rattle.std.specs.Str.{bytes_eq}
use Rattle.std.specs.Cmp.Lexicographic.{same_text, other_text}
use Rattle.std.proofs.lemmas.Bool.{cases_Bool}
use Rattle.std.proofs.lemmas.List.{length_push}
use Rattle.std.proofs.lemmas.Option.{same_Some, slice_get_within, slice_get-get_or}
use Rattle.std.proofs.lemmas.Map.Keys.{any_passes_from_place}
use Rattle.list_laws.proofs.Places.{slice_get-push_last, slice_get-push_old, slice_get-push_cases}
use Rattle.indexmap.specs.IndexSet.{insert_key}
use Rattle.book_base.specs.SeqSpec.{SeqSpec}
use Rattle.book_base.specs.Book.{Page}
use Rattle.refutations.specs.declared.stored_item.StoredItem.{StoredItem}
use Rattle.refutations.specs.declared.items.Items.{Items}
use Rattle.refutations.specs.Closed.{Item, IsOneItem}
use Rattle.refutations.specs.Stored.{item_of, Fits, AreFit, AreListed}

-- whether two stored items are the same item
abbrev pub is_same_stored : StoredItem → StoredItem → Bool
is_same_stored a b = bytes_eq a.counts.items b.counts.items && bytes_eq a.words.items b.words.items

both : (a b : Bool) → (a && b) ≡ true → (a ≡ true) × (b ≡ true)
both true b h = (refl, h)
both false b h = absurd (true≢false (sym h))

same_list : (xs ys : List ℕ) → bytes_eq xs ys ≡ true → xs ≡ ys
same_list xs ys h = same_text xs ys (sym h)

list_same : (xs ys : List ℕ) → xs ≡ ys → bytes_eq xs ys ≡ true
list_same xs ys h = elim (cases_Bool (bytes_eq xs ys)) [
  | inl equal ↦ equal
  | inr apart ↦ absurd (other_text xs ys (sym apart) h)
]

-- Stored items that compare as equal are the same item.
pub same_item : (a b : StoredItem) → is_same_stored a b ≡ true → item_of a ≡ item_of b
same_item a b h =
    let parts = both (bytes_eq a.counts.items b.counts.items)
    (bytes_eq a.words.items b.words.items) h in
    let made : List ℕ → List ℕ → Item = λ cut list. record { cut = cut; list = list } in
    ap (λ (cut : List ℕ). made cut a.words.items)
    (same_list a.counts.items b.counts.items parts.0)
    ∙ ap (made b.counts.items) (same_list a.words.items b.words.items parts.1)

-- Stored items that are the same item compare as equal.
pub item_same : (a b : StoredItem) → item_of a ≡ item_of b → is_same_stored a b ≡ true
item_same a b h =
    let counts = list_same a.counts.items b.counts.items (ap (λ (it : Item). it.cut) h) in
    let words = list_same a.words.items b.words.items (ap (λ (it : Item). it.list) h) in
    ap (λ (c : Bool). c && bytes_eq a.words.items b.words.items) counts ∙ words

-- some element that passes a test is at some place
passing_place : {X : Type 0} (p : X → Bool) (xs : List X) → list_any p xs ≡ true
    → (k : ℕ) × (x : X) × (slice_get xs k ≡ Some x) × (p x ≡ true)
passing_place p [] h = absurd (true≢false (sym h))
passing_place {X} p (x ∷ xs) h = elim (cases_Bool (p x)) [
  | inl passes ↦ (0, x, refl, passes)
  | inr fails ↦
      let rest : list_any p xs ≡ true =
      sym (ap (λ (b : Bool). b || list_any p xs) fails) ∙ h in
      let found = passing_place p xs rest in
      (suc found.0, found.1, found.2, found.3)
]

-- an item of a list is one of a longer list
pub IsOneItem-more : (list : List Item) (more item : Item) → IsOneItem list item
    → IsOneItem (list ++ more ∷ []) item
IsOneItem-more list more item one = (one.0, slice_get-push_old list more one.0 item one.1)

-- the item that is added at the end is one of the list
pub IsOneItem-last : (list : List Item) (item : Item) → IsOneItem (list ++ item ∷ []) item
IsOneItem-last list item = (length list, slice_get-push_last list item)

-- A stored item is found among the stored ones exactly where it is an item of the list.
pub has-listed : (stored : Items) (list : List Item) (item : StoredItem) → AreListed stored list
    → IsTrue (list_any (is_same_stored item) stored.stored.keys) ↔ IsOneItem list (item_of item)
has-listed stored list item listed = (
  λ has.
      let found = passing_place (is_same_stored item) stored.stored.keys has in
      let one = listed.one found.0 found.1 found.2 in (
        one.0,
        one.1 ∙ ap (λ (it : Item). Some it) (sym (same_item item found.1 found.3)),
      ),
  λ one.
      let inside : one.0 < length stored.indices.items =
      omega (arith, listed.long, slice_get_within list one.0 (item_of item) one.1) in
      let was = listed.there one.0 (get_or stored.indices.items one.0 0)
      (slice_get-get_or stored.indices.items one.0 0 inside) in
      let same : item_of item ≡ item_of was.0 =
      same_Some (item_of item) (item_of was.0) (sym one.1 ∙ was.2) in
      any_passes_from_place (is_same_stored item) stored.stored.keys
      (get_or stored.indices.items one.0 0) was.0 was.1 (item_same item was.0 same),
)

-- the keys of a set with one more are those before, or this one
keys_cases : (keys : List StoredItem) (item : StoredItem) (k : ℕ) (found : StoredItem)
    → slice_get (insert_key is_same_stored keys item) k ≡ Some found
    → (slice_get keys k ≡ Some found) ⊎ (found ≡ item)
keys_cases keys item k found at = elim (cases_Bool (list_any (is_same_stored item) keys)) [
  | inl there ↦ inl (subst (λ (l : List StoredItem). slice_get l k ≡ Some found)
      (ap (λ c. if c then keys else keys ++ item ∷ []) there) at)
  | inr new ↦
      elim (slice_get-push_cases keys item k found (subst
      (λ (l : List StoredItem). slice_get l k ≡ Some found)
      (ap (λ c. if c then keys else keys ++ item ∷ []) new) at)) [
        | inl old ↦ inl old
        | inr last ↦ inr last.1
      ]
]

-- the keys before an insertion stay at their places
keys_stay : (keys : List StoredItem) (item : StoredItem) (k : ℕ) (found : StoredItem)
    → slice_get keys k ≡ Some found
    → slice_get (insert_key is_same_stored keys item) k ≡ Some found
keys_stay keys item k found at = elim (cases_Bool (list_any (is_same_stored item) keys)) [
  | inl there ↦ subst (λ (l : List StoredItem). slice_get l k ≡ Some found)
      (sym (ap (λ c. if c then keys else keys ++ item ∷ []) there)) at
  | inr new ↦ subst (λ (l : List StoredItem). slice_get l k ≡ Some found)
      (sym (ap (λ c. if c then keys else keys ++ item ∷ []) new))
      (slice_get-push_old keys item k found at)
]

-- What an item that is put in makes of stored items.
pub record IsPut (old new : Items) (item : StoredItem) : Type 0 where
  pub keys : new.stored.keys ≡ insert_key is_same_stored old.stored.keys item
  pub index : ℕ
  pub indices : new.indices.items ≡ old.indices.items ++ index ∷ []
  pub kept : StoredItem
  pub there : slice_get new.stored.keys index ≡ Some kept
  pub same : is_same_stored item kept ≡ true

-- Stored items with one more are the list with this item.
pub listed-put : (old new : Items) (item : StoredItem) (list : List Item) → IsPut old new item
    → AreListed old list → AreListed new (list ++ item_of item ∷ [])
listed-put old new item list put listed = record {
  long = omega (
    arith,
    length_push list (item_of item),
    length_push old.indices.items put.index,
    listed.long,
    ap (λ (l : List ℕ). length l) put.indices,
  );
  there = λ number index at.
      elim (slice_get-push_cases old.indices.items put.index number index
      (subst (λ (l : List ℕ). slice_get l number ≡ Some index) put.indices at)) [
        | inl before ↦
            let was = listed.there number index before in (
              was.0,
              subst (λ (l : List StoredItem). slice_get l index ≡ Some was.0) (sym put.keys)
                  (keys_stay old.stored.keys item index was.0 was.1),
              slice_get-push_old list (item_of item) number (item_of was.0) was.2,
            )
        | inr last ↦
            let here : number ≡ length list = last.0 ∙ listed.long in (
              put.kept,
              subst (λ (k : ℕ). slice_get new.stored.keys k ≡ Some put.kept) (sym last.1) put.there,
              subst (λ (k : ℕ). slice_get (list ++ item_of item ∷ []) k
                  ≡ Some (item_of put.kept)) (sym here)
                  (slice_get-push_last list (item_of item)
                  ∙ ap (λ (it : Item). Some it) (same_item item put.kept put.same)),
            )
      ];
  one = λ index found at.
      elim (keys_cases old.stored.keys item index found
      (subst (λ (l : List StoredItem). slice_get l index ≡ Some found) put.keys at)) [
        | inl before ↦
            IsOneItem-more list (item_of item) (item_of found) (listed.one index found before)
        | inr same ↦ subst (λ (it : StoredItem). IsOneItem (list ++ item_of item ∷ []) (item_of it))
            (sym same) (IsOneItem-last list (item_of item))
      ];
}

-- Stored items that fit do so with one more that fits.
pub fit-put : (spec : SeqSpec) (book : List Page) (capacity : ℕ) (old new : Items)
    (item : StoredItem) → IsPut old new item → AreFit spec book capacity old
    → Fits spec book capacity (item_of item) → AreFit spec book capacity new
fit-put spec book capacity old new item put fit fits index found at =
    elim (keys_cases old.stored.keys item index found
    (subst (λ (l : List StoredItem). slice_get l index ≡ Some found) put.keys at)) [
      | inl before ↦ fit index found before
      | inr same ↦
          subst (λ (it : StoredItem). Fits spec book capacity (item_of it)) (sym same) fits
    ]
