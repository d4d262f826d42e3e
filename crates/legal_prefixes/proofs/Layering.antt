-- One layer after another, up to the last one.
use Rattle.std.proofs.Common.{◌≡◌, ℕ, zero, suc, ◌+◌, ◌<◌, ◌≤◌, ◌∙◌, List, [], ◌∷◌, ◌++◌, length, Some, refl, sym, ap, subst, inl, inr, slice_get, arith, length-append}
use Rattle.std.proofs.lemmas.Bool.{cases_lt}
use Rattle.std.proofs.lemmas.List.{length-replicate}
use Rattle.std.proofs.lemmas.Option.{same_Some, slice_get_within}
use Rattle.book_base.specs.declared.call.Place.{Place}
use Rattle.book_base.specs.Book.{Page}
use Rattle.book_base.specs.Order.{HasLegalOrder}
use Rattle.book_base.specs.Next.{raised, list_after, HoldsAnswered, MayStandNext}
use Rattle.seq_objects.specs.declared.kind.Kind.{Kind}
use Rattle.seq_objects.specs.Objects.{kind_next, kind_init, kind_spec, length-kind_init}
use Rattle.legal_prefixes.specs.declared.TheConstants.{LIST_ROOM}
use Rattle.legal_prefixes.specs.declared.prefix.LegalPrefix.{LegalPrefix}
use Rattle.legal_prefixes.specs.Prefixes.{Lead, no_calls, IsLegalPrefix}
use Rattle.legal_prefixes.specs.Layers.{IsPrefixOf, ArePrefixesOf, AreApart, ListNext, GoesThrough, IsLayer}
use Rattle.legal_prefixes.specs.Longest.{NoneLonger, IsLongest, AreLongest}
use Rattle.legal_prefixes.proofs.Leading.{lead-one_more, prefix_from_order, order_from_prefix}

-- no place is listed in an empty list
none_listed : {X : Type 0} (k : ℕ) (x : X) → slice_get [] k ≡ Some x → ⊥
none_listed k x has = absurd (omega (arith, slice_get_within [] k x has))

-- a list of length 0 is empty
pub no_items : {X : Type 0} (xs : List X) → length xs ≡ 0 → xs ≡ []
no_items [] none = refl
no_items (x ∷ xs) none = absurd (omega (arith, none))

-- A legal prefix that goes through a layer, with at least one more place, goes through the next one.
goes_on : (kind : Kind) (book : List Page) (layer next : List LegalPrefix) (count : ℕ)
    (places : List Place) (cut list : List ℕ)
    → ListNext kind book layer (length layer) next
    → (it : GoesThrough kind book layer count places cut list)
    → (rest : List Place) → count + 1 ≤ length places
    → Lead book (kind_next kind) it.prefix.cut it.prefix.words.items rest cut list
    → length places ≡ count + length rest
    → GoesThrough kind book next (count + 1) places cut list
goes_on kind book layer next count places cut list all it [] long leads same = absurd (omega arith)
goes_on kind book layer next count places cut list all it (place ∷ rest) long leads same =
    let found = all it.index it.prefix place (slice_get_within layer it.index it.prefix it.has) it.has
    leads.0 in
    record {
      index = found.0;
      prefix = found.1;
      has = found.2;
      rest = rest;
      leads = subst (λ (c : List ℕ). Lead book (kind_next kind) c found.1.words.items rest cut list)
          (sym found.3)
          (subst (λ (l : List ℕ). Lead book (kind_next kind) (raised it.prefix.cut place.caller) l
          rest cut list) (sym found.4) leads.1);
      count = omega arith;
    }

-- A legal prefix as long as those of a layer leads to where the one leads that it goes through.
ends_there : (kind : Kind) (book : List Page) (layer : List LegalPrefix) (count : ℕ)
    (places : List Place) (cut list : List ℕ)
    → (it : GoesThrough kind book layer count places cut list)
    → (rest : List Place)
    → Lead book (kind_next kind) it.prefix.cut it.prefix.words.items rest cut list
    → length rest ≡ 0 → (it.prefix.cut ≡ cut) × (it.prefix.words.items ≡ list)
ends_there kind book layer count places cut list it [] leads none = leads
ends_there kind book layer count places cut list it (place ∷ rest) leads none = absurd (omega arith)

-- After a layer none of whose prefixes holds all answered calls comes the layer of its next ones.
pub next_layer : (kind : Kind) (book : List Page) (count : ℕ) (layer next : List LegalPrefix)
    → IsLayer kind book count layer
    → ((k : ℕ) (prefix : LegalPrefix) → slice_get layer k ≡ Some prefix
    → HoldsAnswered book prefix.cut → ⊥)
    → ArePrefixesOf kind book (count + 1) next → AreApart next
    → ListNext kind book layer (length layer) next
    → IsLayer kind book (count + 1) next
next_layer kind book count layer next here none right apart all = record {
  right = right;
  apart = apart;
  through = λ (places : List Place) (cut list : List ℕ)
      (legal : IsLegalPrefix kind book places cut list) (long : count + 1 ≤ length places).
      let it = here.through places cut list legal (omega arith) in
      goes_on kind book layer next count places cut list all it it.rest long it.leads it.count;
  unfinished = λ (places : List Place) (cut list : List ℕ)
      (legal : IsLegalPrefix kind book places cut list) (short : length places < count + 1)
      (holds : HoldsAnswered book cut).
      elim (cases_lt (length places) count) [
        | inl shorter ↦ here.unfinished places cut list legal shorter holds
        | inr as_long ↦
            let it = here.through places cut list legal as_long in
            let same = ends_there kind book layer count places cut list it it.rest it.leads
            (omega (arith, it.count)) in
            none it.index it.prefix it.has (subst (HoldsAnswered book) (sym same.0) holds)
      ];
}

-- Before the first layer that is empty comes the layer of the longest legal prefixes.
pub longest_from_layer : (kind : Kind) (book : List Page) (count : ℕ) (layer : List LegalPrefix)
    (k : ℕ) (prefix : LegalPrefix) → IsLayer kind book count layer
    → IsLayer kind book (count + 1) [] → count + 2 ≤ LIST_ROOM → slice_get layer k ≡ Some prefix
    → IsLongest kind book prefix
longest_from_layer kind book count layer k prefix here none few has =
    let right = here.right k prefix has in
    record {
      leads = right.leads;
      longest = λ (places : List Place) (cut list : List ℕ)
          (legal : IsLegalPrefix kind book places cut list).
          elim (cases_lt count (length places)) [
            | inl longer ↦
                let it = none.through places cut list legal (omega arith) in
                absurd (none_listed it.index it.prefix it.has)
            | inr short ↦ omega (arith, right.count)
          ];
      illegal = λ (legal : HasLegalOrder (kind_spec kind) book).
          let it = prefix_from_order kind book legal.0 legal.1 in
          elim (cases_lt (length legal.0) (count + 1)) [
            | inl short ↦ none.unfinished legal.0 it.0 it.1 it.2 short it.3
            | inr longer ↦
                let found = none.through legal.0 it.0 it.1 it.2 longer in
                none_listed found.index found.prefix found.has
          ];
      wide = right.wide;
      short = omega (arith, right.short);
    }

-- No layer that has a prefix is of more places than a prefix than which none is longer.
as_long : (kind : Kind) (book : List Page) (count : ℕ) (layer : List LegalPrefix) (size : ℕ)
    → IsLayer kind book count layer → 0 < length layer → NoneLonger kind book size → count ≤ size
as_long kind book count [] size here some longest = absurd (omega arith)
as_long kind book count (prefix ∷ rest) size here some longest =
    let right = here.right 0 prefix refl in
    omega (
      arith,
      right.count,
      longest prefix.places.items prefix.cut prefix.words.items right.leads,
    )

-- Before the first layer that is empty comes the layer of all longest legal prefixes.
pub all_longest : (kind : Kind) (book : List Page) (count : ℕ) (layer : List LegalPrefix)
    → IsLayer kind book count layer → IsLayer kind book (count + 1) [] → count + 2 ≤ LIST_ROOM
    → 0 < length layer → AreLongest kind book layer
all_longest kind book count layer here none few some = record {
  some = some;
  each = λ (k : ℕ) (prefix : LegalPrefix) (has : slice_get layer k ≡ Some prefix).
      longest_from_layer kind book count layer k prefix here none few has;
  apart = here.apart;
  whole = λ (places : List Place) (cut list : List ℕ)
      (legal : IsLegalPrefix kind book places cut list)
      (longest : NoneLonger kind book (length places)).
      let it = here.through places cut list legal
      (as_long kind book count layer (length places) here some longest) in
      elim (cases_lt count (length places)) [
        | inl longer ↦
            let beyond = none.through places cut list legal (omega arith) in
            absurd (none_listed beyond.index beyond.prefix beyond.has)
        | inr short ↦
            let same = ends_there kind book layer count places cut list it it.rest it.leads
            (omega (arith, it.count)) in
            (it.index, it.prefix, it.has, same.0, same.1)
      ];
}

-- A layer with a prefix that holds all answered calls gives a legal order.
pub order_from_layer : (kind : Kind) (book : List Page) (count : ℕ) (layer : List LegalPrefix)
    → IsLayer kind book count layer
    → (k : ℕ) × (prefix : LegalPrefix) × (slice_get layer k ≡ Some prefix)
    × HoldsAnswered book prefix.cut
    → HasLegalOrder (kind_spec kind) book
order_from_layer kind book count layer here (k, prefix, has, holds) =
    order_from_prefix kind book prefix.places.items prefix.cut prefix.words.items
    (here.right k prefix has).leads holds

-- No place may stand next after a longest legal prefix.
pub stuck : (kind : Kind) (book : List Page) (prefix : LegalPrefix) (place : Place)
    → IsLongest kind book prefix
    → MayStandNext book (kind_next kind) prefix.cut prefix.words.items place → ⊥
stuck kind book prefix place longest may =
    let longer = lead-one_more book (kind_next kind) (no_calls book) (kind_init kind)
    prefix.places.items prefix.cut prefix.words.items place longest.leads may in
    let bound = longest.longest (prefix.places.items ++ place ∷ []) (raised prefix.cut place.caller)
    (list_after book (kind_next kind) prefix.words.items place) longer in
    omega (arith, bound, length-append prefix.places.items (place ∷ []))

first_right : (kind : Kind) (book : List Page) (prefix : LegalPrefix)
    → IsPrefixOf kind book 0 prefix → (k : ℕ) (other : LegalPrefix)
    → slice_get (prefix ∷ []) k ≡ Some other → IsPrefixOf kind book 0 other
first_right kind book prefix right zero other has =
    subst (IsPrefixOf kind book 0) (same_Some prefix other has) right
first_right kind book prefix right (suc k) other has = absurd (none_listed k other has)

-- The prefix without places is the first layer.
pub first_layer : (kind : Kind) (book : List Page) (prefix : LegalPrefix)
    → IsPrefixOf kind book 0 prefix → prefix.cut ≡ no_calls book
    → prefix.words.items ≡ kind_init kind
    → IsLayer kind book 0 (prefix ∷ [])
first_layer kind book prefix right same_cut same_list = record {
  right = λ (k : ℕ) (other : LegalPrefix) (has : slice_get (prefix ∷ []) k ≡ Some other).
      first_right kind book prefix right k other has;
  apart = λ (j k : ℕ) (one other : LegalPrefix) (has_one : slice_get (prefix ∷ []) j ≡ Some one)
      (has_other : slice_get (prefix ∷ []) k ≡ Some other) (cuts : one.cut ≡ other.cut)
      (lists : one.words.items ≡ other.words.items).
      omega (
        arith,
        slice_get_within (prefix ∷ []) j one has_one,
        slice_get_within (prefix ∷ []) k other has_other,
      );
  through = λ (places : List Place) (cut list : List ℕ)
      (legal : IsLegalPrefix kind book places cut list) (long : 0 ≤ length places). record {
        index = 0;
        prefix = prefix;
        has = refl;
        rest = places;
        leads = subst (λ (c : List ℕ). Lead book (kind_next kind) c prefix.words.items places cut
            list) (sym same_cut)
            (subst (λ (l : List ℕ). Lead book (kind_next kind) (no_calls book) l places cut list)
            (sym same_list) legal);
        count = omega arith;
      };
  unfinished = λ (places : List Place) (cut list : List ℕ)
      (legal : IsLegalPrefix kind book places cut list) (short : length places < 0)
      (holds : HoldsAnswered book cut). absurd (omega arith);
}

-- A list of the one prefix without places is the first layer.
pub start_is_layer : (kind : Kind) (book : List Page) (prefix : LegalPrefix)
    (layer : List LegalPrefix) → prefix.places.items ≡ [] → prefix.cut ≡ no_calls book
    → prefix.words.items ≡ kind_init kind → layer ≡ prefix ∷ [] → IsLayer kind book 0 layer
start_is_layer kind book prefix layer same_places same_cut same_list one =
    let right : IsPrefixOf kind book 0 prefix = record {
      leads = subst (λ (ps : List Place). Lead book (kind_next kind) (no_calls book)
          (kind_init kind) ps prefix.cut prefix.words.items) (sym same_places)
          (sym same_cut, sym same_list);
      count = ap length same_places;
      wide = ap length same_cut ∙ length-replicate {A = ℕ} (length book) 0;
      short = omega (arith, ap length same_list, length-kind_init kind);
    } in
    subst (IsLayer kind book 0) (sym one) (first_layer kind book prefix right same_cut same_list)

-- After a layer comes the layer of its next ones, as the code reads them.
pub layer_after : (kind : Kind) (book : List Page) (count : ℕ)
    (layer seen read next : List LegalPrefix) → seen ≡ layer → read ≡ layer
    → IsLayer kind book count layer
    → ((k : ℕ) (prefix : LegalPrefix) → slice_get seen k ≡ Some prefix
    → HoldsAnswered book prefix.cut → ⊥)
    → ArePrefixesOf kind book (count + 1) next → AreApart next
    → ListNext kind book read (length read) next
    → IsLayer kind book (count + 1) next
layer_after kind book count layer seen read next same_seen same_read here none right apart all =
    next_layer kind book count layer next here
    (λ (k : ℕ) (prefix : LegalPrefix) (has : slice_get layer k ≡ Some prefix).
    none k prefix (ap (λ (xs : List LegalPrefix). slice_get xs k) same_seen ∙ has))
    right apart (subst (λ (xs : List LegalPrefix). ListNext kind book xs (length xs) next) same_read all)
