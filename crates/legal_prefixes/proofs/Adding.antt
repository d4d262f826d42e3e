-- Prefixes that are listed, and what one more call adds to them.
use Rattle.std.proofs.Common.{◌≡◌, ℕ, ◌+◌, ◌<◌, ◌∙◌, List, [], ◌∷◌, ◌++◌, length, get_or, Option, Some, unwrap_or, sym, ap, subst, inl, inr, slice_get, arith, length-append}
use Rattle.std.proofs.lemmas.Bool.{cases_eq}
use Rattle.std.proofs.lemmas.List.{length-set}
use Rattle.std.proofs.lemmas.Option.{same_Some, slice_get-get_or}
use Rattle.list_laws.proofs.Places.{slice_get-push_old, slice_get-push_last, slice_get-push_cases}
use Rattle.book_base.specs.declared.call.Call.{Call}
use Rattle.book_base.specs.declared.call.Place.{Place}
use Rattle.book_base.specs.declared.call.Record.{Record}
use Rattle.book_base.specs.Book.{Page, operation_of, record_of}
use Rattle.book_base.specs.Order.{call_at, step_at}
use Rattle.book_base.specs.Next.{raised, next_call, list_after, MayComeNext, MayStandNext}
use Rattle.legal_orders.proofs.LegalOrder.{same_call}
use Rattle.seq_objects.specs.declared.kind.Kind.{Kind}
use Rattle.seq_objects.specs.Objects.{kind_next, kind_init, length-kind_next}
use Rattle.legal_prefixes.specs.declared.prefix.LegalPrefix.{LegalPrefix}
use Rattle.legal_prefixes.specs.Prefixes.{Lead, no_calls}
use Rattle.legal_prefixes.specs.Layers.{IsPrefixOf, ArePrefixesOf, IsListed, AreApart, AddsCall, AddsNext, ListNext}
use Rattle.legal_prefixes.proofs.Leading.{lead-one_more}

-- the item of a list at an index within it
pub item_has : {X : Type 0} (xs : List X) (i : ℕ) (x : X) → i < length xs → x ≡ get_or xs i x
    → slice_get xs i ≡ Some x
item_has xs i x below is = slice_get-get_or xs i x below ∙ ap Some (sym is)

-- What is listed stays listed where a prefix is added.
pub listed-push : (prefixes : List LegalPrefix) (prefix : LegalPrefix) (cut list : List ℕ)
    → IsListed prefixes cut list → IsListed (prefixes ++ prefix ∷ []) cut list
listed-push prefixes prefix cut list (k, it, has, same_cut, same_list) =
    (k, it, slice_get-push_old prefixes prefix k it has, same_cut, same_list)

-- What is listed is listed by the same lists, at the same cut and list.
pub listed_as : (xs ys : List LegalPrefix) (cut other list last : List ℕ) → xs ≡ ys → cut ≡ other
    → list ≡ last → IsListed xs cut list → IsListed ys other last
listed_as xs ys cut other list last same_items same_cut same_list (k, it, has, cut_is, list_is) = (
  k,
  it,
  sym (ap (λ (zs : List LegalPrefix). slice_get zs k) same_items) ∙ has,
  cut_is ∙ same_cut,
  list_is ∙ same_list,
)

-- An added prefix is listed.
pub listed-last : (prefixes : List LegalPrefix) (prefix : LegalPrefix) (cut list : List ℕ)
    → prefix.cut ≡ cut → prefix.words.items ≡ list → IsListed (prefixes ++ prefix ∷ []) cut list
listed-last prefixes prefix cut list same_cut same_list =
    (length prefixes, prefix, slice_get-push_last prefixes prefix, same_cut, same_list)

-- Prefixes stay apart where one is added that leads to a cut and a list that aren't listed.
pub apart-push : (prefixes : List LegalPrefix) (prefix : LegalPrefix) (cut list : List ℕ)
    → prefix.cut ≡ cut → prefix.words.items ≡ list → AreApart prefixes
    → (IsListed prefixes cut list → ⊥) → AreApart (prefixes ++ prefix ∷ [])
apart-push prefixes prefix cut list same_cut same_list rest never j k one other has_one has_other cuts lists =
    elim (slice_get-push_cases prefixes prefix j one has_one) [
      | inl one_before ↦
          elim (slice_get-push_cases prefixes prefix k other has_other) [
            | inl other_before ↦ rest j k one other one_before other_before cuts lists
            | inr other_here ↦
                absurd (never (
                  j,
                  one,
                  one_before,
                  cuts ∙ ap (λ (p : LegalPrefix). p.cut) other_here.1 ∙ same_cut,
                  lists ∙ ap (λ (p : LegalPrefix). p.words.items) other_here.1 ∙ same_list,
                ))
          ]
      | inr one_here ↦
          elim (slice_get-push_cases prefixes prefix k other has_other) [
            | inl other_before ↦
                absurd (never (
                  k,
                  other,
                  other_before,
                  sym cuts ∙ ap (λ (p : LegalPrefix). p.cut) one_here.1 ∙ same_cut,
                  sym lists ∙ ap (λ (p : LegalPrefix). p.words.items) one_here.1 ∙ same_list,
                ))
            | inr other_here ↦ one_here.0 ∙ sym other_here.0
          ]
    ]

-- the call of a place that may stand next is the next one of its caller
pub next_is : (book : List Page) (next : List ℕ → ℕ → List ℕ × ℕ) (cut list : List ℕ) (caller : ℕ)
    (place : Place) → place.caller ≡ caller → MayStandNext book next cut list place
    → call_at place ≡ next_call cut caller
next_is book next cut list caller place by may =
    same_call (call_at place) (next_call cut caller) by
    (may.may_come.next ∙ ap (λ (i : ℕ). get_or cut i 0) by)

-- the operation word of a place that may stand next
word_is : (book : List Page) (next : List ℕ → ℕ → List ℕ × ℕ) (cut list : List ℕ) (caller op : ℕ)
    (place : Place) → place.caller ≡ caller → operation_of book (next_call cut caller) ≡ Some op
    → MayStandNext book next cut list place → (step_at book place).0 ≡ op
word_is book next cut list caller op place by asked may =
    ap (λ (c : Call). unwrap_or (operation_of book c) 0)
    (next_is book next cut list caller place by may)
    ∙ ap (λ (o : Option ℕ). unwrap_or o 0) asked

-- the list after a place that may stand next
pub list_is : (book : List Page) (next : List ℕ → ℕ → List ℕ × ℕ) (cut list : List ℕ)
    (caller op : ℕ) (place : Place) → place.caller ≡ caller
    → operation_of book (next_call cut caller) ≡ Some op
    → MayStandNext book next cut list place → list_after book next list place ≡ (next list op).0
list_is book next cut list caller op place by asked may =
    ap (λ (o : ℕ). (next list o).0) (word_is book next cut list caller op place by asked may)

-- the reply of a place that may stand next
pub reply_is : (book : List Page) (next : List ℕ → ℕ → List ℕ × ℕ) (cut list : List ℕ)
    (caller op : ℕ) (place : Place) → place.caller ≡ caller
    → operation_of book (next_call cut caller) ≡ Some op
    → MayStandNext book next cut list place → place.reply ≡ (next list op).1
reply_is book next cut list caller op place by asked may =
    sym may.reply
    ∙ ap (λ (o : ℕ). (next list o).1) (word_is book next cut list caller op place by asked may)

-- Where the object gives the next call of a caller another reply than the recorded one, no place of
-- the caller may stand next.
pub adds_none : (kind : Kind) (book : List Page) (prefix : LegalPrefix) (caller op : ℕ)
    (old : List LegalPrefix) → operation_of book (next_call prefix.cut caller) ≡ Some op
    → (((r : Record) → record_of book (next_call prefix.cut caller) ≡ Some r
    → r.reply ≡ (kind_next kind prefix.words.items op).1) → ⊥)
    → AddsCall kind book prefix caller old old
adds_none kind book prefix caller op old asked differs = record {
  kept = λ cut list it. it;
  added = λ (place : Place) (by : place.caller ≡ caller)
      (may : MayStandNext book (kind_next kind) prefix.cut prefix.words.items place).
      absurd (differs (λ (r : Record)
      (known : record_of book (next_call prefix.cut caller) ≡ Some r).
      may.recorded r (ap (record_of book)
      (next_is book (kind_next kind) prefix.cut prefix.words.items caller place by may) ∙ known)
      ∙ reply_is book (kind_next kind) prefix.cut prefix.words.items caller op place by asked may));
}

-- Where the new prefixes list what the old ones list, and what comes of a call, they add this call.
pub adds_one : (kind : Kind) (book : List Page) (prefix : LegalPrefix) (caller op : ℕ)
    (old new : List LegalPrefix) → operation_of book (next_call prefix.cut caller) ≡ Some op
    → ((cut list : List ℕ) → IsListed old cut list → IsListed new cut list)
    → IsListed new (raised prefix.cut caller) (kind_next kind prefix.words.items op).0
    → AddsCall kind book prefix caller old new
adds_one kind book prefix caller op old new asked kept it = record {
  kept = kept;
  added = λ (place : Place) (by : place.caller ≡ caller)
      (may : MayStandNext book (kind_next kind) prefix.cut prefix.words.items place).
      subst (λ (l : List ℕ). IsListed new (raised prefix.cut place.caller) l)
      (sym (list_is book (kind_next kind) prefix.cut prefix.words.items caller op place by asked may))
      (subst (λ (i : ℕ). IsListed new (raised prefix.cut i)
      (kind_next kind prefix.words.items op).0) (sym by) it);
}

-- A prefix with one more call is right for the book.
pub right_next : (kind : Kind) (book : List Page) (size : ℕ) (prefix longer : LegalPrefix)
    (caller op : ℕ) (place : Place) → IsPrefixOf kind book size prefix → place.caller ≡ caller
    → place.number ≡ get_or prefix.cut caller 0
    → place.reply ≡ (kind_next kind prefix.words.items op).1
    → MayComeNext book prefix.cut (next_call prefix.cut caller)
    → operation_of book (next_call prefix.cut caller) ≡ Some op
    → ((r : Record) → record_of book (next_call prefix.cut caller) ≡ Some r → r.reply ≡ place.reply)
    → longer.places.items ≡ prefix.places.items ++ place ∷ []
    → longer.cut ≡ raised prefix.cut caller
    → longer.words.items ≡ (kind_next kind prefix.words.items op).0
    → IsPrefixOf kind book (size + 1) longer
right_next kind book size prefix longer caller op place right by at gives comes asked recorded same_places same_cut same_list =
    let next = kind_next kind in
    let list = prefix.words.items in
    let is : call_at place ≡ next_call prefix.cut caller =
    same_call (call_at place) (next_call prefix.cut caller) by at in
    let word : (step_at book place).0 ≡ op =
    ap (λ (c : Call). unwrap_or (operation_of book c) 0) is
    ∙ ap (λ (o : Option ℕ). unwrap_or o 0) asked in
    let may : MayStandNext book next prefix.cut list place = record {
      may_come = subst (MayComeNext book prefix.cut) (sym is) comes;
      recorded = λ (r : Record) (known : record_of book (call_at place) ≡ Some r).
          recorded r (sym (ap (record_of book) is) ∙ known);
      reply = ap (λ (o : ℕ). (next list o).1) word ∙ sym gives;
    } in
    let after : list_after book next list place ≡ longer.words.items =
    ap (λ (o : ℕ). (next list o).0) word ∙ sym same_list in
    let cut_is : raised prefix.cut place.caller ≡ longer.cut =
    ap (raised prefix.cut) by ∙ sym same_cut in
    let leads = lead-one_more book next (no_calls book) (kind_init kind) prefix.places.items
    prefix.cut list place right.leads may in
    record {
      leads = subst (λ (ps : List Place). Lead book next (no_calls book) (kind_init kind) ps longer.cut
          longer.words.items) (sym same_places)
          (subst (λ (c : List ℕ). Lead book next (no_calls book) (kind_init kind)
          (prefix.places.items ++ place ∷ []) c longer.words.items) cut_is
          (subst (λ (l : List ℕ). Lead book next (no_calls book) (kind_init kind)
          (prefix.places.items ++ place ∷ []) (raised prefix.cut place.caller) l) after leads));
      count = ap length same_places
          ∙ omega (arith, length-append prefix.places.items (place ∷ []), right.count);
      wide = ap length same_cut
          ∙ omega (arith, length-set prefix.cut caller (get_or prefix.cut caller 0 + 1), right.wide);
      short = omega (arith, ap length same_list, length-kind_next kind list op, right.short);
    }

-- Right prefixes stay right where a right one is added.
pub right-push : (kind : Kind) (book : List Page) (size : ℕ) (old : List LegalPrefix)
    (prefix : LegalPrefix) → ArePrefixesOf kind book size old → IsPrefixOf kind book size prefix
    → ArePrefixesOf kind book size (old ++ prefix ∷ [])
right-push kind book size old prefix rest last k it has =
    elim (slice_get-push_cases old prefix k it has) [
      | inl before ↦ rest k it before
      | inr here ↦ subst (IsPrefixOf kind book size) (sym here.1) last
    ]

-- What the calls of the first callers add, and then that of one more caller.
pub adds_more : (kind : Kind) (book : List Page) (prefix : LegalPrefix) (caller : ℕ)
    (old mid new : List LegalPrefix) → AddsNext kind book prefix caller old mid
    → AddsCall kind book prefix caller mid new → AddsNext kind book prefix (caller + 1) old new
adds_more kind book prefix caller old mid new first then = record {
  kept = λ cut list it. then.kept cut list (first.kept cut list it);
  added = λ (place : Place) (below : place.caller < caller + 1)
      (may : MayStandNext book (kind_next kind) prefix.cut prefix.words.items place).
      elim (cases_eq place.caller caller) [
        | inl same ↦ then.added place same may
        | inr other ↦ then.kept _ _ (first.added place (omega arith) may)
      ];
}

-- A caller whose next call may not come next adds nothing.
pub adds_nothing : (kind : Kind) (book : List Page) (prefix : LegalPrefix) (caller : ℕ)
    (old : List LegalPrefix)
    → (MayComeNext book prefix.cut (next_call prefix.cut caller) → ⊥)
    → AddsCall kind book prefix caller old old
adds_nothing kind book prefix caller old never = record {
  kept = λ cut list it. it;
  added = λ (place : Place) (by : place.caller ≡ caller)
      (may : MayStandNext book (kind_next kind) prefix.cut prefix.words.items place).
      absurd (never (subst (MayComeNext book prefix.cut)
      (next_is book (kind_next kind) prefix.cut prefix.words.items caller place by may)
      may.may_come));
}

-- No callers add nothing.
pub adds_first : (kind : Kind) (book : List Page) (prefix : LegalPrefix) (old : List LegalPrefix)
    → AddsNext kind book prefix 0 old old
adds_first kind book prefix old = record {
  kept = λ cut list it. it;
  added = λ (place : Place) (below : place.caller < 0)
      (may : MayStandNext book (kind_next kind) prefix.cut prefix.words.items place).
      absurd (omega arith);
}

-- What comes of the first prefixes of a layer, and then of one more.
pub list_more : (kind : Kind) (book : List Page) (layer : List LegalPrefix) (k : ℕ)
    (prefix : LegalPrefix) (old new : List LegalPrefix) → ListNext kind book layer k old
    → slice_get layer k ≡ Some prefix → AddsNext kind book prefix (length book) old new
    → ((place : Place) → MayStandNext book (kind_next kind) prefix.cut prefix.words.items place
    → place.caller < length book)
    → ListNext kind book layer (k + 1) new
list_more kind book layer k prefix old new first has then inside j it place below there may =
    elim (cases_eq j k) [
      | inr other ↦ then.kept _ _ (first j it place (omega arith) there may)
      | inl same ↦
          let is : prefix ≡ it = same_Some prefix it (sym has ∙ ap (slice_get layer) (sym same) ∙ there) in
          let P : LegalPrefix → Type 0 = λ (p : LegalPrefix).
          MayStandNext book (kind_next kind) p.cut p.words.items place
          → IsListed new (raised p.cut place.caller)
          (list_after book (kind_next kind) p.words.items place) in
          let here : P prefix = λ (m : MayStandNext book (kind_next kind) prefix.cut
          prefix.words.items place). then.added place (inside place m) m in
          subst P is here may
    ]
