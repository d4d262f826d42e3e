-- No places continue an order from the pairs of a closed table: fewer and fewer places would
-- continue it.
use Rattle.std.proofs.Common.{◌≡◌, ℕ, zero, suc, ◌+◌, ◌<◌, ◌≤◌, ◌∙◌, IsTrue, List, [], ◌∷◌, ◌++◌, length, get_or, Option, Some, None, unwrap_or, refl, sym, ap, subst, inl, inr, slice_get, arith}
use Rattle.std.specs.List.{AllByRecursion}
use Rattle.std.specs.Option.{IfSome}
use Rattle.std.proofs.lemmas.List.{length-replicate}
use Rattle.std.proofs.lemmas.Option.{same_Some, none-some}
use Rattle.list_laws.proofs.Places.{get_or-replicate_default}
use Rattle.book_base.specs.declared.call.Call.{Call}
use Rattle.book_base.specs.declared.call.Place.{Place}
use Rattle.book_base.specs.SeqSpec.{spec_from}
use Rattle.book_base.specs.Book.{Page, IsValid, operation_of}
use Rattle.book_base.specs.Order.{call_at}
use Rattle.book_base.specs.Next.{next_call, raised, MayComeNext, MayStandNext, Continues}
use Rattle.book_base.specs.Pruning.{HasOneOpen}
use Rattle.legal_orders.proofs.LegalOrder.{raised_same, raised_more, same_call, within_cut, continues_from_legal_order}
use Rattle.legal_orders.specs.Container.{Effect, Puts, Takes, Reading}
use Rattle.legal_orders.specs.Calls.{IsNeverTaken}
use Rattle.legal_orders.specs.Twins.{IsTwin}
use Rattle.legal_orders.proofs.Exchanging.{twin_serves}
use Rattle.legal_orders.proofs.Omitting.{idle_may_be_left_out}
use Rattle.list_pruning.specs.HoldsLast.{IsRead}
use Rattle.list_pruning.proofs.Placing.{all-weaker, cases_deed}
use Rattle.list_pruning.proofs.Taking.{word_at, word_is}
use Rattle.list_pruning.specs.LastFirst.{GivesLastFirst, EndsWith, IsKept, IsItem, HasTop}
use Rattle.list_pruning.proofs.Stepping.{all-append, all-prefix, all_next}
use Rattle.stack_levels.specs.Levels.{Layer, Nodes, IsAmong, IsOneLevel, TakeLeads, DeedLeads, CallLeads, ShowsAnother, LeavesTop, ServesAtLevel, IsFollowed, IsKeptLayer, no_calls, IsClosed}
use Rattle.stack_levels.specs.LevelLaws.{StackHasNoOrder, ClosedTablesHaveNoOrder}

-- ---- lists, with their tops first

-- The list that has these words, given from the last one to the first.
abbrev upright : List ℕ → List ℕ
upright [] = []
upright (v ∷ below) = upright below ++ v ∷ []

-- A level ends a list, given from the last word to the first: the list is empty and the level has
-- no last word, or both have the same last word and some parent of the level ends the rest.
abbrev Ends : List Layer → List ℕ → ℕ → Type 0
Ends layers [] l = (layer : Layer) × (slice_get layers l ≡ Some layer) × (layer.top.last ≡ None)
Ends layers (v ∷ below) l = (layer : Layer) × (slice_get layers l ≡ Some layer)
    × (layer.top.last ≡ Some v)
    × ((p : ℕ) × IsOneLevel layer.parents p × Ends layers below p)

-- Where a level ends a list and has a last word, the list ends with this word.
ends_last : (layers : List Layer) (tops : List ℕ) (l : ℕ) (layer : Layer)
    → slice_get layers l ≡ Some layer → Ends layers tops l
    → IfSome layer.top.last (EndsWith (upright tops))
ends_last layers [] l layer at ends =
    let same : ends.0 ≡ layer = same_Some ends.0 layer (sym ends.1 ∙ at) in
    subst (λ (o : Option ℕ). IfSome o (EndsWith []))
    (sym ends.2 ∙ ap (λ (x : Layer). x.top.last) same) tt
ends_last layers (v ∷ below) l layer at ends =
    let same : ends.0 ≡ layer = same_Some ends.0 layer (sym ends.1 ∙ at) in
    subst (λ (o : Option ℕ). IfSome o (EndsWith (upright below ++ v ∷ [])))
    (sym ends.2 ∙ ap (λ (x : Layer). x.top.last) same)
    (upright below, refl)

-- Where a level that ends a list is said to be kept, no answered call that a cut lacks takes any
-- word of the list, if each level that is said to be kept is kept, as `IsKeptLayer` says.
all-kept : (reading : Reading) (book : List Page) (layers : List Layer)
    → ((l : ℕ) (layer : Layer) → slice_get layers l ≡ Some layer → IsTrue layer.top.kept
    → IsKeptLayer reading book layers layer)
    → (cut tops : List ℕ) (l : ℕ) (layer : Layer) → slice_get layers l ≡ Some layer
    → Ends layers tops l → IsTrue layer.top.kept
    → AllByRecursion (IsKept reading book cut) (upright tops)
all-kept reading book layers are cut [] l layer at ends kept = tt
all-kept reading book layers are cut (v ∷ below) l layer at ends kept =
    let is = are l layer at kept in
    let same : ends.0 ≡ layer = same_Some ends.0 layer (sym ends.1 ∙ at) in
    let last : layer.top.last ≡ Some v = sym (ap (λ (x : Layer). x.top.last) same) ∙ ends.2 in
    let never : IsNeverTaken reading book v =
    subst (λ (o : Option ℕ). IfSome o (IsNeverTaken reading book)) last is.word in
    let p : ℕ = ends.3.0 in
    let under = is.below p (subst (λ (x : Layer). IsOneLevel x.parents p) same ends.3.1) in
    all-append (IsKept reading book cut) (upright below) v
    (all-kept reading book layers are cut below p under.0 under.1 ends.3.2 under.2)
    (λ (read : IsRead reading book cut v). never read.0 read.1.0)

-- A list that a level ends has the top of this level, where each item of it is below the bound and
-- was put in by a call of the cut.
has_top : (reading : Reading) (book : List Page) (layers : List Layer) (nodes : Nodes)
    → IsClosed reading book layers nodes
    → (cut tops : List ℕ) (bound l : ℕ) (layer : Layer) → slice_get layers l ≡ Some layer
    → Ends layers tops l
    → AllByRecursion (IsItem reading book cut bound) (upright tops)
    → HasTop reading book cut bound layer.top (upright tops)
has_top reading book layers nodes table cut tops bound l layer at ends items = record {
  last = ends_last layers tops l layer at ends;
  items = items;
  kept = λ kept. all-kept reading book layers table.kept cut tops l layer at ends kept;
}

-- ---- one call

-- Places continue an order from a cut and a list, where a level that is a pair with the cut ends
-- the list, and each item of the list is below the bound and was put in by a call of the cut.
record Onward (reading : Reading) (book : List Page) (next : List ℕ → ℕ → List ℕ × ℕ)
    (layers : List Layer) (nodes : Nodes)
    (bound : ℕ) (cut : List ℕ) (rest : List Place) : Type 0 where
  tops : List ℕ
  level : ℕ
  ends : Ends layers tops level
  node : nodes level cut
  items : AllByRecursion (IsItem reading book cut bound) (upright tops)
  goes : Continues book next cut (upright tops) rest

-- Where each item of a list is below the bound and was put in by a call of the cut, each item of
-- the list after one more call is below the bound and was put in by a call of the cut with that
-- call.
items_after : (reading : Reading) (next : List ℕ → ℕ → List ℕ × ℕ) (bound : ℕ)
    → GivesLastFirst reading next bound → (book : List Page)
    (cut list : List ℕ) (place : Place) (op : ℕ) → length book ≤ length cut
    → MayComeNext book cut (call_at place) → operation_of book (call_at place) ≡ Some op
    → AllByRecursion (IsItem reading book cut bound) list
    → AllByRecursion (IsItem reading book (raised cut place.caller) bound) (next list op).0
items_after reading next bound is book cut list place op wide may known items =
    let inside : place.caller < length cut = within_cut book cut (call_at place) wide may.is_call in
    let later : AllByRecursion (IsItem reading book (raised cut place.caller) bound) list
    = all-weaker (IsItem reading book cut bound)
    (IsItem reading book (raised cut place.caller) bound) list
    (λ (x : ℕ) (item : IsItem reading book cut bound x). record {
      small = item.small;
      put = item.put;
      puts = item.puts;
      inside = omega (arith, item.inside, raised_more cut place.caller item.put.caller inside);
    }) items in
    all_next reading next bound is (IsItem reading book (raised cut place.caller) bound) list op
    (λ (v : ℕ) (puts : reading.deed op ≡ Puts v). record {
      small = is.small op v puts;
      put = call_at place;
      puts = (op, known, puts);
      inside = omega (arith, may.next, raised_same cut place.caller inside);
    }) later

-- Where a take leads from a level that ends a list to the pairs, some level ends the list after the
-- take, and this level is a pair with the cut after the take.
take-leads : (reading : Reading) (next : List ℕ → ℕ → List ℕ × ℕ) (bound : ℕ)
    → GivesLastFirst reading next bound → (layers : List Layer) (nodes : Nodes)
    (tops : List ℕ) (l op : ℕ) (layer : Layer) (after : List ℕ) → reading.deed op ≡ Takes
    → slice_get layers l ≡ Some layer → Ends layers tops l
    → TakeLeads nodes l layer.top.last layer.parents after
    → (left : List ℕ) × (m : ℕ) × Ends layers left m × nodes m after
    × ((next (upright tops) op).0 ≡ upright left)
take-leads reading next bound is layers nodes [] l op layer after takes at ends leads =
    let same : ends.0 ≡ layer = same_Some ends.0 layer (sym ends.1 ∙ at) in
    let last : layer.top.last ≡ None = sym (ap (λ (x : Layer). x.top.last) same) ∙ ends.2 in (
      [],
      l,
      ends,
      subst (λ (o : Option ℕ). TakeLeads nodes l o layer.parents after) last leads,
      (is.empty op takes).0,
    )
take-leads reading next bound is layers nodes (v ∷ below) l op layer after takes at ends leads =
    let same : ends.0 ≡ layer = same_Some ends.0 layer (sym ends.1 ∙ at) in
    let last : layer.top.last ≡ Some v = sym (ap (λ (x : Layer). x.top.last) same) ∙ ends.2 in
    let p : ℕ = ends.3.0 in
    let all : (q : ℕ) → IsOneLevel layer.parents q → nodes q after =
    subst (λ (o : Option ℕ). TakeLeads nodes l o layer.parents after) last leads in (
      below,
      p,
      ends.3.2,
      all p (subst (λ (x : Layer). IsOneLevel x.parents p) same ends.3.1),
      is.take (upright below) v op takes,
    )

-- Where the call of a first place leads from a level that ends the list to the pairs, some level
-- ends the list after this call and is a pair with the new cut, and the places after the first one
-- continue the order from that list.
leads_on : (reading : Reading) (next : List ℕ → ℕ → List ℕ × ℕ) (bound : ℕ)
    → GivesLastFirst reading next bound → (book : List Page) (layers : List Layer) (nodes : Nodes)
    (cut tops : List ℕ) (l : ℕ) (layer : Layer) (place : Place) (rest : List Place)
    → length book ≤ length cut → slice_get layers l ≡ Some layer → Ends layers tops l
    → AllByRecursion (IsItem reading book cut bound) (upright tops)
    → CallLeads reading book layers nodes l layer cut (call_at place)
    → Continues book next cut (upright tops) (place ∷ rest)
    → Onward reading book next layers nodes bound (raised cut place.caller) rest
leads_on reading next bound is book layers nodes cut tops l layer place rest wide at ends items
    leads goes =
    let op : ℕ = leads.0 in
    let after : List ℕ = raised cut place.caller in
    let word : word_at book place ≡ op = word_is book place op leads.1 in
    let new : AllByRecursion (IsItem reading book after bound) (next (upright tops) op).0
    = items_after reading next bound is book cut
    (upright tops) place op wide goes.0.may_come leads.1 items in
    let on : Continues book next after (next (upright tops) op).0 rest
    = subst (λ (w : ℕ). Continues book next after (next (upright tops) w).0 rest) word goes.1 in
    let to = λ (left : List ℕ) (m : ℕ) (its : Ends layers left m) (node : nodes m after)
    (list : (next (upright tops) op).0 ≡ upright left).
    let it : Onward reading book next layers nodes bound after rest = record {
      tops = left;
      level = m;
      ends = its;
      node = node;
      items = subst (λ (xs : List ℕ). AllByRecursion (IsItem reading book after bound) xs) list new;
      goes = subst (λ (xs : List ℕ). Continues book next after xs rest) list on;
    } in it in
    elim (cases_deed (reading.deed op)) [
      | inl put ↦
          let by = subst (λ (d : Effect). DeedLeads layers nodes l layer after d) put.1 leads.2 in
          to (put.0 ∷ tops) by.0 (by.1, by.2, by.3, (l, by.4, ends)) by.5
          (is.put (upright tops) op put.0 put.1)
      | inr other ↦ elim other [
        | inl takes ↦
            let by = take-leads reading next bound is layers nodes tops l op layer after takes at
            ends (subst (λ (d : Effect). DeedLeads layers nodes l layer after d) takes leads.2) in
            to by.0 by.1 by.2 by.3 by.4
        | inr neither ↦
            to tops l ends
            (subst (λ (d : Effect). DeedLeads layers nodes l layer after d) neither leads.2)
            (is.neither (upright tops) op neither)
      ]
    ]

-- A take from a list that a level ends shows the last word of the level, or nothing where it has
-- none.
take_shows : (reading : Reading) (next : List ℕ → ℕ → List ℕ × ℕ) (bound : ℕ)
    → GivesLastFirst reading next bound → (book : List Page) (layers : List Layer)
    (cut tops : List ℕ) (l op : ℕ) (layer : Layer) → slice_get layers l ≡ Some layer
    → Ends layers tops l → AllByRecursion (IsItem reading book cut bound) (upright tops)
    → reading.deed op ≡ Takes → reading.shown (next (upright tops) op).1 ≡ layer.top.last
take_shows reading next bound is book layers cut [] l op layer at ends items takes =
    let same : ends.0 ≡ layer = same_Some ends.0 layer (sym ends.1 ∙ at) in
    (is.empty op takes).1 ∙ (sym ends.2 ∙ ap (λ (x : Layer). x.top.last) same)
take_shows reading next bound is book layers cut (v ∷ below) l op layer at ends items takes =
    let same : ends.0 ≡ layer = same_Some ends.0 layer (sym ends.1 ∙ at) in
    is.shows (upright below) v op
    (all-prefix (IsItem reading book cut bound) (upright below) v items).1.small takes
    ∙ (sym ends.2 ∙ ap (λ (x : Layer). x.top.last) same)

-- An answered take that shows something other than the last word of a level can't come next in an
-- order at a list that this level ends.
not_shown : (reading : Reading) (next : List ℕ → ℕ → List ℕ × ℕ) (bound : ℕ)
    → GivesLastFirst reading next bound → (book : List Page) (layers : List Layer)
    (cut tops : List ℕ) (l : ℕ) (layer : Layer) (place : Place) → slice_get layers l ≡ Some layer
    → Ends layers tops l → AllByRecursion (IsItem reading book cut bound) (upright tops)
    → ShowsAnother reading book layer.top.last (call_at place)
    → MayStandNext book next cut (upright tops) place → ⊥
not_shown reading next bound is book layers cut tops l layer place at ends items another may =
    let takes = another.1 in
    let op : ℕ = takes.0 in
    let word : word_at book place ≡ op = word_is book place op takes.2 in
    let gives : (next (upright tops) op).1 ≡ takes.1.reply
    = ap (λ (w : ℕ). (next (upright tops) w).1) (sym word)
    ∙ (may.reply ∙ sym (may.recorded takes.1 takes.3)) in
    another.2 (sym takes.5 ∙ (ap reading.shown (sym gives)
    ∙ take_shows reading next bound is book layers cut tops l op layer at ends items takes.4))

-- A take doesn't change a list that a level without a last word ends.
nothing_taken : (next : List ℕ → ℕ → List ℕ × ℕ) (bound : ℕ) (reading : Reading)
    → GivesLastFirst reading next bound → (layers : List Layer)
    (tops : List ℕ) (l op : ℕ) (layer : Layer) → slice_get layers l ≡ Some layer
    → Ends layers tops l → reading.deed op ≡ Takes → layer.top.last ≡ None
    → (next (upright tops) op).0 ≡ upright tops
nothing_taken next bound reading is layers [] l op layer at ends takes none = (is.empty op takes).0
nothing_taken next bound reading is layers (v ∷ below) l op layer at ends takes none =
    let same : ends.0 ≡ layer = same_Some ends.0 layer (sym ends.1 ∙ at) in
    absurd (none-some v (sym none ∙ (sym (ap (λ (x : Layer). x.top.last) same) ∙ ends.2)))

-- A first place whose call is unanswered and doesn't change the list may be left out: some places,
-- at most as many as come after it, continue the order.
left_out : (reading : Reading) (next : List ℕ → ℕ → List ℕ × ℕ) (bound : ℕ)
    → GivesLastFirst reading next bound → (book : List Page) → HasOneOpen book
    → (layers : List Layer)
    (cut tops : List ℕ) (l : ℕ) (layer : Layer) (place : Place) (rest : List Place)
    → length book ≤ length cut → slice_get layers l ≡ Some layer → Ends layers tops l
    → LeavesTop reading book layer.top.last (call_at place)
    → Continues book next cut (upright tops) (place ∷ rest)
    → (other : List Place) × Continues book next cut (upright tops) other
    × (length other ≤ length rest)
left_out reading next bound is book one layers cut tops l layer place rest wide at ends
    leaves goes =
    let op : ℕ = leaves.1.0 in
    let word : word_at book place ≡ op = word_is book place op leaves.1.1 in
    let stays : (next (upright tops) op).0 ≡ upright tops = elim leaves.1.2 [
      | inl neither ↦ is.neither (upright tops) op neither
      | inr takes ↦
          nothing_taken next bound reading is layers tops l op layer at ends takes.0 takes.1
    ] in
    idle_may_be_left_out book next cut (upright tops) place rest wide one leaves.0
    (ap (λ (w : ℕ). (next (upright tops) w).0) word ∙ stays) goes

-- A call that serves for another one at a level is a twin of it at each list that this level ends.
is_twin : (reading : Reading) (next : List ℕ → ℕ → List ℕ × ℕ) (bound : ℕ)
    → GivesLastFirst reading next bound → (book : List Page) (layers : List Layer)
    (cut tops : List ℕ) (l : ℕ) (layer : Layer) (a b : Call) → slice_get layers l ≡ Some layer
    → Ends layers tops l → AllByRecursion (IsItem reading book cut bound) (upright tops)
    → MayComeNext book cut a → MayComeNext book cut b
    → ServesAtLevel reading book layer.top.last a b
    → IsTwin book next cut (upright tops) a b
is_twin reading next bound is book layers cut tops l layer a b at ends items first second serves =
    record {
      apart = serves.apart;
      first = first;
      second = second;
      same = serves.same;
      serves = elim serves.sooner [
        | inl alike ↦ inl (alike.0, alike.2, inl (alike.1, alike.3, sym alike.4, alike.5))
        | inr more ↦ elim more [
          | inl takes ↦
              let op : ℕ = takes.2.0 in
              let word : unwrap_or (operation_of book a) 0 ≡ op =
              ap (λ (o : Option ℕ). unwrap_or o 0) takes.2.2 in
              let shows : reading.shown (next (upright tops) (unwrap_or (operation_of book a) 0)).1
              ≡ Some takes.0
              = ap (λ (w : ℕ). reading.shown (next (upright tops) w).1) word
              ∙ (take_shows reading next bound is book layers cut tops l op layer at ends items
              takes.2.4 ∙ takes.1) in
              inl (takes.2.1, takes.2.3, inr (takes.3, is.one_reply _ _ takes.0 shows takes.2.5))
          | inr neither ↦ inr neither
        ]
      ];
    }

-- ---- all calls

-- No places continue an order from a list that a level ends, after a cut with which this level is a
-- pair of a closed table.
never_goes : (reading : Reading) (next : List ℕ → ℕ → List ℕ × ℕ) (bound : ℕ)
    → GivesLastFirst reading next bound → (book : List Page) → IsValid book → HasOneOpen book
    → (layers : List Layer) (nodes : Nodes) → IsClosed reading book layers nodes
    → (few : ℕ) (cut : List ℕ) (rest : List Place)
    → Onward reading book next layers nodes bound cut rest → length rest < few → ⊥
never_goes reading next bound is book valid one layers nodes table zero cut rest on short =
    omega (arith, short)
never_goes reading next bound is book valid one layers nodes table (suc few) cut rest on short =
    let tops : List ℕ = on.tops in
    let l : ℕ = on.level in
    let at = table.closed l cut on.node in
    let layer : Layer = at.layer in
    let by = at.suffice next bound (upright tops) is
    (has_top reading book layers nodes table cut tops bound l layer at.there on.ends on.items)
    rest on.goes in
    let place : Place = by.0 in
    let goes : Continues book next cut (upright tops) (place ∷ by.1) = by.3 in
    let call : call_at place ≡ next_call cut place.caller =
    same_call (call_at place) (next_call cut place.caller) refl goes.0.may_come.next in
    let followed : IsFollowed reading book layers nodes l layer cut (call_at place)
    = subst (IsFollowed reading book layers nodes l layer cut) (sym call)
    (at.followed place.caller by.2) in
    let again = λ (to : List ℕ) (left : List Place)
    (there : Onward reading book next layers nodes bound to left) (less : length left < few).
    never_goes reading next bound is book valid one layers nodes table few to left there less in
    elim followed [
      | inl another ↦ not_shown reading next bound is book layers cut tops l layer place at.there
          on.ends on.items another goes.0
      | inr more ↦ elim more [
        | inl leaves ↦
            let left = left_out reading next bound is book one layers cut tops l layer place by.1
            at.wide at.there on.ends leaves goes in
            again cut left.0 (record {
              tops = tops;
              level = l;
              ends = on.ends;
              node = on.node;
              items = on.items;
              goes = left.1;
            }) (omega (arith, short, by.4, left.2))
        | inr most ↦ elim most [
          | inl leads ↦
              again (raised cut place.caller) by.1
              (leads_on reading next bound is book layers nodes cut tops l layer place by.1 at.wide
              at.there on.ends on.items leads goes) (omega (arith, short, by.4))
          | inr served ↦
              let a : Call = next_call cut served.0 in
              let twin : IsTwin book next cut (upright tops) a (call_at place)
              = is_twin reading next bound is book layers cut tops l layer a
              (call_at place) at.there on.ends on.items served.1 goes.0.may_come served.2 in
              let other =
              twin_serves book next cut (upright tops) a place by.1 at.wide valid one twin goes in
              let first : Place =
              record { caller = a.caller; number = a.number; reply = place.reply } in
              again (raised cut first.caller) other.0
              (leads_on reading next bound is book layers nodes cut tops l layer first other.0
              at.wide at.there on.ends on.items served.3 other.1)
              (omega (arith, short, by.4, other.2))
        ]
      ]
    ]

-- Where a table is closed, by whatever set of pairs, no object that gives its last value first and
-- begins with the empty list has a legal order of a valid book with one open.
pub no_order_where_closed : (reading : Reading) (book : List Page) (layers : List Layer)
    (nodes : Nodes) → IsValid book → HasOneOpen book
    → IsClosed reading book layers nodes → StackHasNoOrder reading book
no_order_where_closed reading book layers nodes valid one table next bound is has =
    let wide : length book ≤ length (no_calls book) =
    omega (arith, length-replicate {A = ℕ} (length book) 0) in
    let zeros : (i : ℕ) → get_or (no_calls book) i 0 ≡ 0 =
    λ i. get_or-replicate_default (length book) i 0 in
    never_goes reading next bound is book valid one layers nodes table (length has.0 + 1)
    (no_calls book) has.0
    (record {
      tops = [];
      level = 0;
      ends = (table.bottom, table.first, table.empty);
      node = table.start;
      items = tt;
      goes = continues_from_legal_order book (spec_from [] next)
          (no_calls book) has.0 wide zeros has.1;
    }) (omega arith)

-- Where a table of levels is closed for a valid book with one open, by the set of pairs of a list,
-- no object that gives its last value first and begins with the empty list has a legal order of the
-- book.
pub closed_tables_have_no_order : ClosedTablesHaveNoOrder
closed_tables_have_no_order reading book layers pairs valid one table =
    no_order_where_closed reading book layers (IsAmong pairs) valid one table
