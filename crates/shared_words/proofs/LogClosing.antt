-- All seats come back to one seat, and the longest of their logs is the one log.
use Rattle.std.proofs.Common.{◌≡◌, ℕ, zero, suc, ◌+◌, ◌<◌, ◌≤◌, List, [], ◌∷◌, ◌++◌, length, map, slice_set, Some, refl, sym, ap, ◌∙◌, subst, inl, inr, arith, length-append}
use Rattle.std.specs.List.{All, Contains, range_with_len}
use Rattle.std.proofs.lemmas.List.{append-nil, map-append, nil_from_length}
use Rattle.std.proofs.lemmas.List.Elements.{All-cons, All-nil, All-head, All-tail, All-weaker, All-contains, Contains-append_right}
use mathlib.Core.Option.{some}
use lib.ListN.{get_elem?}
use Rattle.atomic_table.specs.Table.{Me, Final, Seen}
use Rattle.shared_words.specs.declared.entry.Entry.{Entry}
use Rattle.shared_words.specs.declared.seat.LogSeat.{LogSeat}
use Rattle.shared_words.specs.declared.shared_log.SharedLog.{SharedLog}
use Rattle.shared_words.specs.Entries.{calls_by, BeginsWith, IsWithinCap, IsLonger}
use Rattle.row_table.specs.Holders.{has, only}
use Rattle.shared_words.specs.Hands.{View}
use Rattle.shared_words.specs.LogRule.{HaveOneLog, Ruled}
use Rattle.shared_words.specs.Seats.{caller_of, log_of, hand_of, AreSeatsOf, IsOneLog}
use Rattle.shared_words.proofs.Logs.{ends, All-suffix, whole_prefix}
use Rattle.shared_words.proofs.Coming.{split_back, split_all, IsComing, starts_coming, more_coming, all_hands}

-- The longest of the logs of some seats.
pub record IsLongestOf (seats : List LogSeat) (longest : List Entry) : Type 0 where
  pub most : All (λ s. length (log_of s) ≤ length longest) seats
  pub from : LogSeat
  pub stands : Contains seats from
  pub is : log_of from ≡ longest

-- A suffix of the seats of n callers came back: a view has their hands, and `longest` is the
-- longest of their logs.
pub record IsClosing (n : ℕ) (all rest : List LogSeat) (v : View)
    (longest : List Entry) : Type 0 where
  pub coming : IsComing caller_of hand_of n all rest v
  pub gathered : List LogSeat
  pub split : all ≡ rest ++ gathered
  pub got : IsLongestOf gathered longest

-- closing begins with the last caller's seat, to which the others come back
pub starts_closing : (n : ℕ) (all rest : List LogSeat) (last : LogSeat) (me : Me (Unit {0}) View)
    → all ≡ rest ++ last ∷ [] → map caller_of all ≡ range_with_len 0 n → me ≡ last.seat.seat.me
    → IsClosing n all rest me.0 (log_of last)
starts_closing n all rest last me is callers kept =
    let alone : me.0 ≡ only (caller_of last) (hand_of last) =
    ap (λ (m : Me (Unit {0}) View). m.0) (kept ∙ last.seat.alone) in
    record {
      coming = starts_coming caller_of hand_of n all rest last me.0 is callers alone;
      gathered = last ∷ [];
      split = is;
      got =
          record {
            most = All-cons (λ s. length (log_of s) ≤ length (log_of last)) last [] (omega arith)
                (All-nil (λ s. length (log_of s) ≤ length (log_of last)));
            from = last;
            stands = (0, omega arith, refl);
            is = refl;
          };
    }

module _ (l : SharedLog) (all rest rest' : List LogSeat) (s : LogSeat) (v : View)
    (longest : List Entry)
    (seats : AreSeatsOf l all) (h : IsClosing l.callers all rest v longest)
    (popped : rest ≡ rest' ++ s ∷ []) (u : View) (longest' : List Entry)
    (after : u ≡ slice_set v (caller_of s) (Some (hand_of s)))
    (longer : IsLonger longest (log_of s) longest') where
  longest_from : (t : LogSeat) × Contains (s ∷ h.gathered) t × (log_of t ≡ longest')
  longest_from = elim longer.same [
    | inl first ↦ (
      h.got.from,
      Contains-append_right (s ∷ []) h.gathered h.got.from h.got.stands,
      h.got.is ∙ sym first,
    )
    | inr second ↦ (s, (0, omega arith, refl), sym second)
  ]

  pub more_closing : IsClosing l.callers all rest' u longest'
  more_closing =
      record {
        coming = more_coming caller_of hand_of l.callers all rest rest' s v seats.callers
            h.coming popped u after;
        gathered = s ∷ h.gathered;
        split = split_back all rest rest' h.gathered s h.split popped;
        got =
            record {
              most =
                  All-cons (λ t. length (log_of t) ≤ length longest') s h.gathered longer.second
                  (All-weaker (λ t. length (log_of t) ≤ length longest)
                  (λ t. length (log_of t) ≤ length longest')
                  (λ t most. let up = longer.first in omega arith) h.gathered h.got.most);
              from = longest_from.0;
              stands = longest_from.1;
              is = longest_from.2;
            };
      }

-- a list that passes on each of its elements has what passes at each place below its length
at_place : (n : ℕ) (P : LogSeat → Type 0) (a : ℕ) (seats : List LogSeat) (i : ℕ) → All P seats
    → map caller_of seats ≡ range_with_len a n → i < n → (s : LogSeat) × P s × (caller_of s ≡ a + i)
    × Contains seats s
at_place zero P a seats i all callers low = absurd (omega arith)
at_place (suc n) P a [] i all callers low = absurd (let long = ap length callers in omega arith)
at_place (suc n) P a (s ∷ seats) zero all callers low =
    let head : caller_of s ≡ a = cc in
    (s, All-head P s seats all, (let same = head in omega arith), (0, omega arith, refl))
at_place (suc n) P a (s ∷ seats) (suc i) all callers low =
    let tail : map caller_of seats ≡ range_with_len (a + 1) n = cc in
    let deeper = at_place n P (a + 1) seats i (All-tail P s seats all) tail (omega arith) in (
      deeper.0,
      deeper.1,
      (let same = deeper.2 in omega arith),
      Contains-append_right (s ∷ []) seats deeper.0 deeper.3,
    )

-- the longest log is the one log
module _ (n cap : ℕ) (words : List ℕ) (views : List View) (id : ℕ) (v : View) (seats : List LogSeat)
    (longest : List Entry)
    (r : HaveOneLog n cap words views) (at : get_elem? views id ≡ some v)
    (callers : map caller_of seats ≡ range_with_len 0 n)
    (hands : All (λ s. has v (caller_of s) ≡ Some (hand_of s)) seats)
    (got : IsLongestOf seats longest) where
  abbrev Knows : LogSeat → Type 0
  Knows s = BeginsWith r.log (log_of s)
      × (calls_by (caller_of s) r.log ≡ calls_by (caller_of s) (log_of s))

  knows : All Knows seats
  knows = All-weaker (λ s. has v (caller_of s) ≡ Some (hand_of s)) Knows
      (λ s here. let fits = (r.hands.held (caller_of s) id v (hand_of s) at here).1 in (
        subst (λ (l : List Entry). BeginsWith r.log l) s.knows fits.prefix,
        fits.own ∙ ap (calls_by (caller_of s)) s.knows,
      )) seats hands

  prefix : BeginsWith r.log longest
  prefix = subst (λ (l : List Entry). BeginsWith r.log l) got.is
      (All-contains Knows seats got.from knows got.stands).0

  long_enough : length r.log ≤ length longest
  long_enough = elim (ends r.log) [
    | inl none ↦ let zero_long = ap length none in omega arith
    | inr some' ↦
        let e = some'.1 in
        let low : e.caller < n =
        All-head (λ (d : Entry). d.caller < n)
        e [] (All-suffix (λ (d : Entry). d.caller < n) some'.0 (e ∷ [])
        (subst (λ (l : List Entry). All (λ d. d.caller < n) l) some'.2 r.stand.within.callers)) in
        let own = at_place n Knows 0 seats e.caller knows callers low in
        let who : caller_of own.0 ≡ e.caller = (let same = own.2 in omega arith) in
        let calls : calls_by e.caller r.log ≡ calls_by e.caller (log_of own.0) =
        subst (λ (i : ℕ). calls_by i r.log ≡ calls_by i (log_of own.0)) who own.1.1 in
        let whole = whole_prefix r.log (log_of own.0) some'.0 e some'.2 own.1.0 calls in
        let same = ap length whole in
        let most =
        All-contains (λ s. length (log_of s) ≤ length longest) seats own.0 got.most own.3 in
        omega arith
  ]

  pub longest_is : r.log ≡ longest
  longest_is =
      let long = ap length prefix.1 in
      let none : length prefix.0 ≡ 0 =
      (let enough = long_enough in omega (arith, length-append longest prefix.0)) in
      prefix.1 ∙ ap (λ (l : List Entry). longest ++ l) (nil_from_length prefix.0 none)
      ∙ append-nil longest

  pub within_closed : IsWithinCap n cap longest
  within_closed = subst (λ (l : List Entry). IsWithinCap n cap l) longest_is r.stand.within

  pub one_log : IsOneLog longest seats
  one_log =
      record {
        prefixes = All-weaker Knows (λ s. BeginsWith longest (log_of s))
            (λ s k. subst (λ (l : List Entry). BeginsWith l (log_of s)) longest_is k.0) seats knows;
        calls = All-weaker Knows
            (λ s. calls_by (caller_of s) longest ≡ calls_by (caller_of s) (log_of s))
            (λ s k. subst (λ (l : List Entry). calls_by (caller_of s) l
            ≡ calls_by (caller_of s) (log_of s)) longest_is k.1) seats knows;
      }

-- where all seats came back, the closed table determines their one log
pub closes : (n cap id : ℕ) (v : View) (all rest : List LogSeat) (longest : List Entry)
    (ws : List ℕ) (homes : List (Unit {0})) → map caller_of all ≡ range_with_len 0 n
    → IsClosing n all rest v longest
    → length rest ≡ 0 → Final (Seen (Ruled n cap) id v) ws homes → IsWithinCap n cap longest
    × IsOneLog longest all
closes n cap id v all rest longest ws homes callers h none final =
    let hands = all_hands caller_of hand_of n all rest v h.coming none in
    let got : IsLongestOf all longest =
    subst (λ (ss : List LogSeat). IsLongestOf ss longest)
    (split_all all rest h.gathered h.split none) h.got in
    let seen = final.1 in (
      within_closed n cap final.0.words final.0.views id v all longest seen.0 seen.1
          callers hands got,
      one_log n cap final.0.words final.0.views id v all longest seen.0 seen.1 callers hands got,
    )

-- where all seats came back, the closed table determines their one log, under the numbers that the
-- table was given
pub closed : (l : SharedLog) (id : ℕ) (v : View) (all rest : List LogSeat) (longest : List Entry)
    (ws : List ℕ) (homes : List (Unit {0})) → AreSeatsOf l all
    → IsClosing l.callers all rest v longest
    → length rest ≡ 0
    → Final (Seen (Ruled l.table.shared.key.callers l.table.shared.key.cap) id v) ws homes
    → IsWithinCap l.callers l.cap longest × IsOneLog longest all
closed l id v all rest longest ws homes seats h none final =
    closes l.callers l.cap id v all rest longest ws homes seats.callers h none
    (subst (λ (k : ℕ × ℕ). Final (Seen (Ruled k.0 k.1) id v) ws homes)
    (λ i. (l.sized.2 i, l.sized.3 i)) final)

-- the seats of some items are those of the items left, and then that of the item that was taken off
-- the end
pub seat_popped : {A : Type 0} (f : A → LogSeat) (all rest : List A) (last : A) (s : LogSeat)
    → all ≡ rest ++ last ∷ [] → s ≡ f last → map f all ≡ map f rest ++ s ∷ []
seat_popped f all rest last s is own = ap (map f) is ∙ map-append f rest (last ∷ [])
    ∙ ap (λ (t : LogSeat). map f rest ++ t ∷ []) (sym own)

pub no_seats : {A : Type 0} (f : A → LogSeat) (all : List A) → length all ≡ 0
    → length (map f all) ≡ 0
no_seats f all none = ap (λ (l : List _). length (map f l)) (nil_from_length all none)
