-- Passes that are made of the seats of a log, each with its tools.
use Rattle.std.proofs.Common.{◌≡◌, ℕ, ◌*◌, ◌≤◌, List, [], ◌∷◌, ◌++◌, length, map, Option, None, sym, ap, ◌∙◌, subst, arith, append_assoc, vec_len, vec_capacity}
use Rattle.std.specs.List.{All}
use Rattle.std.proofs.lemmas.List.{append-nil, map-append, length-map, length-replicate, nil_from_length}
use Rattle.std.proofs.lemmas.List.FromFn.{length-range_with_len}
use Rattle.std.proofs.lemmas.List.Elements.{All-nil, All-cons, All-head, All-tail, All-push, All-weaker}
use Rattle.std.proofs.lemmas.Simd.{map-map}
use Rattle.shared_words.specs.declared.entry.Entry.{Entry}
use Rattle.shared_words.specs.declared.seat.LogSeat.{LogSeat}
use Rattle.shared_words.specs.declared.shared_log.SharedLog.{SharedLog}
use Rattle.shared_words.specs.Entries.{calls_by}
use Rattle.shared_words.specs.Seats.{caller_of, log_of, callers_of, IsSeatOf, AreSeatsOf}
use Rattle.test_objects.specs.declared.log_pass.LogPass.{LogPass}
use Rattle.test_objects.specs.declared.log_box.LogBox.{LogBox}
use Rattle.test_objects.specs.Pairs.{pairs_of}
use Rattle.test_objects.specs.Passes.{seat_in, callers_in, cap_in, IsFresh, IsPassOf, ArePassesOf}
use Rattle.book_base.specs.State.{Contents}
use Rattle.test_objects.specs.declared.scratch.Scratch.{Scratch}
use Rattle.test_objects.specs.declared.log_pass.Tools.{Tools}
use Rattle.test_objects.specs.Scratches.{IsClear, HasCapacity}
use Rattle.test_objects.specs.Equipment.{AreReady}

-- what holds of each image holds of each element
pub All-unmap : {A B : Type 0} (f : A → B) (P : B → Type 0) (xs : List A) → All P (map f xs)
    → All (λ x. P (f x)) xs
All-unmap f P [] h = All-nil (λ x. P (f x))
All-unmap f P (x ∷ xs) h = All-cons (λ y. P (f y)) x xs (All-head P (f x) (map f xs) h)
    (All-unmap f P xs (All-tail P (f x) (map f xs) h))

-- what follows from two facts holds of each element that has both
pub All-both : {A : Type 0} (P Q R : A → Type 0) → ((x : A) → P x → Q x → R x) → (xs : List A)
    → All P xs → All Q xs → All R xs
All-both P Q R both [] p q = All-nil R
All-both P Q R both (x ∷ xs) p q = All-cons R x xs (both x (All-head P x xs p) (All-head Q x xs q))
    (All-both P Q R both xs (All-tail P x xs p) (All-tail Q x xs q))

-- a log has as many seats as callers
pub seats_count : (l : SharedLog) (seats : List LogSeat) → AreSeatsOf l seats
    → length seats ≡ callers_of l
seats_count l seats h = sym (length-map seats caller_of) ∙ ap (λ (k : List ℕ). length k) h.callers
    ∙ length-range_with_len 0 (callers_of l)

module _ {M : Type 0} (reply_to : M → List Entry → ℕ) (has_seen : M → List Entry → Scratch → Type 0)
    (b : LogBox M) where
  record IsAtStart (p : LogPass) : Type 0 where
    seat : IsSeatOf b.log p.seat
    log : log_of p.seat ≡ []

  own_pass : (p : LogPass) → IsAtStart p → AreReady (callers_in b) (cap_in b) p.tools
      → IsPassOf reply_to has_seen b p
  own_pass p clear ready =
      record {
        seat = clear.seat;
        pairs = ready.pairs
            ∙ ap (λ (log : List Entry). pairs_of (reply_to b.machine) log (caller_of p.seat))
            (sym clear.log);
        count = ap (λ (l : List (ℕ × ℕ)). length l) ready.pairs
            ∙ ap (λ (log : List Entry). length (calls_by (caller_of p.seat) log)) (sym clear.log);
        room = ready.room;
        scratch = ready.scratch;
        waiting = ready.waiting;
        seen = λ some.
            absurd (let none = ap (λ (log : List Entry). length log) clear.log in omega arith);
      }

  fresh_pass : (p : LogPass) → IsAtStart p → AreReady (callers_in b) (cap_in b) p.tools
      → IsFresh (cap_in b) p
  fresh_pass p clear ready =
      record {
        made = ap (λ (log : List Entry). length (calls_by (caller_of p.seat) log)) clear.log;
        cap = clear.seat.cap;
        pairs = ready.pairs;
      }

  module _ (seats : List LogSeat) (passes : List LogPass) (same : map seat_in passes ≡ seats)
      (own : AreSeatsOf b.log seats) (empty : All (λ s. log_of s ≡ []) seats)
      (ready : All (λ p. AreReady (callers_in b) (cap_in b) p.tools) passes) where
    clear : All IsAtStart passes
    clear =
        All-both (λ p. IsSeatOf b.log (seat_in p)) (λ p. log_of (seat_in p) ≡ []) IsAtStart
        (λ p s l. record { seat = s; log = l }) passes
        (All-unmap seat_in (IsSeatOf b.log) passes
        (subst (λ (ss : List LogSeat). All (IsSeatOf b.log) ss) (sym same) own.each))
        (All-unmap seat_in (λ s. log_of s ≡ []) passes
        (subst (λ (ss : List LogSeat). All (λ s. log_of s ≡ []) ss) (sym same) empty))

    pub equipped : ArePassesOf reply_to has_seen b passes
    equipped =
        record {
          callers = sym (map-map caller_of seat_in passes)
              ∙ ap (λ (ss : List LogSeat). map caller_of ss) same ∙ own.callers;
          each = All-both IsAtStart (λ p. AreReady (callers_in b) (cap_in b) p.tools)
              (IsPassOf reply_to has_seen b) own_pass passes clear ready;
        }

    pub equipped_fresh : All (IsFresh (cap_in b)) passes
    equipped_fresh = All-both IsAtStart (λ p. AreReady (callers_in b) (cap_in b) p.tools)
        (IsFresh (cap_in b)) fresh_pass passes clear ready

  -- the seats of the passes of a box are those of its log
  pub seats_in_passes : (passes : List LogPass) → ArePassesOf reply_to has_seen b passes
      → AreSeatsOf b.log (map seat_in passes)
  seats_in_passes passes h =
      record {
        callers = map-map caller_of seat_in passes ∙ h.callers;
        each = All-of_map passes (All-weaker (IsPassOf reply_to has_seen b)
            (λ p. IsSeatOf b.log (seat_in p)) (λ p own. own.seat) passes h.each);
      }
    where
      All-of_map : (ps : List LogPass) → All (λ p. IsSeatOf b.log (seat_in p)) ps
          → All (IsSeatOf b.log) (map seat_in ps)
      All-of_map [] all = All-nil (IsSeatOf b.log)
      All-of_map (p ∷ ps) all =
          All-cons (IsSeatOf b.log) (seat_in p) (map seat_in ps)
          (All-head (λ q. IsSeatOf b.log (seat_in q)) p ps all)
          (All-of_map ps (All-tail (λ q. IsSeatOf b.log (seat_in q)) p ps all))

-- a clear scratch has capacity for all calls of all callers
pub clear_capacity : (n cap : ℕ) (s : Scratch) → IsClear n cap s → HasCapacity (n * cap) s
clear_capacity n cap s clear =
    let state = ap (λ (c : Contents). c.room) clear.state in
    let other = ap (λ (c : Contents). c.room) clear.other in
    record { state = omega arith; other = omega arith }

pub clear_waiting : (n cap : ℕ) (s : Scratch) → IsClear n cap s → length s.waiting.items ≡ n
clear_waiting n cap s clear =
    ap (λ (l : List (Option ℕ)). length l) clear.waiting ∙ length-replicate n None

-- tools that are ready stay so with the tools of one more pass, which are clear and have the
-- capacity that the cap needs
pub tools_more : (n cap : ℕ) (all new : List Tools) (t : Tools) → All (AreReady n cap) all
    → new ≡ all ++ t ∷ [] → t.pairs.items ≡ [] → cap ≤ vec_capacity t.pairs
    → IsClear n cap t.scratch → vec_len t.scratch.waiting ≡ length t.scratch.waiting.items
    → All (AreReady n cap) new
tools_more n cap all new t ready is pairs room clear long =
    subst (λ (l : List Tools). All (AreReady n cap) l) (sym is)
    (All-push (AreReady n cap) all t ready (record {
      pairs = pairs;
      room = room;
      scratch = clear_capacity n cap t.scratch clear;
      waiting = long ∙ clear_waiting n cap t.scratch clear;
    }))

-- passes with one more pass, whose seat is the next, are the passes of one seat more
pub seats_more : (seats left left' : List LogSeat) (passes new : List LogPass) (p : LogPass)
    (s : LogSeat) → map seat_in passes ++ left ≡ seats → left ≡ s ∷ left'
    → new ≡ passes ++ p ∷ [] → seat_in p ≡ s
    → map seat_in new ++ left' ≡ seats
seats_more seats left left' passes new p s so_far next is own =
    ap (λ (ps : List LogPass). map seat_in ps ++ left') is
    ∙ ap (λ (ss : List LogSeat). ss ++ left') (map-append seat_in passes (p ∷ []))
    ∙ append_assoc (map seat_in passes) (seat_in p ∷ []) left'
    ∙ ap (λ (t : LogSeat). map seat_in passes ++ t ∷ left') own
    ∙ ap (λ (ss : List LogSeat). map seat_in passes ++ ss) (sym next)
    ∙ so_far

pub ready_more : (n cap : ℕ) (passes new : List LogPass) (p : LogPass)
    → All (λ q. AreReady n cap q.tools) passes → new ≡ passes ++ p ∷ [] → AreReady n cap p.tools
    → All (λ q. AreReady n cap q.tools) new
ready_more n cap passes new p ready is own =
    subst (λ (l : List LogPass). All (λ q. AreReady n cap q.tools) l) (sym is)
    (All-push (λ q. AreReady n cap q.tools) passes p ready own)

-- all seats have their passes
pub seats_all : (seats left : List LogSeat) (passes : List LogPass)
    → map seat_in passes ++ left ≡ seats → length left ≡ 0 → map seat_in passes ≡ seats
seats_all seats left passes so_far none = sym (append-nil (map seat_in passes)) ∙ ap
    (λ (ss : List LogSeat). map seat_in passes ++ ss) (sym (nil_from_length left none)) ∙ so_far
