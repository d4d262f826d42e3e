-- What each kind of step requires of the table.
use Rattle.std.proofs.Common.{◌≡◌, ◌≢◌, ℕ, ◌+◌, ◌*◌, ◌<◌, ◌==◌, List, [], ◌∷◌, ◌++◌, length, slice_index, slice_set, Some, None, replicate, refl, sym, ap, ◌∙◌, subst, inl, inr, arith, eq-eqb, ne_eqb, append_assoc, length-append, ◌^◌}
use Rattle.std.proofs.Math.Nat.{mod-add-div'}
use Rattle.std.proofs.lemmas.Bool.{cases_eq}
use Rattle.std.proofs.lemmas.List.{set-get_or, get_or-replicate, length-replicate}
use mathlib.Core.Option.{some}
use lib.ListN.{get_elem?}
use prog.Atomic.{either}
use Rattle.atomic_table.specs.Table.{State, Me, keeps, Allows, Splits, Joins, opening}
use Rattle.book_base.specs.OperationWord.{low_of, high_of}
use Rattle.shared_words.specs.declared.entry.Entry.{Entry}
use Rattle.shared_words.specs.Entries.{calls_by, IsWithinCap, entry}
use Rattle.shared_words.specs.Words.{operation_index, ticket_index, word_count}
use Rattle.row_table.specs.Holders.{has, only, whole, union_of}
use Rattle.shared_words.specs.Hands.{Hand, View, hand, the, empty, next_number, HandFits}
use Rattle.shared_words.specs.LogRule.{HaveOneLog, Ruled, Turns, Stages, Learns, Looks, Places, Reads}
use Rattle.row_table.proofs.Holders.{held_changed, held_left, held_joined, held_at_start}
use Rattle.shared_words.proofs.Logs.{within_none}
use Rattle.shared_words.proofs.Keeping.{stage_stands, stage_fits, stage_others, next_entry, learnt, learn_fits, learn_tells, placed_log, place_within, place_stands, placed_is, place_fits, place_others}

-- the words after a step that reads one
read_again : (n cap i : ℕ) (words : List ℕ) (views : List View) → HaveOneLog n cap words views
    → HaveOneLog n cap (slice_set words i (slice_index words i)) views
read_again n cap i words views h =
    subst (λ (ws : List ℕ). HaveOneLog n cap ws views) (sym (set-get_or words i 0)) h

-- A step of caller `who`, whose hand is with the seat `id`.
module _ (n cap slots id who : ℕ) (me : Me (Unit {0}) View) (h : Hand)
    (here : has me.0 who ≡ Some h) where
  same_hand : the (has me.0 who) ≡ h
  same_hand = ap the here

  pub stages : (word x : ℕ) → length (calls_by who h.log) < cap → length h.staged < 2
      → word ≡ operation_index (next_number cap who h) + length h.staged
      → Allows (Ruled n cap) slots id me word (λ _. x) (λ _ after. Turns who me after (Stages x))
  stages word x left few is t r long at low =
      let fits = (r.hands.held who id me.0 h at here).1 in
      let next = hand h.log (h.staged ++ x ∷ []) h.tried in (
        slice_set me.0 who (Some next),
        keeps,
        tt,
        record {
          log = r.log;
          stand = stage_stands n cap who t.words r.log h word x r.stand fits left few is;
          hands =
              held_changed (HandFits n cap t.words r.log)
              (HandFits n cap (slice_set t.words word x) r.log)
              t.views id me.0 who h next r.hands at here
              (stage_fits n cap who t.words r.log h word x r.stand fits left few is)
              (stage_others n cap who t.words r.log h word x r.stand fits left few is);
        },
        record {
          next = next;
          moved = refl;
          told = ap (λ (g : Hand). hand g.log (g.staged ++ x ∷ []) g.tried) (sym same_hand);
        },
      )

  -- a caller that learns an entry has a next hand, with which the table keeps its rule
  learns : (t : State (Unit {0}) View) (r : HaveOneLog n cap t.words t.views)
      → get_elem? t.views id ≡ some me.0 → length h.log < n * cap
      → slice_index t.words (ticket_index n cap (length h.log)) ≢ 0 → (tried : List ℕ)
      → (next : Hand)
      × HaveOneLog n cap t.words (slice_set t.views id (slice_set me.0 who (Some next)))
      × Learns n cap who (slice_index t.words (ticket_index n cap (length h.log))) tried h next
  learns t r at low filled tried =
      let fits = (r.hands.held who id me.0 h at here).1 in
      let there = next_entry n cap who t.words r.log h r.stand fits low filled in
      let next =
      learnt n cap who t.words r.log h r.stand fits low there.0 there.1 there.2 tried in (
        next,
        record {
          log = r.log;
          stand = r.stand;
          hands =
              held_changed (HandFits n cap t.words r.log)
              (HandFits n cap t.words r.log) t.views id me.0 who h next r.hands at here
              (learn_fits n cap who t.words r.log h r.stand fits low there.0 there.1 there.2 tried)
              (λ i m ne was. was);
        },
        learn_tells n cap who t.words r.log h r.stand fits low there.0 there.1 there.2 tried,
      )

  -- the table keeps its rule where the caller learns no entry, and its hand stays as it was
  leaves_all : (t : State (Unit {0}) View) → HaveOneLog n cap t.words t.views → get_elem? t.views id
      ≡ some me.0 → HaveOneLog n cap t.words (slice_set t.views id (slice_set me.0 who (Some h)))
  leaves_all t r at =
      record {
        log = r.log;
        stand = r.stand;
        hands =
            held_changed (HandFits n cap t.words r.log)
            (HandFits n cap t.words r.log) t.views id me.0 who h h r.hands at here
            ((r.hands.held who id me.0 h at here).1)
            (λ i m ne was. was);
      }

  pub looks : (word : ℕ) → length h.log < n * cap → word ≡ ticket_index n cap (length h.log)
      → Allows (Ruled n cap) slots id me word (λ x. x)
      (λ found after. Turns who me after (Looks n cap who found))
  looks word room is t r long at low =
      let x : ℕ = slice_index t.words word in
      let x_is : slice_index t.words (ticket_index n cap (length h.log)) ≡ x =
      ap (slice_index t.words) (sym is) in
      elim (cases_eq x 0) [
        | inl free ↦ (
          slice_set me.0 who (Some h),
          keeps,
          tt,
          read_again n cap word t.words _ (leaves_all t r at),
          record {
            next = h;
            moved = refl;
            told = record { free = λ _. sym same_hand; filled = λ ne. absurd (ne free) };
          },
        )
        | inr filled ↦
            let learnt = learns t r at room (λ e. filled (sym x_is ∙ e)) h.tried in (
              slice_set me.0 who (Some learnt.0),
              keeps,
              tt,
              read_again n cap word t.words _ learnt.1,
              record {
                next = learnt.0;
                moved = refl;
                told =
                    record {
                      free = λ e. absurd (filled e);
                      filled =
                          λ _. subst (λ (y : ℕ × Hand). Learns n cap who y.0 y.1.tried y.1 learnt.0)
                          (λ i. (x_is i, sym same_hand i)) learnt.2;
                    };
              },
            )
      ]

  pub places : (word op ticket : ℕ) → length (calls_by who h.log) < cap
      → h.staged ≡ low_of op ∷ high_of op ∷ [] → length h.log < n * cap
      → word ≡ ticket_index n cap (length h.log) → ticket ≡ next_number cap who h + 1
      → Allows (Ruled n cap) slots id me word (λ x. either (x == 0) ticket x)
      (λ found after. Turns who me after (Places n cap who word found))
  places word op ticket left staged room is own t r long at low =
      let x : ℕ = slice_index t.words word in
      let x_is : slice_index t.words (ticket_index n cap (length h.log)) ≡ x =
      ap (slice_index t.words) (sym is) in
      elim (cases_eq x 0) [
        | inl free ↦
            let fits = (r.hands.held who id me.0 h at here).1 in
            let zero : slice_index t.words (ticket_index n cap (length h.log)) ≡ 0 = x_is ∙ free in
            let next = hand (h.log ++ entry who op ∷ []) [] (h.tried ++ word ∷ []) in
            let written : slice_set t.words (ticket_index n cap (length h.log)) ticket
            ≡ slice_set t.words word (either (x == 0) ticket x) =
            (λ i. slice_set t.words (sym is i)
            (sym (ap (λ b. either b ticket x) (eq-eqb x 0 free)) i)) in (
              slice_set me.0 who (Some next),
              keeps,
              tt,
              subst (λ (ws : List ℕ). HaveOneLog n cap ws
                  (slice_set t.views id (slice_set me.0 who (Some next)))) written
                  (record {
                    log = placed_log n cap who t.words r.log h r.stand fits room op left staged
                        zero ticket own;
                    stand = place_stands n cap who t.words r.log h r.stand fits room op left staged
                        zero ticket own;
                    hands =
                        held_changed (HandFits n cap t.words r.log) _ t.views id me.0 who h next
                        r.hands at here
                        (place_fits n cap who t.words r.log h r.stand fits room op left staged zero
                        ticket own (h.tried ++ word ∷ []))
                        (place_others n cap who t.words r.log h r.stand fits room op left staged
                        zero ticket own);
                  }),
              record {
                next = next;
                moved = refl;
                told =
                    record {
                      placed = λ _ o said.
                          let all : low_of o ∷ high_of o ∷ [] ≡ low_of op ∷ high_of op ∷ [] =
                          sym said ∙ ap (λ (g : Hand). g.staged) same_hand ∙ staged in
                          let lows : low_of o ≡ low_of op =
                          ap (λ (l : List ℕ). slice_index l 0) all in
                          let highs : high_of o ≡ high_of op =
                          ap (λ (l : List ℕ). slice_index l 1) all in
                          let same : o ≡ op = sym (mod-add-div' o (2 ^ 64))
                          ∙ (λ i. lows i + highs i * 2 ^ 64) ∙ mod-add-div' op (2 ^ 64) in (
                            (λ i. hand ((sym same_hand i).log ++ entry who (sym same i) ∷ []) []
                                ((sym same_hand i).tried ++ word ∷ [])),
                            subst (λ (l : List Entry). IsWithinCap n cap l)
                                (placed_is n cap who t.words r.log h r.stand fits room op left
                                staged zero ticket own)
                                (place_within n cap who t.words r.log h r.stand fits room op left
                                staged zero ticket own),
                          );
                      filled = λ ne. absurd (ne free);
                    };
              },
            )
        | inr filled ↦
            let learnt = learns t r at room (λ e. filled (sym x_is ∙ e)) (h.tried ++ word ∷ []) in
            let unwritten : slice_set t.words word x
            ≡ slice_set t.words word (either (x == 0) ticket x) =
            ap (slice_set t.words word) (sym (ap (λ b. either b ticket x) (ne_eqb x 0 filled))) in (
              slice_set me.0 who (Some learnt.0),
              keeps,
              tt,
              subst (λ (ws : List ℕ). HaveOneLog n cap ws
                  (slice_set t.views id (slice_set me.0 who (Some learnt.0)))) unwritten
                  (read_again n cap word t.words _ learnt.1),
              record {
                next = learnt.0;
                moved = refl;
                told =
                    record {
                      placed = λ e. absurd (filled e);
                      filled = λ _. subst (λ (y : ℕ × Hand). Learns n cap who y.0 (y.1.tried ++ word
                          ∷ []) y.1 learnt.0) (λ i. (x_is i, sym same_hand i)) learnt.2;
                    };
              },
            )
      ]

  pub reads : (word : ℕ) → Allows (Ruled n cap) slots id me word (λ x. x)
      (λ found after. Turns who me after (Reads cap word found))
  reads word t r long at low =
      let fits = (r.hands.held who id me.0 h at here).1 in
      let stored = (λ (before rest : List Entry) (e : Entry)
      (is : (the (has me.0 who)).log ≡ before ++ e ∷ rest).
      r.stand.stored before (rest ++ fits.prefix.0) e (fits.prefix.1 ∙ ap
      (λ (l : List Entry). l ++ fits.prefix.0) (sym (ap (λ (g : Hand). g.log) same_hand) ∙ is)
      ∙ append_assoc before (e ∷ rest) fits.prefix.0)) in (
        slice_set me.0 who (Some h),
        keeps,
        tt,
        read_again n cap word t.words _ (leaves_all t r at),
        record {
          next = h;
          moved = refl;
          told =
              record {
                same = sym same_hand;
                low = λ before rest e is at_word. ap (slice_index t.words) at_word
                    ∙ (stored before rest e is).low;
                high = λ before rest e is at_word. ap (slice_index t.words) at_word
                    ∙ (stored before rest e is).high;
              };
        },
      )

-- a caller gets a seat of its own
pub leaves : (n cap id : ℕ) (v : View) (who jw : ℕ) (h : Hand) → jw ≡ who → has v who ≡ Some h
    → Splits (Ruled n cap) id v (slice_set v jw None) (only jw (the (has v jw)))
leaves n cap id v who jw h is here t r at =
    record {
      log = r.log;
      stand = r.stand;
      hands = held_left (HandFits n cap t.words r.log) empty t.views id v who jw h r.hands at is
          here;
    }

-- a caller comes to a seat that lacks it
pub returns : (n cap id other : ℕ) (v w : View) (who : ℕ) (h : Hand) → w ≡ only who h
    → has v who ≡ None → who < length v
    → Joins (Ruled n cap) id v other w (union_of v w) []
returns n cap id other v w who h is gone low t r at apart there =
    record {
      log = r.log;
      stand = r.stand;
      hands = held_joined (HandFits n cap t.words r.log) t.views id other v w who h r.hands at
          apart there is gone low;
    }

-- at the start no ticket is placed
pub ruled_at_opening : (n cap : ℕ) (words : List ℕ) → words ≡ replicate (word_count n cap) 0
    → Ruled n cap (opening words [] (whole n empty))
ruled_at_opening n cap words is =
    record {
      log = [];
      stand =
          record {
            count = ap length is ∙ length-replicate (word_count n cap) 0;
            within = within_none n cap;
            stored = λ before rest e none. absurd (let long = ap length none in
                omega (arith, length-append before (e ∷ rest)));
            free = λ place suffix low.
                ap (λ (ws : List ℕ). slice_index ws (ticket_index n cap place)) is
                ∙ get_or-replicate (word_count n cap) (ticket_index n cap place) 0 0 (omega arith);
          };
      hands = held_at_start (HandFits n cap words []) n empty (λ i low. record {
        caller = low;
        prefix = ([], refl);
        own = refl;
        room = λ some. absurd (omega arith);
        few = omega arith;
        staged = λ half none. absurd (omega arith);
      });
    }
