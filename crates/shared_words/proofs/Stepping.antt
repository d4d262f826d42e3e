-- What an access requires of the table.
use Rattle.std.proofs.Common.{◌≡◌, ℕ, ◌<◌, List, [], ◌∷◌, ◌++◌, length, slice_index, slice_set, Some, replicate, refl, sym, ap, ◌∙◌, subst, inl, inr, length-set}
use Rattle.std.proofs.lemmas.Bool.{cases_eq}
use Rattle.std.proofs.lemmas.Option.{same_Some}
use Rattle.std.proofs.lemmas.List.{append-nil, get_or-set_other, get_or-set_same, get_or-replicate, length-replicate}
use Rattle.std.proofs.lemmas.List.Elements.{All-nil, All-push}
use Rattle.atomic_table.specs.Table.{Me, keeps, Allows, opening}
use Rattle.row_table.specs.Holders.{has, only, whole}
use Rattle.row_table.proofs.Holders.{held_changed, held_at_start, only_here, only_else, alone_here, changed_alone}
use Rattle.shared_words.specs.Deeds.{Deed, place_of, leaves, HasFound}
use Rattle.shared_words.specs.Histories.{Access, View, access, known, word_at, IsLawfulHistory, IsAfterAccess}
use Rattle.shared_words.specs.Rule.{Knows, Ruled, Accesses}
use Rattle.shared_words.proofs.Words.{word_at-here, accesses_leave_others}
use Rattle.shared_words.proofs.Histories.{deeds_by-own, deeds_by-other, lawful_none, lawful_push, prefix_more}

-- A deed at a place, by the one caller that a seat has, which makes f x of the word x that it
-- finds.
module _ (may : ℕ → Deed → Type 0) (n count words slots id who : ℕ) (me : Me (Unit {0}) View)
    (h : List Access) (same : count ≡ words) (alone : me ≡ (only who h, [])) (place : ℕ) (f : ℕ → ℕ)
    (deed : ℕ → Deed)
    (low : place < words) (at_place : (x : ℕ) → place_of (deed x) ≡ place)
    (acts : (x : ℕ) → leaves (deed x) x ≡ f x) (found : (x : ℕ) → HasFound (deed x) x)
    (allowed : (x : ℕ) → may who (deed x)) where
  pub access_asks : Allows (Ruled may n count) slots id me place f
      (λ x after. Accesses may me after (deed x))
  access_asks t r long at small =
      let here = alone_here me who h alone in
      let x : ℕ = slice_index t.words place in
      let a = access who (deed x) in
      let next = r.history ++ a ∷ [] in
      let knows = (r.hands.held who id me.0 h at here).1 in
      let inside : place < length t.words =
      subst (λ (k : ℕ). place < k) (sym (r.long ∙ same)) low in
      let stood : x ≡ word_at place r.history =
      r.left place (subst (λ (k : ℕ). place < k) (sym same) low) in
      let lawful : IsLawfulHistory may next =
      lawful_push may r.history a r.lawful
      (record {
        allowed = allowed x;
        found = subst (λ (y : ℕ). HasFound (deed x) y)
            (stood ∙ ap (λ (p : ℕ). word_at p r.history) (sym (at_place x))) (found x);
      }) in (
        slice_set me.0 who (Some next),
        keeps,
        tt,
        record {
          history = next;
          long = length-set t.words place (f x) ∙ r.long;
          left = λ p p_low. elim (cases_eq p place) [
            | inl is ↦
                ap (slice_index (slice_set t.words place (f x))) is
                ∙ get_or-set_same t.words place (f x) 0 inside
                ∙ sym (acts x)
                ∙ ap (leaves (deed x)) (stood ∙ ap (λ (q : ℕ). word_at q r.history) (sym is))
                ∙ sym (word_at-here r.history a p (at_place x ∙ sym is))
            | inr ne ↦
                get_or-set_other t.words place p (f x) 0 ne
                ∙ r.left p p_low
                ∙ sym (accesses_leave_others r.history a p (λ e. ne (sym e ∙ at_place x)))
          ];
          callers = All-push (λ (b : Access). b.caller < n) r.history a r.callers knows.caller;
          lawful = lawful;
          hands =
              held_changed (Knows n r.history)
              (Knows n next) t.views id me.0 who h next r.hands at here
              (record { caller = knows.caller; prefix = (_, append-nil next); own = refl })
              (λ i z ne was. record {
                caller = was.caller;
                prefix = prefix_more z r.history a was.prefix;
                own = deeds_by-other i r.history a (λ e. ne (sym e)) ∙ was.own;
              });
        },
        record {
          who = who;
          before = h;
          next = next;
          here = here;
          moved = refl;
          made =
              record {
                between = knows.prefix.0;
                history = ap (λ (l : List Access). l ++ a ∷ []) (sym knows.prefix.1);
                own = deeds_by-own who r.history a refl
                    ∙ ap (λ (l : List Deed). l ++ deed x ∷ []) knows.own;
              };
          lawful = lawful;
        },
      )

-- after a step the seat has that caller alone, which made the deed
pub record HasMade (may : ℕ → Deed → Type 0) (who : ℕ) (after : Me (Unit {0}) View)
    (h : List Access) (deed : Deed) : Type 0 where
  pub alone : after ≡ (only who (known (has after.0 who)), [])
  pub made : IsAfterAccess who deed h (known (has after.0 who))
  pub lawful : IsLawfulHistory may (known (has after.0 who))

pub turned : (may : ℕ → Deed → Type 0) (who : ℕ) (me after : Me (Unit {0}) View) (h : List Access)
    (deed : Deed) → me ≡ (only who h, []) → Accesses may me after deed
    → HasMade may who after h deed
turned may who me after h deed alone t =
    let held : has (only who h) t.who ≡ Some t.before =
    ap (λ (m : Me (Unit {0}) View). has m.0 t.who) (sym alone) ∙ t.here in
    let own : t.who ≡ who = only_else who t.who h t.before held in
    let before : t.before ≡ h =
    same_Some t.before h (sym held ∙ ap (has (only who h)) own ∙ only_here who h) in
    let one = changed_alone [] who me after h t.next alone
    (t.moved ∙ (λ i. (slice_set me.0 (own i) (Some t.next), me.1))) in
    record {
      alone = one.alone;
      made = subst (λ (y : ℕ × List Access × List Access). IsAfterAccess y.0 deed y.1 y.2)
          (λ i. (own i, before i, sym one.here i)) t.made;
      lawful = subst (λ (l : List Access). IsLawfulHistory may l) (sym one.here) t.lawful;
    }

-- at the start there is no access
pub ruled_at_opening : (may : ℕ → Deed → Type 0) (n count : ℕ) (words : List ℕ)
    → words ≡ replicate count 0
    → Ruled may n count (opening words [] (whole n []))
ruled_at_opening may n count words is =
    record {
      history = [];
      long = ap length is ∙ length-replicate count 0;
      left = λ place low. ap (λ (ws : List ℕ). slice_index ws place) is
          ∙ get_or-replicate count place 0 0 low;
      callers = All-nil (λ (a : Access). a.caller < n);
      lawful = lawful_none may [] refl;
      hands = held_at_start
          (Knows n []) n [] (λ i low. record { caller = low; prefix = ([], refl); own = refl });
    }
