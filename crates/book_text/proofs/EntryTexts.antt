-- Which tests the line of a call fails, and which it passes.
use Rattle.std.proofs.Common.{◌≡◌, ℕ, zero, suc, ◌+◌, ◌<◌, ◌≤◌, ◌^◌, Bool, false, List, [], ◌∷◌, ◌++◌, length, drop, decimal, refl, sym, ap, subst, ◌∙◌, arith, inl, inr}
use Rattle.std.specs.Prelude.{IsTrue, codes, is_some}
use Rattle.std.proofs.lemmas.List.{drop_at}
use Rattle.book_base.specs.declared.call.Call.{Call}
use Rattle.book_base.specs.declared.fault.What.{What}
use Rattle.book_base.specs.declared.fault.What.TheVariants as what
use Rattle.seq_objects.specs.Replies.{reply_word}
use Rattle.text_fields.specs.declared.version.Version.{Version}
use Rattle.text_fields.specs.declared.version.Version.TheVariants.{First, Second}
use Rattle.text_fields.specs.Counts.{AreNumbers, cut_words, pair_words, HasBadPair, HasWordAfterPairs}
use Rattle.text_fields.specs.Faults.{turn_of, IsFirstTest}
use Rattle.text_fields.specs.Operations.{Operations}
use Rattle.text_fields.specs.Lines.{cut_at}
use Rattle.text_fields.proofs.NumberTexts.{same_first, same_number, pair_parts}
use Rattle.std.proofs.lemmas.Option.{some_pair_parts}
use Rattle.book_text.specs.CallLines.{place_words, IsAfterOperation, IsAfterReply, HasView, IsNoView, EntryFails}
use Rattle.book_text.specs.Entries.{IsNoAnswer}

-- no operation's words are a proper prefix of another's
abbrev pub OneOperation : Operations → Type 0
OneOperation operations = (a b : ℕ) (x y : List (List ℕ)) → IsTrue (operations.has a)
    → IsTrue (operations.has b) → operations.words a ++ x ≡ operations.words b ++ y → a ≡ b

pub same_after : (xs ys zs : List (List ℕ)) → xs ++ ys ≡ xs ++ zs → ys ≡ zs
same_after xs ys zs e =
    sym (drop_at xs ys (length xs) refl) ∙ ap (drop (length xs)) e ∙ drop_at xs zs (length xs) refl

pub after_place : (call : Call) (x y : List (List ℕ))
    → place_words call ++ x ≡ place_words call ++ y → x ≡ y
after_place call x y e = same_after (place_words call) x y e

module _ (version : Version) (operations : Operations) (n : ℕ) (gap : Bool) (call : Call)
    (words : List (List ℕ)) where
  abbrev Fails : What → Type 0
  Fails name = EntryFails version operations n gap call words name

  -- none of the tests that are tried before a turn fails, where none of these tests fails for
  -- itself
  pub no_earlier : (k : ℕ) → (6 < k → Fails what.Place → ⊥) → (7 < k → Fails what.Op → ⊥)
      → (8 < k → Fails what.Gap → ⊥) → (9 < k → Fails what.Reply → ⊥)
      → (10 < k → Fails what.View → ⊥)
      → (other : What) → turn_of other < k → Fails other → ⊥
  no_earlier k p o g r v what.Place lt h = p lt h
  no_earlier k p o g r v what.Op lt h = o lt h
  no_earlier k p o g r v what.Gap lt h = g lt h
  no_earlier k p o g r v what.Reply lt h = r lt h
  no_earlier k p o g r v what.View lt h = v lt h
  no_earlier k p o g r v _ lt h = h

  pub passes_place : (suffix : List (List ℕ)) → words ≡ place_words call ++ suffix
      → Fails what.Place → ⊥
  passes_place suffix e h = h suffix e

  pub passes_op : (suffix : List (List ℕ)) → IsAfterOperation operations call words suffix
      → Fails what.Op → ⊥
  passes_op suffix at h = h.2 at.op suffix at.has
      (after_place call h.0 (operations.words at.op ++ suffix) (sym h.1 ∙ at.text))

  pub passes_gap : gap ≡ false → Fails what.Gap → ⊥
  passes_gap closed h = absurd (cc (closed, h.3))

  module _ (one : OneOperation operations) where
    -- the words after the operation are determined
    pub one_after : (x y : List (List ℕ)) → IsAfterOperation operations call words x
        → IsAfterOperation operations call words y → x ≡ y
    one_after x y a b =
        let e = after_place call (operations.words a.op ++ x) (operations.words b.op ++ y)
        (sym a.text ∙ b.text) in
        let same = one a.op b.op x y a.has b.has e in
        same_after (operations.words a.op) x y
        (e ∙ ap (λ (op : ℕ). operations.words op ++ y) (sym same))

    pub passes_reply : (suffix : List (List ℕ)) → IsAfterReply operations call words suffix
        → Fails what.Reply → ⊥
    passes_reply suffix at h =
        h.3 at.reply at.small (same_first _ _ _ _ (one_after _ _ at.text h.2)).0

-- ---- a written view is a view

pub pairs_not_bad : (n : ℕ) (cut : List ℕ) (b least : ℕ) → least ≤ b → b + length cut ≤ n
    → n ≤ 2 ^ 64 → AreNumbers cut → HasBadPair n least (pair_words b cut) → ⊥
pairs_not_bad n [] b least le few small numbers h = h
pairs_not_bad n (zero ∷ cut) b least le few small numbers h =
    pairs_not_bad n cut (b + 1) least (omega arith) (omega arith) small numbers.1 h
pairs_not_bad n (suc c ∷ cut) b least le few small numbers (colon, inl none) = none b (suc c)
    (record { caller = omega arith; some = omega arith; small = numbers.0; text = refl })
pairs_not_bad n (suc c ∷ cut) b least le few small numbers (colon, inr low) =
    let parts = some_pair_parts (decimal b) (decimal low.0) (decimal (suc c)) (decimal low.1)
    (sym (pair_parts b (suc c) (omega arith)) ∙ ap (cut_at 58) low.2.text
    ∙ pair_parts low.0 low.1 (omega (arith, low.2.caller))) in
    let same : b ≡ low.0 =
    same_number b low.0 (omega arith) (omega (arith, low.2.caller)) parts.0 in
    elim low.3 [
      | inl lt ↦ omega arith
      | inr bad ↦ pairs_not_bad n cut (b + 1) (b + 1) (omega arith) (omega arith) small numbers.1
          (subst (λ (j : ℕ). HasBadPair n (j + 1) (pair_words (b + 1) cut)) (sym same) bad)
    ]

pub pairs_not_words : (b : ℕ) (cut : List ℕ) → b + length cut ≤ 2 ^ 64
    → HasWordAfterPairs (pair_words b cut) → ⊥
pairs_not_words b [] few h = h
pairs_not_words b (zero ∷ cut) few h = pairs_not_words (b + 1) cut (omega arith) h
pairs_not_words b (suc c ∷ cut) few (inl none) = let colon =
    ap is_some (pair_parts b (suc c) (omega arith)) in absurd (cc (colon, none))
pairs_not_words b (suc c ∷ cut) few (inr h) = pairs_not_words (b + 1) cut (omega arith) h

pub view_is_view : (version : Version) (n : ℕ) (view : List ℕ) → n < 2 ^ 64 → length view ≡ n
    → AreNumbers view → IsNoView version n (codes "view" ∷ cut_words version view) → ⊥
view_is_view First n view small wide numbers h = h view wide numbers refl
view_is_view Second n view small wide numbers (inl h) = h (pair_words 0 view) refl
view_is_view Second n view small wide numbers (inr h) =
    let same : h.0 ≡ pair_words 0 view =
    sym (same_first (codes "view") (codes "view") (pair_words 0 view) h.0 h.1).1 in
    elim h.2 [
      | inl bad ↦ pairs_not_bad n view 0 0 (omega arith) (omega arith) (omega arith) numbers
          (subst (HasBadPair n 0) same bad)
      | inr suffix ↦ pairs_not_words 0 view (omega arith) (subst HasWordAfterPairs same suffix)
    ]

module _ (version : Version) (operations : Operations) (n : ℕ) (gap : Bool) (call : Call)
    (words : List (List ℕ)) (one : OneOperation operations) where
  pub passes_view : (view : List ℕ) → n < 2 ^ 64 → HasView version operations n call words view
      → EntryFails version operations n gap call words what.View → ⊥
  passes_view view small at h =
      let suffix : codes "view" ∷ cut_words version view ≡ h.0 = (same_first _ _ _ _
      (one_after version operations n gap call words one _ _ at.text.text h.1.text)).1 in
      view_is_view version n view small at.wide at.numbers
      (subst (IsNoView version n) (sym suffix) h.2)

  -- the first test that the words after an operation fail
  pub answer_fails : (op : ℕ) (suffix : List (List ℕ)) (name : What) → IsTrue (operations.has op)
      → words ≡ place_words call ++ (operations.words op ++ suffix)
      → IsNoAnswer version n gap suffix name
      → IsFirstTest (EntryFails version operations n gap call words) name
  answer_fails op suffix what.Gap has text h =
      let at : IsAfterOperation operations call words suffix =
      record { op = op; has = has; text = text } in
      record {
        fails = (suffix, at, h.0, h.1);
        first = no_earlier version operations n gap call words 8
            (λ lt. passes_place version operations n gap call words _ text)
            (λ lt. passes_op version operations n gap call words suffix at)
            (λ lt. absurd (omega arith)) (λ lt. absurd (omega arith)) (λ lt. absurd (omega arith));
      }
  answer_fails op suffix what.Reply has text h =
      let at : IsAfterOperation operations call words (h.0 ∷ h.1) = record {
        op = op;
        has = has;
        text =
            text ∙ ap (λ (ws : List (List ℕ)). place_words call ++ (operations.words op ++ ws)) h.3;
      } in
      record {
        fails = (h.0, h.1, at, h.4);
        first = no_earlier version operations n gap call words 9
            (λ lt. passes_place version operations n gap call words _ text)
            (λ lt. passes_op version operations n gap call words _ at)
            (λ lt. passes_gap version operations n gap call words h.2) (λ lt. absurd (omega arith))
            (λ lt. absurd (omega arith));
      }
  answer_fails op suffix what.View has text h =
      let at : IsAfterOperation operations call words (reply_word h.0 ∷ h.1) = record {
        op = op;
        has = has;
        text =
            text ∙ ap (λ (ws : List (List ℕ)). place_words call ++ (operations.words op ++ ws)) h.4;
      } in
      let replied : IsAfterReply operations call words h.1 =
      record { reply = h.0; small = h.3; text = at } in
      record {
        fails = (h.1, replied, h.5);
        first = no_earlier version operations n gap call words 10
            (λ lt. passes_place version operations n gap call words _ text)
            (λ lt. passes_op version operations n gap call words _ at)
            (λ lt. passes_gap version operations n gap call words h.2)
            (λ lt. passes_reply version operations n gap call words one h.1 replied)
            (λ lt. absurd (omega arith));
      }
  answer_fails op suffix _ has text h = absurd h
