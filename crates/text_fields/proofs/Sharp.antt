-- By sharp rules a text is read in at most one way, and has at most one first fault.
use Rattle.std.proofs.Common.{◌≡◌, ◌≢◌, ℕ, zero, suc, ◌+◌, List, [], ◌∷◌, ◌++◌, length, Option, Some, None, Ok, Err, refl, sym, ap, subst, ◌∙◌, arith, inl, inr}
use Rattle.std.specs.List.{join_with_byte}
use Rattle.std.proofs.lemmas.Bool.{cases_lt}
use Rattle.std.proofs.lemmas.List.{length-append}
use Rattle.book_base.specs.declared.fault.TextFault.{TextFault}
use Rattle.book_base.specs.declared.fault.What.{What}
use Rattle.book_base.specs.declared.fault.What.TheVariants.{Long, Cut, Head, Object, Callers, Calls, Place, Op, Gap, Reply, View, ViewOutside, ViewLacksOwn, ViewHasLater, ViewsCross, Mark, Seen, Last, Stop, Turns, End, Rest}
use Rattle.text_fields.specs.Lines.{Unread, line_text, text_of, AreSolid, cut_at, line_from, line_at, words_of}
use Rattle.text_fields.specs.Faults.{Wanted, ALine, TheEnd, Nothing, Rules, turn_of, IsFirstTest, IsWrong, AllPass, GoesTo, IsFirstFault, IsThrough, IsReadTo, AreSharp}
use Rattle.text_fields.proofs.LineTexts.{words_of-join, cut_line, line_takes, text_of-cons, text_of-append}

-- ---- one test

-- the test with this turn
abbrev test_at : ℕ → What
test_at n =
    elim n as (λ n. What) [
      | zero ↦ Long
      | suc n ↦
          elim n as (λ n. What) [
            | zero ↦ Cut
            | suc n ↦
                elim n as (λ n. What) [
                  | zero ↦ Head
                  | suc n ↦
                      elim n as (λ n. What) [
                        | zero ↦ Object
                        | suc n ↦
                            elim n as (λ n. What) [
                              | zero ↦ Callers
                              | suc n ↦
                                  elim n as (λ n. What) [
                                    | zero ↦ Calls
                                    | suc n ↦
                                        elim n as (λ n. What) [
                                          | zero ↦ Place
                                          | suc n ↦
                                              elim n as (λ n. What) [
                                                | zero ↦ Op
                                                | suc n ↦
                                                    elim n as (λ n. What) [
                                                      | zero ↦ Gap
                                                      | suc n ↦
                                                          elim n as (λ n. What) [
                                                            | zero ↦ Reply
                                                            | suc n ↦
                                                                elim n as (λ n. What) [
                                                                  | zero ↦ View
                                                                  | suc n ↦
                                                                      elim n as (λ n. What) [
                                                                        | zero ↦ ViewOutside
                                                                        | suc n ↦
                                                                            elim n as (λ n. What) [
                                                                              | zero ↦ ViewLacksOwn
                                                                              | suc n ↦
                                                                                  elim n as (λ n. What) [
                                                                                    | zero ↦ ViewHasLater
                                                                                    | suc n ↦
                                                                                        elim n as (λ n. What) [
                                                                                          | zero ↦ ViewsCross
                                                                                          | suc n ↦
                                                                                              elim n as (λ n. What) [
                                                                                                | zero ↦ Mark
                                                                                                | suc n ↦
                                                                                                    elim n as (λ n. What) [
                                                                                                      | zero ↦ Seen
                                                                                                      | suc n ↦
                                                                                                          elim n as (λ n. What) [
                                                                                                            | zero ↦ Last
                                                                                                            | suc n ↦
                                                                                                                elim n as (λ n. What) [
                                                                                                                  | zero ↦ Stop
                                                                                                                  | suc n ↦
                                                                                                                      elim n as (λ n. What) [
                                                                                                                        | zero ↦ Turns
                                                                                                                        | suc n ↦
                                                                                                                            elim n as (λ n. What) [ zero ↦ End | suc n ↦ Rest ]
                                                                                                                      ]
                                                                                                                ]
                                                                                                          ]
                                                                                                    ]
                                                                                              ]
                                                                                        ]
                                                                                  ]
                                                                            ]
                                                                      ]
                                                                ]
                                                          ]
                                                    ]
                                              ]
                                        ]
                                  ]
                            ]
                      ]
                ]
          ]
    ]

test_at-turn : (what : What) → test_at (turn_of what) ≡ what
test_at-turn Long = refl
test_at-turn Cut = refl
test_at-turn Head = refl
test_at-turn Object = refl
test_at-turn Callers = refl
test_at-turn Calls = refl
test_at-turn Place = refl
test_at-turn Op = refl
test_at-turn Gap = refl
test_at-turn Reply = refl
test_at-turn View = refl
test_at-turn ViewOutside = refl
test_at-turn ViewLacksOwn = refl
test_at-turn ViewHasLater = refl
test_at-turn ViewsCross = refl
test_at-turn Mark = refl
test_at-turn Seen = refl
test_at-turn Last = refl
test_at-turn Stop = refl
test_at-turn Turns = refl
test_at-turn End = refl
test_at-turn Rest = refl

turn_of-once : (a b : What) → turn_of a ≡ turn_of b → a ≡ b
turn_of-once a b e = sym (test_at-turn a) ∙ ap test_at e ∙ test_at-turn b

-- a line has at most one first test that it fails
pub one_test : (Fails : What → Type 0) (a b : What) → IsFirstTest Fails a
    → IsFirstTest Fails b → a ≡ b
one_test Fails a b h k =
    elim (cases_lt (turn_of a) (turn_of b)) [
      | inl lt ↦ absurd (k.first a lt h.fails)
      | inr le ↦ elim (cases_lt (turn_of b) (turn_of a)) [
        | inl lt ↦ absurd (h.first b lt k.fails)
        | inr ge ↦ turn_of-once a b (omega arith)
      ]
    ]

-- a test that a line fails is its first one where it fails no other
pub only_test : (Fails : What → Type 0) (what : What) → Fails what
    → ((other : What) → Fails other → other ≡ what) → IsFirstTest Fails what
only_test Fails what h only = record {
  fails = h;
  first = λ other lt k. let same : turn_of other ≡ turn_of what = ap turn_of (only other k) in
      omega arith;
}

-- ---- one line

same_parts : (a b c d : List ℕ) → ◌≡◌ {A = Option (List ℕ × List ℕ)} (Some (a, b)) (Some (c, d))
    → (a ≡ c) × (b ≡ d)
same_parts a b c d e = let same : ◌≡◌ {A = List ℕ × List ℕ} (a, b) (c, d) = cc in
    (ap (λ (x : List ℕ × List ℕ). x.0) same, ap (λ (x : List ℕ × List ℕ). x.1) same)

-- two lines that begin one text are the same line, and the same bytes follow them
pub same_line : (v w : List (List ℕ)) (x y : List ℕ) → AreSolid v → AreSolid w
    → line_text v ++ x ≡ line_text w ++ y → (v ≡ w) × (x ≡ y)
same_line v w x y h k e =
    let parts = same_parts (join_with_byte 32 v) x (join_with_byte 32 w) y
    (sym (cut_line v x h) ∙ ap (cut_at 10) e ∙ cut_line w y k) in
    (sym (words_of-join v h) ∙ ap words_of parts.0 ∙ words_of-join w k, parts.1)

same_fault : (a b : TextFault) → a.line ≡ b.line → a.what ≡ b.what → a ≡ b
same_fault a b line what =
    let made : ℕ → What → TextFault = λ l w. record { line = l; what = w } in
    ap (λ (l : ℕ). made l a.what) line ∙ ap (made b.line) what

same_unread : (a b : Unread) → a.bytes ≡ b.bytes → a.number ≡ b.number → a ≡ b
same_unread a b bytes number =
    let made : List ℕ → ℕ → Unread = λ l n. record { bytes = l; number = n } in
    ap (λ (l : List ℕ). made l a.number) bytes ∙ ap (made b.bytes) number

module _ {Due : Type 0} (rules : Rules Due) where
  -- ---- right lines, one after the other

  pub AllPass-append : (due middle after : Due) (a b : List (List (List ℕ)))
      → AllPass rules.Passes due a middle → AllPass rules.Passes middle b after
      → AllPass rules.Passes due (a ++ b) after
  AllPass-append due middle after [] b h k =
      subst (λ (d : Due). AllPass rules.Passes d b after) (sym h) k
  AllPass-append due middle after (w ∷ a) b h k =
      (h.0, h.1, AllPass-append h.0 middle after a b h.2 k)

  pub goes_nowhere : (due : Due) (text : Unread) → GoesTo rules due text due text
  goes_nowhere due text = record { lines = []; right = refl; bytes = refl; number = omega arith }

  pub goes_then : (due middle after : Due) (text between left : Unread)
      → GoesTo rules due text middle between → GoesTo rules middle between after left
      → GoesTo rules due text after left
  goes_then due middle after text between left h k = record {
    lines = h.lines ++ k.lines;
    right = AllPass-append due middle after h.lines k.lines h.right k.right;
    bytes = h.bytes ∙ ap (λ (x : List ℕ). text_of h.lines ++ x) k.bytes
        ∙ sym (text_of-append h.lines k.lines left.bytes);
    number = omega (arith, h.number, k.number, length-append h.lines k.lines);
  }

  pub stops_later : (due middle : Due) (text between : Unread) (fault : TextFault)
      → GoesTo rules due text middle between → IsFirstFault rules middle between fault
      → IsFirstFault rules due text fault
  stops_later due middle text between fault h k = record {
    reached = k.reached;
    left = k.left;
    before = goes_then due middle k.reached text between k.left h k.before;
    line = k.line;
    wrong = k.wrong;
  }

  -- ---- a line that was read

  -- reading a line that is right leads from the state before it to the state after it
  pub goes_line : (due after : Due) (text left : Unread) (line : List ℕ) → line_at text
      ≡ Ok (line, left) → rules.Passes due (words_of line) after → GoesTo rules due text after left
  goes_line due after text left line e h =
      record {
        lines = words_of line ∷ [];
        right = (after, h, refl);
        bytes = line_takes text line left e ∙ sym (text_of-cons (words_of line) [] left.bytes);
        number = number_after (cut_at 10 text.bytes) e;
      } where
        number_after : (cut : Option (List ℕ × List ℕ))
            → line_from text.number cut ≡ Ok (line, left) → left.number ≡ text.number + 1
        number_after None e = absurd cc
        number_after (Some parts) e = let same : ◌≡◌ {A = List ℕ × Unread}
            (parts.0, record { bytes = parts.1; number = text.number + 1 }) (line, left) = cc in
            sym (ap (λ (x : List ℕ × Unread). x.1.number) same)

  -- a reader stops with the fault `Cut` where a line is due and no whole line is left
  pub stops_cut : (due : Due) (text : Unread) (fault : TextFault) → rules.wanted due ≡ ALine
      → line_at text ≡ Err fault → IsFirstFault rules due text fault
  stops_cut due text fault w e =
      let cut = cut_from (cut_at 10 text.bytes) refl e in
      record {
        reached = due;
        left = text;
        before = goes_nowhere due text;
        line = cut.1;
        wrong = subst (λ (v : Wanted). IsWrong rules due v text.bytes fault.what) (sym w)
            (inl (cut.2, cut.0));
      } where
        cut_from : (cut : Option (List ℕ × List ℕ)) → cut_at 10 text.bytes ≡ cut
            → line_from text.number cut ≡ Err fault → (cut_at 10 text.bytes ≡ None)
            × (fault.line ≡ text.number) × (fault.what ≡ Cut)
        cut_from None is e = let same : record { line = text.number; what = Cut } ≡ fault = cc in (
          is,
          ap (λ (x : TextFault). x.line) (sym same),
          ap (λ (x : TextFault). x.what) (sym same),
        )
        cut_from (Some parts) is e = absurd cc

  -- a reader stops at a line that is due with the first test that the line fails
  pub stops_line : (due : Due) (text left : Unread) (line : List ℕ) (what : What) → rules.wanted due
      ≡ ALine → line_at text ≡ Ok (line, left) → IsFirstTest (rules.Fails due (words_of line)) what
      → IsFirstFault rules due text (record { line = text.number; what = what })
  stops_line due text left line what w e h =
      record {
        reached = due;
        left = text;
        before = goes_nowhere due text;
        line = refl;
        wrong = subst (λ (v : Wanted). IsWrong rules due v text.bytes what) (sym w) (inr (record {
          line = line;
          rest = left.bytes;
          whole = whole_line (cut_at 10 text.bytes) refl e;
          test = h;
        }));
      } where
        whole_line : (cut : Option (List ℕ × List ℕ)) → cut_at 10 text.bytes ≡ cut
            → line_from text.number cut ≡ Ok (line, left)
            → cut_at 10 text.bytes ≡ Some (line, left.bytes)
        whole_line None is e = absurd cc
        whole_line (Some parts) is e =
            let same : ◌≡◌ {A = List ℕ × Unread}
            (parts.0, record { bytes = parts.1; number = text.number + 1 }) (line, left) = cc in
            is ∙ ap (λ (x : List ℕ × Unread). Some (x.0, x.1.bytes)) same

  -- a reader stops at bytes after the end
  pub stops_rest : (due : Due) (text : Unread) → rules.wanted due ≡ TheEnd
      → text.bytes ≢ [] → IsFirstFault rules due text (record { line = text.number; what = Rest })
  stops_rest due text w h = record {
    reached = due;
    left = text;
    before = goes_nowhere due text;
    line = refl;
    wrong = subst (λ (v : Wanted). IsWrong rules due v text.bytes Rest) (sym w) (refl, h);
  }

  -- ---- one reading, or one fault

  module _ (sharp : AreSharp rules) where
    no_line : (w : Wanted) → w ≡ ALine → (bytes : List ℕ) → IsThrough w bytes → ⊥
    no_line ALine e bytes h = h
    no_line TheEnd e bytes h = absurd cc
    no_line Nothing e bytes h = absurd cc

    -- where a line is due and the next line is right, no test finds the bytes wrong
    not_wrong : (due after : Due) (words : List (List ℕ)) (rest : List ℕ) (what : What)
        → rules.Passes due words after → IsWrong rules due ALine (line_text words ++ rest) what → ⊥
    not_wrong due after words rest what h (inl cut) = let whole =
        cut_line words rest (sharp.solid due after words h) in absurd (cc (whole, cut.1))
    not_wrong due after words rest what h (inr wrong) =
        let solid = sharp.solid due after words h in
        let parts = same_parts (join_with_byte 32 words) rest wrong.line wrong.rest
        (sym (cut_line words rest solid) ∙ wrong.whole) in
        let same : words_of wrong.line ≡ words =
        ap words_of (sym parts.0) ∙ words_of-join words solid in
        sharp.apart due after words what h
        (subst (λ (w : List (List ℕ)). rules.Fails due w what) same wrong.test.fails)

    not_wrong_here : (due after : Due) (words : List (List ℕ)) (rest bytes : List ℕ) (what : What)
        → rules.Passes due words after → bytes ≡ line_text words ++ rest
        → IsWrong rules due (rules.wanted due) bytes what → ⊥
    not_wrong_here due after words rest bytes what h e wrong =
        not_wrong due after words rest what h
        (subst (λ (b : List ℕ). IsWrong rules due ALine b what) e (subst
        (λ (v : Wanted). IsWrong rules due v bytes what) (sharp.lines due after words h) wrong))

    wrong_once : (due : Due) (wanted : Wanted) (bytes : List ℕ) (a b : What)
        → IsWrong rules due wanted bytes a → IsWrong rules due wanted bytes b → a ≡ b
    wrong_once due ALine bytes a b (inl h) (inl k) = h.0 ∙ sym k.0
    wrong_once due ALine bytes a b (inl h) (inr k) = absurd (cc (h.1, k.whole))
    wrong_once due ALine bytes a b (inr h) (inl k) = absurd (cc (h.whole, k.1))
    wrong_once due ALine bytes a b (inr h) (inr k) =
        let parts = same_parts h.line h.rest k.line k.rest (sym h.whole ∙ k.whole) in
        one_test (rules.Fails due (words_of k.line)) a b
        (subst (λ (l : List ℕ). IsFirstTest (rules.Fails due (words_of l)) a) parts.0 h.test) k.test
    wrong_once due TheEnd bytes a b h k = h.0 ∙ sym k.0
    wrong_once due Nothing bytes a b h k = absurd h

    not_through : (due : Due) (wanted : Wanted) (bytes : List ℕ) (what : What)
        → IsThrough wanted bytes → IsWrong rules due wanted bytes what → ⊥
    not_through due ALine bytes what h k = h
    not_through due TheEnd bytes what h k = k.1 h
    not_through due Nothing bytes what h k = k

    faults_meet : (due e f : Due) (a b : List (List (List ℕ))) (x y : List ℕ) (m n : What)
        → AllPass rules.Passes due a e → AllPass rules.Passes due b f
        → text_of a ++ x ≡ text_of b ++ y
        → IsWrong rules e (rules.wanted e) x m → IsWrong rules f (rules.wanted f) y n
        → (length a ≡ length b) × (m ≡ n)
    faults_meet due e f [] [] x y m n h k same p q =
        let here = subst (λ (d : Due). IsWrong rules d (rules.wanted d) x m) (sym h) p in
        let there = subst (λ (d : Due). IsWrong rules d (rules.wanted d) y n) (sym k) q in (
          refl,
          wrong_once due (rules.wanted due) x m n here
              (subst (λ (z : List ℕ). IsWrong rules due (rules.wanted due) z n) (sym same) there),
        )
    faults_meet due e f [] (w ∷ b) x y m n h k same p q =
        absurd (not_wrong_here due k.0 w (text_of b ++ y) x m k.1 (same ∙ text_of-cons w b y)
        (subst (λ (d : Due). IsWrong rules d (rules.wanted d) x m) (sym h) p))
    faults_meet due e f (v ∷ a) [] x y m n h k same p q =
        absurd (not_wrong_here due h.0 v (text_of a ++ x) y n h.1 (sym same ∙ text_of-cons v a x)
        (subst (λ (d : Due). IsWrong rules d (rules.wanted d) y n) (sym k) q))
    faults_meet due e f (v ∷ a) (w ∷ b) x y m n h k same p q =
        let line = same_line v w (text_of a ++ x) (text_of b ++ y) (sharp.solid due h.0 v h.1)
        (sharp.solid due k.0 w k.1) (sym (text_of-cons v a x) ∙ same ∙ text_of-cons w b y) in
        let next : k.0 ≡ h.0 = sharp.one_way due k.0 h.0 w k.1
        (subst (λ (l : List (List ℕ)). rules.Passes due l h.0) line.0 h.1) in
        let more = faults_meet h.0 e f a b x y m n h.2
        (subst (λ (d : Due). AllPass rules.Passes d b f) next k.2) line.1 p q in
        (ap suc more.0, more.1)

    -- a text has at most one first fault
    pub one_fault : (due : Due) (text : Unread) (a b : TextFault) → IsFirstFault rules due text a
        → IsFirstFault rules due text b → a ≡ b
    one_fault due text a b h k =
        let meet = faults_meet due h.reached k.reached h.before.lines k.before.lines h.left.bytes
        k.left.bytes a.what b.what h.before.right k.before.right
        (sym h.before.bytes ∙ k.before.bytes) h.wrong k.wrong in
        let line : a.line ≡ b.line =
        omega (arith, h.line, k.line, h.before.number, k.before.number, meet.0) in
        same_fault a b line meet.1

    fault_misses : (due e f : Due) (a b : List (List (List ℕ))) (x y : List ℕ) (n : What)
        → AllPass rules.Passes due a e → AllPass rules.Passes due b f
        → text_of a ++ x ≡ text_of b ++ y
        → IsThrough (rules.wanted e) x → IsWrong rules f (rules.wanted f) y n → ⊥
    fault_misses due e f [] [] x y n h k same p q =
        let here = subst (λ (d : Due). IsThrough (rules.wanted d) x) (sym h) p in
        let there = subst (λ (d : Due). IsWrong rules d (rules.wanted d) y n) (sym k) q in
        not_through due (rules.wanted due) x n here
        (subst (λ (z : List ℕ). IsWrong rules due (rules.wanted due) z n) (sym same) there)
    fault_misses due e f [] (w ∷ b) x y n h k same p q = no_line (rules.wanted due)
        (sharp.lines due k.0 w k.1) x (subst (λ (d : Due). IsThrough (rules.wanted d) x) (sym h) p)
    fault_misses due e f (v ∷ a) [] x y n h k same p q =
        not_wrong_here due h.0 v (text_of a ++ x) y n h.1 (sym same ∙ text_of-cons v a x)
        (subst (λ (d : Due). IsWrong rules d (rules.wanted d) y n) (sym k) q)
    fault_misses due e f (v ∷ a) (w ∷ b) x y n h k same p q =
        let line = same_line v w (text_of a ++ x) (text_of b ++ y) (sharp.solid due h.0 v h.1)
        (sharp.solid due k.0 w k.1) (sym (text_of-cons v a x) ∙ same ∙ text_of-cons w b y) in
        let next : k.0 ≡ h.0 = sharp.one_way due k.0 h.0 w k.1
        (subst (λ (l : List (List ℕ)). rules.Passes due l h.0) line.0 h.1) in
        fault_misses h.0 e f a b x y n h.2
        (subst (λ (d : Due). AllPass rules.Passes d b f) next k.2) line.1 p q

    -- a text that is read to its end has no fault
    pub no_fault : (due after : Due) (text left : Unread) (fault : TextFault)
        → IsReadTo rules due text after left → IsFirstFault rules due text fault → ⊥
    no_fault due after text left fault h k =
        fault_misses due after k.reached h.goes.lines k.before.lines left.bytes k.left.bytes
        fault.what h.goes.right k.before.right (sym h.goes.bytes ∙ k.before.bytes) h.through k.wrong

    readings_meet : (due e f : Due) (a b : List (List (List ℕ))) (x y : List ℕ)
        → AllPass rules.Passes due a e → AllPass rules.Passes due b f
        → text_of a ++ x ≡ text_of b ++ y
        → IsThrough (rules.wanted e) x → IsThrough (rules.wanted f) y → (e ≡ f) × (a ≡ b) × (x ≡ y)
    readings_meet due e f [] [] x y h k same p q = (sym h ∙ k, refl, same)
    readings_meet due e f [] (w ∷ b) x y h k same p q = absurd (no_line (rules.wanted due)
        (sharp.lines due k.0 w k.1) x (subst (λ (d : Due). IsThrough (rules.wanted d) x) (sym h) p))
    readings_meet due e f (v ∷ a) [] x y h k same p q = absurd (no_line (rules.wanted due)
        (sharp.lines due h.0 v h.1) y (subst (λ (d : Due). IsThrough (rules.wanted d) y) (sym k) q))
    readings_meet due e f (v ∷ a) (w ∷ b) x y h k same p q =
        let line = same_line v w (text_of a ++ x) (text_of b ++ y) (sharp.solid due h.0 v h.1)
        (sharp.solid due k.0 w k.1) (sym (text_of-cons v a x) ∙ same ∙ text_of-cons w b y) in
        let next : k.0 ≡ h.0 = sharp.one_way due k.0 h.0 w k.1
        (subst (λ (l : List (List ℕ)). rules.Passes due l h.0) line.0 h.1) in
        let more = readings_meet h.0 e f a b x y h.2
        (subst (λ (d : Due). AllPass rules.Passes d b f) next k.2) line.1 p q in
        (more.0, cc (line.0, more.1), more.2)

    -- a text is read in at most one way
    pub one_reading : (due a b : Due) (text x y : Unread) → IsReadTo rules due text a x
        → IsReadTo rules due text b y → (a ≡ b) × (x ≡ y)
    one_reading due a b text x y h k =
        let meet = readings_meet due a b h.goes.lines k.goes.lines x.bytes y.bytes h.goes.right
        k.goes.right (sym h.goes.bytes ∙ k.goes.bytes) h.through k.through in
        let number : x.number ≡ y.number =
        omega (arith, h.goes.number, k.goes.number, ap length meet.1) in
        (meet.0, same_unread x y meet.2 number)

    -- ---- no text begins another

    wanted_apart : (w : Wanted) → w ≡ ALine → w ≡ TheEnd → ⊥
    wanted_apart ALine h k = cc
    wanted_apart TheEnd h k = cc
    wanted_apart Nothing h k = cc

    -- where two lists of right lines begin one text, and after each of them the end is due, the
    -- bytes that follow them are the same
    pub same_rest : (due e f : Due) (a b : List (List (List ℕ))) (x y : List ℕ)
        → AllPass rules.Passes due a e → AllPass rules.Passes due b f → rules.wanted e ≡ TheEnd
        → rules.wanted f ≡ TheEnd
        → text_of a ++ x ≡ text_of b ++ y → x ≡ y
    same_rest due e f [] [] x y h k p q same = same
    same_rest due e f [] (w ∷ b) x y h k p q same = absurd (wanted_apart (rules.wanted due)
        (sharp.lines due k.0 w k.1) (ap (λ (d : Due). rules.wanted d) h ∙ p))
    same_rest due e f (v ∷ a) [] x y h k p q same = absurd (wanted_apart (rules.wanted due)
        (sharp.lines due h.0 v h.1) (ap (λ (d : Due). rules.wanted d) k ∙ q))
    same_rest due e f (v ∷ a) (w ∷ b) x y h k p q same =
        let line = same_line v w (text_of a ++ x) (text_of b ++ y) (sharp.solid due h.0 v h.1)
        (sharp.solid due k.0 w k.1) (sym (text_of-cons v a x) ∙ same ∙ text_of-cons w b y) in
        let next : k.0 ≡ h.0 = sharp.one_way due k.0 h.0 w k.1
        (subst (λ (l : List (List ℕ)). rules.Passes due l h.0) line.0 h.1) in
        same_rest h.0 e f a b x y h.2
        (subst (λ (d : Due). AllPass rules.Passes d b f) next k.2) p q line.1
