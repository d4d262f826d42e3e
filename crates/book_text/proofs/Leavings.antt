-- By sharp rules whose right lines can always be completed, the first fault is where bytes stop
-- being the beginning of a text.
use Rattle.std.proofs.Common.{◌≡◌, ◌≢◌, ℕ, ◌+◌, ◌⊎◌, List, [], ◌∷◌, ◌++◌, length, refl, sym, ap, subst, ◌∙◌, append_assoc, arith, inl, inr}
use Rattle.std.specs.List.{join_with_byte}
use Rattle.std.proofs.lemmas.List.{append-nil}
use Rattle.book_base.specs.declared.fault.TextFault.{TextFault}
use Rattle.book_base.specs.declared.fault.What.{What}
use Rattle.book_base.specs.declared.fault.What.TheVariants.{Cut, Rest}
use Rattle.text_fields.specs.Lines.{Unread, line_text, text_of, cut_at, words_of}
use Rattle.text_fields.specs.Faults.{Wanted, ALine, TheEnd, Rules, IsWrong, IsWrongLine, AllPass, IsThrough, IsReadTo, IsFirstFault, AreSharp}
use Rattle.text_fields.proofs.LineTexts.{cut_again, cut_line, text_of-cons, text_of-append}
use Rattle.text_fields.proofs.Sharp.{AllPass-append}
use Rattle.text_fields.proofs.Readings.{no_first}
use Rattle.book_text.specs.Beginnings.{AreWholeLines, EndsEarly}
use Rattle.book_text.specs.AnyTextBeginnings.{BeginsSome, BreaksOff, GoesPast, LeavesAt}

-- right lines that lead from a state to the end of a text
pub record Completes {Due Said : Type 0} (rules : Rules Due) (ended : Said → Due)
    (due : Due) : Type 0 where
  pub said : Said
  pub lines : List (List (List ℕ))
  pub right : AllPass rules.Passes due lines (ended said)

pub one_more : {Due Said : Type 0} (rules : Rules Due) (ended : Said → Due) (due next : Due)
    (words : List (List ℕ)) → rules.Passes due words next → Completes rules ended next
    → Completes rules ended due
one_more rules ended due next words h c =
    record { said = c.said; lines = words ∷ c.lines; right = (next, h, c.right) }

module _ {Due Said : Type 0} (rules : Rules Due) (are_sharp : AreSharp rules) (start : Due)
    (ended : Said → Due)
    (once : (a b : Said) → ended a ≡ ended b → a ≡ b)
    (last : (said : Said) → rules.wanted (ended said) ≡ TheEnd)
    (CanCome : Due → Type 0) (comes_first : CanCome start) (comes_next : (due after : Due)
    (words : List (List ℕ)) → CanCome due → rules.Passes due words after → CanCome after)
    (completes : (due : Due) → CanCome due → Completes rules ended due)
    (named : (due : Due) (words : List (List ℕ)) (name : What) → rules.Fails due words name
    → (name ≢ Cut) × (name ≢ Rest))
    (line_or_end : (due : Due) → CanCome due → (rules.wanted due ≡ ALine)
    ⊎ ((said : Said) × (due ≡ ended said))) where
  abbrev IsText : List ℕ → Said → Type 0
  IsText bytes said = (left : Unread)
      × IsReadTo rules start (record { bytes = bytes; number = 1 }) (ended said) left

  comes_later : (due after : Due) (lines : List (List (List ℕ))) → CanCome due
      → AllPass rules.Passes due lines after → CanCome after
  comes_later due after [] can h = subst CanCome h can
  comes_later due after (words ∷ lines) can h =
      comes_later h.0 after lines (comes_next due h.0 words can h.1) h.2

  at_end : (wanted : Wanted) → wanted ≡ TheEnd → IsThrough wanted []
  at_end TheEnd e = refl
  at_end _ e = absurd cc

  text_of_lines : (said : Said) (lines : List (List (List ℕ)))
      → AllPass rules.Passes start lines (ended said) → IsText (text_of lines) said
  text_of_lines said lines h = (
    record { bytes = []; number = 1 + length lines },
    record {
      goes = record {
        lines = lines;
        right = h;
        bytes = sym (append-nil (text_of lines));
        number = refl;
      };
      through = at_end (rules.wanted (ended said)) (last said);
    },
  )

  -- right lines begin some text
  begins_so : (reached : Due) (lines : List (List (List ℕ)))
      → AllPass rules.Passes start lines reached → BeginsSome IsText (text_of lines)
  begins_so reached lines h =
      let c = completes reached (comes_later start reached lines comes_first h) in
      let joined : text_of (lines ++ c.lines) ≡ text_of lines ++ text_of c.lines
      = sym (append-nil (text_of (lines ++ c.lines))) ∙ text_of-append lines c.lines [] ∙ ap
      (λ (x : List ℕ). text_of lines ++ x) (append-nil (text_of c.lines)) in
      let whole = AllPass-append rules start reached (ended c.said) lines c.lines h c.right in (
        c.said,
        text_of c.lines,
        subst (λ (b : List ℕ). IsText b c.said) joined
            (text_of_lines c.said (lines ++ c.lines) whole),
      )

  whole_lines : (due after : Due) (lines : List (List (List ℕ)))
      → AllPass rules.Passes due lines after → AreWholeLines (length lines) (text_of lines)
  whole_lines due after [] h = refl
  whole_lines due after (words ∷ lines) h =
      let first : text_of (words ∷ lines) ≡ line_text words ++ text_of lines
      = sym (append-nil (text_of (words ∷ lines))) ∙ text_of-cons words lines [] ∙ ap
      (λ (x : List ℕ). line_text words ++ x) (append-nil (text_of lines)) in (
        join_with_byte 32 words,
        text_of lines,
        ap (cut_at 10) first ∙ cut_line words (text_of lines) (are_sharp.solid due h.0 words h.1),
        whole_lines h.0 after lines h.2,
      )

  -- ---- no text begins with the lines up to that of a fault

  module _ (reached : Due) (lines : List (List (List ℕ)))
      (right : AllPass rules.Passes start lines reached) where
    -- where a whole line is wrong, no text begins with the lines up to it
    no_text_so : (bytes line : List ℕ) (name : What) → rules.wanted reached ≡ ALine
        → IsWrongLine rules reached (line ++ 10 ∷ bytes) name → (said : Said)
        → IsText (text_of lines ++ (line ++ 10 ∷ bytes)) said → ⊥
    no_text_so bytes line name wanted wrong said text =
        let left : Unread = record { bytes = line ++ 10 ∷ bytes; number = 1 + length lines } in
        no_first rules are_sharp start ended once last (text_of lines ++ (line ++ 10 ∷ bytes)) said
        (record { line = 1 + length lines; what = name }) text (record {
          reached = reached;
          left = left;
          before = record { lines = lines; right = right; bytes = refl; number = refl };
          line = refl;
          wrong = subst (λ (w : Wanted). IsWrong rules reached w left.bytes name) (sym wanted)
              (inr wrong);
        })

    breaks : (rest : List ℕ) (name : What) → rules.wanted reached ≡ ALine
        → IsWrongLine rules reached rest name → BreaksOff IsText (text_of lines) rest name
    breaks rest name wanted wrong = record {
      named = named reached (words_of wrong.line) name wrong.test.fails;
      line = wrong.line;
      suffix = wrong.rest;
      whole = wrong.whole;
      none = λ said more text.
          let joined : (text_of lines ++ (wrong.line ++ 10 ∷ [])) ++ more
          ≡ text_of lines ++ (wrong.line ++ 10 ∷ more)
          = append_assoc (text_of lines) (wrong.line ++ 10 ∷ []) more
          ∙ ap (λ (x : List ℕ). text_of lines ++ x) (append_assoc wrong.line (10 ∷ []) more) in
          let again : IsWrongLine rules reached (wrong.line ++ 10 ∷ more) name = record {
            line = wrong.line;
            rest = more;
            whole = cut_again 10 rest wrong.line wrong.rest more wrong.whole;
            test = wrong.test;
          } in
          no_text_so more wrong.line name wanted again said
          (subst (λ (b : List ℕ). IsText b said) joined text);
    }

    abbrev Leaves : List ℕ → What → Type 0
    Leaves rest name = BreaksOff IsText (text_of lines) rest name
        ⊎ (EndsEarly rest name ⊎ GoesPast IsText (text_of lines) rest name)

    line_leaves : (rest : List ℕ) (name : What) → rules.wanted reached ≡ ALine
        → IsWrong rules reached ALine rest name → Leaves rest name
    line_leaves rest name wanted (inl cut) = inr (inl (record { named = cut.0; none = cut.1 }))
    line_leaves rest name wanted (inr wrong) = inl (breaks rest name wanted wrong)

    leaves_at : (rest : List ℕ) (name : What) → (rules.wanted reached ≡ ALine)
        ⊎ ((said : Said) × (reached ≡ ended said))
        → IsWrong rules reached (rules.wanted reached) rest name → Leaves rest name
    leaves_at rest name (inl wanted) h = line_leaves rest name wanted
        (subst (λ (w : Wanted). IsWrong rules reached w rest name) wanted h)
    leaves_at rest name (inr end) h =
        let over : IsWrong rules (ended end.0) TheEnd rest name
        = subst (λ (w : Wanted). IsWrong rules (ended end.0) w rest name) (last end.0)
        (subst (λ (d : Due). IsWrong rules d (rules.wanted d) rest name) end.1 h) in
        inr (inr (record {
          named = over.0;
          said = end.0;
          text = text_of_lines end.0 lines (subst (AllPass rules.Passes start lines) end.1 right);
          more = over.1;
        }))

  -- the first fault is where the bytes stop being the beginning of a text
  pub leaves_texts : (bytes : List ℕ) (fault : TextFault)
      → IsFirstFault rules start (record { bytes = bytes; number = 1 }) fault
      → LeavesAt IsText bytes fault
  leaves_texts bytes fault h =
      let lines = h.before.lines in
      record {
        count = length lines;
        prefix = text_of lines;
        rest = h.left.bytes;
        line = omega (arith, h.line, h.before.number);
        bytes_are = h.before.bytes;
        lines = whole_lines start h.reached lines h.before.right;
        begins = begins_so h.reached lines h.before.right;
        leaves = leaves_at h.reached lines h.before.right h.left.bytes fault.what
            (line_or_end h.reached (comes_later start h.reached lines comes_first h.before.right))
            h.wrong;
        no_text =
            λ said text. no_first rules are_sharp start ended once last bytes said fault text h;
      }
