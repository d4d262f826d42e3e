-- Bytes are read in at most one way by sharp rules, and have at most one first fault.
use Rattle.std.proofs.Common.{◌≡◌, ℕ, ◌⊎◌, List, [], ◌∷◌, ◌++◌, Result, Ok, Err, refl, ap, ◌∙◌, inl, inr}
use Rattle.std.specs.Prelude.{IfOk, IfErr, MatchResult}
use Rattle.std.proofs.lemmas.List.{append-nil}
use Rattle.book_base.specs.declared.fault.TextFault.{TextFault}
use Rattle.book_base.specs.declared.fault.ReadFault.{ReadFault}
use Rattle.book_base.specs.declared.fault.ReadFault.TheVariants.{Text, NoMemory}
use Rattle.text_fields.specs.Lines.{Unread, text_of}
use Rattle.text_fields.specs.Faults.{Wanted, TheEnd, Rules, IsThrough, IsReadTo, StopsFor, IsFirstFault, GoesTo, AreSharp}
use Rattle.text_fields.proofs.Sharp as sharp

-- The rules of a kind of text, the states at its start and at its end, and what a state at the end
-- says.
module _ {Due Said : Type 0} (rules : Rules Due) (are_sharp : AreSharp rules) (start : Due)
    (ended : Said → Due)
    (once : (a b : Said) → ended a ≡ ended b → a ≡ b)
    (last : (said : Said) → rules.wanted (ended said) ≡ TheEnd) where
  -- bytes of which nothing is read yet, from line 1 on
  abbrev whole : List ℕ → Unread
  whole bytes = record { bytes = bytes; number = 1 }

  abbrev IsText : List ℕ → Said → Type 0
  IsText bytes said = (left : Unread) × IsReadTo rules start (whole bytes) (ended said) left

  abbrev IsFirst : List ℕ → TextFault → Type 0
  IsFirst bytes fault = IsFirstFault rules start (whole bytes) fault

  -- bytes are read as one thing at most
  pub one_said : (bytes : List ℕ) (a b : Said) → IsText bytes a → IsText bytes b → a ≡ b
  one_said bytes a b h k = once a b
      (sharp.one_reading rules are_sharp start (ended a) (ended b) (whole bytes) h.0 k.0 h.1 k.1).0

  -- bytes have one first fault at most
  pub one_first : (bytes : List ℕ) (a b : TextFault) → IsFirst bytes a → IsFirst bytes b → a ≡ b
  one_first bytes a b h k = sharp.one_fault rules are_sharp start (whole bytes) a b h k

  -- bytes that are a text have no fault
  pub no_first : (bytes : List ℕ) (said : Said) (fault : TextFault) → IsText bytes said
      → IsFirst bytes fault → ⊥
  no_first bytes said fault h k =
      sharp.no_fault rules are_sharp start (ended said) (whole bytes) h.0 fault h.1 k

  nothing_left : (wanted : Wanted) (bytes : List ℕ) → wanted ≡ TheEnd → IsThrough wanted bytes
      → bytes ≡ []
  nothing_left TheEnd bytes e h = h
  nothing_left _ bytes e h = absurd cc

  -- no text is a proper prefix of another one
  pub no_prefix : (bytes more : List ℕ) (a b : Said) → IsText bytes a
      → IsText (bytes ++ more) b → more ≡ []
  no_prefix bytes [] a b h k = refl
  no_prefix bytes (byte ∷ more) a b h k =
      let left : Unread = record { bytes = byte ∷ more; number = h.0.number } in
      let none : h.0.bytes ≡ [] =
      nothing_left (rules.wanted (ended a)) h.0.bytes (last a) h.1.through in
      let goes : GoesTo rules start (whole (bytes ++ byte ∷ more)) (ended a) left = record {
        lines = h.1.goes.lines;
        right = h.1.goes.right;
        bytes = ap (λ (x : List ℕ). x ++ byte ∷ more)
            (h.1.goes.bytes ∙ ap (λ (x : List ℕ). text_of h.1.goes.lines ++ x) none
            ∙ append-nil (text_of h.1.goes.lines));
        number = h.1.goes.number;
      } in
      let rest = sharp.stops_rest rules (ended a) left (last a) (λ e. absurd cc) in
      absurd (no_first (bytes ++ byte ∷ more) b _ k
      (sharp.stops_later rules start (ended a) (whole (bytes ++ byte ∷ more)) left _ goes rest))

  -- ---- a reader that answers what it read, or the fault with which it stopped

  -- where bytes are a text, a reader answers what the text says, unless memory is lacking
  pub only_read : (bytes : List ℕ) (result : Result Said ReadFault)
      → IfOk result (λ said. IsText bytes said)
      → IfErr result (λ e. StopsFor rules start (whole bytes) e)
      → (said : Said) → IsText bytes said → MatchResult result (λ x. x ≡ said) (λ e. e ≡ NoMemory)
  only_read bytes (Ok x) h k said read = one_said bytes x said h read
  only_read bytes (Err NoMemory) h k said read = refl
  only_read bytes (Err (Text fault)) h k said read = absurd (no_first bytes said fault read k)

  -- a reader refuses bytes for want of memory, or with the first fault of bytes that are no text
  pub refused_read : (bytes : List ℕ) (result : Result Said ReadFault)
      → IfErr result (λ e. StopsFor rules start (whole bytes) e)
      → IfErr result (λ e. (e ≡ NoMemory) ⊎ ((fault : TextFault) × (e ≡ Text fault)
      × IsFirst bytes fault × ((said : Said) → ¬ (IsText bytes said))))
  refused_read bytes (Ok x) k = tt
  refused_read bytes (Err NoMemory) k = inl refl
  refused_read bytes (Err (Text fault)) k =
      inr (fault, refl, k, λ said read. no_first bytes said fault read k)

  -- where bytes have a first fault, a reader answers that fault, unless memory is lacking
  pub first_read : (bytes : List ℕ) (result : Result Said ReadFault)
      → IfOk result (λ said. IsText bytes said)
      → IfErr result (λ e. StopsFor rules start (whole bytes) e)
      → (fault : TextFault) → IsFirst bytes fault
      → MatchResult result (λ x. ⊥) (λ e. (e ≡ Text fault) ⊎ (e ≡ NoMemory))
  first_read bytes (Ok x) h k fault f = no_first bytes x fault h f
  first_read bytes (Err NoMemory) h k fault f = inr refl
  first_read bytes (Err (Text other)) h k fault f = inl (ap Text (one_first bytes other fault k f))

-- ---- a reader of a part of a text, whose rest other rules read

module _ {Due : Type 0} (rules : Rules Due) (are_sharp : AreSharp rules) (start : Due)
    (text : Unread) where
  -- a part is read in one way at most, and leaves one rest
  pub one_part : (a b : Due) (x y : Unread) → IsThrough (rules.wanted a) x.bytes
      → IsThrough (rules.wanted b) y.bytes → GoesTo rules start text a x
      → GoesTo rules start text b y → (a ≡ b) × (x ≡ y)
  one_part a b x y p q h k = sharp.one_reading rules are_sharp start a b text x y
      (record { goes = h; through = p }) (record { goes = k; through = q })

  -- a part that is read has no fault
  pub no_part_fault : (after : Due) (left : Unread) (fault : TextFault)
      → IsThrough (rules.wanted after) left.bytes → GoesTo rules start text after left
      → IsFirstFault rules start text fault → ⊥
  no_part_fault after left fault p h k = sharp.no_fault rules are_sharp start after text left fault
      (record { goes = h; through = p }) k
