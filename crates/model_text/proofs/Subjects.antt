-- What a told line speaks of, read back from its words.
use Rattle.std.proofs.Common.{◌≡◌, ℕ, ◌<◌, ◌≤◌, ◌^◌, List, [], ◌∷◌, ◌++◌, length, decimal, get_or, sym, ap, ◌∙◌, append_assoc, arith}
use Rattle.std.specs.Prelude.{codes, IsTrue, nat_lt}
use Rattle.std.specs.List.{AllByRecursion}
use Rattle.list_laws.proofs.Decimals.{decimal_byte}
use Rattle.list_laws.proofs.Elements.{AllByRecursion-append}
use Rattle.std.proofs.lemmas.Fmt.{decimal_nonempty}
use Rattle.std.proofs.lemmas.List.{length-append}
use Rattle.book_text.proofs.EntryTexts.{same_after}
use Rattle.seq_objects.specs.Replies.{reply_word}
use Rattle.seq_objects.proofs.ReplyTexts.{reply_word-once}
use Rattle.seq_objects.proofs.Texts.{reply_word-IsWord}
use Rattle.text_fields.specs.Lines.{IsSolid, AreSolid}
use Rattle.text_fields.proofs.NumberTexts.{same_first, same_number, solid_word, solid_decimal}
use Rattle.text_fields.proofs.HeadTexts.{plain}
use Rattle.model_text.specs.declared.told_line.Subject.{Subject}
use Rattle.model_text.specs.declared.told_line.Subject.TheVariants.{Leaves, Step}
use Rattle.model_text.specs.declared.told_line.ToldLine.{ToldLine}
use Rattle.model_text.specs.ModelWords.{model_words}
use Rattle.model_text.specs.ModelWordLaws.{one_model_operation, solid_model_words}
use Rattle.model_text.specs.Grammar.{subject_words, told_words, IsSubject, IsLine}

-- a state isn't the word 'leaves'
pub no_state : (state : ℕ) (x y : List (List ℕ)) → state < 2 ^ 64
    → codes "leaves" ∷ x ≡ decimal state ∷ y → ⊥
no_state state x y small e =
    let word : codes "leaves" ≡ decimal state = (same_first _ _ _ _ e).0 in
    let digit = decimal_byte state 0 small (decimal_nonempty state small) in
    let first : 108 ≡ get_or (decimal state) 0 0 = ap (λ (w : List ℕ). get_or w 0 0) word in
    absurd (omega (arith, first, digit.0, digit.1))

-- two ways to read what a line speaks of, and the words after it, are one
pub record IsOneSubject (a b : Subject) (x y : List (List ℕ)) : Type 0 where
  pub subjects : a ≡ b
  pub suffix : x ≡ y

-- the words of a step, with the words after them
pub step_tail : (op next : ℕ) (x : List (List ℕ))
    → (model_words op ++ decimal next ∷ []) ++ x ≡ model_words op ++ decimal next ∷ x
step_tail op next x = append_assoc (model_words op) (decimal next ∷ []) x

pub one_subject : (a b : Subject) (x y : List (List ℕ)) → IsSubject a → IsSubject b
    → subject_words a ++ x ≡ subject_words b ++ y → IsOneSubject a b x y
one_subject (Leaves op) (Leaves other) x y h k e =
    let tail : model_words op ++ x ≡ model_words other ++ y = (same_first _ _ _ _ e).1 in
    let same : op ≡ other = one_model_operation op other x y h k tail in
    record {
      subjects = ap Leaves same;
      suffix = same_after (model_words op) x y
          (tail ∙ ap (λ (o : ℕ). model_words o ++ y) (sym same));
    }
one_subject (Leaves op) (Step state other next) x y h k e = absurd (no_state state _ _ k.0 e)
one_subject (Step state op next) (Leaves other) x y h k e = absurd (no_state state _ _ h.0 (sym e))
one_subject (Step state op next) (Step at other to) x y h k e =
    let first = same_first _ _ _ _ e in
    let states : state ≡ at = same_number state at h.0 k.0 first.0 in
    let tail : model_words op ++ decimal next ∷ x ≡ model_words other ++ decimal to ∷ y =
    sym (step_tail op next x) ∙ first.1 ∙ step_tail other to y in
    let same : op ≡ other =
    one_model_operation op other (decimal next ∷ x) (decimal to ∷ y) h.1 k.1 tail in
    let last : decimal next ∷ x ≡ decimal to ∷ y =
    same_after (model_words op) (decimal next ∷ x) (decimal to ∷ y)
    (tail ∙ ap (λ (o : ℕ). model_words o ++ decimal to ∷ y) (sym same)) in
    let nexts : next ≡ to = same_number next to h.2 k.2 (same_first _ _ _ _ last).0 in
    record {
      subjects = ap (λ (s : ℕ). Step s op next) states ∙ ap (λ (o : ℕ). Step at o next) same
          ∙ ap (Step at other) nexts;
      suffix = (same_first _ _ _ _ last).1;
    }

-- after a state and an operation the words of a step are its next state and those that follow
pub step_ends : (first word state op next : ℕ) (words more left suffix : List (List ℕ))
    → words ≡ decimal first ∷ more → IsTrue (nat_lt word (2 ^ 128)) → more ≡ model_words word ++ left
    → IsSubject (Step state op next) → words ≡ subject_words (Step state op next) ++ suffix
    → left ≡ decimal next ∷ suffix
step_ends first word state op next words more left suffix h has k may e =
    let parts = same_first _ _ _ _ (sym h ∙ e) in
    let tail : model_words word ++ left ≡ model_words op ++ decimal next ∷ suffix =
    sym k ∙ parts.1 ∙ step_tail op next suffix in
    let same : word ≡ op =
    one_model_operation word op left (decimal next ∷ suffix) has may.1 tail in
    same_after (model_words word) left (decimal next ∷ suffix)
    (tail ∙ ap (λ (o : ℕ). model_words o ++ decimal next ∷ suffix) (sym same))

-- a line is one told line at most
pub one_line : (a b : ToldLine) → IsLine a → IsLine b → told_words a ≡ told_words b → a ≡ b
one_line a b h k e =
    let one = one_subject a.subject b.subject (reply_word a.reply ∷ []) (reply_word b.reply ∷ [])
    h.subject k.subject e in
    let reply : a.reply ≡ b.reply =
    reply_word-once a.reply b.reply h.reply k.reply (same_first _ _ _ _ one.suffix).0 in
    let made : Subject → ℕ → ToldLine = λ s r. record { subject = s; reply = r } in
    ap (λ (s : Subject). made s a.reply) one.subjects ∙ ap (made b.subject) reply

-- an operation has a word
some_word : (op : ℕ) → IsTrue (nat_lt op (2 ^ 128)) → 0 < length (model_words op)
some_word op h = (solid_model_words op h).some

-- what a line speaks of has more than one word
pub two_words : (subject : Subject) (x : List (List ℕ)) → IsSubject subject
    → 2 ≤ length (subject_words subject ++ x)
two_words (Leaves op) x h =
    omega (arith, length-append (model_words op) x, some_word op h)
two_words (Step state op next) x h =
    omega (
      arith,
      ap (length {A = List ℕ}) (step_tail op next x),
      length-append (model_words op) (decimal next ∷ x),
      some_word op h.1,
    )

subject_solid : (subject : Subject) → IsSubject subject
    → AllByRecursion IsSolid (subject_words subject)
subject_solid (Leaves op) h = (
  plain (codes "leaves")
      (omega arith, (omega arith, (omega arith, (omega arith, (omega arith, (omega arith, tt))))))
      (omega arith),
  (solid_model_words op h).each,
)
subject_solid (Step state op next) h = (
  solid_decimal state h.0,
  AllByRecursion-append IsSolid (model_words op) (decimal next ∷ [])
      (solid_model_words op h.1).each (solid_decimal next h.2, tt),
)

-- the words of a told line can stand in a line
pub line_solid : (line : ToldLine) → IsLine line → AreSolid (told_words line)
line_solid line h = record {
  some = omega (arith, two_words line.subject (reply_word line.reply ∷ []) h.subject);
  each = AllByRecursion-append IsSolid (subject_words line.subject) (reply_word line.reply ∷ [])
      (subject_solid line.subject h.subject)
      (solid_word (reply_word line.reply) (reply_word-IsWord line.reply h.reply), tt);
}
