-- The rules of a certificate's text are sharp.
use Rattle.std.proofs.Common.{◌≡◌, ℕ, List, [], ◌∷◌, ◌++◌, length, refl, sym, ap, subst, ◌∙◌, arith, inl, inr}
use Rattle.std.specs.Prelude.{codes}
use Rattle.book_base.specs.declared.call.Call.{Call}
use Rattle.book_base.specs.declared.call.Place.{Place}
use Rattle.book_base.specs.declared.fault.What.{What}
use Rattle.book_base.specs.declared.fault.What.TheVariants as what
use Rattle.book_base.specs.Order.{call_at}
use Rattle.seq_objects.specs.Replies.{reply_word}
use Rattle.seq_objects.proofs.ReplyTexts.{reply_word-once}
use Rattle.seq_objects.proofs.Texts.{reply_word-IsWord}
use Rattle.text_fields.specs.declared.version.Version.TheVariants.{Second}
use Rattle.text_fields.specs.Lines.{AreSolid}
use Rattle.text_fields.specs.Faults.{ALine, AreSharp}
use Rattle.text_fields.proofs.NumberTexts.{same_first, same_number, solid_word, solid_decimal}
use Rattle.text_fields.proofs.HeadTexts.{plain}
use Rattle.book_text.specs.CallLines.{place_words}
use Rattle.book_text.specs.Grammar.{end_words}
use Rattle.book_text.specs.BookRules.{book_rules}
use Rattle.book_text.proofs.SharpBooks.{book_sharp}
use Rattle.certificate_text.specs.Grammar.{order_words, place_line, IsNamed}
use Rattle.certificate_text.specs.CertificateRules.{CertificateDue, InBook, OrderDue, InPlaces, AllRead, after_book, IsPlaceLine, PlaceFails, CertificatePasses, CertificateFails, certificate_wanted, certificate_rules}

-- ---- the lines of places

-- two ways to read the caller and the number of a line's call, and the words after them, are one
pub record IsOneCall (a b : Call) (x y : List (List ℕ)) : Type 0 where
  pub callers : a.caller ≡ b.caller
  pub numbers : a.number ≡ b.number
  pub suffix : x ≡ y

pub one_call : (a b : Call) (x y : List (List ℕ)) → IsNamed a → IsNamed b
    → place_words a ++ x ≡ place_words b ++ y → IsOneCall a b x y
one_call a b x y h k e =
    let first = same_first _ _ _ _ e in
    let second = same_first _ _ _ _ first.1 in
    record {
      callers =
          same_number a.caller b.caller (omega (arith, h.caller)) (omega (arith, k.caller)) first.0;
      numbers = same_number a.number b.number h.number k.number second.0;
      suffix = second.1;
    }

-- a line is that of one place at most
pub one_place : (words : List (List ℕ)) (a b : Place) → IsPlaceLine words a
    → IsPlaceLine words b → a ≡ b
one_place words a b h k =
    let call = one_call (call_at a) (call_at b) (reply_word a.reply ∷ [])
    (reply_word b.reply ∷ []) h.may.call k.may.call (sym h.text ∙ k.text) in
    let reply : a.reply ≡ b.reply =
    reply_word-once a.reply b.reply h.may.reply k.may.reply (same_first _ _ _ _ call.suffix).0 in
    let made : ℕ → ℕ → ℕ → Place = λ i n r. record { caller = i; number = n; reply = r } in
    ap (λ (i : ℕ). made i a.number a.reply) call.callers
    ∙ ap (λ (n : ℕ). made b.caller n a.reply) call.numbers ∙ ap (made b.caller b.number) reply

-- the last line of a text is no line of a place
pub end_or_place : (words : List (List ℕ)) (place : Place) → words ≡ end_words
    → IsPlaceLine words place → ⊥
end_or_place words place e h =
    let size : length (place_line place) ≡ length end_words =
    ap (length {A = List ℕ}) (sym h.text ∙ e) in
    omega arith

-- a place's line fails no test
pub place_apart : (words : List (List ℕ)) (place : Place) (name : What) → IsPlaceLine words place
    → PlaceFails words name → ⊥
place_apart words place what.Place h k =
    k.1 (call_at place) (reply_word place.reply ∷ []) h.may.call h.text
place_apart words place what.Reply h k =
    let call = one_call k.0 (call_at place) k.1 (reply_word place.reply ∷ []) k.2 h.may.call
    (sym k.3 ∙ h.text) in
    k.4 place.reply h.may.reply call.suffix
place_apart words place _ h k = k

-- the last line of a text fails no test
pub end_apart : (words : List (List ℕ)) (name : What) → words ≡ end_words
    → PlaceFails words name → ⊥
end_apart words what.Place e k = k.0 e
end_apart words what.Reply e k =
    let size : length (place_words k.0 ++ k.1) ≡ length end_words =
    ap (length {A = List ℕ}) (sym k.3 ∙ e) in
    omega arith
end_apart words _ e k = k

pub place_solid : (words : List (List ℕ)) (place : Place) → IsPlaceLine words place → AreSolid words
place_solid words place h = subst AreSolid (sym h.text) (record {
  some = omega arith;
  each = (
    solid_decimal place.caller (omega (arith, h.may.call.caller)),
    (
      solid_decimal place.number h.may.call.number,
      (solid_word (reply_word place.reply) (reply_word-IsWord place.reply h.may.reply), tt),
    ),
  );
})

end_solid : AreSolid end_words
end_solid = record {
  some = omega arith;
  each = (plain (codes "end") (omega arith, (omega arith, (omega arith, tt))) (omega arith), tt);
}

order_solid : AreSolid order_words
order_solid = record {
  some = omega arith;
  each = (
    plain (codes "order")
        (omega arith, (omega arith, (omega arith, (omega arith, (omega arith, tt))))) (omega arith),
    (plain (codes "2") (omega arith, tt) (omega arith), tt),
  );
}

-- ---- all lines

book : AreSharp (book_rules Second)
book = book_sharp Second

one_way : (due a b : CertificateDue) (words : List (List ℕ)) → CertificatePasses due words a
    → CertificatePasses due words b → a ≡ b
one_way (InBook due) a b words h k =
    h.2 ∙ ap after_book (book.one_way due h.0 k.0 words h.1 k.1) ∙ sym k.2
one_way (OrderDue kind pages) a b words h k = h.1 ∙ sym k.1
one_way (InPlaces kind pages order) a b words (inl h) (inl k) = h.1 ∙ sym k.1
one_way (InPlaces kind pages order) a b words (inl h) (inr k) =
    absurd (end_or_place words k.0 h.0 k.1)
one_way (InPlaces kind pages order) a b words (inr h) (inl k) =
    absurd (end_or_place words h.0 k.0 h.1)
one_way (InPlaces kind pages order) a b words (inr h) (inr k) =
    h.2 ∙ ap (λ (place : Place). InPlaces kind pages (order ++ place ∷ []))
    (one_place words h.0 k.0 h.1 k.1) ∙ sym k.2
one_way (AllRead kind pages order) a b words h k = absurd h

apart : (due after : CertificateDue) (words : List (List ℕ)) (name : What)
    → CertificatePasses due words after → CertificateFails due words name → ⊥
apart (InBook due) after words name h k = book.apart due h.0 words name h.1 k
apart (OrderDue kind pages) after words name h k = k.1 h.0
apart (InPlaces kind pages order) after words name (inl h) k = end_apart words name h.0 k
apart (InPlaces kind pages order) after words name (inr h) k = place_apart words h.0 name h.1 k
apart (AllRead kind pages order) after words name h k = h

solid : (due after : CertificateDue) (words : List (List ℕ)) → CertificatePasses due words after
    → AreSolid words
solid (InBook due) after words h = book.solid due h.0 words h.1
solid (OrderDue kind pages) after words h = subst AreSolid (sym h.0) order_solid
solid (InPlaces kind pages order) after words (inl h) = subst AreSolid (sym h.0) end_solid
solid (InPlaces kind pages order) after words (inr h) = place_solid words h.0 h.1
solid (AllRead kind pages order) after words h = absurd h

wanted : (due after : CertificateDue) (words : List (List ℕ)) → CertificatePasses due words after
    → certificate_wanted due ≡ ALine
wanted (InBook due) after words h = refl
wanted (OrderDue kind pages) after words h = refl
wanted (InPlaces kind pages order) after words h = refl
wanted (AllRead kind pages order) after words h = absurd h

-- the rules of a certificate's text are sharp
pub certificate_sharp : AreSharp certificate_rules
certificate_sharp = record { one_way = one_way; apart = apart; solid = solid; lines = wanted }
