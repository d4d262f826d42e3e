-- The rules of a script's text are sharp.
use Rattle.std.proofs.Common.{◌≡◌, ℕ, ◌<◌, List, [], ◌∷◌, ◌++◌, length, map, decimal, refl, sym, ap, subst, ◌∙◌, arith, inl, inr}
use Rattle.std.specs.Prelude.{IsTrue, nat_lt, codes}
use Rattle.std.proofs.lemmas.Bool.{lt-ltb}
use Rattle.std.proofs.lemmas.List.{length-append}
use Rattle.list_laws.proofs.Elements.{AllByRecursion-append}
use Rattle.book_base.specs.declared.call.Call.{Call}
use Rattle.book_base.specs.declared.fault.What.{What}
use Rattle.book_base.specs.declared.fault.What.TheVariants as what
use Rattle.seq_objects.specs.declared.kind.Kind.{Kind}
use Rattle.seq_objects.specs.Words.{operation_words}
use Rattle.text_fields.specs.declared.version.Version.{Version}
use Rattle.text_fields.specs.Version.{word_limit}
use Rattle.text_fields.specs.Lines.{IsSolid, AreSolid}
use Rattle.text_fields.specs.Faults.{ALine, AreSharp}
use Rattle.text_fields.specs.Head.{head_rules}
use Rattle.text_fields.specs.OperationLaws.{one_kind_operation, solid_kind_words}
use Rattle.text_fields.proofs.NumberTexts.{same_first, same_number, solid_decimal}
use Rattle.text_fields.proofs.HeadTexts.{same_numbers, solid_numbers, plain, head_sharp}
use Rattle.book_text.specs.CallLines.{place_words}
use Rattle.book_text.proofs.EntryTexts.{after_place}
use Rattle.client_scripts.specs.ScriptRules.{Begun, with_operation, with_stop, plan_with, ScriptDue, InHead, InBody, Turned, AtEnd, after_head, IsCallLine, CallFails, IsStopLine, IsTurnsLine, TailPasses, TailFails, ScriptPasses, ScriptFails, script_wanted, script_rules}

-- ---- the line of a call

pub small_has : (version : Version) (op : ℕ) → op < word_limit version
    → IsTrue (nat_lt op (word_limit version))
small_has version op h = lt-ltb op (word_limit version) h

-- two operations whose words begin the same words are equal
pub one_operation : (version : Version) (kind : Kind) (a b : ℕ) (x y : List (List ℕ))
    → a < word_limit version → b < word_limit version
    → operation_words kind a ++ x ≡ operation_words kind b ++ y → a ≡ b
one_operation version kind a b x y h k e =
    one_kind_operation version kind a b x y (small_has version a h) (small_has version b k) e

pub call_once : (version : Version) (kind : Kind) (call : Call) (words : List (List ℕ)) (a b : ℕ)
    → IsCallLine version kind call words a → IsCallLine version kind call words b → a ≡ b
call_once version kind call words a b h k =
    let e =
    after_place call (operation_words kind a) (operation_words kind b) (sym h.text ∙ k.text) in
    one_operation version kind a b [] [] h.has k.has (ap (λ (ws : List (List ℕ)). ws ++ []) e)

call_apart : (version : Version) (kind : Kind) (call : Call) (words : List (List ℕ)) (op : ℕ)
    (name : What) → IsCallLine version kind call words op
    → CallFails version kind call words name → ⊥
call_apart version kind call words op what.Place h k = k (operation_words kind op) h.text
call_apart version kind call words op what.Op h k =
    k.2 op h.has (after_place call k.0 (operation_words kind op) (sym k.1 ∙ h.text))
call_apart version kind call words op _ h k = k

call_solid : (version : Version) (kind : Kind) (call : Call) (words : List (List ℕ)) (op : ℕ)
    → IsCallLine version kind call words op → AreSolid words
call_solid version kind call words op h =
    let operation = solid_kind_words version kind op (small_has version op h.has) in
    subst AreSolid (sym h.text) (record {
      some = omega (arith, length-append (place_words call) (operation_words kind op));
      each = AllByRecursion-append IsSolid (place_words call) (operation_words kind op)
          (solid_decimal call.caller h.named.0, (solid_decimal call.number h.named.1.0, tt))
          operation.each;
    })

-- ---- the lines after the calls

-- a line that begins with 'stop' is no line of turns
not_both : (x y : List (List ℕ)) → codes "stop" ∷ x ≡ codes "turns" ∷ y → ⊥
not_both x y e = let size =
    ap (length {A = ℕ}) (same_first (codes "stop") (codes "turns") x y e).0 in absurd (omega arith)

-- a line is that of one stop at most
pub record IsOneStop (c d p q : ℕ) : Type 0 where
  pub callers : c ≡ d
  pub phases : p ≡ q

pub stop_once : (begun : Begun) (words : List (List ℕ)) (c p d q : ℕ) → IsStopLine begun words c p
    → IsStopLine begun words d q → IsOneStop c d p q
stop_once begun words c p d q h k =
    let first = (same_first (codes "stop") (codes "stop") (decimal c ∷ decimal p ∷ [])
    (decimal d ∷ decimal q ∷ []) (sym h.text ∙ k.text)).1 in
    let second = same_first (decimal c) (decimal d) (decimal p ∷ []) (decimal q ∷ []) first in
    let third = same_first (decimal p) (decimal q) [] [] second.1 in
    record {
      callers = same_number c d h.may.numbers.0 k.may.numbers.0 second.0;
      phases = same_number p q h.may.numbers.1.0 k.may.numbers.1.0 third.0;
    }

turns_once : (n : ℕ) (words : List (List ℕ)) (a b : List ℕ) → IsTurnsLine n words a
    → IsTurnsLine n words b → a ≡ b
turns_once n words a b h k = same_numbers a b h.may.numbers k.may.numbers (same_first
    (codes "turns") (codes "turns") (map decimal a) (map decimal b) (sym h.text ∙ k.text)).1

tail_once : (kind : Kind) (begun : Begun) (words : List (List ℕ)) (a b : ScriptDue)
    → TailPasses kind begun words a → TailPasses kind begun words b → a ≡ b
tail_once kind begun words a b (inl h) (inl k) =
    let same = stop_once begun words h.0 h.1 k.0 k.1 h.2 k.2 in
    h.3 ∙ ap (λ (c : ℕ). InBody kind (with_stop begun c h.1) []) same.callers
    ∙ ap (λ (p : ℕ). InBody kind (with_stop begun k.0 p) []) same.phases ∙ sym k.3
tail_once kind begun words a b (inl h) (inr k) =
    absurd (not_both (decimal h.0 ∷ decimal h.1 ∷ []) (map decimal k.0) (sym h.2.text ∙ k.1.text))
tail_once kind begun words a b (inr h) (inl k) =
    absurd (not_both (decimal k.0 ∷ decimal k.1 ∷ []) (map decimal h.0) (sym k.2.text ∙ h.1.text))
tail_once kind begun words a b (inr h) (inr k) =
    h.2 ∙ ap (λ (turns : List ℕ). Turned (plan_with kind begun turns))
    (turns_once (length begun.calls) words h.0 k.0 h.1 k.1) ∙ sym k.2

tail_apart : (kind : Kind) (begun : Begun) (words : List (List ℕ)) (after : ScriptDue) (name : What)
    → TailPasses kind begun words after → TailFails begun words name → ⊥
tail_apart kind begun words after what.Stop (inl h) k = k.2 h.0 h.1 h.2
tail_apart kind begun words after what.Stop (inr h) k =
    not_both k.0 (map decimal h.0) (sym k.1 ∙ h.1.text)
tail_apart kind begun words after what.Turns (inl h) k =
    k.0 (decimal h.0 ∷ decimal h.1 ∷ []) h.2.text
tail_apart kind begun words after what.Turns (inr h) k = k.1 h.0 h.1
tail_apart kind begun words after _ h k = k

solid_stop : IsSolid (codes "stop")
solid_stop = plain (codes "stop") (omega arith, (omega arith, (omega arith, (omega arith, tt))))
    (omega arith)

solid_turns : IsSolid (codes "turns")
solid_turns = plain (codes "turns")
    (omega arith, (omega arith, (omega arith, (omega arith, (omega arith, tt))))) (omega arith)

tail_solid : (kind : Kind) (begun : Begun) (words : List (List ℕ)) (after : ScriptDue)
    → TailPasses kind begun words after → AreSolid words
tail_solid kind begun words after (inl h) = subst AreSolid (sym h.2.text) (record {
  some = omega arith;
  each = (
    solid_stop,
    (solid_decimal h.0 h.2.may.numbers.0, (solid_decimal h.1 h.2.may.numbers.1.0, tt)),
  );
})
tail_solid kind begun words after (inr h) = subst AreSolid (sym h.1.text)
    (record { some = omega arith; each = (solid_turns, solid_numbers h.0 h.1.may.numbers) })

-- ---- all lines

module _ (version : Version) where
  title_solid : IsSolid (codes "script")
  title_solid = plain (codes "script")
      (omega arith, (omega arith, (omega arith, (omega arith, (omega arith, (omega arith, tt))))))
      (omega arith)

  head : AreSharp (head_rules version (codes "script"))
  head = head_sharp version (codes "script") title_solid

  one_way : (due a b : ScriptDue) (words : List (List ℕ)) → ScriptPasses version due words a
      → ScriptPasses version due words b → a ≡ b
  one_way (InHead due) a b words h k =
      h.2 ∙ ap after_head (head.one_way due h.0 k.0 words h.1 k.1) ∙ sym k.2
  one_way (InBody kind begun []) a b words h k = tail_once kind begun words a b h k
  one_way (InBody kind begun (call ∷ calls)) a b words h k =
      h.2 ∙ ap (λ (op : ℕ). InBody kind (with_operation begun op) calls)
      (call_once version kind call words h.0 k.0 h.1 k.1) ∙ sym k.2
  one_way (Turned plan) a b words h k = h.1 ∙ sym k.1
  one_way (AtEnd plan) a b words h k = absurd h

  apart : (due after : ScriptDue) (words : List (List ℕ)) (name : What)
      → ScriptPasses version due words after → ScriptFails version due words name → ⊥
  apart (InHead due) after words name h k = head.apart due h.0 words name h.1 k
  apart (InBody kind begun []) after words name h k = tail_apart kind begun words after name h k
  apart (InBody kind begun (call ∷ calls)) after words name h k =
      call_apart version kind call words h.0 name h.1 k
  apart (Turned plan) after words name h k = k.1 h.0
  apart (AtEnd plan) after words name h k = h

  solid : (due after : ScriptDue) (words : List (List ℕ)) → ScriptPasses version due words after
      → AreSolid words
  solid (InHead due) after words h = head.solid due h.0 words h.1
  solid (InBody kind begun []) after words h = tail_solid kind begun words after h
  solid (InBody kind begun (call ∷ calls)) after words h =
      call_solid version kind call words h.0 h.1
  solid (Turned plan) after words h = subst AreSolid (sym h.0) (record {
    some = omega arith;
    each = (plain (codes "end") (omega arith, (omega arith, (omega arith, tt))) (omega arith), tt);
  })
  solid (AtEnd plan) after words h = absurd h

  wanted : (due after : ScriptDue) (words : List (List ℕ)) → ScriptPasses version due words after
      → script_wanted due ≡ ALine
  wanted (InHead due) after words h = refl
  wanted (InBody kind begun calls) after words h = refl
  wanted (Turned plan) after words h = refl
  wanted (AtEnd plan) after words h = absurd h

  -- the rules of a script's text are sharp
  pub script_sharp : AreSharp (script_rules version)
  script_sharp = record { one_way = one_way; apart = apart; solid = solid; lines = wanted }
