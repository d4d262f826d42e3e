-- The rules of a head are sharp.
use Rattle.std.proofs.Common.{◌≡◌, ℕ, ◌<◌, ◌^◌, List, [], ◌∷◌, length, map, decimal, refl, sym, ap, subst, ◌∙◌, arith}
use Rattle.std.specs.Prelude.{codes}
use Rattle.std.specs.List.{AllByRecursion}
use Rattle.std.proofs.lemmas.List.Elements.{All-from_recursion}
use Rattle.book_base.specs.declared.fault.What.{What}
use Rattle.seq_objects.specs.Words.{kind_name}
use Rattle.seq_objects.proofs.Texts.{kind_name-once, kind_name-IsWord}
use Rattle.text_fields.specs.declared.version.Version.{Version}
use Rattle.text_fields.specs.declared.version.Version.TheVariants.{First, Second}
use Rattle.text_fields.specs.Version.{version_word, most_callers, most_calls}
use Rattle.text_fields.specs.Lines.{IsSolid, AreSolid}
use Rattle.text_fields.specs.Counts.{AreAtMost, AreNumbers}
use Rattle.text_fields.specs.Faults.{ALine, AreSharp}
use Rattle.text_fields.specs.Head.{HeadDue, TitleDue, ObjectDue, CallersDue, CountsDue, HeadRead, HeadPasses, HeadFails, head_wanted, head_rules}
use Rattle.text_fields.proofs.NumberTexts.{same_first, same_number, solid_word, solid_decimal}

-- two lists of numbers with the same words are equal
pub same_numbers : (xs ys : List ℕ) → AreNumbers xs → AreNumbers ys
    → map decimal xs ≡ map decimal ys → xs ≡ ys
same_numbers [] [] h k e = refl
same_numbers [] (y ∷ ys) h k e = absurd cc
same_numbers (x ∷ xs) [] h k e = absurd cc
same_numbers (x ∷ xs) (y ∷ ys) h k e =
    let parts = same_first (decimal x) (decimal y) (map decimal xs) (map decimal ys) e in
    let first = same_number x y h.0 k.0 parts.0 in
    let others = same_numbers xs ys h.1 k.1 parts.1 in
    cc

pub numbers_at_most : (most : ℕ) (xs : List ℕ) → most < 2 ^ 64 → AreAtMost most xs → AreNumbers xs
numbers_at_most most [] small h = tt
numbers_at_most most (x ∷ xs) small h = (omega (arith, h.0), numbers_at_most most xs small h.1)

pub solid_numbers : (xs : List ℕ) → AreNumbers xs → AllByRecursion IsSolid (map decimal xs)
solid_numbers [] h = tt
solid_numbers (x ∷ xs) h = (solid_decimal x h.0, solid_numbers xs h.1)

few_callers : (version : Version) → most_callers version < 2 ^ 64
few_callers First = omega arith
few_callers Second = omega arith

few_calls : (version : Version) → most_calls version < 2 ^ 64
few_calls First = omega arith
few_calls Second = omega arith

-- a word that a form of text prescribes can be in a line
pub plain : (word : List ℕ) → AllByRecursion (λ b. 32 < b) word → 0 < length word → IsSolid word
plain word h some = record { some = some; above = All-from_recursion (λ b. 32 < b) word h }

module _ (version : Version) (title : List ℕ) (word : IsSolid title) where
  one_way : (due a b : HeadDue) (words : List (List ℕ)) → HeadPasses version title due words a
      → HeadPasses version title due words b → a ≡ b
  one_way TitleDue a b words h k = h.1 ∙ sym k.1
  one_way ObjectDue a b words h k =
      let parts = same_first (codes "object") (codes "object") (kind_name h.0 ∷ [])
      (kind_name k.0 ∷ []) (sym h.2 ∙ k.2) in
      let names = same_first (kind_name h.0) (kind_name k.0) [] [] parts.1 in
      h.3 ∙ ap CallersDue (kind_name-once h.0 k.0 names.0) ∙ sym k.3
  one_way (CallersDue kind) a b words h k =
      let parts = same_first (codes "callers") (codes "callers") (decimal h.0 ∷ [])
      (decimal k.0 ∷ []) (sym h.2 ∙ k.2) in
      let numbers = same_first (decimal h.0) (decimal k.0) [] [] parts.1 in
      let same = same_number h.0 k.0 (omega (arith, h.1.few, few_callers version))
      (omega (arith, k.1.few, few_callers version)) numbers.0 in
      h.3 ∙ ap (CountsDue kind) same ∙ sym k.3
  one_way (CountsDue kind n) a b words h k =
      let parts = same_first (codes "calls") (codes "calls") (map decimal h.0) (map decimal k.0)
      (sym h.2 ∙ k.2) in
      let same =
      same_numbers h.0 k.0 (numbers_at_most (most_calls version) h.0 (few_calls version) h.1.few)
      (numbers_at_most (most_calls version) k.0 (few_calls version) k.1.few) parts.1 in
      h.3 ∙ ap (HeadRead kind) same ∙ sym k.3
  one_way (HeadRead kind calls) a b words h k = absurd h

  apart : (due after : HeadDue) (words : List (List ℕ)) (what : What)
      → HeadPasses version title due words after → HeadFails version title due words what → ⊥
  apart TitleDue after words what h k = k.1 h.0
  apart ObjectDue after words what h k = k.1 h.0 h.1 h.2
  apart (CallersDue kind) after words what h k = k.1 h.0 h.1 h.2
  apart (CountsDue kind n) after words what h k = k.1 h.0 h.1 h.2
  apart (HeadRead kind calls) after words what h k = h

  solid_version : (v : Version) → IsSolid (version_word v)
  solid_version First = plain (codes "1") (omega arith, tt) (omega arith)
  solid_version Second = plain (codes "2") (omega arith, tt) (omega arith)

  solid : (due after : HeadDue) (words : List (List ℕ)) → HeadPasses version title due words after
      → AreSolid words
  solid TitleDue after words h = subst AreSolid (sym h.0)
      (record { some = omega arith; each = (word, (solid_version version, tt)) })
  solid ObjectDue after words h = subst AreSolid (sym h.2) (record {
    some = omega arith;
    each = (
      plain (codes "object") (
        omega arith,
        (omega arith, (omega arith, (omega arith, (omega arith, (omega arith, tt))))),
      ) (omega arith),
      (solid_word (kind_name h.0) (kind_name-IsWord h.0), tt),
    );
  })
  solid (CallersDue kind) after words h = subst AreSolid (sym h.2) (record {
    some = omega arith;
    each = (
      plain (codes "callers") (
        omega arith,
        (
          omega arith,
          (omega arith, (omega arith, (omega arith, (omega arith, (omega arith, tt))))),
        ),
      ) (omega arith),
      (solid_decimal h.0 (omega (arith, h.1.few, few_callers version)), tt),
    );
  })
  solid (CountsDue kind n) after words h = subst AreSolid (sym h.2) (record {
    some = omega arith;
    each = (
      plain (codes "calls")
          (omega arith, (omega arith, (omega arith, (omega arith, (omega arith, tt)))))
          (omega arith),
      solid_numbers h.0 (numbers_at_most (most_calls version) h.0 (few_calls version) h.1.few),
    );
  })
  solid (HeadRead kind calls) after words h = absurd h

  wanted : (due after : HeadDue) (words : List (List ℕ)) → HeadPasses version title due words after
      → head_wanted due ≡ ALine
  wanted TitleDue after words h = refl
  wanted ObjectDue after words h = refl
  wanted (CallersDue kind) after words h = refl
  wanted (CountsDue kind n) after words h = refl
  wanted (HeadRead kind calls) after words h = absurd h

  -- the rules of a head are sharp
  pub head_sharp : AreSharp (head_rules version title)
  head_sharp = record { one_way = one_way; apart = apart; solid = solid; lines = wanted }
