-- A head is read as one head, or has one first fault.
use Rattle.std.proofs.Common.{◌≡◌, ℕ, List, Result, Ok, Err, ap}
use Rattle.std.specs.Prelude.{IfOk, IfErr, MatchResult}
use Rattle.book_base.specs.declared.fault.TextFault.{TextFault}
use Rattle.seq_objects.specs.declared.kind.Kind.{Kind}
use Rattle.text_fields.specs.declared.version.Version.{Version}
use Rattle.text_fields.specs.declared.head.Head.{Head}
use Rattle.text_fields.specs.Lines.{Unread, IsSolid}
use Rattle.text_fields.specs.Head.{TitleDue, HeadRead, head_rules, IsHead, IsHeadFault}
use Rattle.text_fields.proofs.HeadTexts.{head_sharp}
use Rattle.text_fields.proofs.Readings.{one_part, no_part_fault}
use Rattle.text_fields.proofs.Sharp.{one_fault}

same_head : (k l : Kind) (a b : List ℕ) → HeadRead k a ≡ HeadRead l b → (k ≡ l) × (a ≡ b)
same_head k l a b e = (cc, cc)

module _ (version : Version) (title : List ℕ) (word : IsSolid title) (text : Unread) where
  pub one_head : (k l : Kind) (a b : List ℕ) (x y : Unread) → IsHead version title k a text x
      → IsHead version title l b text y → (k ≡ l) × (a ≡ b) × (x ≡ y)
  one_head k l a b x y h j =
      let one = one_part (head_rules version title) (head_sharp version title word) TitleDue text
      (HeadRead k a) (HeadRead l b) x y tt tt h j in
      let same = same_head k l a b one.0 in
      (same.0, same.1, one.1)

  pub no_head_fault : (kind : Kind) (calls : List ℕ) (left : Unread) (fault : TextFault)
      → IsHead version title kind calls text left
      → IsHeadFault version title TitleDue text fault → ⊥
  no_head_fault kind calls left fault h k = no_part_fault (head_rules version title)
      (head_sharp version title word) TitleDue text (HeadRead kind calls) left fault tt h k

  pub one_head_fault : (a b : TextFault) → IsHeadFault version title TitleDue text a
      → IsHeadFault version title TitleDue text b → a ≡ b
  one_head_fault a b h k =
      one_fault (head_rules version title) (head_sharp version title word) TitleDue text a b h k
