-- The stages of a text that is read: after its head, its calls, its turns and its end.
use Rattle.std.proofs.Common.{◌≡◌, ℕ, List, [], subst}
use Rattle.std.specs.Prelude.{codes}
use Rattle.seq_objects.specs.declared.kind.Kind.{Kind}
use Rattle.text_fields.specs.declared.version.Version.{Version}
use Rattle.text_fields.specs.Lines.{Unread}
use Rattle.text_fields.specs.Head.{TitleDue, HeadRead, head_rules}
use Rattle.text_fields.specs.Faults.{GoesTo}
use Rattle.text_fields.proofs.Sharp.{goes_then}
use Rattle.text_fields.proofs.Within.{goes_within}
use Rattle.book_text.specs.BookRules.{whole_text}
use Rattle.book_text.specs.CallLines.{all_calls}
use Rattle.book_text.specs.Ending.{IsEnded}
use Rattle.client_scripts.specs.Plans.{Plan}
use Rattle.client_scripts.specs.ScriptRules.{Begun, InHead, InBody, Turned, AtEnd, begin, script_rules, IsScriptText}
use Rattle.client_scripts.proofs.Readings.{head_within, script_ends}

module _ (version : Version) (bytes : List ℕ) (kind : Kind) (calls : List ℕ) (new a : Unread)
    (is : new ≡ whole_text bytes)
    (head : GoesTo (head_rules version (codes "script")) TitleDue new (HeadRead kind calls) a) where
  pub goes_to_calls : GoesTo (script_rules version) (InHead TitleDue) (whole_text bytes)
      (InBody kind (begin calls) (all_calls 0 calls)) a
  goes_to_calls =
      goes_within (head_within version) TitleDue (HeadRead kind calls) (whole_text bytes) a
      (subst (λ (t : Unread). GoesTo (head_rules version (codes "script")) TitleDue t
      (HeadRead kind calls) a) is head)

  module _ (begun : Begun) (b : Unread) (body : GoesTo (script_rules version)
      (InBody kind (begin calls) (all_calls 0 calls)) a (InBody kind begun []) b) where
    pub goes_to_stops : GoesTo (script_rules version) (InHead TitleDue) (whole_text bytes)
        (InBody kind begun []) b
    goes_to_stops = goes_then (script_rules version) (InHead TitleDue)
        (InBody kind (begin calls) (all_calls 0 calls)) (InBody kind begun [])
        (whole_text bytes) a b goes_to_calls body

    module _ (plan : Plan) (d : Unread)
        (tail : GoesTo (script_rules version) (InBody kind begun []) b (Turned plan) d) where
      pub goes_to_end_line : GoesTo (script_rules version) (InHead TitleDue) (whole_text bytes)
          (Turned plan) d
      goes_to_end_line = goes_then (script_rules version) (InHead TitleDue) (InBody kind begun [])
          (Turned plan) (whole_text bytes) b d goes_to_stops tail

      pub is_text_read : (left : Unread) → IsEnded d left → IsScriptText version bytes plan
      is_text_read left end = (
        left,
        record {
          goes = goes_then (script_rules version) (InHead TitleDue) (Turned plan) (AtEnd plan)
              (whole_text bytes) d left goes_to_end_line (script_ends version plan d left end);
          through = end.whole;
        },
      )
