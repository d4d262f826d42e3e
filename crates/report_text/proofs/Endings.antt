-- The end of a line, written piece by piece; and a text of three parts.
use Rattle.std.proofs.Common.{◌≡◌, ℕ, List, [], ◌∷◌, ◌++◌, sym, ap, ◌∙◌, append_assoc}
use Rattle.std.specs.Prelude.{codes}
use Rattle.text_fields.specs.declared.version.Version.TheVariants.{Second}
use Rattle.text_fields.specs.Lines.{line_text, text_of, by_number}
use Rattle.text_fields.specs.Head.{head_lines}
use Rattle.book_text.specs.Grammar.{end_words}
use Rattle.book_text.specs.Fields.{spaced}
use Rattle.book_text.proofs.WrittenLines.{both_pieces, spaced-append}
use Rattle.book_text.proofs.Texts.{one_more, lines_more}
use Rattle.reports.specs.Findings.{Findings, sizes}
use Rattle.reports.specs.Grammar.{caller_lines, report_lines}

-- after the words of an answer come further ones
pub after_answer : (old middle new suffix : List ℕ) (answer more : List (List ℕ))
    → middle ≡ old ++ spaced answer → new ≡ middle ++ suffix → suffix ≡ spaced more
    → new ≡ old ++ spaced (answer ++ more)
after_answer old middle new suffix answer more h k is =
    both_pieces old middle new (spaced answer) suffix h k
    ∙ ap (λ (x : List ℕ). old ++ x)
    (ap (λ (x : List ℕ). spaced answer ++ x) is ∙ sym (spaced-append answer more))

-- after an answer comes a verdict, and the seen cut
pub verdict_written : (old m1 m2 new mark : List ℕ) (answer pairs : List (List ℕ))
    → m1 ≡ old ++ spaced answer → m2 ≡ m1 ++ 32 ∷ (mark ++ codes " seen") → new ≡ m2 ++ spaced pairs
    → new ≡ old ++ spaced (answer ++ mark ∷ codes "seen" ∷ pairs)
verdict_written old m1 m2 new mark answer pairs h k l =
    let suffix : List ℕ = 32 ∷ (mark ++ codes " seen") in
    after_answer old m1 new (suffix ++ spaced pairs) answer (mark ∷ codes "seen" ∷ pairs) h
    (l ∙ ap (λ (x : List ℕ). x ++ spaced pairs) k ∙ append_assoc m1 suffix (spaced pairs))
    (ap (λ (x : List ℕ). 32 ∷ x) (append_assoc mark (codes " seen") (spaced pairs)))

-- the head, the lines and the end are the whole text
pub whole_written : (findings : Findings) (m1 m2 new : List ℕ)
    → m1 ≡ text_of (head_lines Second (codes "report") findings.kind (sizes findings.lines))
    → m2 ≡ m1 ++ text_of (by_number (caller_lines findings.kind) 0 findings.lines)
    → new ≡ m2 ++ line_text end_words → new ≡ text_of (report_lines findings)
whole_written findings m1 m2 new e1 e2 e3 =
    let head : List (List (List ℕ)) =
    head_lines Second (codes "report") findings.kind (sizes findings.lines) in
    let calls : List (List (List ℕ)) = by_number (caller_lines findings.kind) 0 findings.lines in
    one_more [] m2 new (head ++ calls) end_words (lines_more [] m1 m2 head calls e1 e2) e3
    ∙ ap text_of (append_assoc head calls (end_words ∷ []))
