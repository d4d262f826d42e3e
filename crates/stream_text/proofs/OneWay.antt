-- Right lines fail no test, and lead to one state.
use Rattle.std.proofs.Common.{◌≡◌, ◌≢◌, ◌∙◌, ℕ, ◌<◌, List, [], ◌∷◌, ◌++◌, Some, None, refl, sym, ap, subst, inl, inr, arith}
use Rattle.std.specs.Prelude.{codes, decimal}
use Rattle.seq_objects.specs.declared.kind.Kind.{Kind}
use Rattle.seq_objects.specs.Words.{operation_words, kind_name}
use Rattle.seq_objects.specs.Replies.{reply_word}
use Rattle.seq_objects.proofs.Texts.{kind_name-once}
use Rattle.streams.specs.Stream.{Called, Returned, Lost as LostCall}
use Rattle.text_fields.specs.Lines.{words_of}
use Rattle.watch_core.specs.declared.TheConstants.{MAX_OPEN}
use Rattle.stream_text.specs.Line.{HasOperation, NameNone, name_words, IsLine, IsWrong}
use Rattle.stream_text.specs.Stream.{Said, Due, TitleDue, ObjectDue, EventDue, Ended, Leads, IsUntimely, Passes, Fails, AllPass, with_event, names_with, object_named, nothing_of, pending_of, open_of}
use Rattle.stream_text.specs.declared.line.StreamLine.{StreamLine}
use Rattle.stream_text.specs.declared.line.StreamLine.TheVariants.{Call, Return, Lost, End}
use Rattle.stream_text.specs.declared.fault.Wrong.{Wrong}
use Rattle.stream_text.specs.declared.fault.Wrong.TheVariants as wrong
use Rattle.stream_text.proofs.Apart.{Alike, letter, first_letter, one_line, operation_names_none}

object_none : (kind : Kind) (name : List ℕ) (op : ℕ) (rest : List (List ℕ))
    → name_words name ++ operation_words kind op ≢ (64 ∷ []) ∷ rest
object_none kind [] op rest e = operation_names_none kind op [] rest e
object_none kind (b ∷ name) op rest e = absurd cc

op_none : (kind : Kind) (n m : List ℕ) (op : ℕ) (rest : List (List ℕ)) → HasOperation kind op
    → name_words n ++ operation_words kind op ≡ name_words m ++ rest
    → (m ≡ [] → NameNone rest)
    → ((other : ℕ) → HasOperation kind other → rest ≢ operation_words kind other) → ⊥
op_none kind [] [] op rest has e named other = other op has (sym e)
op_none kind [] (c ∷ m) op rest has e named other =
    operation_names_none kind op (c ∷ m) rest e
op_none kind (b ∷ n) [] op rest has e named other =
    named refl (b ∷ n) (operation_words kind op) (sym e)
op_none kind (b ∷ n) (c ∷ m) op rest has e named other =
    let same : operation_words kind op ≡ rest = cc in other op has (sym same)

-- the words of a line aren't wrong
pub line_right : (kind : Kind) (words : List (List ℕ)) (read : StreamLine) (what : Wrong)
    → IsLine kind words read → IsWrong kind words what → ⊥
line_right kind words (Call p n op) wrong.Event x w = w.1 (codes "call") _ (inl refl) x.2
line_right kind words (Return p r) wrong.Event x w = w.1 (codes "return") _ (inr (inl refl)) x.2
line_right kind words (Lost p) wrong.Event x w = w.1 (codes "lost") _ (inr (inr refl)) x.1
line_right kind words End wrong.Event x w = w.0 x
line_right kind words (Call p n op) wrong.Process x w =
    let e = sym x.2 ∙ w.3 in
    let first : w.0 ≡ codes "call" = cc in
    let rest : w.1 ≡ decimal p ∷ (name_words n.now ++ operation_words kind op) = cc in
    elim w.4 [
      | inl none ↦ none p (name_words n.now ++ operation_words kind op) x.0 rest
      | inr more ↦ absurd (omega (arith, ap letter (sym first ∙ more.4)))
    ]
line_right kind words (Return p r) wrong.Process x w =
    let e = sym x.2 ∙ w.3 in
    let first : w.0 ≡ codes "return" = cc in
    let rest : w.1 ≡ decimal p ∷ reply_word r ∷ [] = cc in
    elim w.4 [
      | inl none ↦ none p (reply_word r ∷ []) x.0 rest
      | inr more ↦ absurd (omega (arith, ap letter (sym first ∙ more.4)))
    ]
line_right kind words (Lost p) wrong.Process x w =
    let e = sym x.1 ∙ w.3 in
    let rest : w.1 ≡ decimal p ∷ [] = cc in
    elim w.4 [
      | inl none ↦ none p [] x.0 rest
      | inr more ↦ let f = sym rest ∙ more.5 in let none : more.1 ∷ more.2 ≡ [] = cc in absurd cc
    ]
line_right kind words End wrong.Process x w =
    let e = sym x ∙ w.3 in
    let first : w.0 ≡ codes "end" = cc in
    elim w.2 [
      | inl is ↦ absurd (omega (arith, ap letter (sym first ∙ is)))
      | inr others ↦ elim others [
        | inl is ↦ absurd (omega (arith, ap letter (sym first ∙ is)))
        | inr is ↦ absurd (omega (arith, ap letter (sym first ∙ is)))
      ]
    ]
line_right kind words (Call p n op) wrong.Object x w =
    let e = sym x.2 ∙ w.3 in
    let rest : name_words n.now ++ operation_words kind op ≡ (64 ∷ []) ∷ w.1 = cc in
    object_none kind n.now op w.1 rest
line_right kind words (Return p r) wrong.Object x w = absurd (omega (arith, ap first_letter (sym x.2 ∙ w.3)))
line_right kind words (Lost p) wrong.Object x w = absurd (omega (arith, ap first_letter (sym x.1 ∙ w.3)))
line_right kind words End wrong.Object x w = absurd (omega (arith, ap first_letter (sym x ∙ w.3)))
line_right kind words (Call p n op) wrong.Op x w =
    let e = sym x.2 ∙ w.4 in
    let rest : name_words n.now ++ operation_words kind op ≡ name_words w.1 ++ w.2 = cc in
    op_none kind n.now w.1 op w.2 x.1 rest w.5 w.6
line_right kind words (Return p r) wrong.Op x w = absurd (omega (arith, ap first_letter (sym x.2 ∙ w.4)))
line_right kind words (Lost p) wrong.Op x w = absurd (omega (arith, ap first_letter (sym x.1 ∙ w.4)))
line_right kind words End wrong.Op x w = absurd (omega (arith, ap first_letter (sym x ∙ w.4)))
line_right kind words (Call p n op) wrong.Reply x w = absurd (omega (arith, ap first_letter (sym x.2 ∙ w.3)))
line_right kind words (Return p r) wrong.Reply x w =
    let e = sym x.2 ∙ w.3 in let rest : w.1 ≡ reply_word r ∷ [] = cc in w.4 r x.1 rest
line_right kind words (Lost p) wrong.Reply x w = absurd (omega (arith, ap first_letter (sym x.1 ∙ w.3)))
line_right kind words End wrong.Reply x w = absurd (omega (arith, ap first_letter (sym x ∙ w.3)))
line_right kind words read wrong.Long x w = w
line_right kind words read wrong.Cut x w = w
line_right kind words read wrong.Head x w = w
line_right kind words read wrong.Busy x w = w
line_right kind words read wrong.Idle x w = w
line_right kind words read wrong.Open x w = w
line_right kind words read wrong.Rest x w = w

call_untimely : (said : Said) (a b : StreamLine) (after : Due) (what : Wrong) → Alike a b
    → Leads said a after → IsUntimely said b what → ⊥
call_untimely said (Call p n op) (Call q m other) after wrong.Long same leads late = late
call_untimely said (Call p n op) (Call q m other) after wrong.Cut same leads late = late
call_untimely said (Call p n op) (Call q m other) after wrong.Head same leads late = late
call_untimely said (Call p n op) (Call q m other) after wrong.Object same leads late = late
call_untimely said (Call p n op) (Call q m other) after wrong.Event same leads late = late
call_untimely said (Call p n op) (Call q m other) after wrong.Process same leads late = late
call_untimely said (Call p n op) (Call q m other) after wrong.Op same leads late = late
call_untimely said (Call p n op) (Call q m other) after wrong.Reply same leads late = late
call_untimely said (Call p n op) (Call q m other) after wrong.Busy same leads late =
    late (subst (λ (k : ℕ). pending_of k said.events ≡ None) same.0 leads.0)
call_untimely said (Call p n op) (Call q m other) after wrong.Idle same leads late = late
call_untimely said (Call p n op) (Call q m other) after wrong.Open same leads late =
    let few = subst (λ (k : List ℕ). open_of (object_named said.names k) said.events < MAX_OPEN)
    same.1 leads.1 in
    absurd (omega (arith, few, late.1))
call_untimely said (Call p n op) (Call q m other) after wrong.Rest same leads late = late
call_untimely said (Return p r) (Return q s) after wrong.Long same leads late = late
call_untimely said (Return p r) (Return q s) after wrong.Cut same leads late = late
call_untimely said (Return p r) (Return q s) after wrong.Head same leads late = late
call_untimely said (Return p r) (Return q s) after wrong.Object same leads late = late
call_untimely said (Return p r) (Return q s) after wrong.Event same leads late = late
call_untimely said (Return p r) (Return q s) after wrong.Process same leads late = late
call_untimely said (Return p r) (Return q s) after wrong.Op same leads late = late
call_untimely said (Return p r) (Return q s) after wrong.Reply same leads late = late
call_untimely said (Return p r) (Return q s) after wrong.Busy same leads late = late
call_untimely said (Return p r) (Return q s) after wrong.Idle same leads late =
    let e : pending_of p said.events ≡ None =
    ap (λ (k : ℕ). pending_of k said.events) same.0 ∙ late in
    let f = sym leads.1 ∙ e in absurd cc
call_untimely said (Return p r) (Return q s) after wrong.Open same leads late = late
call_untimely said (Return p r) (Return q s) after wrong.Rest same leads late = late
call_untimely said (Lost p) (Lost q) after wrong.Long same leads late = late
call_untimely said (Lost p) (Lost q) after wrong.Cut same leads late = late
call_untimely said (Lost p) (Lost q) after wrong.Head same leads late = late
call_untimely said (Lost p) (Lost q) after wrong.Object same leads late = late
call_untimely said (Lost p) (Lost q) after wrong.Event same leads late = late
call_untimely said (Lost p) (Lost q) after wrong.Process same leads late = late
call_untimely said (Lost p) (Lost q) after wrong.Op same leads late = late
call_untimely said (Lost p) (Lost q) after wrong.Reply same leads late = late
call_untimely said (Lost p) (Lost q) after wrong.Busy same leads late = late
call_untimely said (Lost p) (Lost q) after wrong.Idle same leads late =
    let e : pending_of p said.events ≡ None =
    ap (λ (k : ℕ). pending_of k said.events) same ∙ late in
    let f = sym leads.1 ∙ e in absurd cc
call_untimely said (Lost p) (Lost q) after wrong.Open same leads late = late
call_untimely said (Lost p) (Lost q) after wrong.Rest same leads late = late
call_untimely said End End after wrong.Long same leads late = late
call_untimely said End End after wrong.Cut same leads late = late
call_untimely said End End after wrong.Head same leads late = late
call_untimely said End End after wrong.Object same leads late = late
call_untimely said End End after wrong.Event same leads late = late
call_untimely said End End after wrong.Process same leads late = late
call_untimely said End End after wrong.Op same leads late = late
call_untimely said End End after wrong.Reply same leads late = late
call_untimely said End End after wrong.Busy same leads late = late
call_untimely said End End after wrong.Idle same leads late = late
call_untimely said End End after wrong.Open same leads late = late
call_untimely said End End after wrong.Rest same leads late = late
call_untimely said (Call p n op) (Return q s) after what same leads late = same
call_untimely said (Call p n op) (Lost q) after what same leads late = same
call_untimely said (Call p n op) End after what same leads late = same
call_untimely said (Return p r) (Call q m other) after what same leads late = same
call_untimely said (Return p r) (Lost q) after what same leads late = same
call_untimely said (Return p r) End after what same leads late = same
call_untimely said (Lost p) (Call q m other) after what same leads late = same
call_untimely said (Lost p) (Return q s) after what same leads late = same
call_untimely said (Lost p) End after what same leads late = same
call_untimely said End (Call q m other) after what same leads late = same
call_untimely said End (Return q s) after what same leads late = same
call_untimely said End (Lost q) after what same leads late = same

leads_once : (said : Said) (a b : StreamLine) (x y : Due) → Alike a b → Leads said a x
    → Leads said b y → x ≡ y
leads_once said (Call p n op) (Call q m other) x y same first second =
    first.2 ∙ ap (λ (k : List ℕ). EventDue (with_event said (names_with said.names k)
    (object_named said.names k) (Called p op))) same.1
    ∙ ap (λ (k : ℕ). EventDue (with_event said (names_with said.names m.now)
    (object_named said.names m.now) (Called k op))) same.0
    ∙ ap (λ (k : ℕ). EventDue (with_event said (names_with said.names m.now)
    (object_named said.names m.now) (Called q k))) same.2 ∙ sym second.2
leads_once said (Return p r) (Return q s) x y same first second =
    let both : Some first.0 ≡ Some second.0 = sym first.1
    ∙ ap (λ (k : ℕ). pending_of k said.events) same.0 ∙ second.1 in
    let at : first.0 ≡ second.0 = cc in
    first.2 ∙ ap (λ (k : ℕ). EventDue (with_event said said.names k (Returned p r))) at
    ∙ ap (λ (k : ℕ). EventDue (with_event said said.names second.0 (Returned k r))) same.0
    ∙ ap (λ (k : ℕ). EventDue (with_event said said.names second.0 (Returned q k))) same.1
    ∙ sym second.2
leads_once said (Lost p) (Lost q) x y same first second =
    let both : Some first.0 ≡ Some second.0 = sym first.1
    ∙ ap (λ (k : ℕ). pending_of k said.events) same ∙ second.1 in
    let at : first.0 ≡ second.0 = cc in
    first.2 ∙ ap (λ (k : ℕ). EventDue (with_event said said.names k (LostCall p))) at
    ∙ ap (λ (k : ℕ). EventDue (with_event said said.names second.0 (LostCall k))) same
    ∙ sym second.2
leads_once said End End x y same first second = first ∙ sym second
leads_once said (Call p n op) (Return q s) x y same first second = absurd same
leads_once said (Call p n op) (Lost q) x y same first second = absurd same
leads_once said (Call p n op) End x y same first second = absurd same
leads_once said (Return p r) (Call q m other) x y same first second = absurd same
leads_once said (Return p r) (Lost q) x y same first second = absurd same
leads_once said (Return p r) End x y same first second = absurd same
leads_once said (Lost p) (Call q m other) x y same first second = absurd same
leads_once said (Lost p) (Return q s) x y same first second = absurd same
leads_once said (Lost p) End x y same first second = absurd same
leads_once said End (Call q m other) x y same first second = absurd same
leads_once said End (Return q s) x y same first second = absurd same
leads_once said End (Lost q) x y same first second = absurd same

-- a right line fails no test
pub passes_apart : (due after : Due) (line : List ℕ) (what : Wrong) → Passes due line after
    → Fails due line what → ⊥
passes_apart TitleDue after line what right fails = fails.1 right.0
passes_apart ObjectDue after line what right fails = fails.1 right.0 right.1
passes_apart (EventDue said) after line what right fails = elim fails [
  | inl is ↦ line_right said.kind (words_of line) right.0 what right.1 is
  | inr late ↦ call_untimely said right.0 late.0 after what
      (one_line said.kind (words_of line) right.0 late.0 right.1 late.1) right.2 late.2
]
passes_apart (Ended said) after line what right fails = right

passes_once : (due a b : Due) (line : List ℕ) → Passes due line a → Passes due line b → a ≡ b
passes_once TitleDue a b line x y = x.1 ∙ sym y.1
passes_once ObjectDue a b line x y =
    let e = sym x.1 ∙ y.1 in
    let named : kind_name x.0 ≡ kind_name y.0 = cc in
    x.2 ∙ ap (λ (k : Kind). EventDue (nothing_of k)) (kind_name-once x.0 y.0 named) ∙ sym y.2
passes_once (EventDue said) a b line x y = leads_once said x.0 y.0 a b
    (one_line said.kind (words_of line) x.0 y.0 x.1 y.1) x.2 y.2
passes_once (Ended said) a b line x y = absurd x

-- lines lead from a state to one other
pub all_once : (due : Due) (lines : List (List ℕ)) (a b : Due) → AllPass due lines a
    → AllPass due lines b → a ≡ b
all_once due [] a b x y = sym x ∙ y
all_once due (line ∷ lines) a b x y =
    let same = passes_once due x.1.0 y.1.0 line x.1.1 y.1.1 in
    all_once x.1.0 lines a b x.1.2 (subst (λ (d : Due). AllPass d lines b) (sym same) y.1.2)
