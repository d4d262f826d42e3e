use Rattle.std.proofs.Common.{◌≡◌, ◌∙◌, ◌+◌, ℕ, List, length, sym, ap, subst, refl, arith, inl, inr}
use Rattle.stream_text.specs.Reader.{HasRead, Tells}
use Rattle.stream_text.specs.Stream.{Said}
use Rattle.watch.specs.Watching.{AreNamed, AreWatched}
use Rattle.watch.proofs.Reading.{holds_head, holds_taken}
use Rattle.watch.proofs.watching.Watching.read.Goals as goal

pub returns-in_ok-receive-in-Event-clause-taken : goal.returns-in_ok-receive-in-Event-clause-taken
returns-in_ok-receive-in-Event-clause-taken c asked lines due said output h whole =
    let t = c.in_ok-taken.ensures.taken due h.reader in
    let same = c.receive.ensures.same in
    let held = holds_taken asked c.args.self.now c.receive.new.self lines c.args.line.now due t.0 said output
    c.in-Event.object c.in-Event.event
    (record {
      settings = ap (λ w. w.settings) same;
      number = ap (λ w. w.number) same ∙ c.in-Some.ensures.1;
      said = ap (λ w. w.said) same;
      flag = ap (λ w. w.is_unsure) same;
      unsure = ap (λ w. w.unsure) same;
    })
    h whole t.1 (subst (λ k. Tells due k t.0) c.in-Event.is t.2)
    (subst (λ r. HasRead r t.0) (sym (ap (λ w. w.reader) same)) t.3)
    (λ so_far names is phase even next.
    c.in_ok-receive-in-Event.ensures.objects asked so_far names h.asked_is
    (sym (ap (λ w. w.reader.phase) same) ∙ phase)
    (h.size ∙ ap (λ (s : Said). length s.names) is)
    (subst AreNamed is h.named)
    (subst (λ (s : Said). AreWatched asked c.args.self.now.objects.items s) is h.objects)
    (omega (arith, c.in-Some.ensures.1, h.number, even)) next) in
    (held.0, held.1, held.2, (held.3, held.4), tt)

pub returns-in-Head-clause-taken : goal.returns-in-Head-clause-taken
returns-in-Head-clause-taken c asked lines due said output h whole =
    let t = c.in_ok-taken.ensures.taken due h.reader in
    let held = holds_head asked c.args.self.now _ lines c.args.line.now due t.0 said output
    c.in_ok-taken.taken (inl c.in-Head.is)
    (record {
      settings = refl;
      number = c.in-Some.ensures.1;
      said = refl;
      flag = refl;
      unsure = refl;
    }) refl h whole t.1 t.2 t.3 in
    (held.0, held.1, held.2, tt, held.3)

pub returns-in-End-clause-taken : goal.returns-in-End-clause-taken
returns-in-End-clause-taken c asked lines due said output h whole =
    let t = c.in_ok-taken.ensures.taken due h.reader in
    let held = holds_head asked c.args.self.now _ lines c.args.line.now due t.0 said output
    c.in_ok-taken.taken (inr c.in-End.is)
    (record {
      settings = refl;
      number = c.in-Some.ensures.1;
      said = refl;
      flag = refl;
      unsure = refl;
    }) refl h whole t.1 t.2 t.3 in
    (held.0, held.1, held.2, tt, held.3)
