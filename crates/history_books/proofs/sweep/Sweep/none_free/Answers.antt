use Rattle.std.proofs.Common.{◌≡◌, ℕ, ◌<◌, length, None, true, false, refl, sym, subst, arith}
use Rattle.std.proofs.lemmas.Option.{slice_get_within}
use Rattle.history_books.specs.Causes.{NoneTakes}
use Rattle.history_books.proofs.Ending.{none_takes, full_from_idle, all_busy}
use Rattle.history_books.proofs.sweep.Sweep.none_free.Goals as goal

pub returns-then-has_idle : goal.returns-then-has_idle
returns-then-has_idle c =
    let calls = c.args.calls.now in
    let book = c.args.self.now.book in
    let names = c.args.self.now.names.items in
    let pending = c.args.self.now.pending.items in
    let known = c.callers-callers.ensures in
    let next : length names < length calls = omega (arith, c.requires.place, c.requires.call) in
    let idle = c.if-has_idle.ensures.0 refl in
    let inside = slice_get_within pending idle.0 None idle.1 in
    let low : idle.0 < length book = omega (arith, inside, c.requires.swept.wide) in (
      names,
      subst (λ (k : ℕ). NoneTakes (length book) calls k names) (sym c.requires.place)
          (none_takes calls book names pending known.valid known.small c.requires.swept
          c.requires.none next c.requires.taken),
      (
        idle.0,
        low,
        full_from_idle calls book names pending known.small c.requires.swept idle.0 idle.1
            (c.requires.taken idle.0 low),
      ),
    )

pub returns-else-has_idle : goal.returns-else-has_idle
returns-else-has_idle c =
    let calls = c.args.calls.now in
    let book = c.args.self.now.book in
    let names = c.args.self.now.names.items in
    let pending = c.args.self.now.pending.items in
    let known = c.callers-callers.ensures in
    let next : length names < length calls = omega (arith, c.requires.place, c.requires.call) in (
      names,
      subst (λ (k : ℕ). NoneTakes (length book) calls k names) (sym c.requires.place)
          (none_takes calls book names pending known.valid known.small c.requires.swept
          c.requires.none next c.requires.taken),
      λ i low. all_busy calls book names pending c.requires.swept c.requires.none
          (λ idle. let never : false ≡ true = c.if-has_idle.ensures.1 idle in cc) i low,
    )
