use Rattle.std.proofs.Common.{◌≡◌, ◌∙◌}
use Rattle.shared_words.specs.Entries.{calls_by, BeginsWith}
use Rattle.shared_words.specs.Seats.{caller_of, log_of}
use Rattle.test_objects.specs.Pairs.{pairs_of}
use Rattle.test_objects.specs.Passes.{seat_in, caller_of_pass, log_in, pairs_in, machine_in, IsPassOf}
use Rattle.test_objects.proofs.Equipping.{All-unmap, All-both, seats_in_passes}
use Rattle.test_objects.proofs.Telling.{pairs_of-begins}
use Rattle.test_objects.proofs.log_box.LogBox.close.Goals as goal

pub close-requires : goal.close-requires
close-requires g c = record {
  seats = seats_in_passes g.M.Machine.reply_to g.M.Machine.has_seen c.args.self c.args.passes.items
      c.requires.passes;
}

pub returns-clause-prefixes : goal.returns-clause-prefixes
returns-clause-prefixes g c = All-unmap seat_in (λ s. BeginsWith c.close.result.items (log_of s))
    c.args.passes.items c.close.ensures.log.prefixes

pub returns-clause-told : goal.returns-clause-told
returns-clause-told g c =
    let answer = g.M.Machine.reply_to (machine_in c.args.self) in
    let log = c.close.result.items in
    let prefixes = All-unmap seat_in
    (λ s. BeginsWith log (log_of s)) c.args.passes.items c.close.ensures.log.prefixes in
    let calls =
    All-unmap seat_in (λ s. calls_by (caller_of s) log ≡ calls_by (caller_of s) (log_of s))
    c.args.passes.items c.close.ensures.log.calls in
    let both = All-both (λ p. BeginsWith log (log_in p))
    (λ p. calls_by (caller_of_pass p) log ≡ calls_by (caller_of_pass p) (log_in p))
    (λ p. pairs_of answer (log_in p) (caller_of_pass p) ≡ pairs_of answer log (caller_of_pass p))
    (λ p. pairs_of-begins answer log (log_in p) (caller_of_pass p)) c.args.passes.items
    prefixes calls in
    All-both (IsPassOf g.M.Machine.reply_to g.M.Machine.has_seen c.args.self)
    (λ p. pairs_of answer (log_in p) (caller_of_pass p) ≡ pairs_of answer log (caller_of_pass p))
    (λ p. pairs_in p ≡ pairs_of answer log (caller_of_pass p))
    (λ p own same. own.pairs ∙ same) c.args.passes.items c.requires.passes.each both
