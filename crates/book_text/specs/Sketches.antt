-- The texts of sketches.
use Rattle.std.specs.Prelude.{ℕ, List, [], ◌∷◌, ◌++◌, map, codes, unwrap_or, option_map}
use Rattle.book_base.specs.declared.call.Call.{Call}
use Rattle.book_base.specs.Book.{Page, operation_of, record_of}
use Rattle.seq_objects.specs.declared.kind.Kind.{Kind}
use Rattle.seq_objects.specs.Words.{operation_words}
use Rattle.seq_objects.specs.Replies.{reply_word}
use Rattle.text_fields.specs.declared.version.Version.TheVariants.{Second}
use Rattle.text_fields.specs.Head.{title_words}
use Rattle.book_text.specs.CallLines.{place_words}
use Rattle.book_text.specs.Grammar.{end_words}
use Rattle.sketch.specs.declared.event.Event.{Event}
use Rattle.sketch.specs.declared.event.Event.TheVariants.{Invoke, Return}
use Rattle.sketch.specs.Sketch.{StandsIn, IsEventOf}

-- the operation word of a call of the book
abbrev pub call_operation : List Page → Call → ℕ
call_operation book call = unwrap_or (operation_of book call) 0

-- the reply word of an answered call of the book
abbrev pub call_reply : List Page → Call → ℕ
call_reply book call = unwrap_or (option_map (λ answer. answer.reply) (record_of book call)) 0

-- The line of an event: a call is invoked with its operation, and returns with its reply.
abbrev pub event_words : Kind → List Page → Event → List (List ℕ)
event_words kind book (Invoke call) =
    codes "call" ∷ (place_words call ++ operation_words kind (call_operation book call))
event_words kind book (Return call) =
    codes "return" ∷ (place_words call ++ reply_word (call_reply book call) ∷ [])

-- The lines of a sketch: the title, one line for each event in order, and the end.
abbrev pub sketch_lines : Kind → List Page → List Event → List (List (List ℕ))
sketch_lines kind book events =
    title_words Second (codes "sketch") ∷ (map (event_words kind book) events ++ end_words ∷ [])

-- Each of the events is the invocation of a call of the book, or the return of an answered call of
-- the book.
abbrev pub AreEventsOf : List Page → List Event → Type 0
AreEventsOf book events = (event : Event) → StandsIn events event → IsEventOf book event
