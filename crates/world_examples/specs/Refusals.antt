-- Steps that aren't enabled after worked runs of two callers, beside like steps that are enabled;
-- locals each of which knows of counted rows in one way alone, or in none; and a program that
-- allows caller 1 alone to leave one word and to get one reply.
use Rattle.std.specs.Prelude.{◌-◌, ◌^◌, ◌==◌, ◌&&◌, List, [], ◌∷◌, ◌++◌}
use Rattle.world_core.specs.declared.region.Region.TheVariants.{N, M}
use Rattle.world_core.specs.Shape.{Shape}
use Rattle.world_core.specs.Local.{Local, fresh, Asking, Viewing}
use Rattle.world_core.specs.Event.{Stage, Announce, Object, Look, Peek, Publish, Begins_none, Begins_scan, Begins_view}
use Rattle.world_core.specs.World.{Step}
use Rattle.world_examples.specs.Schedules.{by, scan, collect, stages, announcement, announced_both, object_step}

-- Steps that are enabled at the start.
abbrev pub allowed_at_start : List Step
allowed_at_start =
    by 0 (Stage N 0 5)
    -- the greatest word may be the low or the high word of an operation
    ∷ by 0 (Stage N 0 (2 ^ 64 - 1))
    ∷ by 1 (Stage N 1 (2 ^ 64 - 1))
    ∷ by 1 (Look N 0 0 Begins_scan)
    ∷ by 0 (Look N 1 0 Begins_none)
    ∷ []

-- Steps that aren't enabled at the start.
abbrev pub refused_at_start : List Step
refused_at_start =
    -- a stage of caller 2, where there are only the callers 0 and 1
    by 2 (Stage N 0 5)
    -- a stage at place 4 in N, where a row of two callers has only the places 0 to 3
    ∷ by 0 (Stage N 4 0)
    -- a stage of an entry of the embedded cut, before a scan has given a cut to embed
    ∷ by 0 (Stage N 2 0)
    -- stages of a low and a high word that aren't below 2^64
    ∷ by 0 (Stage N 0 (2 ^ 64))
    ∷ by 0 (Stage N 1 (2 ^ 64))
    -- a stage in M, where the phase announce stages only the row of N
    ∷ by 0 (Stage M 0 0)
    -- an announcement and a publication, where no word is staged
    ∷ by 0 Announce
    ∷ by 0 Publish
    -- a look at a count of caller 2, where only the callers 0 and 1 have counts
    ∷ by 0 (Look N 2 0 Begins_none)
    -- a look that finds the count 1 of caller 1, which is 0
    ∷ by 0 (Look N 1 1 Begins_none)
    -- a scan that begins with a look at caller 1, where each scan begins with one at caller 0
    ∷ by 0 (Look N 1 0 Begins_scan)
    -- a view's scan, which begins only in the phase ask
    ∷ by 0 (Look N 0 0 (Begins_view 50))
    -- a peek into a row that the caller doesn't know to be counted
    ∷ by 0 (Peek N 1 0 0 0)
    ∷ []

-- Caller 0 scans N, and finds that no caller has announced.
abbrev pub scanned : List Step
scanned = scan 0 N Begins_scan (0 ∷ 0 ∷ [])

-- Stages of both entries of the cut to embed, which are enabled after `scanned`.
abbrev pub allowed_as_scanned : List Step
allowed_as_scanned = by 0 (Stage N 2 0) ∷ by 0 (Stage N 3 0) ∷ []

-- Stages that aren't enabled after `scanned`.
abbrev pub refused_as_scanned : List Step
refused_as_scanned =
    -- a stage of 1 as the entry for caller 0 of the cut to embed, which is 0
    by 0 (Stage N 2 1)
    -- a stage of a third entry of the cut to embed, which has two
    ∷ by 0 (Stage N 4 0)
    ∷ []

-- Caller 0 scans M in the phase announce, which gives no cut to embed.
abbrev pub scanned_other : List Step
scanned_other = scan 0 M Begins_scan (0 ∷ 0 ∷ [])

-- Caller 0 scans N and stages three of the four places of its row in N.
abbrev pub staged_three_of_N : List Step
staged_three_of_N = scanned ++ stages 0 N 0 (5 ∷ 0 ∷ 0 ∷ [])

-- Caller 0 announces the operation 5, and so is in the phase ask.
abbrev pub asked : List Step
asked = announcement 0 5 (0 ∷ 0 ∷ [])

-- Looks of caller 0 that are enabled in the phase ask, after `asked`.
abbrev pub allowed_as_asked : List Step
allowed_as_asked =
    by 0 (Look N 0 1 (Begins_view 50))
    -- the greatest word may be a reply
    ∷ by 0 (Look N 0 1 (Begins_view (2 ^ 64 - 1)))
    ∷ by 0 (Look N 0 1 Begins_scan)
    ∷ by 0 (Look M 0 0 Begins_scan)
    ∷ []

-- Steps of caller 0 that aren't enabled in the phase ask, after `asked`.
abbrev pub refused_as_asked : List Step
refused_as_asked =
    -- a view's scan that begins in M, where it has to be of N
    by 0 (Look M 0 0 (Begins_view 50))
    -- a view's scan that begins with a look at caller 1, where it has to begin with one at caller 0
    ∷ by 0 (Look N 1 0 (Begins_view 50))
    -- a view's scan with a reply that isn't below 2^64
    ∷ by 0 (Look N 0 1 (Begins_view (2 ^ 64)))
    -- an object step, where the object is outside the world and there are no object words
    ∷ by 0 (Object (object_step 0 0 0))
    -- stages, where the phase ask stages no row
    ∷ by 0 (Stage M 0 0)
    ∷ by 0 (Stage N 0 0)
    ∷ []

-- Caller 0 announces the operation 5 and begins its view's scan with the reply 50, and so is in the
-- phase view.
abbrev pub viewing : List Step
viewing = asked ++ by 0 (Look N 0 1 (Begins_view 50)) ∷ []

-- Looks and a peek of caller 0 that are enabled in the phase view, after `viewing`.
abbrev pub allowed_as_viewing : List Step
allowed_as_viewing =
    by 0 (Look N 1 0 Begins_none) ∷ by 0 (Look M 0 0 Begins_none) ∷ by 0 (Peek N 0 0 0 5) ∷ []

-- Looks of caller 0 that aren't enabled in the phase view, after `viewing`.
abbrev pub refused_as_viewing : List Step
refused_as_viewing =
    -- another scan, while the view's scan is under way
    by 0 (Look N 0 1 Begins_scan)
    -- the view's scan again, which begins only in the phase ask
    ∷ by 0 (Look N 0 1 (Begins_view 50))
    ∷ []

-- Caller 0 ends its view's scan with the view 1 1, and so is in the phase publish; its reply is 50,
-- and it has no cut to embed yet.
abbrev pub viewed : List Step
viewed = announced_both ++ by 0 (Look N 1 1 Begins_none) ∷ []

-- After `viewed` caller 0 scans M, which gives it the cut 0 0 to embed.
abbrev pub ready : List Step
ready = viewed ++ scan 0 M Begins_scan (0 ∷ 0 ∷ [])

-- Stages of caller 0 that aren't enabled after `viewed`.
abbrev pub refused_as_viewed : List Step
refused_as_viewed =
    -- a stage of an entry of the embedded cut, before a scan of M has given a cut to embed
    by 0 (Stage M 3 0)
    -- a stage in N, where the phase publish stages only the row of M
    ∷ by 0 (Stage N 0 5)
    ∷ []

-- Stages of all five places of the row of M, which are enabled after `ready`.
abbrev pub allowed_as_ready : List Step
allowed_as_ready = by 0 (Stage M 0 50) ∷ by 0 (Stage M 1 1) ∷ by 0 (Stage M 2 1)
    ∷ by 0 (Stage M 3 0) ∷ by 0 (Stage M 4 0) ∷ []

-- Stages of caller 0 that aren't enabled after `ready`.
abbrev pub refused_as_ready : List Step
refused_as_ready =
    -- a stage of the reply 51, where the reply is 50
    by 0 (Stage M 0 51)
    -- a stage of 0 as the view's entry for caller 1, which is 1
    ∷ by 0 (Stage M 2 0)
    -- a stage of 1 as the entry for caller 1 of the cut to embed, which is 0
    ∷ by 0 (Stage M 4 1)
    -- a stage at place 5 in M, where a row of two callers has only the places 0 to 4
    ∷ by 0 (Stage M 5 0)
    ∷ []

-- After `ready` caller 0 stages four of the five places of its row in M.
abbrev pub staged_four : List Step
staged_four = ready ++ stages 0 M 0 (50 ∷ 1 ∷ 1 ∷ 0 ∷ [])

-- Steps of caller 0 that aren't enabled after `staged_four`.
abbrev pub refused_as_staged_four : List Step
refused_as_staged_four =
    -- a publication, where the last entry of the cut to embed isn't staged
    by 0 Publish
    -- an announcement, which needs the phase announce
    ∷ by 0 Announce
    ∷ []

-- After `ready` caller 0 stages all five places of its row in M.
abbrev pub staged_five : List Step
staged_five = staged_four ++ by 0 (Stage M 4 0) ∷ []

-- Caller 0 announces the operation 5, and caller 1 looks at the count of caller 0 in N.
abbrev pub looked : List Step
looked = asked ++ by 1 (Look N 0 1 Begins_none) ∷ []

-- Peeks of caller 1 at the first row of caller 0 in N, which are enabled after `looked`.
abbrev pub allowed_as_looked : List Step
allowed_as_looked = by 1 (Peek N 0 0 0 5) ∷ by 1 (Peek N 0 0 1 0) ∷ by 1 (Peek N 0 0 3 0) ∷ []

-- Peeks of caller 1 that aren't enabled after `looked`.
abbrev pub refused_as_looked : List Step
refused_as_looked =
    -- a peek into the second row of caller 0, where caller 1 found the count 1
    by 1 (Peek N 0 1 0 0)
    -- a peek into a row of caller 1, which has looked at no count of its own
    ∷ by 1 (Peek N 1 0 0 0)
    -- a peek into a row of M, where caller 1 has looked at no count of M
    ∷ by 1 (Peek M 0 0 0 0)
    -- a peek at place 4 in N, where a row of two callers has only the places 0 to 3
    ∷ by 1 (Peek N 0 0 4 0)
    -- a peek that finds 6 as the low word of the operation, which is 5
    ∷ by 1 (Peek N 0 0 0 6)
    ∷ []

-- Caller 0, which alone has announced, publishes the reply 50 and the view 1 0 in a row that embeds
-- the cut 0 0. Then caller 1 looks at the count of caller 0 in M and peeks the reply.
abbrev pub reply_peeked : List Step
reply_peeked =
    viewing
    ++ by 0 (Look N 1 0 Begins_none)
    ∷ collect 0 N (1 ∷ 0 ∷ [])
    ++ scan 0 M Begins_scan (0 ∷ 0 ∷ [])
    ++ stages 0 M 0 (50 ∷ 1 ∷ 0 ∷ 0 ∷ 0 ∷ [])
    ++ by 0 Publish
    ∷ by 1 (Look M 0 1 Begins_none)
    ∷ by 1 (Peek M 0 0 0 50)
    ∷ []

-- After `reply_peeked` caller 1 peeks the view's entry for caller 0, which is 1.
abbrev pub entry_peeked : List Step
entry_peeked = reply_peeked ++ by 1 (Peek M 0 0 1 1) ∷ []

-- Peeks of caller 1 that aren't enabled after `entry_peeked`.
abbrev pub refused_as_entry_peeked : List Step
refused_as_entry_peeked =
    -- a peek into the second row of caller 0, where the peeked entry for caller 0 is 1
    by 1 (Peek N 0 1 0 0)
    -- a peek into a row of caller 1, where the peeked entry is for caller 0
    ∷ by 1 (Peek N 1 0 0 0)
    ∷ []

-- A local that knows of the first row of caller 0 in N only by a look at a count of N.
abbrev pub looked_in_N : Local
looked_in_N = record fresh { looked = record { region = N; caller = 0; count = 1 } ∷ [] }

-- A local that knows of the first row of caller 0 in M only by a look at a count of M.
abbrev pub looked_in_M : Local
looked_in_M = record fresh { looked = record { region = M; caller = 0; count = 1 } ∷ [] }

-- A local that knows of the first row of caller 0 in N only by a cut that a scan of N gave.
abbrev pub cut_of_N : Local
cut_of_N = record fresh { cuts = record { region = N; cut = 1 ∷ 0 ∷ []; since = 0 } ∷ [] }

-- A local that knows of the first row of caller 0 in M only by a cut that a scan of M gave.
abbrev pub cut_of_M : Local
cut_of_M = record fresh { cuts = record { region = M; cut = 1 ∷ 0 ∷ []; since = 0 } ∷ [] }

-- A local that knows of the first row of caller 0 in N only by the entry of a view, which it peeked
-- from a row of M of caller 1.
abbrev pub view_peeked : Local
view_peeked =
    record fresh { peeked = record { region = M; caller = 1; row = 0; place = 1; word = 1 } ∷ [] }

-- A local that has peeked the high word of an operation from a row of N, and knows of no counted
-- row.
abbrev pub announcement_peeked : Local
announcement_peeked =
    record fresh { peeked = record { region = N; caller = 1; row = 0; place = 1; word = 1 } ∷ [] }

-- A local that has peeked, from a row of M of two callers, the entry for caller 0 of the cut that
-- the row embeds, and knows of no counted row.
abbrev pub embedded_peeked : Local
embedded_peeked =
    record fresh { peeked = record { region = M; caller = 1; row = 0; place = 3; word = 1 } ∷ [] }

-- A local that has looked at the count 1 of caller 2, which a world of two callers doesn't have.
abbrev pub looked_past : Local
looked_past = record fresh { looked = record { region = N; caller = 2; count = 1 } ∷ [] }

-- A local in the phase announce with a word staged at each of the places 0 to 4.
abbrev pub staged_early : Local
staged_early =
    record fresh {
      staged =
          record { place = 0; word = 0 }
          ∷ record { place = 1; word = 0 }
          ∷ record { place = 2; word = 0 }
          ∷ record { place = 3; word = 0 }
          ∷ record { place = 4; word = 0 }
          ∷ [];
    }

-- Two callers with one row each, and one object word: caller 1 may leave 7 there and get the reply
-- 7, and no other step or reply is allowed.
abbrev pub narrow : Shape
narrow =
    record {
      callers = 2;
      cap = 1;
      program = record {
        objects = 1;
        may_step = λ i l step. i == 1 && step.new == 7;
        may_reply = λ i l reply. i == 1 && reply == 7;
      };
    }

-- The fresh local, but in the phase ask.
abbrev pub asking : Local
asking = record fresh { phase = Asking }

-- The fresh local, but in the phase view, without a scan under way.
abbrev pub viewing_local : Local
viewing_local = record fresh { phase = Viewing }
