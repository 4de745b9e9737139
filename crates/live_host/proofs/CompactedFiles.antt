-- What is written of the lines of a journal leads to a host that is alike.
use Rattle.std.specs.Prelude.{◌++◌, ◌∷◌, [], ℕ, List, None}
use Rattle.std.proofs.Common.{sym, ap, subst}
use Rattle.std.specs.Io.KnownBytes.{Appends}
use Rattle.line_script.specs.Script.{Bytes}
use Rattle.live_feed.specs.Lasting.{Watched, Watching}
use Rattle.live_feed.specs.Replayed.{Replaying}
use Rattle.live_feed.specs.Served.{ServesAll, is_kept, kept_as}
use Rattle.live_feed.specs.Served.ServesAll.{next, none}
use Rattle.live_feed.specs.WholeLines.{given}
use Rattle.live_host.specs.Compacted.{CompactedFilesLeadToAlikeHosts, ShorterJournalsLeadToAlikeHosts}
use Rattle.live_host.specs.Hosts.{Live, Remembers, new_live}

-- lines that were answered again were answered
replayed-too : (longest : ℕ) {v w : Watched Live} {n : ℕ} {lines journal : List Bytes} {text : Bytes}
    → ServesAll (Replaying None (Watching Remembers)) longest v n lines journal text w
    → (told : Bytes) × ServesAll (Watching Remembers) longest v n lines journal told w
replayed-too longest none = ([], none)
replayed-too longest (next {s} {u} {n} {line} {more} {journal} a (b, serves, taken, is) others) =
    let rest = replayed-too longest others in (
      b.text ++ rest.0,
      subst
          (λ kept. ServesAll (Watching Remembers) longest s n (line ∷ more) (kept_as (given longest line) kept ∷ journal)
          (b.text ++ rest.0) u)
          (sym (ap is_kept is)) (next b serves rest.1),
    )

unwatched-too : (longest : ℕ) {v w : Watched Live} {n : ℕ} {lines journal : List Bytes} {text : Bytes}
    → ServesAll (Watching Remembers) longest v n lines journal text w
    → ServesAll Remembers longest v.server n lines journal text w.server
unwatched-too longest none = none
unwatched-too longest (next a serves others) = next a serves.0 (unwatched-too longest others)

pub files-from : ShorterJournalsLeadToAlikeHosts → CompactedFilesLeadToAlikeHosts
files-from law longest long bytes file old new (end, w, (lines, journal, text, (begins, are), serves, told, count, size), appends) =
    let replayed = replayed-too longest serves in
    let short = law longest long bytes lines journal replayed.0 w replayed.1 in (
      journal,
      replayed.0,
      w.server,
      subst (λ ls. ServesAll Remembers longest (new_live bytes) 1 ls journal replayed.0 w.server) (sym are)
          (unwatched-too longest replayed.1),
      short.0,
      short.1,
      short.2,
      subst (Appends old new) short.3 appends,
      short.4,
      short.5,
    )
