-- A live host goes on from its journal.
use Rattle.std.proofs.Common.{◌≡◌, ◌≢◌, ℕ, ◌+◌, [], Bool, false, Option, None, Some, Result, Ok, Err, inl, inr, refl, subst}
use Rattle.std.specs.Io.Buffered.{reader_buffer, reader_capacity, reader_inner, reader_remaining}
use Rattle.std.specs.Io.KnownBytes.{prepend_known}
use Rattle.std.specs.declared.io.buffered.BufReader.{BufReader}
use Rattle.line_script.specs.Script.{Bytes}
use Rattle.line_script.specs.declared.run.Stop.{Stop}
use Rattle.live_feed.specs.Compacting.{HasCompacted}
use Rattle.live_feed.specs.Hosted.{HasDone, HasHostedStream}
use Rattle.live_feed.specs.Hosted.Hosts.{begins}
use Rattle.live_feed.specs.WholeLines.{BeginsWithLines}
use Rattle.live_feed.proofs.StopLaws.{survives}
use Rattle.std.proofs.KnownBytes.{Appends-nil}
use Rattle.std.specs.Prelude.{IfSome}
use Rattle.live_feed.specs.declared.fault.Fault.{Fault}
use Rattle.live_feed.specs.declared.fault.Fault.TheVariants as fault
use Rattle.live_feed.specs.declared.reading.TheConstants.{LONGEST_LINE}
use Rattle.live_journal.specs.Resuming.{HasResumed}
use Rattle.live_journal.specs.declared.fault.JournalFault.{JournalFault}
use Rattle.live_journal.specs.declared.fault.JournalFault.TheVariants as journal
use Rattle.live_host.specs.Hosts.{Live, Remembers, Serves, new_live}
use Rattle.live_host.specs.Keeping.{live_empty_lines_are_skipped, live_kept_lines_are_whole, live_only_kept_lines_count}
use Rattle.scphost_words.specs.declared.replay.ReplayFrom.{ReplayFrom}
use Rattle.scphost_words.specs.declared.replay.ReplayFrom.TheVariants.{Line, Open}
use Rattle.scphost.specs.Hosting.{HasGoneOn, HasMadeShorter, HasServed, IsFrom, IsNotGoneOn}
use Rattle.scphost.specs.Stops.{End, IsEndOfCompacting, IsEndOfHost}

-- a new host went on
pub gone_on : (bytes : Bool) (from : Option ReplayFrom) (old new : Option Bytes) (n : ℕ) (s t : Live) (first : Option ℕ) → s ≡ new_live bytes → IsFrom bytes from (Ok first)
    → HasResumed Remembers LONGEST_LINE first s old new (Ok n) t → HasGoneOn bytes from old new n t
gone_on bytes from old new n s t first e is resumed = (first, is, subst (λ x. HasResumed Remembers LONGEST_LINE first x old new (Ok n) t) e resumed)

-- and then it served what it was sent
pub served_on : (bytes : Bool) (name : Bytes) (from : Option ReplayFrom) (input left old mid told new : Option Bytes) (n m : ℕ) (s t last : Live) (ran : Result (Unit {0}) Fault) (end : End)
    → HasGoneOn bytes from old mid n t → s ≡ t → m ≡ n → told ≡ mid → HasHostedStream Remembers LONGEST_LINE s (m + 1) input left (HasDone None None told new) ran last → IsEndOfHost ran end
    → HasServed bytes (Some name) from input old new end
served_on bytes name from input left old mid told new n m s t last ran end gone e f g hosted ended =
    let from_told = subst (λ x. HasHostedStream Remembers LONGEST_LINE s (m + 1) input left (HasDone None None x new) ran last) g hosted in
    let from_number = subst (λ (k : ℕ). HasHostedStream Remembers LONGEST_LINE s (k + 1) input left (HasDone None None mid new) ran last) f from_told in
    let from_state = subst (λ x. HasHostedStream Remembers LONGEST_LINE x (n + 1) input left (HasDone None None mid new) ran last) e from_number in
    inr (n, t, mid, gone, (ran, left, last, ended, from_state))

-- a new host without a journal served what it was sent
pub served_anew : (bytes : Bool) (from : Option ReplayFrom) (input left old told new : Option Bytes) (m : ℕ) (s last : Live) (ran : Result (Unit {0}) Fault) (end : End)
    → s ≡ new_live bytes → m ≡ 0 → told ≡ old → HasHostedStream Serves LONGEST_LINE s (m + 1) input left (HasDone None None told new) ran last → IsEndOfHost ran end
    → HasServed bytes None from input old new end
served_anew bytes from input left old told new m s last ran end e f g hosted ended =
    let from_told = subst (λ x. HasHostedStream Serves LONGEST_LINE s (m + 1) input left (HasDone None None x new) ran last) g hosted in
    let from_number = subst (λ (k : ℕ). HasHostedStream Serves LONGEST_LINE s (k + 1) input left (HasDone None None old new) ran last) f from_told in
    (ran, left, last, ended, subst (λ x. HasHostedStream Serves LONGEST_LINE x 1 input left (HasDone None None old new) ran last) e from_number)

-- there was no memory for a host
nothing_read : (input : Option Bytes) → IfSome input (λ text. BeginsWithLines text [])
nothing_read None = tt
nothing_read (Some text) = record { rest = text; parts = refl; plain = refl }

pub not_begun : (bytes : Bool) (from : Option ReplayFrom) (input old : Option Bytes) (end : End) → IsEndOfHost (Err fault.NoMemory) end → HasServed bytes None from input old old end
not_begun bytes from input old end is = (
  Err fault.NoMemory,
  input,
  new_live bytes,
  is,
  (
    [],
    [],
    [],
    new_live bytes,
    nothing_read input,
    record {
      acts = [];
      hosts = begins;
      did = (tt, Appends-nil old);
      safe = survives Serves LONGEST_LINE live_only_kept_lines_count live_empty_lines_are_skipped live_kept_lines_are_whole (new_live bytes) 1 [] [] [] [] (new_live bytes) begins;
    },
    (refl, refl),
  ),
)

-- ---- a host that does not go on

-- its journal is not opened, which names no line
pub not_opened : (bytes : Bool) (why : JournalFault) → ((n : ℕ) → why ≢ journal.BadLine n) → IsNotGoneOn bytes why
not_opened bytes (journal.BadLine n) other = absurd (other n refl)
not_opened bytes journal.CannotRead other = tt
not_opened bytes journal.InUse other = tt
not_opened bytes journal.CannotWrite other = tt
not_opened bytes journal.CannotTell other = tt
not_opened bytes journal.NoMemory other = tt

-- it is not known from which line on answers are told
pub not_known : (bytes : Bool) (from : Option ReplayFrom) (why : JournalFault) → IsFrom bytes from (Err why) → IsNotGoneOn bytes why
not_known bytes None why is = cc
not_known bytes (Some (Line n)) why is = cc
not_known bytes (Some Open) (journal.BadLine n) is = inr is
not_known bytes (Some Open) journal.CannotRead is = tt
not_known bytes (Some Open) journal.InUse is = tt
not_known bytes (Some Open) journal.CannotWrite is = tt
not_known bytes (Some Open) journal.CannotTell is = tt
not_known bytes (Some Open) journal.NoMemory is = tt

-- its lines are not run
pub not_resumed : (bytes : Bool) (first : Option ℕ) (old new : Option Bytes) (why : JournalFault) (s t : Live) → s ≡ new_live bytes
    → HasResumed Remembers LONGEST_LINE first s old new (Err why) t → IsNotGoneOn bytes why
not_resumed bytes first old new (journal.BadLine n) s t e resumed =
    inl (first, t, subst (λ x. HasResumed Remembers LONGEST_LINE first x old new (Err (journal.BadLine n)) t) e resumed)
not_resumed bytes first old new journal.CannotRead s t e resumed = tt
not_resumed bytes first old new journal.InUse s t e resumed = tt
not_resumed bytes first old new journal.CannotWrite s t e resumed = tt
not_resumed bytes first old new journal.CannotTell s t e resumed = tt
not_resumed bytes first old new journal.NoMemory s t e resumed = tt

-- ---- a journal that is made shorter

-- a new host answered its lines
pub made_shorter : (journal old new : Option Bytes) (host : Live) (made : Result (Unit {0}) Stop) (end : End) → host ≡ new_live false
    → HasCompacted Remembers LONGEST_LINE host journal old new made → IsEndOfCompacting made end → HasMadeShorter journal old new end
made_shorter journal old new host made end e compacted ended =
    (made, ended, subst (λ x. HasCompacted Remembers LONGEST_LINE x journal old new made) e compacted)

known_again : (left : Option Bytes) → prepend_known [] left ≡ left
known_again None = refl
known_again (Some bytes) = refl

-- a new reader of a reader has what that has
pub holds_the_same : {T A : Type 0} (remaining : T → Option Bytes) (reader : BufReader T A) (inner : T) → reader_inner reader ≡ inner
    → reader_buffer reader ≡ [] → reader_capacity reader ≡ 262144 → reader_remaining remaining reader ≡ remaining inner
holds_the_same remaining reader inner e f g = rw (g, f, e) (known_again (remaining inner))

pub shorter_by_reader : (journal read old new : Option Bytes) (end : End) → read ≡ journal → HasMadeShorter read old new end
    → HasMadeShorter journal old new end
shorter_by_reader journal read old new end same made = subst (λ x. HasMadeShorter x old new end) same made
