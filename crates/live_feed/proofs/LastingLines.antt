-- Texts that a loop adds up, lines that it lets go, and how a journal is made shorter.
use Rattle.std.proofs.Common.{◌≡◌, ◌∙◌, ℕ, ◌+◌, ◌<◌, List, [], ◌∷◌, ◌++◌, length, drop, get_or, refl, sym, ap, append_assoc, add-one, drop-cons}
use Rattle.std.proofs.lemmas.List.{append-nil}
use Rattle.line_script.specs.Script.{Bytes, lines_with_feeds}
use Rattle.std.specs.Prelude.{◌⊎◌, None, Option, Result, Ok, Err, IfErr, OnOk}
use Rattle.std.specs.Io.KnownBytes.{Appends}
use Rattle.std.proofs.Common.{inl, inr, ap₂, subst}
use Rattle.line_script.specs.declared.run.Stop.{Stop}
use Rattle.line_script.specs.declared.run.Stop.TheVariants as stop
use Rattle.live_feed.specs.Compacting.{HasCompacted}
use Rattle.live_feed.specs.Lasting.{Lines, SlotLines, Watched, Watching, compacted, no_lines, unwatched, without, without_all, without_slots}
use Rattle.live_feed.specs.Replayed.{HasReplayed}
use Rattle.live_feed.specs.Served.{Serving}
use Rattle.live_feed.specs.declared.replaying.JournalEnd.{JournalEnd}

-- ---- texts

-- what was added so far is, with the text of what is left, the text of all
abbrev pub IsAddedSoFar : {X : Type 0} → (List X → Bytes) → Bytes → List X → List X → Bytes → Type 0
IsAddedSoFar text start all rest now = now ++ text rest ≡ start ++ text all

pub one_added : {X : Type 0} (text : List X → Bytes) (start one now next : Bytes) (all rest more : List X) (x : X)
    → rest ≡ x ∷ more → text (x ∷ more) ≡ one ++ text more → next ≡ now ++ one → IsAddedSoFar text start all rest now
    → IsAddedSoFar text start all more next
one_added text start one now next all rest more x parts law is before =
    ap (λ t. t ++ text more) is ∙ (append_assoc now one (text more) ∙ (ap (λ t. now ++ t) (sym law)
    ∙ (ap (λ xs. now ++ text xs) (sym parts) ∙ before)))

pub all_added : {X : Type 0} (text : List X → Bytes) (start now : Bytes) (all rest : List X) → rest ≡ [] → text [] ≡ []
    → IsAddedSoFar text start all rest now → now ≡ start ++ text all
all_added text start now all rest none empty before =
    sym (append-nil now) ∙ (ap (λ t. now ++ t) (sym empty) ∙ (ap (λ xs. now ++ text xs) (sym none) ∙ before))

pub one_line_first : (line : Bytes) (more : List Bytes) → lines_with_feeds (line ∷ more) ≡ (line ++ 10 ∷ []) ++ lines_with_feeds more
one_line_first line more = sym (append_assoc line (10 ∷ []) (lines_with_feeds more))

-- ---- lines

-- what is left of the entries is, without those of the numbers from this place on, what is left without all of them
abbrev pub AreGoneSoFar : {X : Type 0} → List ℕ → ℕ → List (ℕ × X) → List (ℕ × X) → Type 0
AreGoneSoFar numbers i start now = without_all (drop i numbers) now ≡ without_all numbers start

pub one_gone : {X : Type 0} (numbers : List ℕ) (i : ℕ) (start now next : List (ℕ × X)) → i < length numbers
    → next ≡ without (get_or numbers i 0) now → AreGoneSoFar numbers i start now → AreGoneSoFar numbers (i + 1) start next
one_gone numbers i start now next within is before =
    ap (λ es. without_all (drop (i + 1) numbers) es) is
    ∙ (ap (λ k. without_all (drop k numbers) (without (get_or numbers i 0) now)) (add-one i)
    ∙ (sym (ap (λ ns. without_all ns now) (drop-cons numbers i 0 within)) ∙ before))

-- the same of slots
abbrev pub SlotsAreGoneSoFar : {X : Type 0} → List SlotLines → List SlotLines → List (ℕ × X) → List (ℕ × X) → Type 0
SlotsAreGoneSoFar all rest start now = without_slots rest now ≡ without_slots all start

pub one_slot_gone : {X : Type 0} (all rest more : List SlotLines) (slot : SlotLines) (start now next : List (ℕ × X))
    → rest ≡ slot ∷ more → next ≡ without_all slot.lines now → SlotsAreGoneSoFar all rest start now → SlotsAreGoneSoFar all more start next
one_slot_gone all rest more slot start now next parts is before =
    ap (λ es. without_slots more es) is ∙ (sym (ap (λ slots. without_slots slots now) parts) ∙ before)

-- ---- the shorter journal

unwatched_is : {S : Type 0} (s : S) (start : Watched S) → start.server ≡ s → start.lines ≡ no_lines → start ≡ unwatched s
unwatched_is {S} s start e f = ap₂ (λ (x : S) (y : Lines). record { server = x; lines = y }) e f

pub compacted_or_not : {S : Type 0} (serves : Serving S) (longest : ℕ) (s : S) (file old new : Option Bytes) (end : JournalEnd)
    (start t : Watched S) (lines : Lines) (result : Result (Unit {0}) Stop) → start.server ≡ s → start.lines ≡ no_lines
    → HasReplayed (Watching serves) longest None start file None None (Ok end) t → lines ≡ t.lines
    → OnOk result (Appends old new (compacted lines)) → IfErr result (λ why. ((why ≡ stop.NoMemory) × (new ≡ old)) ⊎ (why ≡ stop.CannotWrite))
    → HasCompacted serves longest s file old new result
compacted_or_not serves longest s file old new end start t lines (Ok _) e f replayed same written failed = (
  end,
  t,
  subst (λ x. HasReplayed (Watching serves) longest None x file None None (Ok end) t) (unwatched_is s start e f) replayed,
  subst (λ (l : Lines). Appends old new (compacted l)) same written,
)
compacted_or_not serves longest s file old new end start t lines (Err why) e f replayed same written (inl is) =
    subst (λ w. HasCompacted serves longest s file old new (Err w)) (sym is.0) is.1
compacted_or_not serves longest s file old new end start t lines (Err why) e f replayed same written (inr is) =
    subst (λ w. HasCompacted serves longest s file old new (Err w)) (sym is) tt

pub not_compacted : {S : Type 0} (serves : Serving S) (longest : ℕ) (s : S) (file old : Option Bytes) (t : Watched S) (why : Stop)
    → HasReplayed (Watching serves) longest None (unwatched s) file None None (Err why) t
    → HasCompacted serves longest s file old old (Err why)
not_compacted serves longest s file old t (stop.BadLine n) replayed = (refl, (t, replayed))
not_compacted serves longest s file old t stop.CannotRead replayed = refl
not_compacted serves longest s file old t stop.TooLong replayed = refl
not_compacted serves longest s file old t stop.NoMemory replayed = refl
not_compacted serves longest s file old t stop.CannotWrite replayed = tt
