-- The lines of a journal are answered again.
use Rattle.std.proofs.Common.{◌≡◌, ◌⊎◌, inl, inr, ◌∙◌, ℕ, suc, ◌+◌, ◌<◌, ◌≤◌, Bool, true, false, List, [], ◌∷◌, ◌++◌, length, map, get_or, take, drop, refl, sym, ap, ap₂, subst, arith, append_assoc, length-append, ltb-false}
use Rattle.std.specs.Prelude.{◌==◌, ◌&&◌, ◌||◌, cond, nat_lt, not, is_none, Option, Some, None, Result, Ok, Err, IfSome, IfOk, IfErr}
use Rattle.std.specs.List.{list_all, position, position_or_len}
use Rattle.std.specs.Io.KnownBytes.{Appends, Consumes, IsAtEnd}
use Rattle.std.proofs.KnownBytes.{Appends-nil, Appends-trans, Consumes-nil, Consumes-trans}
use Rattle.std.proofs.lemmas.List.{append-nil, drop_all, take_all}
use Rattle.std.proofs.lemmas.List.Folds.{list_all-append}
use Rattle.line_script.specs.Script.{Bytes, lines_with_feeds, has_no_feed}
use Rattle.line_script.specs.declared.input.ReadError.{ReadError}
use Rattle.line_script.specs.declared.run.Stop.{Stop}
use Rattle.line_script.specs.declared.run.Stop.TheVariants as stop
use Rattle.live_feed.specs.WholeLines.{BeginsWithLines, given, has_hole, has_no_hole, is_whole_line}
use Rattle.live_feed.specs.Reading.{AreNextLines, HeldLine, IsNextLine, IsReadTo, given_of, nothing_held, whole_of}
use Rattle.live_feed.specs.Served.{AreAnswered, LineReply, ServesAll, Serving, journal_line}
use Rattle.live_feed.specs.Served.ServesAll.{none}
use Rattle.live_feed.specs.Acts.{lines_run}
use Rattle.live_feed.specs.Replayed.{AreRun, AreRunBefore, HasReplayed, HasReplayedLine, HasReplayedLines, IsJournalReply, IsNoLine, Replaying, is_told, told_if}
use Rattle.live_feed.specs.declared.replaying.JournalEnd.{JournalEnd}
use Rattle.live_feed.proofs.LineLaws.{one_line_more, plain_more}
use Rattle.live_feed.proofs.RunLaws.{no_line_whole, runs_front, stops_at_hole}
use Rattle.live_feed.proofs.ServesLaws.{given_is, serves_more}
use Rattle.live_feed.proofs.TogetherLaws.{Left, at_self, dropped, left_at_first, left_end, left_next}

-- ---- holes

no_hole_by : (b : ℕ) (x : Bool) → ((b == 0) || x) ≡ false → (not (b == 0) ≡ true) × (x ≡ false)
no_hole_by b x e = on (b == 0) x e
  where
    on : (z x : Bool) → (z || x) ≡ false → (not z ≡ true) × (x ≡ false)
    on false x e = (refl, e)
    on true x e = cc

no_hole : (line : Bytes) → has_hole line ≡ false → has_no_hole line ≡ true
no_hole [] e = refl
no_hole (b ∷ more) e =
    let both = no_hole_by b (has_hole more) e in
    ap₂ (λ (x y : Bool). x && y) both.0 (no_hole more both.1)

-- ---- lines answered so far

pub record Replays {S : Type 0} (serves : Serving S) (longest : ℕ) (from : Option ℕ) (s : S) (file now old new : Option Bytes) (end : JournalEnd) (t : S) : Type 0 where
  pub lines : List Bytes
  pub journal : List Bytes
  pub text : Bytes
  pub plain : list_all is_whole_line lines ≡ true
  pub unfed : list_all has_no_feed lines ≡ true
  pub consumed : Consumes file now (lines_with_feeds lines)
  pub served : ServesAll (Replaying from serves) longest s 1 lines journal text t
  pub told : Appends old new text
  pub counted : end.lines ≡ length lines
  pub measured : end.bytes ≡ length (lines_with_feeds lines)

pub begins : {S : Type 0} (serves : Serving S) (longest : ℕ) (from : Option ℕ) (s : S) (file old : Option Bytes) (end : JournalEnd) → end.lines ≡ 0 → end.bytes ≡ 0 → Replays serves longest from s file file old old end s
begins serves longest from s file old end e f = record {
  lines = [];
  journal = [];
  text = [];
  plain = refl;
  unfed = refl;
  consumed = Consumes-nil file;
  served = none;
  told = Appends-nil old;
  counted = e;
  measured = f;
}

-- one line more
pub one_more : {S : Type 0} (serves : Serving S) (longest : ℕ) (from : Option ℕ) (s : S) (file mid now old kept new : Option Bytes) (before end : JournalEnd) (t u : S) (h : HeldLine) (more : Bool)
    → h.hole ≡ false → Replays serves longest from s file mid old kept before t → IsNextLine longest mid now h (Some more)
    → HasReplayedLine serves from t before h.given kept new (Ok end) u → Replays serves longest from s file now old new end u
one_more {S} serves longest from s file mid now old kept new before end t u h more whole r next served =
    let line = next.0 in
    let told = served.1 in
    let is_given : Some served.0 ≡ given longest line = sym served.2 ∙ ap (λ (h : HeldLine). h.given) next.3 in
    let same : served.0 ≡ line = given_is longest line served.0 (sym is_given) in
    let place : before.lines + 1 ≡ 1 + length r.lines = omega (arith, r.counted) in
    let one : Replaying from serves t (1 + length r.lines) (given longest line) told u =
    subst (λ (k : ℕ). Replaying from serves t k (given longest line) told u) place
    (subst (λ g. Replaying from serves t (before.lines + 1) g told u) is_given served.3) in
    let hole : has_no_hole line ≡ true = no_hole line (sym (ap (λ (h : HeldLine). h.hole) next.3) ∙ whole) in
    let plain : is_whole_line line ≡ true = ap₂ (λ (x y : Bool). x && y) next.1 hole in
    record {
      lines = r.lines ++ line ∷ [];
      journal = r.journal ++ journal_line (given longest line) told ∷ [];
      text = r.text ++ told.text;
      plain = list_all-append is_whole_line r.lines (line ∷ []) ∙ ap₂ (λ (x y : Bool). x && (y && true)) r.plain plain;
      unfed = plain_more r.lines line r.unfed next.1;
      consumed = subst (Consumes file now) (sym (one_line_more r.lines line)) (Consumes-trans file mid now (lines_with_feeds r.lines) (line ++ 10 ∷ []) r.consumed next.2);
      served = serves_more (Replaying from serves) longest s t u 1 r.lines r.journal r.text line told r.served one;
      told = Appends-trans old kept new r.text told.text r.told served.4;
      counted = omega (arith, served.5, r.counted, length-append r.lines (line ∷ []));
      measured = omega (arith, served.6, r.measured, ap (λ (l : Bytes). length l) same, length-feeds r.lines line);
    }
  where
    length-feeds : (lines : List Bytes) (line : Bytes) → length (lines_with_feeds (lines ++ line ∷ [])) ≡ length (lines_with_feeds lines) + (length line + 1)
    length-feeds lines line = ap (λ (l : Bytes). length l) (one_line_more lines line) ∙ length-append (lines_with_feeds lines) (line ++ 10 ∷ [])
        ∙ ap (λ (k : ℕ). length (lines_with_feeds lines) + k) (length-append line (10 ∷ []))

-- ---- how it ends

front_of : (text rest : Bytes) (lines : List Bytes) → text ≡ lines_with_feeds lines ++ rest → list_all has_no_feed lines ≡ true → BeginsWithLines text lines
front_of text rest lines e plain = record { rest = rest; parts = e; plain = plain }

are_run : (file mid : Option Bytes) (lines : List Bytes) → list_all is_whole_line lines ≡ true → list_all has_no_feed lines ≡ true → Consumes file mid (lines_with_feeds lines)
    → IfSome mid (λ rest. lines_run rest ≡ []) → AreRun file lines
are_run None mid lines plain unfed c ends = tt
are_run (Some text) None lines plain unfed c ends = absurd c
are_run (Some text) (Some rest) lines plain unfed c ends =
    (front_of text rest lines c unfed, ap lines_run c ∙ runs_front lines rest plain ∙ ap (λ ls. lines ++ ls) ends ∙ append-nil lines)

-- the input has ended, or the next line has a byte 0
pub ends_here : (longest : ℕ) (mid now : Option Bytes) (h : HeldLine) (read : Option Bool) → IsNextLine longest mid now h read → (is_none read || h.hole) ≡ true → IfSome mid (λ rest. lines_run rest ≡ [])
ends_here longest None now h read next e = tt
ends_here longest (Some rest) now h None next e = at_end now next.2 next.3
  where
    at_end : (now : Option Bytes) → Consumes (Some rest) now next.0 → IsAtEnd now → lines_run rest ≡ []
    at_end None c f = absurd c
    at_end (Some left) c f = ap lines_run (c ∙ ap (λ l. next.0 ++ l) f ∙ append-nil next.0) ∙ no_line_whole [] next.0 next.1
ends_here longest (Some rest) None h (Some more) next e = absurd next.2
ends_here longest (Some rest) (Some left) h (Some more) next e =
    ap lines_run (next.2 ∙ append_assoc next.0 (10 ∷ []) left) ∙ stops_at_hole [] next.0 (10 ∷ left) next.1 (sym (ap (λ (h : HeldLine). h.hole) next.3) ∙ e)

pub replayed : {S : Type 0} (serves : Serving S) (longest : ℕ) (from : Option ℕ) (s : S) (file mid now old new : Option Bytes) (end : JournalEnd) (t : S) (h : HeldLine) (read : Option Bool)
    → Replays serves longest from s file mid old new end t → IsNextLine longest mid now h read → (is_none read || h.hole) ≡ true
    → HasReplayed serves longest from s file old new (Ok end) t
replayed serves longest from s file mid now old new end t h read r next e =
    (r.lines, r.journal, r.text, are_run file mid r.lines r.plain r.unfed r.consumed (ends_here longest mid now h read next e), r.served, r.told, r.counted, r.measured)

-- a line is none of a journal, or something else went wrong
pub not_replayed : {S : Type 0} (serves : Serving S) (longest : ℕ) (from : Option ℕ) (s : S) (file mid now old kept new last : Option Bytes) (end : JournalEnd) (t u v : S) (h : HeldLine) (more : Bool) (why : Stop)
    → h.hole ≡ false → Replays serves longest from s file mid old kept end t → IsNextLine longest mid now h (Some more)
    → HasReplayedLine serves from t end h.given kept new (Err why) u → HasReplayed serves longest from s file old last (Err why) v
not_replayed serves longest from s file mid now old kept new last end t u v h more (stop.BadLine n) whole r next bad = (
  r.lines,
  r.journal,
  r.text,
  next.0,
  t,
  before file mid now r.consumed next.2,
  r.served,
  omega (arith, bad.0, r.counted),
  subst (λ g. IsNoLine serves t n g) (ap (λ (h : HeldLine). h.given) next.3) bad.1,
)
  where
    hole : has_no_hole next.0 ≡ true
    hole = no_hole next.0 (sym (ap (λ (h : HeldLine). h.hole) next.3) ∙ whole)

    plain : list_all is_whole_line (next.0 ∷ []) ≡ true
    plain = ap₂ (λ (x y : Bool). (x && y) && true) next.1 hole

    before : (file mid now : Option Bytes) → Consumes file mid (lines_with_feeds r.lines) → Consumes mid now (next.0 ++ 10 ∷ []) → AreRunBefore file r.lines next.0
    before None mid now c d = tt
    before (Some text) None now c d = absurd c
    before (Some text) (Some rest) None c d = absurd d
    before (Some text) (Some rest) (Some left) c d =
        (lines_run left, ap lines_run c ∙ runs_front r.lines rest r.plain ∙ ap (λ x. r.lines ++ lines_run x) d ∙ ap (λ ls. r.lines ++ ls) (runs_front (next.0 ∷ []) left plain))
not_replayed serves longest from s file mid now old kept new last end t u v h more stop.CannotRead whole r next bad = tt
not_replayed serves longest from s file mid now old kept new last end t u v h more stop.TooLong whole r next bad = tt
not_replayed serves longest from s file mid now old kept new last end t u v h more stop.NoMemory whole r next bad = tt
not_replayed serves longest from s file mid now old kept new last end t u v h more stop.CannotWrite whole r next bad = tt

-- ---- one line

-- a line was answered again
pub line_replayed : {S : Type 0} (serves : Serving S) (from : Option ℕ) (s t : S) (end : JournalEnd) (g old new : Option Bytes) (line : Bytes) (a : LineReply) (n : ℕ) (result : Result JournalEnd Stop)
    → g ≡ Some line → n ≡ end.lines + 1 → serves s n (Some line) a t → IsJournalReply a → Appends old new (told_if (is_told from n) a.text)
    → IfOk result (λ now. (now.lines ≡ n) × (now.bytes ≡ end.bytes + length line + 1)) → IfErr result (λ why. why ≡ stop.TooLong)
    → HasReplayedLine serves from s end g old new result t
line_replayed serves from s t end g old new line a n (Ok now) is place one taken told ends other = (
  line,
  record { text = told_if (is_told from n) a.text; done = a.done },
  is,
  subst (λ (k : ℕ). Replaying from serves s k (Some line) (record { text = told_if (is_told from n) a.text; done = a.done }) t) place (a, one, taken, refl),
  told,
  ends.0 ∙ place,
  ends.1,
)
line_replayed serves from s t end g old new line a n (Err why) is place one taken told ends other =
    subst (λ w. HasReplayedLine serves from s end g old new (Err w) t) (sym other) tt

-- ---- lines that came together

-- what is answered again behind so many of these lines is answered behind all
abbrev pub FollowsAgain : {S : Type 0} → Serving S → Option ℕ → S → JournalEnd → List HeldLine → Option Bytes → ℕ → JournalEnd → Option Bytes → S → Type 0
FollowsAgain {S} serves from s first all old k end now state =
    (new : Option Bytes) (result : Result JournalEnd Stop) (t : S)
    → HasReplayedLines serves from state end (map given_of (drop k all)) now new result t → HasReplayedLines serves from s first (map given_of all) old new result t

-- so many of these lines were answered again, with these answers left for others
abbrev pub Again : {S : Type 0} → Serving S → Option ℕ → S → S → JournalEnd → List HeldLine → Option Bytes → ℕ → ℕ → List LineReply → JournalEnd → Option Bytes → Type 0
Again serves from s final first all old m k answers end now = Left serves final first.lines all m k answers end.lines (FollowsAgain serves from s first all old k end now)

module _ {S : Type 0} (serves : Serving S) (from : Option ℕ) (s final : S) (first : JournalEnd) (all : List HeldLine) (old : Option Bytes) (m : ℕ) where
  pub again_at_first : (t : S) (answers : List LineReply) → AreAnswered serves s (first.lines + 1) (map given_of (take m all)) answers t → m ≤ length all → (length answers ≡ m → t ≡ final)
      → Again serves from s final first all old m 0 answers first old
  again_at_first t answers are l same = left_at_first serves s t final first.lines all m answers (FollowsAgain serves from s first all old 0 first old) are l same (λ new result t h. h)

  -- all lines were answered again
  pub again_all : (k : ℕ) (end : JournalEnd) (now : Option Bytes) (answers : List LineReply) → k ≡ m → Again serves from s final first all old m k answers end now → length all ≤ k
      → HasReplayedLines serves from s first (map given_of all) old now (Ok end) final
  again_all k end now answers q r l =
      left_end serves final first.lines all m k answers end.lines (FollowsAgain serves from s first all old k end now) q r now (Ok end) final
      (subst (λ hs. HasReplayedLines serves from final end (map given_of hs) now now (Ok end) final) (sym (drop_all k all l)) (refl, refl, refl))

  -- there is no number for the next line
  pub again_unnumbered : (k : ℕ) (end : JournalEnd) (now : Option Bytes) (answers : List LineReply) → k ≡ m → Again serves from s final first all old m k answers end now → k < length all
      → HasReplayedLines serves from s first (map given_of all) old now (Err stop.TooLong) final
  again_unnumbered k end now answers q r l =
      let is = dropped k all (get_or all k nothing_held) l (at_self all k nothing_held l) in
      left_end serves final first.lines all m k answers end.lines (FollowsAgain serves from s first all old k end now) q r now (Err stop.TooLong) final
      (subst (λ hs. HasReplayedLines serves from final end (map given_of hs) now now (Err stop.TooLong) final) (sym is) (inr (stop.TooLong, refl, final, tt)))

  -- the next line was answered again
  pub again_next : (k : ℕ) (end e : JournalEnd) (now mid : Option Bytes) (h : HeldLine) (a : LineReply) (answers : List LineReply) → get_or all k h ≡ h → k < length all
      → Again serves from s final first all old m k (a ∷ answers) end now
      → ((p q : S) → serves p (end.lines + 1) (given_of h) a q → HasReplayedLine serves from p end (given_of h) now mid (Ok e) q) → Again serves from s final first all old m (k + 1) answers e mid
  again_next k end e now mid h a answers at l r taken =
      left_next serves final first.lines all m k h a answers end.lines e.lines (FollowsAgain serves from s first all old k end now) (FollowsAgain serves from s first all old (k + 1) e mid) at l r (λ p q one follows.
      let on = taken p q one in (
        λ new result u more. follows new result u (subst (λ hs. HasReplayedLines serves from p end (map given_of hs) now new result u) (sym (dropped k all h l at)) (inl (e, mid, q, on, more))),
        on.5,
      ))

  -- the next line was not answered again
  pub again_stops : (k : ℕ) (end : JournalEnd) (now new : Option Bytes) (h : HeldLine) (a : LineReply) (answers : List LineReply) (why : Stop) (u : S) → get_or all k h ≡ h → k < length all
      → Again serves from s final first all old m k (a ∷ answers) end now
      → ((p q : S) → serves p (end.lines + 1) (given_of h) a q → HasReplayedLine serves from p end (given_of h) now new (Err why) q) → HasReplayedLines serves from s first (map given_of all) old new (Err why) u
  again_stops k end now new h a answers why u at l r taken =
      let is = dropped k all h l at in
      let are : AreAnswered serves r.state (end.lines + 1) (map given_of (h ∷ drop (k + 1) all)) (a ∷ answers) r.end = subst (λ hs. AreAnswered serves r.state (end.lines + 1) (map given_of hs) (a ∷ answers) r.end) is r.answered in
      r.follows new (Err why) u (subst (λ hs. HasReplayedLines serves from r.state end (map given_of hs) now new (Err why) u) (sym is) (inr (why, refl, are.0, taken r.state are.0 are.1)))

  -- there was no memory for its answer
  pub again_lacks : (k : ℕ) (end : JournalEnd) (now : Option Bytes) (h : HeldLine) (u : S) → get_or all k h ≡ h → k < length all → Again serves from s final first all old m k [] end now
      → HasReplayedLines serves from s first (map given_of all) old now (Err stop.NoMemory) u
  again_lacks k end now h u at l r =
      r.follows now (Err stop.NoMemory) u (subst (λ hs. HasReplayedLines serves from r.state end (map given_of hs) now now (Err stop.NoMemory) u) (sym (dropped k all h l at)) (inr (stop.NoMemory, refl, r.state, tt)))

-- the lines of those that were read before the first with a byte 0 were answered again: that one is next, or all were
abbrev pub IsNext : ℕ → List HeldLine → Option Bytes → Option Bytes → Type 0
IsNext longest hs at now =
    ((length (whole_of hs) ≡ length hs) × (at ≡ now))
    ⊎ ((h : HeldLine) × (more : Bool) × (left : Option Bytes) × (length (whole_of hs) < length hs) × IsNextLine longest at left h (Some more) × (h.hole ≡ true))

abbrev pub GoesOnAgain : {S : Type 0} → Serving S → ℕ → Option ℕ → S → List HeldLine → Option Bytes → Option Bytes → Option Bytes → Option Bytes → Result JournalEnd Stop → S → Type 0
GoesOnAgain serves longest from s hs file now old new (Ok end) t = (at : Option Bytes) × Replays serves longest from s file at old new end t × IsNext longest hs at now
GoesOnAgain {S} serves longest from s hs file now old new (Err why) t = (last : Option Bytes) (v : S) → HasReplayed serves longest from s file old last (Err why) v

pub lines_replayed : {S : Type 0} (serves : Serving S) (longest : ℕ) (from : Option ℕ) (s : S) (file mid now old kept new : Option Bytes) (before : JournalEnd) (t u : S) (hs : List HeldLine) (result : Result JournalEnd Stop)
    → Replays serves longest from s file mid old kept before t → AreNextLines longest mid now hs
    → HasReplayedLines serves from t before (map given_of (whole_of hs)) kept new result u → GoesOnAgain serves longest from s hs file now old new result u
lines_replayed {S} serves longest from s file mid now old kept new before t u [] result r are served =
    subst (λ x. GoesOnAgain serves longest from s [] file now old new x u) (sym served.0)
    (mid, subst (λ (v : S). Replays serves longest from s file mid old new before v) (sym served.2) (subst (λ o. Replays serves longest from s file mid old o before t) (sym served.1) r), inl (refl, sym are))
lines_replayed {S} serves longest from s file mid now old kept new before t u (h ∷ hs) result r are served =
    on h.hole refl served (λ told e v rest next. lines_replayed serves longest from s file are.0 now old told new e v u hs result rest are.3 next)
  where
    Others : Type 0
    Others = (told : Option Bytes) (e : JournalEnd) (v : S) → Replays serves longest from s file are.0 old told e v
        → HasReplayedLines serves from v e (map given_of (whole_of hs)) told new result u → GoesOnAgain serves longest from s hs file now old new result u

    First : Type 0
    First = ((e : JournalEnd) × (told : Option Bytes) × (v : S) × HasReplayedLine serves from t before (given_of h) kept told (Ok e) v × HasReplayedLines serves from v e (map given_of (whole_of hs)) told new result u)
        ⊎ ((why : Stop) × (result ≡ Err why) × (v : S) × HasReplayedLine serves from t before (given_of h) kept new (Err why) v)

    goes : h.hole ≡ false → (x : Result JournalEnd Stop) → GoesOnAgain serves longest from s hs file now old new x u → GoesOnAgain serves longest from s (h ∷ hs) file now old new x u
    goes whole (Err why) g = g
    goes whole (Ok end) g = (g.0, g.1, next g.0 g.2)
      where
        is : whole_of (h ∷ hs) ≡ h ∷ whole_of hs
        is = ap (λ b. cond b [] (h ∷ whole_of hs)) whole

        next : (at : Option Bytes) → IsNext longest hs at now → IsNext longest (h ∷ hs) at now
        next at (inl all) = inl (ap (λ (xs : List HeldLine). length xs) is ∙ ap suc all.0, all.1)
        next at (inr one) = let l = one.3 in inr (one.0, one.1, one.2, omega (arith, l, ap (λ (xs : List HeldLine). length xs) is), one.4, one.5)

    more : First → h.hole ≡ false → Others → GoesOnAgain serves longest from s (h ∷ hs) file now old new result u
    more (inl one) whole others =
        goes whole result (others one.1 one.0 one.2 (one_more serves longest from s file mid are.0 old kept one.1 before one.0 t one.2 h are.1 whole r are.2 one.3) one.4)
    more (inr end) whole others =
        subst (λ x. GoesOnAgain serves longest from s (h ∷ hs) file now old new x u) (sym end.1)
        (λ last v. not_replayed serves longest from s file mid are.0 old kept new last before t end.2 v h are.1 end.0 whole r are.2 end.3)

    on : (b : Bool) → h.hole ≡ b → HasReplayedLines serves from t before (map given_of (cond b [] (h ∷ whole_of hs))) kept new result u → Others → GoesOnAgain serves longest from s (h ∷ hs) file now old new result u
    on true hole served others =
        let none : whole_of (h ∷ hs) ≡ [] = ap (λ b. cond b [] (h ∷ whole_of hs)) hole in
        subst (λ x. GoesOnAgain serves longest from s (h ∷ hs) file now old new x u) (sym served.0) (
          mid,
          subst (λ (v : S). Replays serves longest from s file mid old new before v) (sym served.2) (subst (λ o. Replays serves longest from s file mid old o before t) (sym served.1) r),
          inr (h, are.1, are.0, omega (arith, ap (λ (xs : List HeldLine). length xs) none), are.2, hole),
        )
    on false whole served others = more served whole others

-- all that were read were answered again, and the input goes on
pub reads_again : {S : Type 0} (serves : Serving S) (longest : ℕ) (from : Option ℕ) (s : S) (file at now left old new : Option Bytes) (end : JournalEnd) (t : S) (hs : List HeldLine) (read : Result Bool ReadError)
    → Replays serves longest from s file at old new end t → IsNext longest hs at now → length hs ≤ length (whole_of hs) → IsReadTo longest now left read → read ≡ Ok true
    → Replays serves longest from s file left old new end t
reads_again serves longest from s file at now left old new end t hs read r (inl all) l to is =
    subst (λ (m : Option Bytes). Replays serves longest from s file m old new end t) (all.1 ∙ sym (subst (IsReadTo longest now left) is to)) r
reads_again serves longest from s file at now left old new end t hs read r (inr one) l to is = let m = one.3 in absurd (omega (arith, l, m))

-- one that was read has a byte 0, or the input has ended
pub ends_again : {S : Type 0} (serves : Serving S) (longest : ℕ) (from : Option ℕ) (s : S) (file at now left old new : Option Bytes) (end : JournalEnd) (t : S) (hs : List HeldLine) (read : Result Bool ReadError)
    → Replays serves longest from s file at old new end t → IsNext longest hs at now → IsReadTo longest now left read → (length (whole_of hs) < length hs) ⊎ (read ≡ Ok false)
    → HasReplayed serves longest from s file old new (Ok end) t
ends_again serves longest from s file at now left old new end t hs read r (inr one) to why = replayed serves longest from s file at one.2 old new end t one.0 (Some one.1) r one.4 one.5
ends_again serves longest from s file at now left old new end t hs read r (inl all) to (inl short) = let same = all.0 in absurd (omega (arith, short, same))
ends_again serves longest from s file at now left old new end t hs read r (inl all) to (inr is) =
    let last : IsReadTo longest now left (Ok false) = subst (IsReadTo longest now left) is to in
    replayed serves longest from s file at left old new end t last.0 None r (subst (λ (m : Option Bytes). IsNextLine longest m left last.0 None) (sym all.1) last.1) refl

-- ---- the lines before the first that has a byte 0

whole_is : (hs : List HeldLine) → whole_of hs ≡ take (position_or_len (λ (h : HeldLine). h.hole) hs) hs
whole_is [] = refl
whole_is (h ∷ hs) = on h.hole (whole_is hs)
  where
    on : (b : Bool) → whole_of hs ≡ take (position_or_len (λ (h : HeldLine). h.hole) hs) hs
        → cond b [] (h ∷ whole_of hs) ≡ take (cond (not b) (1 + position_or_len (λ (h : HeldLine). h.hole) hs) 0) (h ∷ hs)
    on true others = refl
    on false others =
        let same : suc (position_or_len (λ (h : HeldLine). h.hole) hs) ≡ 1 + position_or_len (λ (h : HeldLine). h.hole) hs = omega arith in
        ap (λ xs. h ∷ xs) others ∙ ap (λ (k : ℕ). take k (h ∷ hs)) same

pub whole_before : (hs : List HeldLine) (k : ℕ) → position (λ (h : HeldLine). h.hole) hs ≡ Some k → take k hs ≡ whole_of hs
whole_before hs k e = on (nat_lt (position_or_len (λ (h : HeldLine). h.hole) hs) (length hs)) e ∙ sym (whole_is hs)
  where
    on : (b : Bool) → cond b (Some (position_or_len (λ (h : HeldLine). h.hole) hs)) None ≡ Some k → take k hs ≡ take (position_or_len (λ (h : HeldLine). h.hole) hs) hs
    on true e = cc
    on false e = cc

pub all_whole : (hs : List HeldLine) → position (λ (h : HeldLine). h.hole) hs ≡ None → hs ≡ whole_of hs
all_whole hs e = on (nat_lt (position_or_len (λ (h : HeldLine). h.hole) hs) (length hs)) refl e
  where
    on : (b : Bool) → nat_lt (position_or_len (λ (h : HeldLine). h.hole) hs) (length hs) ≡ b → cond b (Some (position_or_len (λ (h : HeldLine). h.hole) hs)) None ≡ None → hs ≡ whole_of hs
    on true is e = cc
    on false is e = let l = ltb-false (position_or_len (λ (h : HeldLine). h.hole) hs) (length hs) is in sym (whole_is hs ∙ take_all (position_or_len (λ (h : HeldLine). h.hole) hs) hs (omega (arith, l)))
