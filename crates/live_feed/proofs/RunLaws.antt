-- Which lines a start runs, of a file that a stop left.
use Rattle.std.proofs.Common.{◌≡◌, ◌∙◌, ℕ, Bool, true, false, List, [], ◌∷◌, ◌++◌, refl, sym, ap, subst, append_assoc}
use Rattle.std.specs.Prelude.{◌==◌, ◌&&◌, ◌||◌, not}
use Rattle.std.specs.List.{list_all}
use Rattle.std.proofs.lemmas.List.{append-nil}
use Rattle.line_script.specs.Script.{Bytes, lines_with_feeds, has_no_feed}
use Rattle.live_feed.specs.WholeLines.{has_hole, has_no_hole, is_whole_line}
use Rattle.live_feed.specs.Acts.{Tears, lines_behind, lines_run}
use Rattle.live_feed.specs.Acts.Tears.{ends, stays, hole}

-- ---- plain bytes

split_and : (s t : Bool) → (s && t) ≡ true → (s ≡ true) × (t ≡ true)
split_and true true e = (refl, refl)
split_and true false e = cc
split_and false t e = cc

not_true : (s : Bool) → not s ≡ true → s ≡ false
not_true false e = refl
not_true true e = cc

-- the first byte of a plain line, and the rest
pub record FirstByte (b : ℕ) (more : Bytes) : Type 0 where
  pub feed : (b == 10) ≡ false
  pub zero : (b == 0) ≡ false
  pub rest : is_whole_line more ≡ true

pub first_byte : (b : ℕ) (more : Bytes) → is_whole_line (b ∷ more) ≡ true → FirstByte b more
first_byte b more e =
    let both = split_and (has_no_feed (b ∷ more)) (has_no_hole (b ∷ more)) e in
    let feeds = split_and (not (b == 10)) (has_no_feed more) both.0 in
    let holes = split_and (not (b == 0)) (has_no_hole more) both.1 in
    record {
      feed = not_true (b == 10) feeds.0;
      zero = not_true (b == 0) holes.0;
      rest = ap (λ s. s && has_no_hole more) feeds.1 ∙ holes.1;
    }

-- ---- a plain line and its feed

go_on : (line : Bytes) (b : ℕ) (more : Bytes) → (b == 10) ≡ false → (b == 0) ≡ false
    → lines_behind line (b ∷ more) ≡ lines_behind (line ++ b ∷ []) more
go_on line b more e f = rw (e, f) refl

whole_line : (before line rest : Bytes) → is_whole_line line ≡ true → lines_behind before (line ++ 10 ∷ rest) ≡ (before ++ line) ∷ lines_behind [] rest
whole_line before [] rest e = ap (λ l. l ∷ lines_behind [] rest) (sym (append-nil before))
whole_line before (b ∷ more) rest e =
    let is = first_byte b more e in
    go_on before b (more ++ 10 ∷ rest) is.feed is.zero ∙ whole_line (before ++ b ∷ []) more rest is.rest
    ∙ ap (λ l. l ∷ lines_behind [] rest) (append_assoc before (b ∷ []) more)

pub runs_front : (lines : List Bytes) (rest : Bytes) → list_all is_whole_line lines ≡ true → lines_run (lines_with_feeds lines ++ rest) ≡ lines ++ lines_run rest
runs_front [] rest e = refl
runs_front (line ∷ lines) rest e =
    let both = split_and (is_whole_line line) (list_all is_whole_line lines) e in
    ap (lines_behind []) (append_assoc line (10 ∷ lines_with_feeds lines) rest)
    ∙ whole_line [] line (lines_with_feeds lines ++ rest) both.0
    ∙ ap (λ ls. line ∷ ls) (runs_front lines rest both.1)

-- ---- what a stop leaves

pub same_front : (front bytes left : Bytes) → Tears bytes left → Tears (front ++ bytes) (front ++ left)
same_front [] bytes left h = h
same_front (b ∷ front) bytes left h = stays (same_front front bytes left h)

-- a beginning of a line is no line
no_more : (line : Bytes) (b : ℕ) (left : Bytes) (zero : Bool) → (b == 0) ≡ zero → (b == 10) ≡ false → lines_behind (line ++ b ∷ []) left ≡ [] → lines_behind line (b ∷ left) ≡ []
no_more line b left true z f rest = rw (f, z) refl
no_more line b left false z f rest = go_on line b left f z ∙ rest

no_line : (line part left : Bytes) → has_no_feed part ≡ true → Tears part left → lines_behind line left ≡ []
no_line line part [] e h = refl
no_line line [] (c ∷ left) e h = elim h [ ]
no_line line (b ∷ part) (c ∷ left) e (stays h) =
    let both = split_and (not (b == 10)) (has_no_feed part) e in
    no_more line b left (b == 0) refl (not_true (b == 10) both.0) (no_line (line ++ b ∷ []) part left both.1 h)
no_line line (b ∷ part) (c ∷ left) e (hole h) = refl

-- of a line and its feed, with more behind them, all is left; or no line is run
pub data LineLeft (before line rest left : Bytes) : Type 0 where
  torn : lines_behind before left ≡ [] → LineLeft before line rest left
  whole : (behind : Bytes) → Tears rest behind → lines_behind before left ≡ (before ++ line) ∷ lines_run behind → LineLeft before line rest left

one_byte_more : (before : Bytes) (b : ℕ) (more rest left : Bytes) → FirstByte b more → LineLeft (before ++ b ∷ []) more rest left → LineLeft before (b ∷ more) rest (b ∷ left)
one_byte_more before b more rest left is (torn run) = torn (go_on before b left is.feed is.zero ∙ run)
one_byte_more before b more rest left is (whole behind tears run) =
    whole behind tears (go_on before b left is.feed is.zero ∙ run ∙ ap (λ l. l ∷ lines_run behind) (append_assoc before (b ∷ []) more))

line_left : (before line rest left : Bytes) → is_whole_line line ≡ true → Tears (line ++ 10 ∷ rest) left → LineLeft before line rest left
line_left before [] rest [] e h = torn refl
line_left before [] rest (c ∷ left) e (stays h) = whole left h (ap (λ l. l ∷ lines_run left) (sym (append-nil before)))
line_left before [] rest (c ∷ left) e (hole h) = torn refl
line_left before (b ∷ more) rest [] e h = torn refl
line_left before (b ∷ more) rest (c ∷ left) e (stays h) =
    let is = first_byte b more e in
    one_byte_more before b more rest left is (line_left (before ++ b ∷ []) more rest left is.rest h)
line_left before (b ∷ more) rest (c ∷ left) e (hole h) = torn refl

-- of whole lines that are not on the disk, and a part of one, a beginning of the whole ones is run
pub record BeginningRuns (lines : List Bytes) (left : Bytes) : Type 0 where
  pub run : List Bytes
  pub lost : List Bytes
  pub parts : lines ≡ run ++ lost
  pub runs : lines_run left ≡ run

one_line_run : (line : Bytes) (lines : List Bytes) (left behind : Bytes) → lines_run left ≡ line ∷ lines_run behind → BeginningRuns lines behind → BeginningRuns (line ∷ lines) left
one_line_run line lines left behind run b = record { run = line ∷ b.run; lost = b.lost; parts = ap (λ ls. line ∷ ls) b.parts; runs = run ∙ ap (λ ls. line ∷ ls) b.runs }

by_first_line : (line : Bytes) (lines : List Bytes) (part left : Bytes) → LineLeft [] line (lines_with_feeds lines ++ part) left
    → ((behind : Bytes) → Tears (lines_with_feeds lines ++ part) behind → BeginningRuns lines behind) → BeginningRuns (line ∷ lines) left
by_first_line line lines part left (torn run) others = record { run = []; lost = line ∷ lines; parts = refl; runs = run }
by_first_line line lines part left (whole behind tears run) others = one_line_run line lines left behind run (others behind tears)

pub beginning_runs : (lines : List Bytes) (part left : Bytes) → list_all is_whole_line lines ≡ true → has_no_feed part ≡ true
    → Tears (lines_with_feeds lines ++ part) left → BeginningRuns lines left
beginning_runs [] part left e f h = record { run = []; lost = []; parts = refl; runs = no_line [] part left f h }
beginning_runs (line ∷ lines) part left e f h =
    let both = split_and (is_whole_line line) (list_all is_whole_line lines) e in
    by_first_line line lines part left (line_left [] line (lines_with_feeds lines ++ part) left both.0
    (subst (λ bytes. Tears bytes left) (append_assoc line (10 ∷ lines_with_feeds lines) part) h))
    (λ behind tears. beginning_runs lines part behind both.1 f tears)

-- ---- where a file ends

still_whole : (bytes : Bytes) → Tears bytes bytes
still_whole [] = ends
still_whole (b ∷ bytes) = stays (still_whole bytes)

-- what has no line feed has no line
pub no_line_whole : (line part : Bytes) → has_no_feed part ≡ true → lines_behind line part ≡ []
no_line_whole line part e = no_line line part part e (still_whole part)

-- a line with a byte 0 is the end
pub stops_at_hole : (before line rest : Bytes) → has_no_feed line ≡ true → has_hole line ≡ true → lines_behind before (line ++ rest) ≡ []
stops_at_hole before [] rest e f = cc
stops_at_hole before (b ∷ more) rest e f =
    let both = split_and (not (b == 10)) (has_no_feed more) e in
    at_byte before b (more ++ rest) (b == 0) refl (not_true (b == 10) both.0)
    (λ g. stops_at_hole (before ++ b ∷ []) more rest both.1 (sym (ap (λ z. z || has_hole more) g) ∙ f))
  where
    at_byte : (before : Bytes) (b : ℕ) (left : Bytes) (zero : Bool) → (b == 0) ≡ zero → (b == 10) ≡ false
        → ((b == 0) ≡ false → lines_behind (before ++ b ∷ []) left ≡ []) → lines_behind before (b ∷ left) ≡ []
    at_byte before b left true z g on = rw (g, z) refl
    at_byte before b left false z g on = go_on before b left g z ∙ on z
