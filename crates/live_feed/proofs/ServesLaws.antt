-- Lines that are served one behind the other.
use Rattle.std.proofs.Common.{◌≡◌, ◌∙◌, ℕ, ◌+◌, Bool, true, false, cond, List, [], ◌∷◌, ◌++◌, length, refl, sym, ap, ap₂, subst, arith, append_assoc}
use Rattle.std.specs.Prelude.{◌&&◌, nat_lt, Option, Some, None}
use Rattle.std.proofs.lemmas.Bool.Decides.{nat_tests}
use Rattle.std.proofs.lemmas.List.{append-nil}
use Rattle.line_script.specs.Script.{Bytes, has_no_feed}
use Rattle.live_feed.specs.WholeLines.{given, has_no_hole, is_whole_line}
use Rattle.live_feed.specs.Served.{EmptyLinesAreSkipped, KeptLinesAreWhole, LineReply, OnlyKeptLinesCount, ServesAll, Serving, is_kept, journal_line, kept_as, unanswered}
use Rattle.live_feed.specs.Served.ServesAll.{none, next}

-- ---- one behind the other

pub serves_both : {S : Type 0} (serves : Serving S) (longest : ℕ) (s t u : S) (n : ℕ) (xs ys j k : List Bytes) (w v : Bytes)
    → ServesAll serves longest s n xs j w t → ServesAll serves longest t (n + length xs) ys k v u → ServesAll serves longest s n (xs ++ ys) (j ++ k) (w ++ v) u
serves_both serves longest s t u n xs ys j k w v none many =
    let same : n + 0 ≡ n = omega arith in
    subst (λ (m : ℕ). ServesAll serves longest s m ys k v u) same many
serves_both serves longest s t u n xs ys j k w v (next {t = m} {line = line} {more = more} {journal = journal} {others = others} a one rest) many =
    let same : n + length (line ∷ more) ≡ n + 1 + length more = omega arith in
    subst (λ text. ServesAll serves longest s n (line ∷ (more ++ ys)) (journal_line (given longest line) a ∷ (journal ++ k)) text u) (sym (append_assoc a.text others v))
    (next a one (serves_both serves longest m t u (n + 1) more ys journal k others v rest (subst (λ (m : ℕ). ServesAll serves longest t m ys k v u) same many)))

pub serves_one : {S : Type 0} (serves : Serving S) (longest : ℕ) (s t : S) (n : ℕ) (line : Bytes) (a : LineReply)
    → serves s n (given longest line) a t → ServesAll serves longest s n (line ∷ []) (journal_line (given longest line) a ∷ []) a.text t
serves_one serves longest s t n line a one =
    subst (λ text. ServesAll serves longest s n (line ∷ []) (journal_line (given longest line) a ∷ []) text t) (append-nil a.text) (next a one none)

pub serves_more : {S : Type 0} (serves : Serving S) (longest : ℕ) (s t u : S) (n : ℕ) (lines journal : List Bytes) (text line : Bytes) (a : LineReply)
    → ServesAll serves longest s n lines journal text t → serves t (n + length lines) (given longest line) a u
    → ServesAll serves longest s n (lines ++ line ∷ []) (journal ++ journal_line (given longest line) a ∷ []) (text ++ a.text) u
serves_more serves longest s t u n lines journal text line a many one =
    serves_both serves longest s t u n lines (line ∷ []) journal (journal_line (given longest line) a ∷ []) text a.text many
    (serves_one serves longest t u (n + length lines) line a one)

-- ---- a beginning of the journal

-- a beginning of the lines, for which a beginning of the journal stands
pub record ServesFirst {S : Type 0} (serves : Serving S) (longest : ℕ) (s : S) (n : ℕ) (lines front : List Bytes) : Type 0 where
  pub first : List Bytes
  pub rest : List Bytes
  pub text : Bytes
  pub left : S
  pub parts : lines ≡ first ++ rest
  pub served : ServesAll serves longest s n first front text left

abbrev behind_first : List Bytes → List Bytes
behind_first [] = []
behind_first (x ∷ xs) = xs

abbrev first_of : List Bytes → Bytes
first_of [] = []
first_of (x ∷ xs) = x

first_more : {S : Type 0} (serves : Serving S) (longest : ℕ) (s m : S) (n : ℕ) (line : Bytes) (more : List Bytes) (x : Bytes) (front : List Bytes) (a : LineReply)
    → serves s n (given longest line) a m → journal_line (given longest line) a ≡ x → ServesFirst serves longest m (n + 1) more front
    → ServesFirst serves longest s n (line ∷ more) (x ∷ front)
first_more serves longest s m n line more x front a one e f = record {
  first = line ∷ f.first;
  rest = f.rest;
  text = a.text ++ f.text;
  left = f.left;
  parts = ap (λ ls. line ∷ ls) f.parts;
  served = subst (λ l. ServesAll serves longest s n (line ∷ f.first) (l ∷ front) (a.text ++ f.text) f.left) e (next a one f.served);
}

pub serves_first : {S : Type 0} (serves : Serving S) (longest : ℕ) (s t : S) (n : ℕ) (lines journal : List Bytes) (text : Bytes) (front back : List Bytes)
    → ServesAll serves longest s n lines journal text t → journal ≡ front ++ back → ServesFirst serves longest s n lines front
serves_first serves longest s t n lines journal text [] back h e = record { first = []; rest = lines; text = []; left = s; parts = refl; served = none }
serves_first serves longest s t n lines journal text (x ∷ front) back none e = cc
serves_first serves longest s t n lines journal text (x ∷ front) back (next {t = m} {line = line} {more = more} {journal = after} {others = others} a one many) e =
    first_more serves longest s m n line more x front a one (ap first_of e) (serves_first serves longest m t (n + 1) more after others front back many (ap behind_first e))

-- ---- how a line is given

none_is_longer : (longest : ℕ) → nat_lt longest 0 ≡ false
none_is_longer longest = grind (arith, nat_tests)

pub given_empty : (longest : ℕ) → given longest [] ≡ Some []
given_empty longest = ap (λ (over : Bool). cond over None (Some [])) (none_is_longer longest)

given_by : (line l : Bytes) (over : Bool) → cond over None (Some line) ≡ Some l → l ≡ line
given_by line l true e = cc
given_by line l false e = cc

-- a line that is given is given as it is
pub given_is : (longest : ℕ) (line l : Bytes) → given longest line ≡ Some l → l ≡ line
given_is longest line l e = given_by line l (nat_lt longest (length line)) e

-- ---- a journal is run again

-- a line of the journal is answered so that the same state is left, and stands for itself
pub record Again {S : Type 0} (serves : Serving S) (longest : ℕ) (s : S) (n : ℕ) (line : Bytes) (t : S) : Type 0 where
  pub reply : LineReply
  pub served : serves s n (given longest line) reply t
  pub same : journal_line (given longest line) reply ≡ line

empty_again : {S : Type 0} (serves : Serving S) (longest : ℕ) → EmptyLinesAreSkipped serves → (s t : S) (n : ℕ) (line : Bytes) → line ≡ [] → t ≡ s → Again serves longest s n line t
empty_again {S} serves longest skipped s t n line e f = subst (λ l. Again serves longest s n l t) (sym e) (subst (λ u. Again serves longest s n [] u) (sym f) still)
  where
    still : Again serves longest s n [] s
    still = record {
      reply = unanswered;
      served = subst (λ g. serves s n g unanswered s) (sym (given_empty longest)) (skipped s n);
      same = ap (λ g. journal_line g unanswered) (given_empty longest);
    }

line_again : {S : Type 0} (serves : Serving S) (longest : ℕ) → OnlyKeptLinesCount serves → EmptyLinesAreSkipped serves
    → (s t : S) (n : ℕ) (line : Bytes) (a : LineReply) (g : Option Bytes) (kept : Bool) → given longest line ≡ g → is_kept a ≡ kept
    → serves s n (given longest line) a t → Again serves longest s n (journal_line (given longest line) a) t
line_again serves longest only skipped s t n line a None kept e f one =
    let empty : journal_line (given longest line) a ≡ [] = ap (λ g. journal_line g a) e in
    empty_again serves longest skipped s t n (journal_line (given longest line) a) empty (only s t n (given longest line) a one empty)
line_again serves longest only skipped s t n line a (Some l) false e f one =
    let empty : journal_line (given longest line) a ≡ [] = ap₂ kept_as e f in
    empty_again serves longest skipped s t n (journal_line (given longest line) a) empty (only s t n (given longest line) a one empty)
line_again serves longest only skipped s t n line a (Some l) true e f one =
    let itself : journal_line (given longest line) a ≡ line = ap₂ kept_as e f ∙ given_is longest line l e in
    subst (λ l. Again serves longest s n l t) (sym itself) (record { reply = a; served = one; same = itself })

pub record Replayed {S : Type 0} (serves : Serving S) (longest : ℕ) (s : S) (n : ℕ) (journal : List Bytes) (t : S) : Type 0 where
  pub text : Bytes
  pub served : ServesAll serves longest s n journal journal text t

again_more : {S : Type 0} (serves : Serving S) (longest : ℕ) (s m t : S) (n : ℕ) (l : Bytes) (after : List Bytes)
    → Again serves longest s n l m → Replayed serves longest m (n + 1) after t → Replayed serves longest s n (l ∷ after) t
again_more serves longest s m t n l after one rest = record {
  text = one.reply.text ++ rest.text;
  served = subst (λ x. ServesAll serves longest s n (l ∷ after) (x ∷ after) (one.reply.text ++ rest.text) t) one.same (next one.reply one.served rest.served);
}

pub replays : {S : Type 0} (serves : Serving S) (longest : ℕ) → OnlyKeptLinesCount serves → EmptyLinesAreSkipped serves
    → (s t : S) (n : ℕ) (lines journal : List Bytes) (text : Bytes) → ServesAll serves longest s n lines journal text t → Replayed serves longest s n journal t
replays serves longest only skipped s t n lines journal text none = record { text = []; served = none }
replays serves longest only skipped s t n lines journal text (next {t = m} {line = line} {more = more} {journal = after} {others = others} a one many) =
    again_more serves longest s m t n (journal_line (given longest line) a) after (line_again serves longest only skipped s m n line a (given longest line) (is_kept a) refl refl one)
    (replays serves longest only skipped m t (n + 1) more after others many)

-- ---- lines of the journal are plain

plain_line : {S : Type 0} (serves : Serving S) (longest : ℕ) → KeptLinesAreWhole serves
    → (s t : S) (n : ℕ) (line : Bytes) (a : LineReply) (g : Option Bytes) (kept : Bool) → given longest line ≡ g → is_kept a ≡ kept
    → has_no_feed line ≡ true → serves s n (given longest line) a t → is_whole_line (journal_line (given longest line) a) ≡ true
plain_line serves longest whole s t n line a None kept e f plain one = ap (λ g. is_whole_line (journal_line g a)) e
plain_line serves longest whole s t n line a (Some l) false e f plain one = ap is_whole_line (ap₂ kept_as e f)
plain_line serves longest whole s t n line a (Some l) true e f plain one =
    let is : l ≡ line = given_is longest line l e in
    let no_hole : has_no_hole l ≡ true = whole s t n l a (subst (λ g. serves s n g a t) e one) f in
    ap is_whole_line (ap₂ kept_as e f) ∙ ap₂ (λ (x y : Bool). x && y) (ap has_no_feed is ∙ plain) no_hole

pub plain_journal_line : {S : Type 0} (serves : Serving S) (longest : ℕ) → KeptLinesAreWhole serves
    → (s t : S) (n : ℕ) (line : Bytes) (a : LineReply) → has_no_feed line ≡ true → serves s n (given longest line) a t
    → is_whole_line (journal_line (given longest line) a) ≡ true
plain_journal_line serves longest whole s t n line a plain one = plain_line serves longest whole s t n line a (given longest line) (is_kept a) refl refl plain one
