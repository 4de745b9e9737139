-- A stream of lines is served.
use Rattle.std.proofs.Common.{◌≡◌, ◌≢◌, ◌∙◌, ℕ, ◌+◌, Bool, true, false, List, [], ◌∷◌, ◌++◌, length, refl, sym, ap, subst, arith, append_assoc, length-append}
use Rattle.std.specs.Prelude.{◌==◌, ◌&&◌, not, Option, Some, None, Result, Ok, Err, IfSome, IsTrue}
use Rattle.std.specs.List.{list_all}
use Rattle.std.specs.Io.KnownBytes.{Appends, Consumes, IsAtEnd, Keeps}
use Rattle.std.proofs.KnownBytes.{Appends-nil, Appends-trans, Consumes-nil, Consumes-trans}
use Rattle.std.proofs.lemmas.List.{append-nil}
use Rattle.std.proofs.lemmas.List.Folds.{list_all-append}
use Rattle.line_script.specs.Script.{Bytes, lines_with_feeds, has_no_feed}
use Rattle.line_script.specs.declared.input.ReadError.{ReadError}
use Rattle.line_script.specs.declared.input.ReadError.TheVariants as read
use Rattle.live_feed.specs.WholeLines.{AreWholeLines, BeginsWithLines, given}
use Rattle.live_feed.specs.Reading.{HeldLine, IsNextLine}
use Rattle.live_feed.specs.Faults.{fault_of_read}
use Rattle.live_feed.specs.Served.{EmptyLinesAreSkipped, KeptLinesAreWhole, OnlyKeptLinesCount, Serving, journal_line, kept_as}
use Rattle.live_feed.specs.Acts.{Act, Did, told_by}
use Rattle.live_feed.specs.Acts.Act.{Synced, Told, Wrote}
use Rattle.live_feed.specs.Hosted.{HasDone, HasHosted, HasHostedStream, Hosts, IsEndedBy, IsTold}
use Rattle.live_feed.specs.Hosted.Hosts.{begins, serves_line, tells, writes_part}
use Rattle.live_feed.specs.Steps.{HasServedLine, HasTold}
use Rattle.live_feed.specs.declared.fault.Fault.{Fault}
use Rattle.live_feed.specs.declared.fault.Fault.TheVariants as fault
use Rattle.live_feed.proofs.LineLaws.{one_line_more, plain_more}
use Rattle.live_feed.proofs.ServesLaws.{given_is}
use Rattle.live_feed.proofs.StopLaws.{survives, told_both}

-- the laws that a server has
pub record Laws {S : Type 0} (serves : Serving S) : Type 0 where
  pub only : OnlyKeptLinesCount serves
  pub skipped : EmptyLinesAreSkipped serves
  pub whole : KeptLinesAreWhole serves

-- ---- what was done, and then more

pub did_nothing : (a : Option (List Act)) → Did a a []
did_nothing None = tt
did_nothing (Some x) = sym (append-nil x)

did_both : (a b c : Option (List Act)) (xs ys : List Act) → Did a b xs → Did b c ys → Did a c (xs ++ ys)
did_both None b c xs ys p q = tt
did_both (Some x) None c xs ys p q = absurd p
did_both (Some x) (Some y) None xs ys p q = absurd q
did_both (Some x) (Some y) (Some z) xs ys p q = q ∙ ap (λ l. l ++ ys) p ∙ append_assoc x xs ys

appends_kept : (a b c : Option Bytes) (bs : Bytes) → Appends a b bs → Keeps b c → Appends a c bs
appends_kept None b c bs p q = tt
appends_kept (Some x) None c bs p q = absurd p
appends_kept (Some x) (Some y) None bs p q = absurd q
appends_kept (Some x) (Some y) (Some z) bs p q = q ∙ p

-- ---- lines served so far

-- These lines were served, and what was done for them. The last of them may have been written in part.
pub record Hosting {S : Type 0} (serves : Serving S) (longest : ℕ) (s : S) (n : ℕ) (input : Option Bytes)
    (oa na : Option (List Act)) (ot nt : Option Bytes) (part waits : Bytes) (t : S) (count : ℕ) : Type 0 where
  pub lines : List Bytes
  pub begun : IfSome input (λ text. BeginsWithLines text lines)
  pub counted : count + 1 ≡ n + length lines
  pub acts : List Act
  pub hosts : Hosts serves longest s n lines acts part waits t
  pub did : Did oa na acts
  pub told : Appends ot nt (told_by acts)

-- the same, and no more was read
pub record Going {S : Type 0} (serves : Serving S) (longest : ℕ) (s : S) (n : ℕ) (input now : Option Bytes)
    (oa na : Option (List Act)) (ot nt : Option Bytes) (waits : Bytes) (t : S) (count : ℕ) : Type 0 where
  pub hosting : Hosting serves longest s n input oa na ot nt [] waits t count
  pub plain : IsTrue (list_all has_no_feed hosting.lines)
  pub consumed : Consumes input now (lines_with_feeds hosting.lines)

front_of : (input now : Option Bytes) (lines : List Bytes) → Consumes input now (lines_with_feeds lines) → IsTrue (list_all has_no_feed lines) → IfSome input (λ text. BeginsWithLines text lines)
front_of None now lines c plain = tt
front_of (Some text) None lines c plain = absurd c
front_of (Some text) (Some rest) lines c plain = record { rest = rest; parts = c; plain = plain }

pub starts : {S : Type 0} (serves : Serving S) (longest : ℕ) (s : S) (c : ℕ) (input : Option Bytes) (oa : Option (List Act)) (ot : Option Bytes) (waits : Bytes)
    → waits ≡ [] → Going serves longest s (c + 1) input input oa oa ot ot waits s c
starts serves longest s c input oa ot waits e = record {
  hosting = record {
    lines = [];
    begun = front_of input input [] (Consumes-nil input) refl;
    counted = omega arith;
    acts = [];
    hosts = subst (λ w. Hosts serves longest s (c + 1) [] [] [] w s) (sym e) begins;
    did = did_nothing oa;
    told = Appends-nil ot;
  };
  plain = refl;
  consumed = Consumes-nil input;
}

nothing_told : (acts : List Act) (bytes : Bytes) → told_by acts ≡ told_by (acts ++ Wrote bytes ∷ [])
nothing_told acts bytes = sym (told_both acts (Wrote bytes ∷ []) ∙ append-nil (told_by acts))

-- a line was read and served
pub line_more : {S : Type 0} (serves : Serving S) (longest : ℕ) (s : S) (n : ℕ) (input mid now : Option Bytes) (oa ma na : Option (List Act)) (ot mt nt : Option Bytes)
    (waits after : Bytes) (t u : S) (count d : ℕ) (h : HeldLine) (more : Bool)
    → Going serves longest s n input mid oa ma ot mt waits t count → IsNextLine longest mid now h (Some more)
    → HasServedLine serves t count h.given waits ma na (Ok tt) after d u → Keeps mt nt → Going serves longest s n input now oa na ot nt after u d
line_more {S} serves longest s n input mid now oa ma na ot mt nt waits after t u count d h more g next served keeps =
    let a = served.0 in
    let line = next.0 in
    let given_is : h.given ≡ given longest line = ap (λ (h : HeldLine). h.given) next.3 in
    let place : count + 1 ≡ n + length g.hosting.lines = g.hosting.counted in
    let one : serves t (n + length g.hosting.lines) (given longest line) a u =
    subst (λ (k : ℕ). serves t k (given longest line) a u) place (subst (λ l. serves t (count + 1) l a u) given_is served.1) in
    let acts = g.hosting.acts ++ Wrote (journal_line (given longest line) a ++ 10 ∷ []) ∷ [] in
    let lines = g.hosting.lines ++ line ∷ [] in
    let plain : IsTrue (list_all has_no_feed lines) = plain_more g.hosting.lines line g.plain next.1 in
    let consumed : Consumes input now (lines_with_feeds lines) = subst (Consumes input now) (sym (one_line_more g.hosting.lines line))
    (Consumes-trans input mid now (lines_with_feeds g.hosting.lines) (line ++ 10 ∷ []) g.consumed next.2) in
    let hosts : Hosts serves longest s n lines acts [] after u = subst (λ w. Hosts serves longest s n lines acts [] w u) (sym served.2) (serves_line line a g.hosting.hosts next.1 one) in
    let did : Did oa na acts = did_both oa ma na g.hosting.acts (Wrote (journal_line (given longest line) a ++ 10 ∷ []) ∷ []) g.hosting.did
    (subst (λ l. Did ma na (Wrote (journal_line l a ++ 10 ∷ []) ∷ [])) given_is served.4) in
    record {
      hosting = record {
        lines = lines;
        begun = front_of input now lines consumed plain;
        counted = omega (arith, served.3, place, length-append g.hosting.lines (line ∷ []));
        acts = acts;
        hosts = hosts;
        did = did;
        told = subst (Appends ot nt) (nothing_told g.hosting.acts (journal_line (given longest line) a ++ 10 ∷ []))
            (appends_kept ot mt nt (told_by g.hosting.acts) g.hosting.told keeps);
      };
      plain = plain;
      consumed = consumed;
    }

-- nothing was done meanwhile
still : {S : Type 0} (serves : Serving S) (longest : ℕ) (s : S) (n : ℕ) (input : Option Bytes) (oa ma na : Option (List Act)) (ot mt nt : Option Bytes)
    (part waits : Bytes) (t : S) (count : ℕ) → Hosting serves longest s n input oa ma ot mt part waits t count → Did ma na [] → Keeps mt nt
    → Hosting serves longest s n input oa na ot nt part waits t count
still serves longest s n input oa ma na ot mt nt part waits t count h did keeps = record {
  lines = h.lines;
  begun = h.begun;
  counted = h.counted;
  acts = h.acts;
  hosts = h.hosts;
  did = subst (Did oa na) (append-nil h.acts) (did_both oa ma na h.acts [] h.did did);
  told = appends_kept ot mt nt (told_by h.acts) h.told keeps;
}

pub kept_going : {S : Type 0} (serves : Serving S) (longest : ℕ) (s : S) (n : ℕ) (input now : Option Bytes) (oa na : Option (List Act)) (ot mt nt : Option Bytes)
    (waits : Bytes) (t : S) (count : ℕ) → Going serves longest s n input now oa na ot mt waits t count → Keeps mt nt → Going serves longest s n input now oa na ot nt waits t count
unfolding still
kept_going serves longest s n input now oa na ot mt nt waits t count g keeps = record {
  hosting = still serves longest s n input oa na na ot mt nt [] waits t count g.hosting (did_nothing na) keeps;
  plain = g.plain;
  consumed = g.consumed;
}

-- what waited was told
pub told_all : {S : Type 0} (serves : Serving S) (longest : ℕ) (s : S) (n : ℕ) (input : Option Bytes) (oa ma na : Option (List Act)) (ot mt nt : Option Bytes)
    (part waits after : Bytes) (t : S) (count : ℕ) → Hosting serves longest s n input oa ma ot mt part waits t count → HasTold waits ma na mt nt (Ok tt) after
    → Hosting serves longest s n input oa na ot nt part [] t count
told_all serves longest s n input oa ma na ot mt nt part waits after t count h told =
    let more = Synced ∷ Told waits ∷ [] in
    let acts = h.acts ++ more in
    let same : (h.acts ++ Synced ∷ []) ++ Told waits ∷ [] ≡ acts = append_assoc h.acts (Synced ∷ []) (Told waits ∷ []) in
    let text : told_by acts ≡ told_by h.acts ++ waits = told_both h.acts more ∙ ap (λ x. told_by h.acts ++ x) (append-nil waits) in
    record {
      lines = h.lines;
      begun = h.begun;
      counted = h.counted;
      acts = acts;
      hosts = subst (λ x. Hosts serves longest s n h.lines x part [] t) same (tells h.hosts);
      did = did_both oa ma na h.acts more h.did told.1;
      told = subst (Appends ot nt) (sym text) (Appends-trans ot mt nt (told_by h.acts) waits h.told told.2);
    }

pub told_then : {S : Type 0} (serves : Serving S) (longest : ℕ) (s : S) (n : ℕ) (input now : Option Bytes) (oa ma na : Option (List Act)) (ot mt nt : Option Bytes)
    (waits after : Bytes) (t : S) (count : ℕ) → (g : Going serves longest s n input now oa ma ot mt waits t count) → HasTold waits ma na mt nt (Ok tt) after
    → Going serves longest s n input now oa na ot nt after t count
unfolding told_all
told_then serves longest s n input now oa ma na ot mt nt waits after t count g told =
    let all = told_all serves longest s n input oa ma na ot mt nt [] waits after t count g.hosting told in
    subst (λ w. Going serves longest s n input now oa na ot nt w t count) (sym told.0) (record { hosting = all; plain = g.plain; consumed = g.consumed })

-- ---- why a line was not served

pub unserved : {S : Type 0} (serves : Serving S) (longest : ℕ) (s : S) (n : ℕ) (input mid now : Option Bytes) (oa ma na : Option (List Act)) (ot mt nt : Option Bytes)
    (waits after : Bytes) (t u : S) (count d : ℕ) (h : HeldLine) (more : Bool) (why : Fault)
    → Going serves longest s n input mid oa ma ot mt waits t count → IsNextLine longest mid now h (Some more)
    → HasServedLine serves t count h.given waits ma na (Err why) after d u → Keeps mt nt
    → (part : Bytes) × Hosting serves longest s n input oa na ot nt part after t count × IsEndedBy why (count + 1) part [] t u
unserved serves longest s n input mid now oa ma na ot mt nt waits after t u count d h more fault.TooLong g next served keeps = (
  [],
  subst (λ w. Hosting serves longest s n input oa na ot nt [] w t count) (sym served.0) (still serves longest s n input oa ma na ot mt nt [] waits t count g.hosting served.1 keeps),
  (refl, refl, sym served.2, served.3),
)
unserved serves longest s n input mid now oa ma na ot mt nt waits after t u count d h more fault.NoMemory g next served keeps = (
  [],
  subst (λ w. Hosting serves longest s n input oa na ot nt [] w t count) (sym served.0) (still serves longest s n input oa ma na ot mt nt [] waits t count g.hosting served.1 keeps),
  (refl, refl),
)
unserved {S} serves longest s n input mid now oa ma na ot mt nt waits after t u count d h more fault.NotAppended g next served keeps =
    let kept = served.1.0 in
    let part = served.1.1 in
    let plain : has_no_feed part ≡ true = plain_part h.given kept next.0 (ap (λ (h : HeldLine). h.given) next.3) next.1 part served.1.2 served.1.3 in
    let acts = g.hosting.acts ++ Wrote part ∷ [] in (
      part,
      subst (λ w. Hosting serves longest s n input oa na ot nt part w t count) (sym served.0) (record {
        lines = g.hosting.lines;
        begun = g.hosting.begun;
        counted = g.hosting.counted;
        acts = acts;
        hosts = writes_part part g.hosting.hosts plain;
        did = did_both oa ma na g.hosting.acts (Wrote part ∷ []) g.hosting.did served.1.4;
        told = subst (Appends ot nt) (nothing_told g.hosting.acts part) (appends_kept ot mt nt (told_by g.hosting.acts) g.hosting.told keeps);
      }),
      refl,
    )
  where
    and_first : (x y : Bool) → (x && y) ≡ true → x ≡ true
    and_first true y e = refl
    and_first false y e = cc

    begins_plain : (part rest : Bytes) → has_no_feed (part ++ rest) ≡ true → has_no_feed part ≡ true
    begins_plain part rest e = and_first (has_no_feed part) (has_no_feed rest) (sym (list_all-append (λ b. not (b == 10)) part rest) ∙ e)

    kept_plain : (g : Option Bytes) (kept : Bool) (line : Bytes) → g ≡ given longest line → has_no_feed line ≡ true → has_no_feed (kept_as g kept) ≡ true
    kept_plain None kept line e plain = refl
    kept_plain (Some l) false line e plain = refl
    kept_plain (Some l) true line e plain = ap has_no_feed (given_is longest line l (sym e)) ∙ plain

    plain_part : (g : Option Bytes) (kept : Bool) (line : Bytes) → g ≡ given longest line → IsTrue (has_no_feed line) → (part rest : Bytes) → kept_as g kept ≡ part ++ rest → has_no_feed part ≡ true
    plain_part g kept line e plain part rest f = begins_plain part rest (ap has_no_feed (sym f) ∙ kept_plain g kept line e plain)
unserved serves longest s n input mid now oa ma na ot mt nt waits after t u count d h more fault.CannotRead g next served keeps = absurd served
unserved serves longest s n input mid now oa ma na ot mt nt waits after t u count d h more fault.NotSynced g next served keeps = absurd served
unserved serves longest s n input mid now oa ma na ot mt nt waits after t u count d h more fault.CannotWrite g next served keeps = absurd served

-- ---- how it ends

hosted : {S : Type 0} (serves : Serving S) (longest : ℕ) → Laws serves → (s : S) (n : ℕ) (input : Option Bytes) (oa na : Option (List Act)) (ot nt : Option Bytes)
    (part waits : Bytes) (t : S) (count : ℕ) (result : Result (Unit {0}) Fault) → (h : Hosting serves longest s n input oa na ot nt part waits t count)
    → IsTold result ot nt h.acts → HasHosted serves longest s n h.lines part waits t (HasDone oa na ot nt result)
hosted serves longest laws s n input oa na ot nt part waits t count result h told = record {
  acts = h.acts;
  hosts = h.hosts;
  did = (h.did, told);
  safe = survives serves longest laws.only laws.skipped laws.whole s n h.lines h.acts part waits t h.hosts;
}

-- telling failed
pub not_told : {S : Type 0} (serves : Serving S) (longest : ℕ) → Laws serves → (s : S) (n : ℕ) (input left : Option Bytes) (oa ma na : Option (List Act)) (ot mt nt : Option Bytes)
    (part waits after : Bytes) (t u : S) (count : ℕ) (why : Fault) → Hosting serves longest s n input oa ma ot mt part waits t count
    → HasTold waits ma na mt nt (Err why) after → HasHostedStream serves longest s n input left (HasDone oa na ot nt) (Err why) u
not_told serves longest laws s n input left oa ma na ot mt nt part waits after t u count fault.NotSynced h told =
    let now = still serves longest s n input oa ma na ot mt nt part waits t count h told.0 told.1 in
    (now.lines, part, waits, t, now.begun, hosted serves longest laws s n input oa na ot nt part waits t count (Err fault.NotSynced) now now.told, tt)
not_told serves longest laws s n input left oa ma na ot mt nt part waits after t u count fault.CannotWrite h told =
    let more = Synced ∷ Told waits ∷ [] in
    let acts = h.acts ++ more in
    let hosts : Hosts serves longest s n h.lines acts part [] t =
    subst (λ x. Hosts serves longest s n h.lines x part [] t) (append_assoc h.acts (Synced ∷ []) (Told waits ∷ [])) (tells h.hosts) in (
      h.lines,
      part,
      [],
      t,
      h.begun,
      record {
        acts = acts;
        hosts = hosts;
        did = (did_both oa ma na h.acts more h.did told, tt);
        safe = survives serves longest laws.only laws.skipped laws.whole s n h.lines acts part [] t hosts;
      },
      tt,
    )
not_told serves longest laws s n input left oa ma na ot mt nt part waits after t u count fault.CannotRead h told = absurd told
not_told serves longest laws s n input left oa ma na ot mt nt part waits after t u count fault.TooLong h told = absurd told
not_told serves longest laws s n input left oa ma na ot mt nt part waits after t u count fault.NoMemory h told = absurd told
not_told serves longest laws s n input left oa ma na ot mt nt part waits after t u count fault.NotAppended h told = absurd told

-- the input has ended
pub all_told : {S : Type 0} (serves : Serving S) (longest : ℕ) → Laws serves → (s : S) (n : ℕ) (input mid left : Option Bytes) (oa ma na : Option (List Act)) (ot mt nt : Option Bytes)
    (waits after : Bytes) (t : S) (count : ℕ) (h : HeldLine) (result : Result (Unit {0}) Fault) → Going serves longest s n input mid oa ma ot mt waits t count
    → IsNextLine longest mid left h None → HasTold waits ma na mt nt result after → HasHostedStream serves longest s n input left (HasDone oa na ot nt) result t
unfolding told_all
all_told serves longest laws s n input mid left oa ma na ot mt nt waits after t count h (Ok done) g next told =
    let now = told_all serves longest s n input oa ma na ot mt nt [] waits after t count g.hosting told in
    (now.lines, whole input mid left now.lines g.plain g.consumed next, hosted serves longest laws s n input oa na ot nt [] [] t count (Ok tt) now now.told)
  where
    whole : (input mid left : Option Bytes) (lines : List Bytes) → IsTrue (list_all has_no_feed lines) → Consumes input mid (lines_with_feeds lines)
        → IsNextLine longest mid left h None → IfSome input (λ text. AreWholeLines text lines × IsAtEnd left)
    whole None mid left lines plain c next = tt
    whole (Some text) None left lines plain c next = absurd c
    whole (Some text) (Some more) None lines plain c next = absurd next.2
    whole (Some text) (Some more) (Some end) lines plain c next =
        let rest_is : more ≡ next.0 = next.2 ∙ ap (λ x. next.0 ++ x) next.3 ∙ append-nil next.0 in
        (record { rest = next.0; parts = c ∙ ap (λ x. lines_with_feeds lines ++ x) rest_is; plain = plain; unended = next.1 }, next.3)
all_told serves longest laws s n input mid left oa ma na ot mt nt waits after t count h (Err why) g next told =
    not_told serves longest laws s n input left oa ma na ot mt nt [] waits after t t count why g.hosting told

-- a fault came, and what waited was told
pub ended_by : {S : Type 0} (serves : Serving S) (longest : ℕ) → Laws serves → (s : S) (n : ℕ) (input left : Option Bytes) (oa ma na : Option (List Act)) (ot mt nt : Option Bytes)
    (part waits after : Bytes) (t u : S) (count : ℕ) (why : Fault) → Hosting serves longest s n input oa ma ot mt part waits t count
    → IsEndedBy why (count + 1) part [] t u → HasTold waits ma na mt nt (Ok tt) after → HasHostedStream serves longest s n input left (HasDone oa na ot nt) (Err why) u
ended_by {S} serves longest laws s n input left oa ma na ot mt nt part waits after t u count why h end told =
    let now = told_all serves longest s n input oa ma na ot mt nt part waits after t count h told in (
      now.lines,
      part,
      [],
      t,
      now.begun,
      hosted serves longest laws s n input oa na ot nt part [] t count (Err why) now (told_still why now.acts now.told),
      subst (λ (m : ℕ). IsEndedBy why m part [] t u) now.counted end,
    )
  where
    told_still : (why : Fault) (acts : List Act) → Appends ot nt (told_by acts) → IsTold (Err why) ot nt acts
    told_still fault.CannotRead acts p = p
    told_still fault.TooLong acts p = p
    told_still fault.NoMemory acts p = p
    told_still fault.NotAppended acts p = p
    told_still fault.NotSynced acts p = p
    told_still fault.CannotWrite acts p = tt

-- a read failed
pub unread : {S : Type 0} (error : ReadError) (m : ℕ) (t : S) → error ≢ read.TooLong → IsEndedBy (fault_of_read error) m [] [] t t
unread read.CannotRead m t other = (refl, refl, refl)
unread read.TooLong m t other = absurd (other refl)
unread read.NoMemory m t other = (refl, refl)

-- telling leaves the state
pub ended_still : {S : Type 0} (why : Fault) (m : ℕ) (part waits : Bytes) (t u v : S) → v ≡ u → IsEndedBy why m part waits t u → IsEndedBy why m part waits t v
ended_still why m part waits t u v e end = subst (λ u. IsEndedBy why m part waits t u) (sym e) end
