-- What is done for the lines of a live host survives a stop at any moment.
use Rattle.std.proofs.Common.{◌≡◌, ◌∙◌, ℕ, ◌+◌, Bool, true, List, [], ◌∷◌, ◌++◌, length, refl, sym, ap, ap₂, subst, arith, append_assoc, length-append, inl, inr}
use Rattle.std.specs.Prelude.{◌&&◌, ◌⊎◌}
use Rattle.std.specs.List.{list_all}
use Rattle.std.proofs.lemmas.List.{append-nil}
use Rattle.std.proofs.lemmas.List.Folds.{list_all-append}
use Rattle.line_script.specs.Script.{Bytes, lines_with_feeds, has_no_feed}
use Rattle.live_feed.specs.WholeLines.{given, is_whole_line}
use Rattle.live_feed.specs.Served.{EmptyLinesAreSkipped, KeptLinesAreWhole, LineReply, OnlyKeptLinesCount, ServesAll, Serving, journal_line}
use Rattle.live_feed.specs.Served.ServesAll.{none}
use Rattle.live_feed.specs.Acts.{Act, Disk, MayLeave, Tears, disk_after, lines_run, settled, told_by}
use Rattle.live_feed.specs.Acts.Act.{Synced, Told, Wrote}
use Rattle.live_feed.specs.Hosted.{Hosts, Survives, SurvivesStops}
use Rattle.live_feed.specs.Hosted.Hosts.{begins, serves_line, tells, writes_part}
use Rattle.live_feed.proofs.LineLaws.{one_line_more}
use Rattle.live_feed.proofs.RunLaws.{BeginningRuns, beginning_runs, runs_front, same_front}
use Rattle.live_feed.proofs.ServesLaws.{ServesFirst, plain_journal_line, replays, serves_both, serves_first, serves_more}

-- ---- what was done, one behind the other

pub told_both : (xs ys : List Act) → told_by (xs ++ ys) ≡ told_by xs ++ told_by ys
told_both [] ys = refl
told_both (Wrote bytes ∷ xs) ys = told_both xs ys
told_both (Synced ∷ xs) ys = told_both xs ys
told_both (Told text ∷ xs) ys = ap (λ more. text ++ more) (told_both xs ys) ∙ sym (append_assoc text (told_by xs) (told_by ys))

disk_both : (d : Disk) (xs ys : List Act) → disk_after d (xs ++ ys) ≡ disk_after (disk_after d xs) ys
disk_both d [] ys = refl
disk_both d (Wrote bytes ∷ xs) ys = disk_both (record d { tail = d.tail ++ bytes }) xs ys
disk_both d (Synced ∷ xs) ys = disk_both (settled (d.safe ++ d.tail)) xs ys
disk_both d (Told text ∷ xs) ys = disk_both d xs ys

feeds_both : (xs ys : List Bytes) → lines_with_feeds (xs ++ ys) ≡ lines_with_feeds xs ++ lines_with_feeds ys
feeds_both [] ys = refl
feeds_both (line ∷ xs) ys =
    ap (λ rest. line ++ 10 ∷ rest) (feeds_both xs ys) ∙ sym (append_assoc line (10 ∷ lines_with_feeds xs) (lines_with_feeds ys))

-- a beginning of what was done, last of all this, is a beginning of what was done before, or all of it
abbrev acts_behind : List Act → List Act
acts_behind [] = []
acts_behind (b ∷ bs) = bs

abbrev first_act : Act → List Act → Act
first_act a [] = a
first_act a (b ∷ bs) = b

one_act_more : (xs : List Act) (y x d : Act) (done : List Act) → x ≡ d → ((rest : List Act) × (xs ≡ done ++ rest)) ⊎ (done ≡ xs ++ y ∷ [])
    → ((rest : List Act) × (x ∷ xs ≡ d ∷ (done ++ rest))) ⊎ (d ∷ done ≡ x ∷ (xs ++ y ∷ []))
one_act_more xs y x d done same (inl r) = inl (r.0, ap₂ (λ a more. a ∷ more) same r.1)
one_act_more xs y x d done same (inr r) = inr (ap₂ (λ a more. a ∷ more) (sym same) r)

split_last : (xs : List Act) (y : Act) (done left : List Act) → xs ++ y ∷ [] ≡ done ++ left
    → ((rest : List Act) × (xs ≡ done ++ rest)) ⊎ (done ≡ xs ++ y ∷ [])
split_last xs y [] left e = inl (xs, refl)
split_last [] y (d ∷ []) left e = inr (ap (λ a. a ∷ []) (sym (ap (first_act y) e)))
split_last [] y (d ∷ c ∷ done) left e = cc
split_last (x ∷ xs) y (d ∷ done) left e = one_act_more xs y x d done (ap (first_act x) e) (split_last xs y done left (ap acts_behind e))

-- ---- one moment

-- When these were done, these lines had been served: of the first ones all is told, and on the disk; of the next ones
-- nothing is told. What the file has behind the first ones is the next ones, and a part of a line.
record Moment {S : Type 0} (serves : Serving S) (longest : ℕ) (s : S) (n : ℕ) (before lines : List Bytes) (done : List Act)
    (part waits : Bytes) (t : S) : Type 0 where
  first : List Bytes
  next : List Bytes
  journal : List Bytes
  more : List Bytes
  now : S
  extra : Bytes
  parts : lines ≡ first ++ next
  told : ServesAll serves longest s n first journal (told_by done) now
  untold : ServesAll serves longest now (n + length first) next more waits t
  plain : list_all is_whole_line journal ≡ true
  plain_more : list_all is_whole_line more ≡ true
  plain_part : has_no_feed part ≡ true
  safe : (disk_after (settled (lines_with_feeds before)) done).safe ≡ lines_with_feeds before ++ (lines_with_feeds journal ++ extra)
  tail : extra ++ (disk_after (settled (lines_with_feeds before)) done).tail ≡ lines_with_feeds more ++ part

at_first : {S : Type 0} (serves : Serving S) (longest : ℕ) (s : S) (n : ℕ) (before : List Bytes) → Moment serves longest s n before [] [] [] [] s
at_first serves longest s n before = record {
  first = [];
  next = [];
  journal = [];
  more = [];
  now = s;
  extra = [];
  parts = refl;
  told = none;
  untold = none;
  plain = refl;
  plain_more = refl;
  plain_part = refl;
  safe = sym (append-nil (lines_with_feeds before));
  tail = refl;
}

-- nothing more was told
untold_more : (done : List Act) (a : Act) → told_by (a ∷ []) ≡ [] → told_by (done ++ a ∷ []) ≡ told_by done
untold_more done a e = told_both done (a ∷ []) ∙ ap (λ more. told_by done ++ more) e ∙ append-nil (told_by done)

list_all_both : (xs ys : List Bytes) → list_all is_whole_line xs ≡ true → list_all is_whole_line ys ≡ true → list_all is_whole_line (xs ++ ys) ≡ true
list_all_both xs ys e f = list_all-append is_whole_line xs ys ∙ ap₂ (λ (x y : Bool). x && y) e f

-- bytes were written behind the others
safe_stays : (d : Disk) (done : List Act) (bytes : Bytes) → (disk_after d (done ++ Wrote bytes ∷ [])).safe ≡ (disk_after d done).safe
safe_stays d done bytes = ap (λ (x : Disk). x.safe) (disk_both d done (Wrote bytes ∷ []))

tail_grows : (d : Disk) (done : List Act) (bytes : Bytes) → (disk_after d (done ++ Wrote bytes ∷ [])).tail ≡ (disk_after d done).tail ++ bytes
tail_grows d done bytes = ap (λ (x : Disk). x.tail) (disk_both d done (Wrote bytes ∷ []))

line_served : {S : Type 0} (serves : Serving S) (longest : ℕ) → KeptLinesAreWhole serves → (s : S) (n : ℕ) (before lines : List Bytes) (done : List Act) (waits : Bytes) (t u : S) (line : Bytes) (a : LineReply)
    → has_no_feed line ≡ true → serves t (n + length lines) (given longest line) a u → Moment serves longest s n before lines done [] waits t
    → Moment serves longest s n before (lines ++ line ∷ []) (done ++ Wrote (journal_line (given longest line) a ++ 10 ∷ []) ∷ []) [] (waits ++ a.text) u
line_served {S} serves longest whole s n before lines done waits t u line a plain one m = record {
  first = m.first;
  next = m.next ++ line ∷ [];
  journal = m.journal;
  more = m.more ++ l ∷ [];
  now = m.now;
  extra = m.extra;
  parts = ap (λ ls. ls ++ line ∷ []) m.parts ∙ append_assoc m.first m.next (line ∷ []);
  told = subst (λ text. ServesAll serves longest s n m.first m.journal text m.now) (sym (untold_more done (Wrote written) refl)) m.told;
  untold = serves_more serves longest m.now t u (n + length m.first) m.next m.more waits line a m.untold (subst (λ (k : ℕ). serves t k (given longest line) a u) place one);
  plain = m.plain;
  plain_more = list_all_both m.more (l ∷ []) m.plain_more (ap (λ (x : Bool). x && true) (plain_journal_line serves longest whole t u (n + length lines) line a plain one));
  plain_part = refl;
  safe = safe_stays d0 done written ∙ m.safe;
  tail = ap (λ x. m.extra ++ x) (tail_grows d0 done written) ∙ sym (append_assoc m.extra (disk_after d0 done).tail written)
      ∙ ap (λ x. x ++ written) (m.tail ∙ append-nil (lines_with_feeds m.more)) ∙ sym (one_line_more m.more l) ∙ sym (append-nil (lines_with_feeds (m.more ++ l ∷ [])));
}
  where
    l : Bytes
    l = journal_line (given longest line) a

    written : Bytes
    written = l ++ 10 ∷ []

    d0 : Disk
    d0 = settled (lines_with_feeds before)

    place : n + length lines ≡ n + length m.first + length m.next
    place = omega (arith, ap (λ (ls : List Bytes). length ls) m.parts, length-append m.first m.next)

part_written : {S : Type 0} (serves : Serving S) (longest : ℕ) (s : S) (n : ℕ) (before lines : List Bytes) (done : List Act) (part waits : Bytes) (t : S)
    → has_no_feed part ≡ true → Moment serves longest s n before lines done [] waits t → Moment serves longest s n before lines (done ++ Wrote part ∷ []) part waits t
part_written serves longest s n before lines done part waits t plain m = record {
  first = m.first;
  next = m.next;
  journal = m.journal;
  more = m.more;
  now = m.now;
  extra = m.extra;
  parts = m.parts;
  told = subst (λ text. ServesAll serves longest s n m.first m.journal text m.now) (sym (untold_more done (Wrote part) refl)) m.told;
  untold = m.untold;
  plain = m.plain;
  plain_more = m.plain_more;
  plain_part = plain;
  safe = safe_stays d0 done part ∙ m.safe;
  tail = ap (λ x. m.extra ++ x) (tail_grows d0 done part) ∙ sym (append_assoc m.extra (disk_after d0 done).tail part)
      ∙ ap (λ x. x ++ part) (m.tail ∙ append-nil (lines_with_feeds m.more));
}
  where
    d0 : Disk
    d0 = settled (lines_with_feeds before)

synced : {S : Type 0} (serves : Serving S) (longest : ℕ) (s : S) (n : ℕ) (before lines : List Bytes) (done : List Act) (part waits : Bytes) (t : S)
    → Moment serves longest s n before lines done part waits t → Moment serves longest s n before lines (done ++ Synced ∷ []) part waits t
synced serves longest s n before lines done part waits t m = record {
  first = m.first;
  next = m.next;
  journal = m.journal;
  more = m.more;
  now = m.now;
  extra = m.extra ++ d.tail;
  parts = m.parts;
  told = subst (λ text. ServesAll serves longest s n m.first m.journal text m.now) (sym (untold_more done Synced refl)) m.told;
  untold = m.untold;
  plain = m.plain;
  plain_more = m.plain_more;
  plain_part = m.plain_part;
  safe = ap (λ (x : Disk). x.safe) (disk_both d0 done (Synced ∷ [])) ∙ ap (λ x. x ++ d.tail) m.safe
      ∙ append_assoc (lines_with_feeds before) (lines_with_feeds m.journal ++ m.extra) d.tail
      ∙ ap (λ x. lines_with_feeds before ++ x) (append_assoc (lines_with_feeds m.journal) m.extra d.tail);
  tail = ap (λ (x : Disk). (m.extra ++ d.tail) ++ x.tail) (disk_both d0 done (Synced ∷ [])) ∙ append-nil (m.extra ++ d.tail) ∙ m.tail;
}
  where
    d0 : Disk
    d0 = settled (lines_with_feeds before)

    d : Disk
    d = disk_after d0 done

told_now : {S : Type 0} (serves : Serving S) (longest : ℕ) (s : S) (n : ℕ) (before lines : List Bytes) (done : List Act) (part waits : Bytes) (t : S)
    → (disk_after (settled (lines_with_feeds before)) done).tail ≡ [] → Moment serves longest s n before lines done part waits t
    → Moment serves longest s n before lines (done ++ Told waits ∷ []) part [] t
told_now serves longest s n before lines done part waits t all m = record {
  first = m.first ++ m.next;
  next = [];
  journal = m.journal ++ m.more;
  more = [];
  now = t;
  extra = part;
  parts = m.parts ∙ sym (append-nil (m.first ++ m.next));
  told = subst (λ text. ServesAll serves longest s n (m.first ++ m.next) (m.journal ++ m.more) text t) (sym told_text)
      (serves_both serves longest s m.now t n m.first m.next m.journal m.more (told_by done) waits m.told m.untold);
  untold = none;
  plain = list_all_both m.journal m.more m.plain m.plain_more;
  plain_more = refl;
  plain_part = m.plain_part;
  safe = ap (λ (x : Disk). x.safe) (disk_both d0 done (Told waits ∷ [])) ∙ m.safe ∙ ap (λ x. lines_with_feeds before ++ x) behind;
  tail = ap (λ (x : Disk). part ++ x.tail) (disk_both d0 done (Told waits ∷ [])) ∙ ap (λ x. part ++ x) all ∙ append-nil part;
}
  where
    d0 : Disk
    d0 = settled (lines_with_feeds before)

    told_text : told_by (done ++ Told waits ∷ []) ≡ told_by done ++ waits
    told_text = told_both done (Told waits ∷ []) ∙ ap (λ x. told_by done ++ x) (append-nil waits)

    extra_is : m.extra ≡ lines_with_feeds m.more ++ part
    extra_is = sym (append-nil m.extra) ∙ ap (λ x. m.extra ++ x) (sym all) ∙ m.tail

    behind : lines_with_feeds m.journal ++ m.extra ≡ lines_with_feeds (m.journal ++ m.more) ++ part
    behind = ap (λ x. lines_with_feeds m.journal ++ x) extra_is ∙ sym (append_assoc (lines_with_feeds m.journal) (lines_with_feeds m.more) part)
        ∙ ap (λ x. x ++ part) (sym (feeds_both m.journal m.more))

nothing_behind_sync : (d : Disk) (done : List Act) → (disk_after d (done ++ Synced ∷ [])).tail ≡ []
nothing_behind_sync d done = ap (λ (x : Disk). x.tail) (disk_both d done (Synced ∷ []))

-- ---- all moments

whole_moment : {S : Type 0} (serves : Serving S) (longest : ℕ) → KeptLinesAreWhole serves → (s : S) (n : ℕ) (before lines : List Bytes) (acts : List Act) (part waits : Bytes) (t : S)
    → Hosts serves longest s n lines acts part waits t → Moment serves longest s n before lines acts part waits t
whole_moment serves longest whole s n before lines acts part waits t begins = at_first serves longest s n before
whole_moment serves longest whole s n before lines acts part waits t (serves_line {lines = ls} {acts = earlier} {waits = ws} {t = m} line a h plain one) =
    line_served serves longest whole s n before ls earlier ws m t line a plain one (whole_moment serves longest whole s n before ls earlier [] ws m h)
whole_moment serves longest whole s n before lines acts part waits t (writes_part {acts = earlier} p h plain) =
    part_written serves longest s n before lines earlier p waits t plain (whole_moment serves longest whole s n before lines earlier [] waits t h)
whole_moment serves longest whole s n before lines acts part waits t (tells {acts = earlier} {waits = ws} h) =
    told_now serves longest s n before lines (earlier ++ Synced ∷ []) part ws t (nothing_behind_sync (settled (lines_with_feeds before)) earlier)
    (synced serves longest s n before lines earlier part ws t (whole_moment serves longest whole s n before lines earlier part ws t h))

-- when these were done, a beginning of the lines had been served
record SomeMoment {S : Type 0} (serves : Serving S) (longest : ℕ) (s : S) (n : ℕ) (before lines : List Bytes) (done : List Act) : Type 0 where
  served : List Bytes
  rest : List Bytes
  part : Bytes
  waits : Bytes
  left : S
  parts : lines ≡ served ++ rest
  moment : Moment serves longest s n before served done part waits left

some_moment : {S : Type 0} (serves : Serving S) (longest : ℕ) (s : S) (n : ℕ) (before lines : List Bytes) (done : List Act) (part waits : Bytes) (t : S)
    → Moment serves longest s n before lines done part waits t → SomeMoment serves longest s n before lines done
some_moment serves longest s n before lines done part waits t m = record {
  served = lines;
  rest = [];
  part = part;
  waits = waits;
  left = t;
  parts = sym (append-nil lines);
  moment = m;
}

with_line : {S : Type 0} (serves : Serving S) (longest : ℕ) (s : S) (n : ℕ) (before lines : List Bytes) (done : List Act) (line : Bytes)
    → SomeMoment serves longest s n before lines done → SomeMoment serves longest s n before (lines ++ line ∷ []) done
with_line serves longest s n before lines done line m = record {
  served = m.served;
  rest = m.rest ++ line ∷ [];
  part = m.part;
  waits = m.waits;
  left = m.left;
  parts = ap (λ ls. ls ++ line ∷ []) m.parts ∙ append_assoc m.served m.rest (line ∷ []);
  moment = m.moment;
}

-- it is one of those before, or this one
by_last : {S : Type 0} (serves : Serving S) (longest : ℕ) (s : S) (n : ℕ) (before lines : List Bytes) (xs : List Act) (y : Act) (done : List Act)
    → SomeMoment serves longest s n before lines (xs ++ y ∷ []) → ((rest : List Act) → xs ≡ done ++ rest → SomeMoment serves longest s n before lines done)
    → ((rest : List Act) × (xs ≡ done ++ rest)) ⊎ (done ≡ xs ++ y ∷ []) → SomeMoment serves longest s n before lines done
by_last serves longest s n before lines xs y done all earlier (inl r) = earlier r.0 r.1
by_last serves longest s n before lines xs y done all earlier (inr r) = subst (λ x. SomeMoment serves longest s n before lines x) (sym r) all

each_moment : {S : Type 0} (serves : Serving S) (longest : ℕ) → KeptLinesAreWhole serves → (s : S) (n : ℕ) (before lines : List Bytes) (acts : List Act) (part waits : Bytes) (t : S)
    → Hosts serves longest s n lines acts part waits t → (done left : List Act) → acts ≡ done ++ left → SomeMoment serves longest s n before lines done
each_moment serves longest whole s n before lines acts part waits t begins [] left e = some_moment serves longest s n before [] [] [] [] s (at_first serves longest s n before)
each_moment serves longest whole s n before lines acts part waits t begins (d ∷ done) left e = cc
each_moment serves longest whole s n before lines acts part waits t (serves_line {lines = ls} {acts = earlier} {waits = ws} {t = m} line a h plain one) done left e =
    let now = Wrote (journal_line (given longest line) a ++ 10 ∷ []) in
    by_last serves longest s n before (ls ++ line ∷ []) earlier now done
    (some_moment serves longest s n before (ls ++ line ∷ []) (earlier ++ now ∷ []) [] (ws ++ a.text) t
    (line_served serves longest whole s n before ls earlier ws m t line a plain one (whole_moment serves longest whole s n before ls earlier [] ws m h)))
    (λ rest f. with_line serves longest s n before ls done line (each_moment serves longest whole s n before ls earlier [] ws m h done rest f))
    (split_last earlier now done left e)
each_moment serves longest whole s n before lines acts part waits t (writes_part {acts = earlier} p h plain) done left e =
    by_last serves longest s n before lines earlier (Wrote p) done
    (some_moment serves longest s n before lines (earlier ++ Wrote p ∷ []) p waits t
    (part_written serves longest s n before lines earlier p waits t plain (whole_moment serves longest whole s n before lines earlier [] waits t h)))
    (λ rest f. each_moment serves longest whole s n before lines earlier [] waits t h done rest f)
    (split_last earlier (Wrote p) done left e)
each_moment serves longest whole s n before lines acts part waits t (tells {acts = earlier} {waits = ws} h) done left e =
    let safe = synced serves longest s n before lines earlier part ws t (whole_moment serves longest whole s n before lines earlier part ws t h) in
    by_last serves longest s n before lines (earlier ++ Synced ∷ []) (Told ws) done
    (some_moment serves longest s n before lines ((earlier ++ Synced ∷ []) ++ Told ws ∷ []) part [] t
    (told_now serves longest s n before lines (earlier ++ Synced ∷ []) part ws t (nothing_behind_sync (settled (lines_with_feeds before)) earlier) safe))
    (λ rest f. by_last serves longest s n before lines earlier Synced done (some_moment serves longest s n before lines (earlier ++ Synced ∷ []) part ws t safe)
    (λ more g. each_moment serves longest whole s n before lines earlier part ws t h done more g) (split_last earlier Synced done rest f))
    (split_last (earlier ++ Synced ∷ []) (Told ws) done left e)

-- ---- what a start runs

survives_moment : {S : Type 0} (serves : Serving S) (longest : ℕ) → OnlyKeptLinesCount serves → EmptyLinesAreSkipped serves
    → (s : S) (n : ℕ) (before lines rest : List Bytes) (done : List Act) (part waits : Bytes) (t : S) (file : Bytes)
    → list_all is_whole_line before ≡ true → Moment serves longest s n before lines done part waits t
    → MayLeave (disk_after (settled (lines_with_feeds before)) done) file → Survives serves longest s n before (lines ++ rest) done file
survives_moment {S} serves longest only skipped s n before lines rest done part waits t file plain m left = by run
  where
    d : Disk
    d = disk_after (settled (lines_with_feeds before)) done

    behind : Bytes
    behind = m.extra ++ left.0

    tears : Tears (lines_with_feeds m.more ++ part) behind
    tears = subst (λ bytes. Tears bytes behind) m.tail (same_front m.extra d.tail left.0 left.2)

    run : BeginningRuns m.more behind
    run = beginning_runs m.more part behind m.plain_more m.plain_part tears

    file_is : file ≡ lines_with_feeds before ++ (lines_with_feeds m.journal ++ behind)
    file_is = left.1 ∙ ap (λ x. x ++ left.0) m.safe ∙ append_assoc (lines_with_feeds before) (lines_with_feeds m.journal ++ m.extra) left.0
        ∙ ap (λ x. lines_with_feeds before ++ x) (append_assoc (lines_with_feeds m.journal) m.extra left.0)

    with_first : (b : BeginningRuns m.more behind) → ServesFirst serves longest m.now (n + length m.first) m.next b.run
        → Survives serves longest s n before (lines ++ rest) done file
    with_first b f =
        let both = serves_both serves longest s m.now f.left n m.first f.first m.journal b.run (told_by done) f.text m.told f.served in
        let replayed = replays serves longest only skipped s f.left n (m.first ++ f.first) (m.journal ++ b.run) (told_by done ++ f.text) both in
        record {
          first = m.first;
          next = f.first;
          rest = f.rest ++ rest;
          journal = m.journal;
          more = b.run;
          text = f.text;
          again = replayed.text;
          now = m.now;
          later = f.left;
          parts = ap (λ ls. ls ++ rest) m.parts ∙ append_assoc m.first m.next rest ∙ ap (λ ls. m.first ++ (ls ++ rest)) f.parts ∙ ap (λ ls. m.first ++ ls) (append_assoc f.first f.rest rest);
          told = m.told;
          untold = f.served;
          runs = ap lines_run file_is ∙ runs_front before (lines_with_feeds m.journal ++ behind) plain
              ∙ ap (λ ls. before ++ ls) (runs_front m.journal behind m.plain ∙ ap (λ ls. m.journal ++ ls) b.runs);
          replays = replayed.served;
        }

    by : BeginningRuns m.more behind → Survives serves longest s n before (lines ++ rest) done file
    by b = with_first b (serves_first serves longest m.now t (n + length m.first) m.next m.more waits b.run b.lost m.untold b.parts)

pub survives : {S : Type 0} (serves : Serving S) (longest : ℕ) → OnlyKeptLinesCount serves → EmptyLinesAreSkipped serves → KeptLinesAreWhole serves
    → (s : S) (n : ℕ) (lines : List Bytes) (acts : List Act) (part waits : Bytes) (t : S)
    → Hosts serves longest s n lines acts part waits t → SurvivesStops serves longest s n lines acts
survives {S} serves longest only skipped whole s n lines acts part waits t h before plain done left e file may =
    by (each_moment serves longest whole s n before lines acts part waits t h done left e)
  where
    by : SomeMoment serves longest s n before lines done → Survives serves longest s n before lines done file
    by m = subst (λ ls. Survives serves longest s n before ls done file) (sym m.parts)
        (survives_moment serves longest only skipped s n before m.served m.rest done m.part m.waits m.left file plain m.moment may)
