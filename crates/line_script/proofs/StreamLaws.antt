-- A script that is run as it is read.
use Rattle.std.proofs.Common.{◌≡◌, ◌≢◌, ◌∙◌, ℕ, ◌+◌, ◌-◌, ◌<◌, ◌≤◌, Bool, true, false, cond, [], ◌∷◌, ◌++◌, All, length, take, drop, get_or, refl, sym, ap, subst, arith, append_assoc, take_all, ne_eqb, inl, inr, length-append, take-append-drop}
use Rattle.std.specs.Prelude.{◌==◌, Option, Some, None, Result, Ok, Err, IfSome, option_map}
use Rattle.std.specs.List.{enumerate_from}
use Rattle.std.proofs.lemmas.List.{take_more, length-take}
use Rattle.std.proofs.lemmas.List.Elements.{All-head, All-tail, All-push, All-nil}
use Rattle.std.proofs.lemmas.Bool.Decides.{nat_tests}
use Rattle.std.specs.Io.{StopsAt}
use Rattle.std.specs.Io.BufRead.{ends_with_byte, strip_last, take_through}
use Rattle.std.specs.Io.KnownBytes.{Appends, Keeps, Consumes, IsAtEnd}
use Rattle.std.proofs.BufReadLemmas.{take_through-append, take_through-nil}
use Rattle.line_script.specs.Script.{Bytes, text_with_last_feed, lines_of, numbered_lines}
use Rattle.line_script.specs.Runs.{Telling, Refusing, Passes, Runs, HasRun, HasRunLine}
use Rattle.line_script.specs.Streams.{IsNext, IsWhole, IsFrontOf, HasRunFront, HasRunRead, HasRunStream}
use Rattle.line_script.proofs.RunLaws.{append_nothing, appends_nothing, appends_both, appends_kept}
use Rattle.line_script.proofs.ScriptLemmas.{lines_are_lines}
use Rattle.line_script.specs.Stops.{stop_of_read}
use Rattle.line_script.specs.declared.input.ReadError.{ReadError}
use Rattle.line_script.specs.declared.input.ReadError.TheVariants as read
use Rattle.line_script.specs.declared.run.Stop.{Stop}
use Rattle.line_script.specs.declared.run.Stop.TheVariants as stop

-- ---- lines

abbrev NoFeed : Bytes → Type 0
NoFeed xs = All (λ x. x ≢ 10) xs

pub closed_feed : (xs : Bytes) → text_with_last_feed (xs ++ 10 ∷ []) ≡ xs ++ 10 ∷ []
closed_feed [] = refl
closed_feed (b ∷ []) = refl
closed_feed (b ∷ c ∷ more) = ap (λ xs. b ∷ xs) (closed_feed (c ∷ more))

pub lines_feed : (line rest : Bytes) → NoFeed line → lines_of (line ++ 10 ∷ rest) ≡ line ∷ lines_of rest
lines_feed [] rest h = refl
lines_feed (b ∷ more) rest h =
    let other : (b == 10) ≡ false = ne_eqb b 10 (All-head (λ x. x ≢ 10) b more h) in
    rw (other, lines_feed more rest (All-tail (λ x. x ≢ 10) b more h)) refl

pub lines_last : (line : Bytes) → 0 < length line → NoFeed line → lines_of line ≡ line ∷ []
lines_last [] some h = absurd (omega arith)
lines_last (b ∷ []) some h =
    let other : (b == 10) ≡ false = ne_eqb b 10 (All-head (λ x. x ≢ 10) b [] h) in rw other refl
lines_last (b ∷ c ∷ more) some h =
    let other : (b == 10) ≡ false = ne_eqb b 10 (All-head (λ x. x ≢ 10) b (c ∷ more) h) in
    rw (other, lines_last (c ∷ more) (omega arith) (All-tail (λ x. x ≢ 10) b (c ∷ more) h)) refl

pub in_two : (xs : Bytes) → 0 < length xs → xs ≡ take (length xs - 1) xs ++ get_or xs (length xs - 1) 0 ∷ []
in_two xs some = sym (take_all (length xs - 1 + 1) xs (omega arith)) ∙ take_more xs (length xs - 1) 0 (omega arith)

ends_last : (xs : Bytes) → ends_with_byte 10 xs ≡ true → get_or xs (length xs - 1) 0 ≡ 10
ends_last xs e = grind (arith, nat_tests)

ends_some : (xs : Bytes) → ends_with_byte 10 xs ≡ true → 0 < length xs
ends_some xs e = grind (arith, nat_tests)

no_end_last : (xs : Bytes) → 0 < length xs → ends_with_byte 10 xs ≡ false → get_or xs (length xs - 1) 0 ≢ 10
no_end_last xs some e is = grind (arith, nat_tests)

-- bytes that end with a line feed are the line and the feed
pub fed : (xs : Bytes) → ends_with_byte 10 xs ≡ true → xs ≡ strip_last 10 xs ++ 10 ∷ []
fed xs e =
    let some = ends_some xs e in
    in_two xs some ∙ ap (λ x. take (length xs - 1) xs ++ x ∷ []) (ends_last xs e) ∙ ap (λ (ends : Bool). cond ends (take (length xs - 1) xs) xs ++ 10 ∷ []) (sym e)

pub fed_line : (xs : Bytes) → ends_with_byte 10 xs ≡ true → StopsAt xs 10 → NoFeed (strip_last 10 xs)
fed_line xs e stops = subst (λ (ends : Bool). NoFeed (cond ends (take (length xs - 1) xs) xs)) (sym e) stops

pub unfed : (xs : Bytes) → ends_with_byte 10 xs ≡ false → strip_last 10 xs ≡ xs
unfed xs e = ap (λ (ends : Bool). cond ends (take (length xs - 1) xs) xs) e

-- bytes that do not end with a line feed have none
unfed_some : (xs : Bytes) → 0 < length xs → ends_with_byte 10 xs ≡ false → StopsAt xs 10 → NoFeed xs
unfed_some xs some e stops =
    subst NoFeed (sym (in_two xs some)) (All-push (λ x. x ≢ 10) (take (length xs - 1) xs) (get_or xs (length xs - 1) 0) stops (no_end_last xs some e))

pub unfed_line : (xs : Bytes) → ends_with_byte 10 xs ≡ false → StopsAt xs 10 → NoFeed xs
unfed_line [] e stops = All-nil (λ x. x ≢ 10)
unfed_line (x ∷ xs) e stops = unfed_some (x ∷ xs) (omega arith) e stops

whole_next : (front bytes : Bytes) → ends_with_byte 10 bytes ≡ true → IsWhole (front ++ bytes)
whole_next front bytes ends =
    let line = strip_last 10 bytes in
    let moved : front ++ bytes ≡ (front ++ line) ++ 10 ∷ [] = ap (λ xs. front ++ xs) (fed bytes ends) ∙ sym (append_assoc front line (10 ∷ [])) in
    subst IsWhole (sym moved) (closed_feed (front ++ line))

-- ---- what is read next

pub at_end : (old new : Option Bytes) (bytes : Bytes) → Consumes old new bytes → IfSome old (λ xs. bytes ≡ take_through 10 xs) → StopsAt bytes 10
    → ends_with_byte 10 bytes ≡ false → IfSome old (λ _. IsAtEnd new)
at_end None new bytes c e stops unended = tt
at_end (Some xs) None bytes c e stops unended = absurd c
at_end (Some xs) (Some ys) bytes c e stops unended =
    let through : bytes ≡ bytes ++ take_through 10 ys = e ∙ ap (take_through 10) c ∙ take_through-append 10 bytes ys (unfed_line bytes unended stops) in
    take_through-nil 10 ys (omega (arith, ap length through, length-append bytes (take_through 10 ys)))

-- what was read is more than there is room for, so what was left is too
pub too_much : (old new : Option Bytes) (start bytes : Bytes) (room : ℕ) → start ≡ [] → Consumes old new (drop (length start) bytes) → room < length bytes → IfSome old (λ left. room < length left)
too_much None new start bytes room empty c over = tt
too_much (Some xs) None start bytes room empty c over = absurd c
too_much (Some xs) (Some ys) [] bytes room empty c over = omega (arith, over, ap length c, length-append bytes ys)
too_much (Some xs) (Some ys) (x ∷ start) bytes room empty c over = cc

pub next_read : (old new : Option Bytes) (start bytes : Bytes) → start ≡ [] → Consumes old new (drop (length start) bytes) → StopsAt (drop (length start) bytes) 10
    → IfSome old (λ xs. bytes ≡ start ++ take_through 10 xs) → IsNext old new bytes
next_read old new [] bytes empty c stops e = record { consumed = c; one = stops; last = λ unended. at_end old new bytes c e stops unended }
next_read old new (x ∷ start) bytes empty c stops e = cc

-- ---- a run so far

-- the lines of a front were run, and what is left completes the run of the whole
pub record Streams {S : Type 0} (limit : ℕ) (tells : Telling S) (refuses : Refusing S) (s : S) (script now old new : Option Bytes) (t : S) (number room : ℕ) : Type 0 where
  pub front : Bytes
  pub so_far : Bytes
  pub consumed : Consumes script now front
  pub whole : IsWhole front
  pub written : Appends old new so_far
  pub fits : room + length front ≡ limit
  pub counted : number + room ≤ limit + 1
  pub goes_on : (rest others : Bytes) (end : Result (Unit {0}) Stop) (u : S) → Runs tells refuses t (numbered_lines (number, rest)) others end u
      → Runs tells refuses s (enumerate_from 1 (lines_of (front ++ rest))) (so_far ++ others) end u

consumed_nothing : (script : Option Bytes) → Consumes script script []
consumed_nothing None = tt
consumed_nothing (Some xs) = refl

consumed_both : (script mid now : Option Bytes) (xs ys : Bytes) → Consumes script mid xs → Consumes mid now ys → Consumes script now (xs ++ ys)
consumed_both None mid now xs ys a b = tt
consumed_both (Some s) None now xs ys a b = absurd a
consumed_both (Some s) (Some m) None xs ys a b = absurd b
consumed_both (Some s) (Some m) (Some n) xs ys a b = a ∙ ap (λ zs. xs ++ zs) b ∙ sym (append_assoc xs ys n)

pub starts : {S : Type 0} (limit : ℕ) (tells : Telling S) (refuses : Refusing S) (s : S) (script out : Option Bytes) → Streams limit tells refuses s script script out out s 1 limit
starts limit tells refuses s script out = record {
  front = [];
  so_far = [];
  consumed = consumed_nothing script;
  whole = refl;
  written = appends_nothing out;
  fits = omega arith;
  counted = omega arith;
  goes_on = λ rest others end u runs. runs;
}

pub one_more : {S : Type 0} (limit : ℕ) (tells : Telling S) (refuses : Refusing S) (s : S) (script mid now old kept new : Option Bytes) (t u : S) (number room : ℕ) (bytes written : Bytes)
    → Streams limit tells refuses s script mid old kept t number room → IsNext mid now bytes → ends_with_byte 10 bytes ≡ true → length bytes ≤ room
    → Passes tells t (strip_last 10 bytes) written u → Appends kept new written
    → Streams limit tells refuses s script now old new u (number + 1) (room - length bytes)
one_more limit tells refuses s script mid now old kept new t u number room bytes written h next ends within passes takes =
    let line = strip_last 10 bytes in
    let cut : bytes ≡ line ++ 10 ∷ [] = fed bytes ends in
    let some : 0 < length bytes = ends_some bytes ends in record {
      front = h.front ++ bytes;
      so_far = h.so_far ++ written;
      consumed = consumed_both script mid now h.front bytes h.consumed next.consumed;
      whole = whole_next h.front bytes ends;
      written = appends_both old kept new h.so_far written h.written takes;
      fits = omega (arith, h.fits, length-append h.front bytes);
      counted = omega (arith, h.counted);
      goes_on = λ rest others end v runs.
          let joined : bytes ++ rest ≡ line ++ 10 ∷ rest = ap (λ xs. xs ++ rest) cut ∙ append_assoc line (10 ∷ []) rest in
          let lines : lines_of (bytes ++ rest) ≡ line ∷ lines_of rest = ap lines_of joined ∙ lines_feed line rest (fed_line bytes ends next.one) in
          let step : Runs tells refuses t (numbered_lines (number, bytes ++ rest)) (written ++ others) end v =
          subst (λ ls. Runs tells refuses t (enumerate_from number ls) (written ++ others) end v) (sym lines) (Runs.next passes runs) in
          subst (λ text. Runs tells refuses s (enumerate_from 1 (lines_of text)) ((h.so_far ++ written) ++ others) end v) (sym (append_assoc h.front bytes rest))
          (subst (λ out. Runs tells refuses s (enumerate_from 1 (lines_of (h.front ++ (bytes ++ rest)))) out end v) (sym (append_assoc h.so_far written others))
          (h.goes_on (bytes ++ rest) (written ++ others) end v step));
    }

-- ---- a run that ends

-- the run of a text that is a front and what was read behind it
ran_to : {S : Type 0} (limit : ℕ) (tells : Telling S) (refuses : Refusing S) (s : S) (script mid old kept new : Option Bytes) (t u : S) (number room : ℕ) (bytes others : Bytes) (end : Result (Unit {0}) Stop)
    → (h : Streams limit tells refuses s script mid old kept t number room) → Runs tells refuses t (numbered_lines (number, bytes)) others end u → Appends kept new others
    → HasRun tells refuses s (h.front ++ bytes) old new end u
ran_to limit tells refuses s script mid old kept new t u number room bytes others end h runs takes = record {
  lines = lines_of (h.front ++ bytes);
  printed = h.so_far ++ others;
  are_lines = lines_are_lines (h.front ++ bytes);
  ran = h.goes_on bytes others end u runs;
  written = appends_both old kept new h.so_far others h.written takes;
}

front_of : (script now : Option Bytes) (text : Bytes) → Consumes script now text → IsWhole text → IfSome script (λ left. IsFrontOf text left)
front_of None now text c w = tt
front_of (Some s) None text c w = absurd c
front_of (Some s) (Some rest) text c w = record { rest = rest; parts = c; whole = inl w }

all_of : (script mid now : Option Bytes) (front bytes : Bytes) → Consumes script mid front → Consumes mid now bytes → IfSome mid (λ _. IsAtEnd now) → IfSome script (λ left. front ++ bytes ≡ left)
all_of None mid now front bytes a b end = tt
all_of (Some s) None now front bytes a b end = absurd a
all_of (Some s) (Some m) None front bytes a b end = absurd b
all_of (Some s) (Some m) (Some n) front bytes a b end = sym (a ∙ ap (λ xs. front ++ xs) (b ∙ ap (λ xs. bytes ++ xs) end ∙ append_nothing bytes))

whole_front : (script : Option Bytes) (text : Bytes) → IfSome script (λ left. text ≡ left) → IfSome script (λ left. IsFrontOf text left)
whole_front None text e = tt
whole_front (Some s) text e = record { rest = []; parts = sym e ∙ sym (append_nothing text); whole = inr refl }

-- the lines were run, and no more can be read
pub front_ran : {S : Type 0} (limit : ℕ) (tells : Telling S) (refuses : Refusing S) (s : S) (script mid old kept : Option Bytes) (t : S) (number room : ℕ)
    → Streams limit tells refuses s script mid old kept t number room → HasRunFront limit tells refuses s script old kept t
front_ran limit tells refuses s script mid old kept t number room h =
    let text = h.front ++ [] in
    let same : text ≡ h.front = append_nothing h.front in (
      h.front,
      front_of script mid h.front h.consumed h.whole,
      omega (arith, h.fits),
      h.whole,
      subst (λ xs. HasRun tells refuses s xs old kept (Ok tt) t) same
          (ran_to limit tells refuses s script mid old kept kept t t number room [] [] (Ok tt) h Runs.ends (appends_nothing kept)),
    )

read_short : {S : Type 0} (limit : ℕ) (tells : Telling S) (refuses : Refusing S) (s : S) (script mid old kept : Option Bytes) (t : S) (number room : ℕ)
    → Streams limit tells refuses s script mid old kept t number room → HasRunRead limit tells refuses s script old kept stop.NoMemory t
read_short limit tells refuses s script mid old kept t number room h = (
  h.front,
  front_of script mid h.front h.consumed h.whole,
  omega (arith, h.fits),
  subst (λ xs. HasRun tells refuses s xs old kept (Err stop.NoMemory) t) (append_nothing h.front)
      (ran_to limit tells refuses s script mid old kept kept t t number room [] [] (Err stop.NoMemory) h Runs.short (appends_nothing kept)),
)

-- more is left than there is room for, so the whole is longer than the limit
past_limit : (limit room : ℕ) (script mid : Option Bytes) (front : Bytes) → room + length front ≡ limit → Consumes script mid front → IfSome mid (λ left. room < length left)
    → IfSome script (λ left. limit < length left)
past_limit limit room None mid front fits c long = tt
past_limit limit room (Some s) None front fits c long = absurd c
past_limit limit room (Some s) (Some rest) front fits c long = omega (arith, fits, long, ap length c, length-append front rest)

-- the next line could not be read
pub not_read : {S : Type 0} (limit : ℕ) (tells : Telling S) (refuses : Refusing S) (s : S) (script mid old kept : Option Bytes) (t : S) (number room : ℕ) (error : ReadError)
    → (error ≡ read.TooLong → IfSome mid (λ left. room < length left)) → Streams limit tells refuses s script mid old kept t number room → HasRunStream limit tells refuses s script old kept (Err (stop_of_read error)) t
not_read limit tells refuses s script mid old kept t number room read.CannotRead long h = front_ran limit tells refuses s script mid old kept t number room h
not_read limit tells refuses s script mid old kept t number room read.TooLong long h = (
  past_limit limit room script mid h.front h.fits h.consumed (long refl),
  front_ran limit tells refuses s script mid old kept t number room h,
)
not_read limit tells refuses s script mid old kept t number room read.NoMemory long h = read_short limit tells refuses s script mid old kept t number room h

lines_next : (bytes : Bytes) (ends : Bool) → ends_with_byte 10 bytes ≡ ends → 0 < length bytes → StopsAt bytes 10 → lines_of bytes ≡ strip_last 10 bytes ∷ []
lines_next bytes true e some stops = ap lines_of (fed bytes e) ∙ lines_feed (strip_last 10 bytes) [] (fed_line bytes e stops)
lines_next bytes false e some stops = lines_last bytes some (unfed_line bytes e stops) ∙ ap (λ line. line ∷ []) (sym (unfed bytes e))

front_next : (script mid now : Option Bytes) (front bytes : Bytes) (ends : Bool) → ends_with_byte 10 bytes ≡ ends → Consumes script mid front → IsNext mid now bytes
    → IfSome script (λ left. IsFrontOf (front ++ bytes) left)
front_next script mid now front bytes true e c next = front_of script now (front ++ bytes) (consumed_both script mid now front bytes c next.consumed) (whole_next front bytes e)
front_next script mid now front bytes false e c next = whole_front script (front ++ bytes) (all_of script mid now front bytes c next.consumed (next.last e))

read_to : {S : Type 0} (limit : ℕ) (tells : Telling S) (refuses : Refusing S) (s : S) (script mid now old kept new : Option Bytes) (t u : S) (number room : ℕ) (bytes : Bytes) (why : Stop)
    → Streams limit tells refuses s script mid old kept t number room → IsNext mid now bytes → length bytes ≤ room
    → Runs tells refuses t (numbered_lines (number, bytes)) [] (Err why) u → Keeps kept new → HasRunRead limit tells refuses s script old new why u
read_to limit tells refuses s script mid now old kept new t u number room bytes why h next within runs keeps = (
  h.front ++ bytes,
  front_next script mid now h.front bytes (ends_with_byte 10 bytes) refl h.consumed next,
  omega (arith, h.fits, length-append h.front bytes),
  ran_to limit tells refuses s script mid old kept new t u number room bytes [] (Err why) h runs (appends_kept kept kept new [] (appends_nothing kept) keeps),
)

-- the run ended at the line that was read
pub stopped : {S : Type 0} (limit : ℕ) (tells : Telling S) (refuses : Refusing S) (s : S) (script mid now old kept new : Option Bytes) (t u : S) (number room : ℕ) (bytes : Bytes) (why : Stop)
    → Streams limit tells refuses s script mid old kept t number room → IsNext mid now bytes → length bytes ≤ room → 0 < length bytes
    → HasRunLine tells refuses t number (strip_last 10 bytes) kept new (Err why) u → HasRunStream limit tells refuses s script old new (Err why) u
stopped limit tells refuses s script mid now old kept new t u number room bytes (stop.BadLine m) h next within some ran =
    let lines = lines_next bytes (ends_with_byte 10 bytes) refl some next.one in
    let bad : Runs tells refuses t (numbered_lines (number, bytes)) [] (Err (stop.BadLine m)) u =
    subst (λ ls. Runs tells refuses t (enumerate_from number ls) [] (Err (stop.BadLine m)) u) (sym lines)
    (subst (λ k. Runs tells refuses t ((number, strip_last 10 bytes) ∷ []) [] (Err (stop.BadLine k)) u) (sym ran.0) (Runs.bad ran.1)) in
    read_to limit tells refuses s script mid now old kept new t u number room bytes (stop.BadLine m) h next within bad ran.2
stopped limit tells refuses s script mid now old kept new t u number room bytes stop.NoMemory h next within some ran =
    read_to limit tells refuses s script mid now old kept new t u number room bytes stop.NoMemory h next within Runs.short ran
stopped limit tells refuses s script mid now old kept new t u number room bytes stop.CannotWrite h next within some ran = tt
stopped limit tells refuses s script mid now old kept new t u number room bytes stop.CannotRead h next within some ran = absurd ran
stopped limit tells refuses s script mid now old kept new t u number room bytes stop.TooLong h next within some ran = absurd ran

-- the last line has no line feed
pub ended_unfed : {S : Type 0} (limit : ℕ) (tells : Telling S) (refuses : Refusing S) (s : S) (script mid now old kept new : Option Bytes) (t u : S) (number room : ℕ) (bytes written : Bytes)
    → Streams limit tells refuses s script mid old kept t number room → IsNext mid now bytes → length bytes ≤ room → 0 < length bytes → ends_with_byte 10 bytes ≡ false
    → Passes tells t (strip_last 10 bytes) written u → Appends kept new written → HasRunStream limit tells refuses s script old new (Ok tt) u
ended_unfed limit tells refuses s script mid now old kept new t u number room bytes written h next within some ends passes takes =
    let lines = lines_next bytes false ends some next.one in
    let last : Runs tells refuses t (numbered_lines (number, bytes)) (written ++ []) (Ok tt) u =
    subst (λ ls. Runs tells refuses t (enumerate_from number ls) (written ++ []) (Ok tt) u) (sym lines) (Runs.next passes Runs.ends) in (
      h.front ++ bytes,
      all_of script mid now h.front bytes h.consumed next.consumed (next.last ends),
      omega (arith, h.fits, length-append h.front bytes),
      ran_to limit tells refuses s script mid old kept new t u number room bytes (written ++ []) (Ok tt) h last (subst (λ w. Appends kept new w) (sym (append_nothing written)) takes),
    )

-- nothing is left
pub ended : {S : Type 0} (limit : ℕ) (tells : Telling S) (refuses : Refusing S) (s : S) (script mid now old kept : Option Bytes) (t : S) (number room : ℕ) (bytes : Bytes)
    → Streams limit tells refuses s script mid old kept t number room → IsNext mid now bytes → length bytes ≡ 0 → HasRunStream limit tells refuses s script old kept (Ok tt) t
ended limit tells refuses s script mid now old kept t number room [] h next none = (
  h.front ++ [],
  all_of script mid now h.front [] h.consumed next.consumed (next.last refl),
  omega (arith, h.fits, length-append h.front []),
  ran_to limit tells refuses s script mid old kept kept t t number room [] [] (Ok tt) h Runs.ends (appends_nothing kept),
)
ended limit tells refuses s script mid now old kept t number room (x ∷ bytes) h next none = absurd (omega (arith, none))

-- ---- as the code reads it

pub is_zero : (b : Bool) (n : ℕ) → b ≡ true → b ≡ (n == 0) → n ≡ 0
is_zero b n e test = grind (arith, nat_tests)

pub not_zero : (b : Bool) (n : ℕ) → b ≡ false → b ≡ (n == 0) → 0 < n
not_zero b n e test = grind (arith, nat_tests)

pub next_line : {S : Type 0} (limit : ℕ) (tells : Telling S) (refuses : Refusing S) (s : S) (script mid now old kept new : Option Bytes) (t u : S) (number room left : ℕ) (bytes line written : Bytes)
    → Streams limit tells refuses s script mid old kept t number room → IsNext mid now bytes → length bytes ≤ room → line ≡ strip_last 10 bytes → left ≡ room - length bytes → ends_with_byte 10 bytes ≡ true
    → Passes tells t line written u → Appends kept new written → Streams limit tells refuses s script now old new u (number + 1) left
next_line limit tells refuses s script mid now old kept new t u number room left bytes line written h next within el er ends passes takes =
    subst (λ r. Streams limit tells refuses s script now old new u (number + 1) r) (sym er)
    (one_more limit tells refuses s script mid now old kept new t u number room bytes written h next ends within (subst (λ l. Passes tells t l written u) el passes) takes)

pub stopped_at : {S : Type 0} (limit : ℕ) (tells : Telling S) (refuses : Refusing S) (s : S) (script mid now old kept new : Option Bytes) (t u : S) (number room : ℕ) (bytes line : Bytes) (why : Stop)
    → Streams limit tells refuses s script mid old kept t number room → IsNext mid now bytes → length bytes ≤ room → line ≡ strip_last 10 bytes → 0 < length bytes
    → HasRunLine tells refuses t number line kept new (Err why) u → HasRunStream limit tells refuses s script old new (Err why) u
stopped_at limit tells refuses s script mid now old kept new t u number room bytes line why h next within el some ran =
    stopped limit tells refuses s script mid now old kept new t u number room bytes why h next within some (subst (λ l. HasRunLine tells refuses t number l kept new (Err why) u) el ran)

pub ended_at : {S : Type 0} (limit : ℕ) (tells : Telling S) (refuses : Refusing S) (s : S) (script mid now old kept new : Option Bytes) (t u : S) (number room : ℕ) (bytes line written : Bytes)
    → Streams limit tells refuses s script mid old kept t number room → IsNext mid now bytes → length bytes ≤ room → line ≡ strip_last 10 bytes → 0 < length bytes → ends_with_byte 10 bytes ≡ false
    → Passes tells t line written u → Appends kept new written → HasRunStream limit tells refuses s script old new (Ok tt) u
ended_at limit tells refuses s script mid now old kept new t u number room bytes line written h next within el some ends passes takes =
    ended_unfed limit tells refuses s script mid now old kept new t u number room bytes written h next within some ends (subst (λ l. Passes tells t l written u) el passes) takes

-- ---- a reader with a limit

all_taken : (n : ℕ) (text left : Bytes) → text ≡ take (n + 1) left → length text ≤ n → text ≡ left
all_taken n text left e short = e ∙ take_all (n + 1) left (omega (arith, ap length e, length-take (n + 1) left))

front_taken : (n : ℕ) (text left : Bytes) → length text ≤ n → IsFrontOf text (take (n + 1) left) → IsFrontOf text left
front_taken n text left short h =
    let joined : left ≡ text ++ (h.rest ++ drop (n + 1) left) =
    sym (take-append-drop (n + 1) left) ∙ ap (λ xs. xs ++ drop (n + 1) left) h.parts ∙ append_assoc text h.rest (drop (n + 1) left) in
    elim h.whole [
      | inl whole ↦ record { rest = h.rest ++ drop (n + 1) left; parts = joined; whole = inl whole }
      | inr none ↦
          let same : text ≡ left = all_taken n text left (sym (h.parts ∙ ap (λ xs. text ++ xs) none ∙ append_nothing text)) short in
          record { rest = []; parts = sym same ∙ sym (append_nothing text); whole = inr refl }
    ]

front_limited : (n : ℕ) (script : Option Bytes) (text : Bytes) → length text ≤ n → IfSome (option_map (take (n + 1)) script) (λ left. IsFrontOf text left) → IfSome script (λ left. IsFrontOf text left)
front_limited n None text short h = tt
front_limited n (Some left) text short h = front_taken n text left short h

all_limited : (n : ℕ) (script : Option Bytes) (text : Bytes) → length text ≤ n → IfSome (option_map (take (n + 1)) script) (λ left. text ≡ left) → IfSome script (λ left. text ≡ left)
all_limited n None text short h = tt
all_limited n (Some left) text short h = all_taken n text left h short

past_limited : (n : ℕ) (script : Option Bytes) → IfSome (option_map (take (n + 1)) script) (λ left. n < length left) → IfSome script (λ left. n < length left)
past_limited n None h = tt
past_limited n (Some left) h = omega (arith, h, length-take (n + 1) left)

-- what is said of a reader that gives one byte more than the limit at most holds of the reader that it limits
pub limited_ran : {S : Type 0} (limit : ℕ) (tells : Telling S) (refuses : Refusing S) (s t : S) (script old new : Option Bytes) (end : Result (Unit {0}) Stop)
    → HasRunStream limit tells refuses s (option_map (take (limit + 1)) script) old new end t → HasRunStream limit tells refuses s script old new end t
limited_ran limit tells refuses s t script old new (Ok r) h = (h.0, all_limited limit script h.0 h.2 h.1, h.2, h.3)
limited_ran limit tells refuses s t script old new (Err (stop.BadLine n)) h = (h.0, front_limited limit script h.0 h.2 h.1, h.2, h.3)
limited_ran limit tells refuses s t script old new (Err stop.NoMemory) h = (h.0, front_limited limit script h.0 h.2 h.1, h.2, h.3)
limited_ran limit tells refuses s t script old new (Err stop.CannotWrite) h = tt
limited_ran limit tells refuses s t script old new (Err stop.CannotRead) h = (h.0, front_limited limit script h.0 h.2 h.1, h.2, h.3, h.4)
limited_ran limit tells refuses s t script old new (Err stop.TooLong) h =
    let ran = h.1 in (past_limited limit script h.0, (ran.0, front_limited limit script ran.0 ran.2 ran.1, ran.2, ran.3, ran.4))
