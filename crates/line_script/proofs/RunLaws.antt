-- A run goes on line by line.
use Rattle.std.proofs.Common.{◌≡◌, ◌∙◌, ◌<◌, ℕ, List, [], ◌∷◌, ◌++◌, length, refl, sym, ap, subst, append_assoc}
use Rattle.std.specs.Prelude.{Option, Some, None, Result, Ok, Err, IfOk, IfSome}
use Rattle.std.specs.List.{enumerate_from}
use Rattle.std.specs.Io.KnownBytes.{Appends, Keeps}
use Rattle.line_script.specs.Script.{Bytes, AreLines, AreFields, IsSkipped, lines_of}
use Rattle.line_script.specs.Runs.{Telling, Refusing, Passes, LineFails, Runs, HasRun, HasRunLine, HasRunText, HasRunScript, on_a_line}
use Rattle.line_script.specs.Stops.{stop_of_read}
use Rattle.line_script.proofs.ScriptLemmas.{lines_are_lines}
use Rattle.line_script.specs.declared.input.ReadError.{ReadError}
use Rattle.line_script.specs.declared.input.ReadError.TheVariants as read
use Rattle.line_script.specs.declared.run.Stop.{Stop}
use Rattle.line_script.specs.declared.run.Stop.TheVariants as stop

-- the lines up to the rest were run, and what the rest does completes the run of the text
pub record Continues {S : Type 0} (tells : Telling S) (refuses : Refusing S) (s : S) (text : Bytes) (old new : Option Bytes) (t : S) (rest : List (ℕ × Bytes)) : Type 0 where
  pub lines : List Bytes
  pub so_far : Bytes
  pub are_lines : AreLines text lines
  pub written : Appends old new so_far
  pub goes_on : (others : Bytes) (end : Result (Unit {0}) Stop) (u : S) → Runs tells refuses t rest others end u → Runs tells refuses s (enumerate_from 1 lines) (so_far ++ others) end u

pub append_nothing : (xs : Bytes) → xs ++ [] ≡ xs
append_nothing [] = refl
append_nothing (x ∷ xs) = ap (λ more. x ∷ more) (append_nothing xs)

pub appends_nothing : (known : Option Bytes) → Appends known known []
appends_nothing None = tt
appends_nothing (Some xs) = sym (append_nothing xs)

pub appends_both : (old mid new : Option Bytes) (xs ys : Bytes) → Appends old mid xs → Appends mid new ys → Appends old new (xs ++ ys)
appends_both None mid new xs ys a b = tt
appends_both (Some o) None new xs ys a b = absurd a
appends_both (Some o) (Some m) None xs ys a b = absurd b
appends_both (Some o) (Some m) (Some n) xs ys a b = b ∙ ap (λ front. front ++ ys) a ∙ append_assoc o xs ys

pub appends_kept : (old mid new : Option Bytes) (xs : Bytes) → Appends old mid xs → Keeps mid new → Appends old new xs
appends_kept None mid new xs a k = tt
appends_kept (Some o) None new xs a k = absurd a
appends_kept (Some o) (Some m) None xs a k = absurd k
appends_kept (Some o) (Some m) (Some n) xs a k = k ∙ a

kept : (known : Option Bytes) → Keeps known known
kept None = tt
kept (Some xs) = refl

pub starts : {S : Type 0} (tells : Telling S) (refuses : Refusing S) (s : S) (text : Bytes) (known : Option Bytes) (lines : List Bytes) (rest : List (ℕ × Bytes))
    → AreLines text lines → rest ≡ enumerate_from 1 lines → Continues tells refuses s text known known s rest
starts tells refuses s text known lines rest are e = record {
  lines = lines;
  so_far = [];
  are_lines = are;
  written = appends_nothing known;
  goes_on = λ others end u runs. subst (λ ls. Runs tells refuses s ls others end u) e runs;
}

pub one_more : {S : Type 0} (tells : Telling S) (refuses : Refusing S) (s : S) (text : Bytes) (old mid new : Option Bytes) (t u : S) (n : ℕ) (line written : Bytes) (rest more : List (ℕ × Bytes))
    → Continues tells refuses s text old mid t rest → rest ≡ (n, line) ∷ more → Passes tells t line written u → Appends mid new written
    → Continues tells refuses s text old new u more
one_more tells refuses s text old mid new t u n line written rest more c e passes takes = record {
  lines = c.lines;
  so_far = c.so_far ++ written;
  are_lines = c.are_lines;
  written = appends_both old mid new c.so_far written c.written takes;
  goes_on = λ others end v runs.
      subst (λ out. Runs tells refuses s (enumerate_from 1 c.lines) out end v) (sym (append_assoc c.so_far written others))
      (c.goes_on (written ++ others) end v (subst (λ ls. Runs tells refuses t ls (written ++ others) end v) (sym e) (Runs.next passes runs)));
}

-- a run that comes to an end with nothing more written
pub stops : {S : Type 0} (tells : Telling S) (refuses : Refusing S) (s : S) (text : Bytes) (old mid new : Option Bytes) (t u : S) (rest : List (ℕ × Bytes)) (end : Result (Unit {0}) Stop)
    → Continues tells refuses s text old mid t rest → Runs tells refuses t rest [] end u → Keeps mid new
    → HasRun tells refuses s text old new end u
stops tells refuses s text old mid new t u rest end c runs kept = record {
  lines = c.lines;
  printed = c.so_far;
  are_lines = c.are_lines;
  ran = subst (λ out. Runs tells refuses s (enumerate_from 1 c.lines) out end u) (append_nothing c.so_far) (c.goes_on [] end u runs);
  written = appends_kept old mid new c.so_far c.written kept;
}

pub ended : {S : Type 0} (tells : Telling S) (refuses : Refusing S) (s : S) (text : Bytes) (old new : Option Bytes) (t : S) (rest : List (ℕ × Bytes)) (nothing : Unit {0})
    → Continues tells refuses s text old new t rest → rest ≡ [] → HasRun tells refuses s text old new (Ok nothing) t
ended tells refuses s text old new t rest nothing c e =
    stops tells refuses s text old new new t t rest (Ok tt) c (subst (λ ls. Runs tells refuses t ls [] (Ok tt) t) (sym e) Runs.ends) (kept new)

-- a run that ends at its next line
pub ended_by : {S : Type 0} (tells : Telling S) (refuses : Refusing S) (s : S) (text : Bytes) (old mid new : Option Bytes) (t u : S) (n : ℕ) (line : Bytes) (rest more : List (ℕ × Bytes)) (why : Stop)
    → Continues tells refuses s text old mid t rest → rest ≡ (n, line) ∷ more → HasRunLine tells refuses t n line mid new (Err why) u
    → HasRunText tells refuses s text old new (Err why) u
ended_by tells refuses s text old mid new t u n line rest more (stop.BadLine m) c e ran =
    stops tells refuses s text old mid new t u rest (Err (stop.BadLine m)) c
    (subst (λ k. Runs tells refuses t rest [] (Err (stop.BadLine k)) u) (sym ran.0) (subst (λ ls. Runs tells refuses t ls [] (Err (stop.BadLine n)) u) (sym e) (Runs.bad ran.1)))
    ran.2
ended_by tells refuses s text old mid new t u n line rest more stop.NoMemory c e ran =
    stops tells refuses s text old mid new t u rest (Err stop.NoMemory) c Runs.short ran
ended_by tells refuses s text old mid new t u n line rest more stop.CannotWrite c e ran = tt
ended_by tells refuses s text old mid new t u n line rest more stop.CannotRead c e ran = absurd ran
ended_by tells refuses s text old mid new t u n line rest more stop.TooLong c e ran = absurd ran

pub told_line : {S P E : Type 0} (tells : Telling S) (s t : S) (line : Bytes) (fields told : List Bytes) (view : P → Option Bytes) (r : Result P E)
    → ¬ IsSkipped line → AreFields line fields → told ≡ fields → IfOk r (λ printed. tells s told (view printed) t) → IfOk r (λ printed. Passes tells s line (on_a_line (view printed)) t)
told_line tells s t line fields told view (Ok p) runs are e h = Passes.told runs are (subst (λ fs. tells s fs (view p) t) e h)
told_line tells s t line fields told view (Err x) runs are e h = tt

pub refused_line : {S : Type 0} (refuses : Refusing S) (s : S) (line : Bytes) (fields told : List Bytes)
    → ¬ IsSkipped line → AreFields line fields → told ≡ fields → refuses s told → LineFails refuses s line
refused_line refuses s line fields told runs are e h = LineFails.refused runs are (subst (λ fs. refuses s fs) e h)

-- ---- whole scripts

nothing_ran : {S : Type 0} (tells : Telling S) (refuses : Refusing S) (s : S) (text : Bytes) (out : Option Bytes) → HasRun tells refuses s text out out (Err stop.NoMemory) s
nothing_ran tells refuses s text out = record {
  lines = lines_of text;
  printed = [];
  are_lines = lines_are_lines text;
  ran = Runs.short;
  written = appends_nothing out;
}

-- a script that was not read ran no line
read_short : {S : Type 0} (limit : ℕ) (tells : Telling S) (refuses : Refusing S) (s : S) (script out : Option Bytes)
    → HasRunScript limit tells refuses s script out out (Err stop.NoMemory) s
read_short limit tells refuses s None out = ([], tt, nothing_ran tells refuses s [] out)
read_short limit tells refuses s (Some text) out = (text, refl, nothing_ran tells refuses s text out)

pub unread : {S : Type 0} (limit : ℕ) (tells : Telling S) (refuses : Refusing S) (s : S) (script out : Option Bytes) (error : ReadError)
    → (error ≡ read.TooLong → IfSome script (λ left. limit < length left)) → HasRunScript limit tells refuses s script out out (Err (stop_of_read error)) s
unread limit tells refuses s script out read.CannotRead long = (kept out, refl)
unread limit tells refuses s script out read.TooLong long = (long refl, kept out, refl)
unread limit tells refuses s script out read.NoMemory long = read_short limit tells refuses s script out
